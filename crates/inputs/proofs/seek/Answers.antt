use native.Mathlib.Omega.{arith}
use Rattle.inputs.proofs.Takes.{looks-bits, looks-span}
use Rattle.inputs.proofs.seek.Goals as goal

pub element-requires : goal.element-requires
element-requires c = (omega (arith, c.requires.0.narrow c.if-w-lt3.true, c.width_of.ensures), c.requires.0.within)

pub returns-then-w-lt3 : goal.returns-then-w-lt3
returns-then-w-lt3 c = record { is = λ b. looks-bits _ _ _ _ _ _ c.if-w-lt3.true _ c.width_of.ensures c.element.ensures }

pub returns : goal.returns
returns c = record { is = λ b. looks-span _ _ _ _ _ _ c.if-w-lt3.false c.requires.1 _ c.cell_of.ensures c.span.ensures }
