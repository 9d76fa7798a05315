-- The window of the width is shifted out of the bytes that hold it.
use mathlib.Core.Path.{sym, ◌∙◌}
use native.Mathlib.Omega.{arith}
use Rattle.bits.proofs.BitLaws.{get-wide, get-past, get_in}
use Rattle.bits.proofs.Loads.{got-bits}
use Rattle.bits.proofs.get.Goals as goal

pub returns-then-width-gt32 : goal.returns-then-width-gt32
returns-then-width-gt32 c = sym (get-wide _ _ _ (omega arith))

pub returns-then-src-last : goal.returns-then-src-last
returns-then-src-last c = sym (get-past _ _ _ (omega arith))

pub returns : goal.returns
returns c = got-bits c.args.src.now c.args.at.0 c.args.width _ (omega arith) c.load-v.ensures ∙ sym (get_in _ _ _ (omega arith) (omega arith))
