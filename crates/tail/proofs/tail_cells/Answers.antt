use mathlib.Core.Path.{refl}
use native.Mathlib.Omega.{arith}
use Rattle.annex.specs.Frame.{start}
use Rattle.tail.proofs.tail_cells.Goals as goal

pub bits_at-requires : goal.bits_at-requires
bits_at-requires c = (omega arith, omega (arith, c.saturating_sub.ensures, c.requires.0, c.requires.1))

pub returns : goal.returns
unfolding start
returns c = rw (c.put-2.ensures, c.put.ensures, c.bits_at.ensures, c.saturating_sub.ensures) refl
