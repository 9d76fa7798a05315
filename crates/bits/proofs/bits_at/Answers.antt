-- The window is shifted out of four bytes, or got as `get` does where fewer are left.
use mathlib.Core.Path.{◌∙◌}
use native.Mathlib.Omega.{arith}
use Rattle.bits.proofs.BitLaws.{get_in}
use Rattle.bits.proofs.Loads.{shifted}
use Rattle.bits.proofs.bits_at.Goals as goal

pub returns-then-first-src : goal.returns-then-first-src
returns-then-first-src c = shifted c.args.src.now c.args.at.0 c.args.width _ c.requires.0 c.four_bytes-v.ensures

pub returns : goal.returns
returns c = c.get.ensures ∙ get_in _ _ _ (omega (arith, c.requires.0)) c.requires.1
