use Prim.Native.Nat.{◌*◌, ◌%◌, ◌^◌}
use mathlib.Core.Path.{◌≡◌, ◌∙◌}
use native.Mathlib.Nat.{one-mul}
use native.Mathlib.Omega.{arith}
use lib.Pow.{shl_exact}
use Rattle.std.proofs.lemmas.Nat.{and_mask}
use Rattle.rows.proofs.fields.field.Goals as goal

pub returns : goal.returns
returns c =
    let e : 1 * 2 ^ c.args.bits % 18446744073709551616 ≡ 2 ^ c.args.bits = shl_exact {a = 1} 1 c.args.bits 64 (omega arith) (omega (arith, c.requires.1)) ∙ one-mul (2 ^ c.args.bits) in
    rw e (and_mask _ _)
