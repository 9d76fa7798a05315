use native.Mathlib.Omega.{arith}
use mathlib.Core.Path.{sym, ◌∙◌}
use Prim.Native.Nat.{◌<◌}
use Rattle.mantissas.proofs.TallyLaws.{unpacked}
use Rattle.allocation.proofs.MemoLaws.{tally-kept}
use borrow.Author.Rules.{rules}
use Rattle.allocation.proofs.memo.tally_at.Goals as goal

pub returns-then-ranged : goal.returns-then-ranged
returns-then-ranged c =
    let s : c.args.start < 65536 = search rules in
    let e = tally-kept _ _ _ _ _ c.requires.0 c.requires.1 s c.requires.2 c.if-own-ne0.true (sym c.ranged.ensures ∙ c.if-ranged.true) in
    c.fields.ensures ∙ rw e (unpacked _ _ _ _ (omega arith))
