use mathlib.Core.Path.{◌≡◌, sym, ◌∙◌}
use native.Mathlib.Omega.{arith}
use Prim.Native.Nat.{◌/◌, ◌%◌}
use borrow.Author.Tests.{ne_eqb}
use Rattle.rows.specs.Rows.{relation_in}
use Rattle.rows.proofs.kinds.Relation.of.Goals as goal

pub returns-in-0 : goal.returns-in-0
unfolding relation_in
returns-in-0 c = let k : c.args.w / 32 % 4 ≡ 0 = sym c.field.ensures ∙ c.in-0.is in rw k

pub returns-in-1 : goal.returns-in-1
unfolding relation_in
returns-in-1 c = let k : c.args.w / 32 % 4 ≡ 1 = sym c.field.ensures ∙ c.in-1.is in rw k

pub returns-in-2 : goal.returns-in-2
unfolding relation_in
returns-in-2 c = let k : c.args.w / 32 % 4 ≡ 2 = sym c.field.ensures ∙ c.in-2.is in rw k

pub returns-in_default : goal.returns-in_default
unfolding relation_in
returns-in_default c = rw (ne_eqb (c.args.w / 32 % 4) 0 (λ e. omega arith), ne_eqb (c.args.w / 32 % 4) 1 (λ e. omega arith), ne_eqb (c.args.w / 32 % 4) 2 (λ e. omega arith))
