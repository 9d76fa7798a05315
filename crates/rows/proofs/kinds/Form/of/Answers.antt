use mathlib.Core.Path.{◌≡◌, sym, ◌∙◌}
use native.Mathlib.Omega.{arith}
use Prim.Native.Nat.{◌/◌, ◌%◌}
use Rattle.rows.specs.Rows.{value_in}
use Rattle.rows.proofs.kinds.Form.of.Goals as goal

pub returns-in-0 : goal.returns-in-0
unfolding value_in
returns-in-0 c = let k : c.args.w / 16 % 8 ≡ 0 = sym c.field.ensures ∙ c.in-0.is in (omega arith, rw k)

pub returns-in-1 : goal.returns-in-1
unfolding value_in
returns-in-1 c = let k : c.args.w / 16 % 8 ≡ 1 = sym c.field.ensures ∙ c.in-1.is in (omega arith, rw k)

pub returns-in-2 : goal.returns-in-2
unfolding value_in
returns-in-2 c = let k : c.args.w / 16 % 8 ≡ 2 = sym c.field.ensures ∙ c.in-2.is in (omega arith, rw k)

pub returns-in-3 : goal.returns-in-3
unfolding value_in
returns-in-3 c = let k : c.args.w / 16 % 8 ≡ 3 = sym c.field.ensures ∙ c.in-3.is in (omega arith, rw k)

pub returns-in-4 : goal.returns-in-4
unfolding value_in
returns-in-4 c = let k : c.args.w / 16 % 8 ≡ 4 = sym c.field.ensures ∙ c.in-4.is in (omega arith, rw k)
