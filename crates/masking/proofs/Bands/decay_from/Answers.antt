use borrow.Author.Tests.{le-leb, lt-leb}
use mathlib.Core.Path.{◌≡◌, ◌∙◌, sym}
use mathlib.Core.List.{List}
use Prim.Native.Nat.{ℕ, suc, ◌+◌, ◌-◌, ◌<◌}
use native.Mathlib.Omega.{arith}
use lib.Dec.{leb}
use lib.ListN.{get_or}
use mathlib.Core.Bool.{cond, true, false}
use Rattle.alloc.specs.Allocation.{lfe_last}
use Rattle.alloc.specs.Levels.{decay_from_l}
use Rattle.masking.proofs.Bands.decay_from.Goals as goal
use Rattle.masking.proofs.Bands.decay_from.Goals.{then-lfe_last-via-then-lfe_last, then-lfe_last-via-else-lfe_last+then-self-b}

-- the search, one band on
on : (bnd : List ℕ) (last b : ℕ) → b < 7
    → decay_from_l bnd last (7 - b) b
    ≡ cond (lfe_last last b) (b + 1) (cond (leb (get_or bnd b 0) (get_or bnd (b + 1) 0)) (b + 1) (decay_from_l bnd last (7 - (b + 1)) (b + 1)))
unfolding decay_from_l
on bnd last b h = let e : 7 - b ≡ suc (7 - (b + 1)) = omega arith in rw e

pub returns-then-lfe_last : goal.returns-then-lfe_last
returns-then-lfe_last c =
    let v = c.args.self.now in
    let b = c.loop-b.b in
    let e = c.loop-b.invariant ∙ on v.powers.now v.last b (omega arith) in
    elim c.then-lfe_last.branch [
      | then-lfe_last-via-then-lfe_last w ↦
          let l : lfe_last v.last b ≡ true = sym c.lfe_last.ensures ∙ w.if-lfe_last.true in
          (sym (e ∙ simp l), omega arith)
      | then-lfe_last-via-else-lfe_last+then-self-b w ↦
          let l : lfe_last v.last b ≡ false = sym c.lfe_last.ensures ∙ w.if-lfe_last.false in
          (sym (e ∙ simp (l, le-leb _ _ w.if-self-b.true)), omega arith)
    ]

pub loop-b-preserved : goal.loop-b-preserved
loop-b-preserved c =
    let v = c.args.self.now in
    let b = c.loop-b.b in
    let l : lfe_last v.last b ≡ false = sym c.lfe_last.ensures ∙ c.if-lfe_last.false in
    c.loop-b.invariant ∙ on v.powers.now v.last b (omega arith) ∙ simp (l, lt-leb _ _ c.if-self-b.false)

pub returns : goal.returns
unfolding decay_from_l
returns c =
    let e : c.loop-b.b ≡ 7 = omega arith in
    (sym (c.loop-b.invariant ∙ rw e), omega arith)
