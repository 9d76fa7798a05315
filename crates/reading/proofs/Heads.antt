-- Laws of the header, and of what is looked at ahead in it. Assumes nothing.
use mathlib.Core.Path.{◌≡◌, refl, subst}
use mathlib.Core.Bool.{Bool, true, false}
use mathlib.Core.List.{List}
use Prim.Native.Nat.{ℕ}
use Rattle.reading.specs.Tree.{Tree, ◌>>=◌}
use Rattle.reading.specs.Run.{Result, accepted, refused, Outcome, and_then, after, run}
use Rattle.reading.specs.Frame.{Format, behind, refuse_at, header_by}
use Rattle.reading.proofs.Laws.{Ok}
use Rattle.reading.proofs.Runs.{run_bind}

-- what follows is accepted only where what it follows is
pub ok-first : {A B : Type 0} (o : Outcome A) (f : A → ℕ → Outcome B) → Ok (after o f).result → Ok o.result
unfolding after
ok-first {A} o f = go o.result
  where
    go : (r : Result A) → Ok (and_then r o.place o.records f).result → Ok r
    go (accepted a) k = tt
    go (refused n) k = k

-- and it itself
never-next : {A B : Type 0} (o : Outcome A) (f : A → ℕ → Outcome B) → ((a : A) (p : ℕ) → Ok (f a p).result → ⊥) → Ok (after o f).result → ⊥
unfolding after
never-next {A} o f h = go o.result
  where
    go : (r : Result A) → Ok (and_then r o.place o.records f).result → ⊥
    go (accepted a) k = h a o.place k
    go (refused n) k = k

module _ {H A : Type 0} (F : Format H A) where
  -- the refusal of what was seen
  abbrev pub barrier : H → Tree H
  barrier h = refuse_at F.look.number (behind F.look)

  pub clear : (v : ℕ) → F.look.good v ≡ true → header_by F v ≡ (F.opening >>= F.rest)
  unfolding header_by
  clear v e = rw e refl

  pub barred : (v : ℕ) → F.look.good v ≡ false → header_by F v ≡ (F.opening >>= barrier)
  unfolding header_by
  barred v e = rw e refl

  never-barred : (b : List ℕ) → Ok (run (F.opening >>= barrier) b 0 48).result → ⊥
  unfolding run
  never-barred b k = never-next (run F.opening b 0 48) _ (λ h p i. i) (subst (λ (o : Outcome H). Ok o.result) (run_bind F.opening barrier b 0 48) k)

  -- an accepted header has seen what is good
  pub good_of : (b : List ℕ) (v : ℕ) → Ok (run (header_by F v) b 0 48).result → F.look.good v ≡ true
  good_of b v k = go (F.look.good v) refl
    where
      go : (c : Bool) → F.look.good v ≡ c → F.look.good v ≡ true
      go true e = e
      go false e = absurd (never-barred b (subst (λ t. Ok (run t b 0 48).result) (barred v e) k))
