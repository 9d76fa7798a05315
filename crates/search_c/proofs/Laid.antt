-- What a search finds, laid into numbers. Assumes nothing.
use mathlib.Core.Path.{◌≡◌, refl, sym, ap, subst, ◌∙◌}
use mathlib.Core.Bool.{Bool, true, false, cond}
use mathlib.Core.List.{List}
use Prim.Native.Nat.{ℕ, ◌+◌, ◌-◌}
use lib.Dec.{ltb}
use lib.ListN.{length, set}
use Rattle.reading.specs.Room.{Room}
use Rattle.answer.specs.Answer.{answer_of}
use Rattle.answer_c.specs.Numbers.{laid_of}
use Rattle.answer_c.specs.Parts.{Bare}
use Rattle.answer_c.proofs.Laying.{bare-answer}
use Rattle.search.specs.declared.Found.{Found}
use Rattle.search.specs.Find.{none_number, not_found, reading, count_after, passed, tries, found_in, Searched}

-- what a search finds is the answer of a reading, or has no frame
bare-in : (s : List ℕ) (m : Room) (start most : ℕ) → Bare (found_in s m start most).answer
unfolding found_in
bare-in s m start most = go (ltb (passed s m start (tries s m start most)) (tries s m start most))
  where
    go : (b : Bool)
        → Bare
        (cond b
        (record { answer = answer_of (reading s m start (passed s m start (tries s m start most))); position = start + passed s m start (tries s m start most); tried = passed s m start (tries s m start most) + 1 })
        (not_found (none_number (length s - start) most) (count_after s m start (tries s m start most)) (tries s m start most))
        ).answer
    go true = bare-answer (reading s m start (passed s m start (tries s m start most)))
    go false = λ _. refl

pub bare-found : {s : List ℕ} {m : Room} {start most : ℕ} {f : Found} {m' : Room} → Searched s m start most f m' → Bare f.answer
bare-found {s} {m} {start} {most} h = subst (λ (f : Found). Bare f.answer) (sym h.found) (bare-in s m start most)

-- with the position and the number tried
pub found-laid : (before x : List ℕ) (f g : Found) → x ≡ laid_of before f.answer → f ≡ g
    → set (set x 76 f.position) 77 f.tried ≡ set (set (laid_of before g.answer) 76 g.position) 77 g.tried
found-laid before x f g ex e =
    ap (λ (x : List ℕ). set (set x 76 f.position) 77 f.tried) ex
    ∙ ap (λ (f : Found). set (set (laid_of before f.answer) 76 f.position) 77 f.tried) e
