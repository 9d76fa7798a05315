-- Laws of what follows an outcome, and of running one tree after another. Assumes nothing.
use mathlib.Core.Path.{◌≡◌, refl, ap, sym, ◌∙◌}
use mathlib.Core.Bool.{Bool, true, false, cond}
use mathlib.Core.List.{List, [], ◌∷◌, ◌++◌, append_assoc}
use Prim.Native.Nat.{ℕ, ◌+◌}
use lib.Dec.{leb}
use Rattle.bits.specs.Bits.{bits_at}
use Rattle.reading.specs.Tree.{Tree, done, refuse, ahead, here, read, span, scan, ◌>>=◌}
use Rattle.reading.specs.Run.{Entry, Result, accepted, refused, Outcome, out, cons, prefix, and_then, after, skim, run}

pub after-cons : {A B : Type 0} (e : Entry) (o : Outcome A) (f : A → ℕ → Outcome B) (u : Outcome B)
    → u ≡ after o f → cons e u ≡ after (cons e o) f
unfolding after
after-cons {A} e o f u h = ap (cons e) h ∙ go o.result
  where
    go : (r : Result A) → cons e (and_then r o.place o.records f) ≡ and_then r o.place (e ∷ o.records) f
    go (accepted a) = refl
    go (refused n) = refl

after_test : {A B : Type 0} (c : Bool) (n p : ℕ) (o : Outcome A) (f : A → ℕ → Outcome B) (u : Outcome B)
    → u ≡ after o f → cond c u (out (refused n) p []) ≡ after (cond c o (out (refused n) p [])) f
unfolding after
after_test true n p o f u h = h
after_test false n p o f u h = refl

after-out : {A B : Type 0} (r : Result A) (p : ℕ) (es : List Entry) (f : A → ℕ → Outcome B) → and_then r p es f ≡ after (out r p es) f
unfolding after
after-out r p es f = refl

-- what follows what follows
pub after-after : {A B C : Type 0} (o : Outcome A) (f : A → ℕ → Outcome B) (g : B → ℕ → Outcome C) (h : A → ℕ → Outcome C)
    → ((a : A) (p : ℕ) → h a p ≡ after (f a p) g) → after o h ≡ after (after o f) g
unfolding after
after-after {A} {B} {C} o f g h e = go o.result
  where
    deep : (r : Result B) (p : ℕ) (es fs : List Entry) → prefix es (and_then r p fs g) ≡ and_then r p (es ++ fs) g
    deep (accepted b) p es fs = ap (out (g b p).result (g b p).place) (sym (append_assoc es fs (g b p).records))
    deep (refused n) p es fs = refl

    go : (r : Result A) → and_then r o.place o.records h ≡ after (and_then r o.place o.records f) g
    go (accepted a) =
        ap (prefix o.records) (e a o.place)
        ∙ deep (f a o.place).result (f a o.place).place o.records (f a o.place).records
    go (refused n) = refl

pub run_bind : {A B : Type 0} (t : Tree A) (g : A → Tree B) (b : List ℕ) (p l : ℕ)
    → run (t >>= g) b p l ≡ after (run t b p l) (λ a q. run (g a) b q l)
unfolding run ◌>>=◌
run_bind (done a) g b p l = after-out (accepted a) p [] _
run_bind {B} (refuse n) g b p l = after-out {B = B} (refused n) p [] _
run_bind {B} (ahead n w) g b p l = after-out {B = B} (refused n) (p + w) [] _
run_bind (here k) g b p l = run_bind (k p) g b p l
run_bind (read q w k) g b p l = after_test (leb (p + w) l) 8 p _ _ _ (after-cons _ _ _ _ (run_bind (k (bits_at b p w)) g b (p + w) l))
run_bind (span q w t) g b p l = after_test (leb (p + w) l) 8 p _ _ _ (after-cons _ _ _ _ (run_bind t g b (p + w) l))
run_bind (scan q s k) g b p l = after-after (skim s b p l) _ _ _ (λ v e. after-cons _ _ _ _ (run_bind (k v) g b e l))
