-- Laws of bytes that are moved to the front. Assumes nothing.
use Rattle.std.proofs.Common.{◌≡◌, ℕ, ◌+◌, ◌-◌, ◌≤◌, min, List, ◌++◌, length, take, drop, sym, ap, ◌∙◌, arith, length-drop, length-take, take-take}
use Rattle.std.proofs.Math.Nat.{min-eq_left}
use native.Mathlib.Decide.{dec_le}
use lib.Seq.{paste, paste-zero, take-paste, take-append-le}
use Rattle.frames.specs.Held.{rest_of, Shifted}

-- none are moved where as many lie before them as are held
from_there : (d : List ℕ) (k end : ℕ) → Dec (k ≤ end) → paste d 0 (drop (min k end) d) (end - min k end) ≡ paste d 0 (drop k d) (end - k)
from_there d k end (yes h) = rw (min-eq_left h)
from_there d k end (no n) =
    let some : end - min k end ≡ 0 = omega arith in
    let none : end - k ≡ 0 = omega arith in
    rw (some, none) (sym (paste-zero d 0 (drop (min k end) d)) ∙ paste-zero d 0 (drop k d))

-- all are moved
pub all_moved : (d out : List ℕ) (k size end from : ℕ) → end ≡ min size (length d) → from ≡ min k end → out ≡ paste d 0 (drop from d) (end - from) → length out ≡ length d
    → Shifted d k size out (end - from)
all_moved d out k size end from en f e l = record { within = omega arith; rest = omega arith; front = front }
  where
    some : rest_of d k size ≤ length (drop k d)
    some = rw length-drop (omega arith)

    moved : out ≡ paste d 0 (drop k d) (rest_of d k size)
    moved = e ∙ ap (λ n. paste d 0 (drop n d) (end - n)) f ∙ from_there d k end (dec_le k end) ∙ ap (λ n. paste d 0 (drop k d) (n - k)) en

    front : take (rest_of d k size) out ≡ take (rest_of d k size) (drop k d)
    front =
        let z : 0 + rest_of d k size ≡ rest_of d k size = omega arith in
        ap (take (rest_of d k size)) moved ∙ ap (λ i. take i (paste d 0 (drop k d) (rest_of d k size))) (sym z) ∙ take-paste d 0 (drop k d) (rest_of d k size) (omega arith) some

-- what is read behind them leaves them there
pub refills : (d mid : List ℕ) (k size n m : ℕ) (more : List ℕ) → Shifted d k size mid n → n + m ≤ length (take n mid ++ more) → Shifted d k size (take n mid ++ more) (n + m)
refills d mid k size n m more s w =
    let h = s.rest in
    record { within = w; rest = omega arith; front = take-append-le (rest_of d k size) (take n mid) more some ∙ take-take (rest_of d k size) n mid h ∙ s.front }
  where
    some : rest_of d k size ≤ length (take n mid)
    some = let h = s.rest in let g = s.within in rw length-take (omega arith)
