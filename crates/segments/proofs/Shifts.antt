-- The bands that a segment moves. Assumes nothing.
use mathlib.Core.Path.{◌≡◌, ◌∙◌, ap, sym}
use mathlib.Core.List.{List}
use Prim.Native.Nat.{ℕ, ◌<◌, ◌≤◌, min, max}
use native.Mathlib.Decide.{dec_lt}
use native.Mathlib.Omega.{arith}
use lib.ListN.{get_or}
use Rattle.alloc.specs.Levels.{delta_l, delta_in_l}
use Rattle.alloc.specs.Premises.{Written}
use Rattle.alloc.proofs.Lists.{within, outside, sooner-than}

-- the bands lo .. hi - 1, of which a segment moves those of from .. to - 1
module _ (f : ℕ → ℕ) (ba from to lo hi : ℕ) (old new newer : List ℕ)
    (one : Written f lo hi old new) (two : Written (λ b. delta_l (get_or new b 0) ba) (max lo from) (min hi to) new newer) where
  moves : (k : ℕ) → lo ≤ k → k < hi → Dec (k < from) → Dec (k < to) → get_or newer k 0 ≡ delta_in_l (f k) ba from to k
  moves k a b (yes p) q =
      two.before k (omega arith) ∙ one.made k a b ∙ sym (sooner-than from to k _ _ p)
  moves k a b (no p) (no q) =
      two.after k (omega arith) ∙ one.made k a b ∙ sym (outside from to k _ _ p (omega arith))
  moves k a b (no p) (yes q) =
      two.made k (omega arith) (omega arith) ∙ ap (λ m. delta_l m ba) (one.made k a b) ∙ sym (within from to k _ _ (omega arith) q)

  pub shift-more : Written (λ b. delta_in_l (f b) ba from to b) lo hi old newer
  shift-more =
      record {
        size = two.size ∙ one.size;
        made = λ k a b. moves k a b (dec_lt k from) (dec_lt k to);
        before = λ k b. two.before k (omega arith) ∙ one.before k b;
        after = λ k b. two.after k (omega arith) ∙ one.after k b;
      }
