-- Numbers and factors written one after the other. Assumes nothing.
use mathlib.Core.Path.{◌≡◌, ap, ◌∙◌}
use mathlib.Core.List.{List}
use Prim.Native.Nat.{ℕ}
use lib.Ieee.{Float}
use Rattle.reading.specs.Room.{Room}
use Rattle.answer.specs.Answer.{answer_of, number_of, place_of, count_of}
use Rattle.answer.specs.declared.Answer.{Answer}
use Rattle.gain.specs.declared.Gains.{Gains}
use Rattle.eac3.specs.Called.{answered}
use Rattle.gain_range.specs.GainRange.{GainsRead}
use Rattle.gain_range.specs.declared.FrameGains.{FrameGains}
use Rattle.gain_c.specs.Numbers.{sent_laid, first_laid, numbers_laid, pair_laid, factors_laid, GainsGiven}

pub factors-are : (m : List Float) (g : Gains) {a b c d : List Float} → a ≡ pair_laid m 0 g.dynrng.range → b ≡ pair_laid a 2 g.compr.range
    → c ≡ pair_laid b 4 g.dynrng2.range → d ≡ pair_laid c 6 g.compr2.range → d ≡ factors_laid m g
unfolding factors_laid
factors-are m g a b c d =
    d ∙ ap (λ (m : List Float). pair_laid m 6 g.compr2.range) (c ∙ ap (λ (m : List Float). pair_laid m 4 g.dynrng2.range) (b ∙ ap (λ (m : List Float). pair_laid m 2 g.compr.range) a))

pub numbers-are : (m : List ℕ) (x : Answer) (g : Gains) {i j k : ℕ} {z a b c d : List ℕ} → i ≡ number_of x → j ≡ place_of x → k ≡ count_of x
    → z ≡ first_laid m i j k → a ≡ sent_laid z 3 g.dynrng → b ≡ sent_laid a 5 g.compr → c ≡ sent_laid b 7 g.dynrng2 → d ≡ sent_laid c 9 g.compr2 → d ≡ numbers_laid m x g
unfolding numbers_laid
numbers-are m x g {i} {j} {k} ei ej ek z a b c d =
    d
    ∙ ap (λ (m : List ℕ). sent_laid m 9 g.compr2) (c
    ∙ ap (λ (m : List ℕ). sent_laid m 7 g.dynrng2) (b
    ∙ ap (λ (m : List ℕ). sent_laid m 5 g.compr) (a
    ∙ ap (λ (m : List ℕ). sent_laid m 3 g.dynrng) (z ∙ ap (λ (i : ℕ). first_laid m i j k) ei ∙ ap (λ (j : ℕ). first_laid m (number_of x) j k) ej ∙ ap (λ (k : ℕ). first_laid m (number_of x) (place_of x) k) ek))))

-- what the function tells, of what the entry tells
pub given : (s : List ℕ) (m : Room) {t : FrameGains} {m' : Room} {r : ℕ} (fs : List Float) {fs' : List Float} (before : List ℕ) {after : List ℕ} → GainsRead s m t m'
    → fs' ≡ factors_laid fs t.gains → r ≡ number_of t.answer → after ≡ numbers_laid before t.answer t.gains → GainsGiven s m r m' fs fs' before after
given s m {t} fs before c f n a = record {
  number = n ∙ ap number_of c.called.answer;
  left = c.called.left;
  factors = f ∙ ap (factors_laid fs) c.gains;
  answer = a ∙ ap (λ (x : Answer). numbers_laid before x t.gains) c.called.answer ∙ ap (numbers_laid before (answer_of (answered s m))) c.gains;
}
