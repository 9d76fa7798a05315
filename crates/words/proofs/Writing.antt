-- A word written: its bits are the value, and every other bit stays. Assumes nothing.
use mathlib.Core.Path.{◌≡◌, refl, sym, ap, ap₂, ◌∙◌}
use mathlib.Core.Logic.{◌≢◌}
use mathlib.Core.List.{List}
use Prim.Native.Nat.{ℕ, ◌+◌, ◌*◌, ◌-◌, ◌/◌, ◌%◌, ◌^◌, ◌≤◌, ◌<◌}
use native.Mathlib.Omega.{arith}
use native.Mathlib.Decide.{dec_lt}
use native.Mathlib.Nat.{div-lt_iff_lt-mul, lt_of_lt_of_le}
use lib.ListN.{length, get_or, set, length-set}
use lib.Pow.{pow-add, pow_mono, pow_pos, high, low, shl_exact}
use lib.Seq.{get_or-set_same, get_or-set_other}
use Rattle.bits.specs.Bits.{bit_at, bits_at, SameBits}
use Rattle.bits.proofs.BitLaws.{bits_at-add, bits_at-lt, bits_at-inj, byte-is}
use Rattle.words.specs.Words.{rest_of, both_of, with_word}
use Rattle.words.specs.Written.{Written}

-- a number of j bits and k bits behind it have j + k
pub append-lt : (a j v k : ℕ) → a < 2 ^ j → v < 2 ^ k → a * 2 ^ k + v < 2 ^ (j + k)
append-lt a j v k h l =
    let q : (a * 2 ^ k + v) / 2 ^ k < 2 ^ j = rw (high a k l) h in
    rw (pow-add 2 j k) ((div-lt_iff_lt-mul (pow_pos k)).0 q)

-- what `append` computes
module _ (a w v : ℕ) (h : w ≤ 16) (l : a < 65536) (k : v < 2 ^ w) where
  pub append-is : a * 2 ^ w % 4294967296 + v ≡ a * 2 ^ w + v
  append-is = ap (λ (x : ℕ). x + v) (shl_exact {a = a} 16 w 32 l (omega arith))

  pub append-fits : a * 2 ^ w % 4294967296 + v < 2 ^ 32
  append-fits = rw append-is (lt_of_lt_of_le (append-lt a 16 v w l k) (pow_mono {i = 16 + w} {j = 32} (omega arith)))

-- the same numbers in front, in the middle and behind, where the wholes are the same
digits : (a b c x y z w r : ℕ) → b < 2 ^ w → y < 2 ^ w → c < 2 ^ r → z < 2 ^ r → (a * 2 ^ w + b) * 2 ^ r + c ≡ (x * 2 ^ w + y) * 2 ^ r + z
    → (a ≡ x) × ((b ≡ y) × (c ≡ z))
digits a b c x y z w r hb hy hc hz e =
    let f : a * 2 ^ w + b ≡ x * 2 ^ w + y = sym (high (a * 2 ^ w + b) r hc) ∙ ap (λ (n : ℕ). n / 2 ^ r) e ∙ high (x * 2 ^ w + y) r hz in (
      sym (high a w hb) ∙ ap (λ (n : ℕ). n / 2 ^ w) f ∙ high x w hy,
      (
        sym (low a w hb) ∙ ap (λ (n : ℕ). n % 2 ^ w) f ∙ low x w hy,
        sym (low (a * 2 ^ w + b) r hc) ∙ ap (λ (n : ℕ). n % 2 ^ r) e ∙ low (x * 2 ^ w + y) r hz,
      ),
    )

module _ (s : List ℕ) (p w v : ℕ) (eight : w ≤ 8) (small : v < 2 ^ w) where
  front-lt : bits_at s (p - p % 8) (p % 8) * 2 ^ w + v < 2 ^ (p % 8 + w)
  front-lt = append-lt _ (p % 8) v w (bits_at-lt s (p - p % 8) (p % 8)) small

  both-lt : both_of s p w v < 65536
  both-lt =
      let all : p % 8 + w + rest_of p w ≡ 16 = omega arith in
      lt_of_lt_of_le (append-lt _ (p % 8 + w) _ (rest_of p w) front-lt (bits_at-lt s (p + w) (rest_of p w))) (pow_mono {i = p % 8 + w + rest_of p w} {j = 16} (omega arith))

  -- what the code computes, and what it writes
  pub before_small : {x : ℕ} → x ≡ bits_at s (p - p % 8) (p % 8) → x < 65536
  before_small e = rw e (lt_of_lt_of_le (bits_at-lt s (p - p % 8) (p % 8)) (pow_mono {i = p % 8} {j = 16} (omega arith)))

  pub front-small : {x f : ℕ} → x ≡ bits_at s (p - p % 8) (p % 8) → f ≡ x * 2 ^ w + v → f < 65536
  front-small e g = rw (g, e) (lt_of_lt_of_le front-lt (pow_mono {i = p % 8 + w} {j = 16} (omega arith)))

  pub behind-small : {z : ℕ} → z ≡ bits_at s (p + w) (rest_of p w) → z < 2 ^ rest_of p w
  behind-small e = rw e (bits_at-lt s (p + w) (rest_of p w))

  module _ {x f z b : ℕ} (ex : x ≡ bits_at s (p - p % 8) (p % 8)) (ef : f ≡ x * 2 ^ w + v) (ez : z ≡ bits_at s (p + w) (rest_of p w)) (eb : b ≡ f * 2 ^ rest_of p w + z) where
    pub both_is : b ≡ both_of s p w v
    both_is = eb ∙ rw (ef, ex, ez) refl

    pub both_small : b / 256 < 2 ^ 8
    both_small = let h = both-lt in rw both_is (let q : both_of s p w v / 256 < 256 = omega arith in q)

    pub written_is : set (set s (p / 8) (b / 256)) (p / 8 + 1) (b % 256) ≡ with_word s p w v
    unfolding with_word
    written_is = ap (λ (x : ℕ). set (set s (p / 8) (x / 256)) (p / 8 + 1) (x % 256)) both_is

  module _ (there : p / 8 + 1 < length s) where
    size : length (with_word s p w v) ≡ length s
    unfolding with_word
    size = length-set (set s (p / 8) (both_of s p w v / 256)) (p / 8 + 1) (both_of s p w v % 256) ∙ length-set s (p / 8) (both_of s p w v / 256)

    other_byte : (k : ℕ) → k ≢ p / 8 → k ≢ p / 8 + 1 → get_or (with_word s p w v) k 0 ≡ get_or s k 0
    unfolding with_word
    other_byte k a b =
        get_or-set_other (set s (p / 8) (both_of s p w v / 256)) (p / 8 + 1) k (both_of s p w v % 256) 0 b
        ∙ get_or-set_other s (p / 8) k (both_of s p w v / 256) 0 a

    same_byte : (i : ℕ) → i / 8 ≢ p / 8 → i / 8 ≢ p / 8 + 1 → bit_at (with_word s p w v) i ≡ bit_at s i
    unfolding bit_at
    same_byte i a b = ap (λ (b : ℕ). b / 2 ^ (7 - i % 8) % 2) (other_byte (i / 8) a b)

    first : get_or (with_word s p w v) (p / 8) 0 ≡ both_of s p w v / 256
    unfolding with_word
    first =
        let held : p / 8 < length s = omega arith in
        let apart : p / 8 ≢ p / 8 + 1 = omega arith in
        get_or-set_other (set s (p / 8) (both_of s p w v / 256)) (p / 8 + 1) (p / 8) (both_of s p w v % 256) 0 apart
        ∙ get_or-set_same s (p / 8) (both_of s p w v / 256) 0 held

    second : get_or (with_word s p w v) (p / 8 + 1) 0 ≡ both_of s p w v % 256
    unfolding with_word
    second =
        let held : p / 8 + 1 < length (set s (p / 8) (both_of s p w v / 256)) = rw length-set there in
        get_or-set_same (set s (p / 8) (both_of s p w v / 256)) (p / 8 + 1) (both_of s p w v % 256) 0 held

    -- the two bytes, as a number of 16 bits, and as the bits before the word, the word, and the bits behind it
    two_bytes : bits_at (with_word s p w v) (8 * (p / 8)) 16 ≡ both_of s p w v
    two_bytes =
        let small = both-lt in
        let a : get_or (with_word s p w v) (p / 8) 0 < 256 = rw first (let q : both_of s p w v / 256 < 256 = omega arith in q) in
        let b : get_or (with_word s p w v) (p / 8 + 1) 0 < 256 = rw second (let q : both_of s p w v % 256 < 256 = omega arith in q) in
        let q : 8 * (p / 8) + 8 ≡ 8 * (p / 8 + 1) = omega arith in
        let whole : both_of s p w v / 256 * 256 + both_of s p w v % 256 ≡ both_of s p w v = omega arith in
        bits_at-add (with_word s p w v) (8 * (p / 8)) 8 8
        ∙ ap₂ (λ (x y : ℕ). x * 256 + y)
        (byte-is (with_word s p w v) (p / 8) a ∙ first)
        (ap (λ (i : ℕ). bits_at (with_word s p w v) i 8) q ∙ byte-is (with_word s p w v) (p / 8 + 1) b ∙ second)
        ∙ whole

    parted : (y : List ℕ) → bits_at y (8 * (p / 8)) 16 ≡ (bits_at y (p - p % 8) (p % 8) * 2 ^ w + bits_at y p w) * 2 ^ rest_of p w + bits_at y (p + w) (rest_of p w)
    parted y =
        let all : 16 ≡ p % 8 + w + rest_of p w = omega arith in
        let begin : 8 * (p / 8) ≡ p - p % 8 = omega arith in
        let there : p - p % 8 + p % 8 ≡ p = omega arith in
        let past : p - p % 8 + (p % 8 + w) ≡ p + w = omega arith in
        ap₂ (λ (i j : ℕ). bits_at y i j) begin all
        ∙ bits_at-add y (p - p % 8) (p % 8 + w) (rest_of p w)
        ∙ ap₂ (λ (x z : ℕ). x * 2 ^ rest_of p w + z)
        (bits_at-add y (p - p % 8) (p % 8) w ∙ ap (λ (i : ℕ). bits_at y (p - p % 8) (p % 8) * 2 ^ w + bits_at y i w) there)
        (ap (λ (i : ℕ). bits_at y i (rest_of p w)) past)

    three : (bits_at (with_word s p w v) (p - p % 8) (p % 8) ≡ bits_at s (p - p % 8) (p % 8))
        × ((bits_at (with_word s p w v) p w ≡ v) × (bits_at (with_word s p w v) (p + w) (rest_of p w) ≡ bits_at s (p + w) (rest_of p w)))
    three =
        digits _ _ _ _ _ _ w (rest_of p w) (bits_at-lt (with_word s p w v) p w) small (bits_at-lt (with_word s p w v) (p + w) (rest_of p w)) (bits_at-lt s (p + w) (rest_of p w))
        (sym (parted (with_word s p w v)) ∙ two_bytes)

    before : SameBits (with_word s p w v) s 0 p
    before i l u = go (dec_lt i (p - p % 8))
      where
        go : Dec (i < p - p % 8) → bit_at (with_word s p w v) i ≡ bit_at s i
        go (yes h) = same_byte i (omega arith) (omega arith)
        go (no h) = bits_at-inj (with_word s p w v) s (p - p % 8) (p % 8) three.0 i (omega arith) (omega arith)

    behind : (q : ℕ) → SameBits (with_word s p w v) s (p + w) q
    behind q i l u = go (dec_lt i (p + w + rest_of p w))
      where
        go : Dec (i < p + w + rest_of p w) → bit_at (with_word s p w v) i ≡ bit_at s i
        go (yes h) = bits_at-inj (with_word s p w v) s (p + w) (rest_of p w) three.1.1 i l h
        go (no h) = same_byte i (omega arith) (omega arith)

    pub written : Written s p w v
    written = record { size = size; value = three.1.0; before = before; behind = behind }
