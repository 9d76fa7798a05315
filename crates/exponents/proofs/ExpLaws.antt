-- Laws of exponents: of putting and spreading them, and the sizes of groups. Assumes nothing.
use mathlib.Core.Path.{◌≡◌, refl, sym, ap, ◌∙◌}
use mathlib.Core.Bool.{Bool, true, false, ◌&&◌, cond}
use mathlib.Core.List.{List}
use Prim.Native.Nat.{ℕ, zero, suc, ◌+◌, ◌-◌, ◌*◌, ◌/◌, ◌%◌, ◌≤◌, ◌<◌}
use native.Mathlib.Omega.{arith}
use lib.Dec.{ltb, leb, eqb}
use native.Mathlib.Decide.{ℕ_discrete}
use lib.ListN.{length, get_or, set, length-set}
use lib.Seq.{get_or-set_same, get_or-set_other}
use borrow.Author.Tests.{lt-ltb, le-ltb, leb-true, ltb-true}
use Rattle.std.specs.Prelude.{Option, Some, None, Ok, Err}
use Rattle.refusals.specs.declared.Refusal.TheVariants.{GroupedExponent, ExponentOutside}
use Rattle.slots.specs.Held.{Held}
use Rattle.slots.proofs.Tests.{both}
use Rattle.slots.specs.Slots.{CPL}
use Rattle.exponents.specs.Exponents.{Group, next_of, on_to, decode_of, start_of, put_of, spread_of, laid_of}

-- what a group comes to, by the first of its three exponents that leaves the range
module _ (prev grp : ℕ) (h : grp ≤ 124) where
  pub decode-first : next_of prev (grp / 25) ≡ None → decode_of prev grp ≡ Err ExponentOutside
  unfolding decode_of
  decode-first e = rw (le-ltb 124 grp h, e)

  module _ (a : ℕ) (e : next_of prev (grp / 25) ≡ Some a) where
    pub decode-second : next_of a (grp % 25 / 5) ≡ None → decode_of prev grp ≡ Err ExponentOutside
    unfolding decode_of
    decode-second f = rw (le-ltb 124 grp h, e, f)

    module _ (b : ℕ) (f : next_of a (grp % 25 / 5) ≡ Some b) where
      pub decode-third : next_of b (grp % 25 % 5) ≡ None → decode_of prev grp ≡ Err ExponentOutside
      unfolding decode_of
      decode-third g = rw (le-ltb 124 grp h, e, f, g)

      pub decode-moved : (c : ℕ) → next_of b (grp % 25 % 5) ≡ Some c → decode_of prev grp ≡ Ok (a, b, c)
      unfolding decode_of
      decode-moved c g = rw (le-ltb 124 grp h, e, f, g)

length-cond : (t : Bool) (x y : List ℕ) (n : ℕ) → length x ≡ n → length y ≡ n → length (cond t x y) ≡ n
length-cond true x y n a b = a
length-cond false x y n a b = b

pub put-length : (exps : List ℕ) (slot bin e : ℕ) → length (put_of exps slot bin e) ≡ length exps
unfolding put_of
put-length exps slot bin e = length-cond (ltb slot 7 && ltb bin 256) (set exps (256 * slot + bin) e) exps (length exps) (length-set exps (256 * slot + bin) e) refl

pub spread-length : (exps : List ℕ) (slot bin n e : ℕ) → length (spread_of exps slot bin n e) ≡ length exps
unfolding spread_of
spread-length exps slot bin zero e = refl
spread-length exps slot bin (suc n) e = spread-length (put_of exps slot bin e) slot (suc bin) n e ∙ put-length exps slot bin e

-- bin by bin: one is put, and at the end none is left
pub spread-next : (whole x y : List ℕ) (slot bin n e bin' n' : ℕ) → whole ≡ spread_of x slot bin n e → y ≡ put_of x slot bin e → bin' ≡ bin + 1 → n ≡ n' + 1 → whole ≡ spread_of y slot bin' n' e
unfolding spread_of
spread-next whole x y slot bin n e bin' n' w p b k =
    let z : bin' ≡ suc bin = omega arith in
    let m : n ≡ suc n' = omega arith in
    w ∙ rw (m, z, p)

pub spread-end : (whole x : List ℕ) (slot bin n e : ℕ) → whole ≡ spread_of x slot bin n e → n ≤ 0 → x ≡ whole
unfolding spread_of
spread-end whole x slot bin n e w h = let z : n ≡ 0 = omega arith in sym (w ∙ rw z)

-- a bin that the slot has
pub put_in : (exps : List ℕ) (slot bin e i : ℕ) → slot < 7 → bin < 256 → i ≡ 256 * slot + bin → set exps i e ≡ put_of exps slot bin e
unfolding put_of
put_in exps slot bin e i h k q = rw (q, lt-ltb slot 7 h, lt-ltb bin 256 k)

-- three spreads are a group
pub laid_by : (exps x y z : List ℕ) (slot bin size a b c : ℕ)
    → x ≡ spread_of exps slot bin size a → y ≡ spread_of x slot (bin + size) size b → z ≡ spread_of y slot (bin + 2 * size) size c
    → z ≡ laid_of exps slot size bin a b c
unfolding laid_of
laid_by exps x y z slot bin size a b c f g h = h ∙ rw (g, f)

-- exponents that come out of a group lie from 0 to 24, and putting them keeps the exponents held
next-to : (t : Bool) (x e : ℕ) → cond t (Some x) None ≡ Some e → (t ≡ true) × (x ≡ e)
next-to true x e q = (refl, cc)
next-to false x e q = let z : ◌≡◌ {A = ℕ} 0 1 = cc in absurd (let w : ⊥ = omega arith in w)

pub next_low : (prev m e : ℕ) → next_of prev m ≡ Some e → e ≤ 24
unfolding next_of
next_low prev m e q =
    let n = next-to (leb 2 (prev + m) && leb (prev + m) 26) (prev + m - 2) e q in
    let h = leb-true (prev + m) 26 (both (leb 2 (prev + m)) (leb (prev + m) 26) n.0).1 in
    omega (arith, n.1)

-- what the next step counts from is a byte, and so is what the first group counts from
pub next-byte : (prev m e : ℕ) → next_of prev m ≡ Some e → e < 256
next-byte prev m e f = let h = next_low prev m e f in omega arith

pub start-low : (slot absexp : ℕ) → absexp ≤ 15 → start_of slot absexp ≤ 30
unfolding start_of
start-low slot absexp h = go (eqb slot CPL)
  where
    go : (t : Bool) → cond t (2 * absexp) absexp ≤ 30
    go true = omega arith
    go false = omega arith

-- the three of a group
pub record Low (a b c : ℕ) : Type 0 where
  pub first : a ≤ 24
  pub second : b ≤ 24
  pub third : c ≤ 24

module _ (a b c : ℕ) where
  past-high : (t : Bool) (g : Group) → cond t (Err GroupedExponent) g ≡ Ok (a, b, c) → g ≡ Ok (a, b, c)
  past-high true g q = cc
  past-high false g q = q

  through : (n : Option ℕ) (k : ℕ → Group) → ((e : ℕ) → n ≡ Some e → k e ≡ Ok (a, b, c) → Low a b c) → on_to n k ≡ Ok (a, b, c) → Low a b c
  through None k f q = let z : ◌≡◌ {A = ℕ} 0 1 = cc in absurd (let w : ⊥ = omega arith in w)
  through (Some e) k f q = f e refl q

  ends : (x y z : ℕ) → x ≤ 24 → y ≤ 24 → z ≤ 24 → ◌≡◌ {A = Group} (Ok (x, y, z)) (Ok (a, b, c)) → Low a b c
  ends x y z hx hy hz q =
      let t : ◌≡◌ {A = ℕ × ℕ × ℕ} (x, y, z) (a, b, c) = cc in
      let ex : x ≡ a = ap (λ (u : ℕ × ℕ × ℕ). u.0) t in
      let ey : y ≡ b = ap (λ (u : ℕ × ℕ × ℕ). u.1) t in
      let ez : z ≡ c = ap (λ (u : ℕ × ℕ × ℕ). u.2) t in
      record { first = omega arith; second = omega arith; third = omega arith }

  pub decode-low : (prev grp : ℕ) → decode_of prev grp ≡ Ok (a, b, c) → Low a b c
  unfolding decode_of
  decode-low prev grp q =
      through (next_of prev (grp / 25)) (λ x. on_to (next_of x (grp % 25 / 5)) (λ y. on_to (next_of y (grp % 25 % 5)) (λ z. Ok (x, y, z))))
      (λ x ex. through (next_of x (grp % 25 / 5)) (λ y. on_to (next_of y (grp % 25 % 5)) (λ z. Ok (x, y, z)))
      (λ y ey. through (next_of y (grp % 25 % 5)) (λ z. Ok (x, y, z))
      (λ z ez. ends x y z (next_low prev (grp / 25) x ex) (next_low x (grp % 25 / 5) y ey) (next_low y (grp % 25 % 5) z ez))))
      (past-high (ltb 124 grp) (on_to (next_of prev (grp / 25)) (λ x. on_to (next_of x (grp % 25 / 5)) (λ y. on_to (next_of y (grp % 25 % 5)) (λ z. Ok (x, y, z))))) q)

module _ (exps : List ℕ) (held : Held exps) where
  at-put : (slot bin e : ℕ) → e ≤ 24 → slot < 7 → bin < 256 → (k : ℕ) → k < 1792 → Dec (k ≡ 256 * slot + bin) → get_or (set exps (256 * slot + bin) e) k 0 ≤ 24
  at-put slot bin e h s b k l (yes q) = rw (q, get_or-set_same exps (256 * slot + bin) e 0 (let z : 256 * slot + bin < length exps = omega (arith, held.size) in z)) h
  at-put slot bin e h s b k l (no q) = rw (get_or-set_other exps (256 * slot + bin) k e 0 q) (held.low k l)

  pub put-held : (slot bin e : ℕ) → e ≤ 24 → Held (put_of exps slot bin e)
  unfolding put_of
  put-held slot bin e h = go (ltb slot 7 && ltb bin 256) refl
    where
      go : (t : Bool) → ltb slot 7 && ltb bin 256 ≡ t → Held (cond t (set exps (256 * slot + bin) e) exps)
      go true q =
          let p = both (ltb slot 7) (ltb bin 256) q in
          record {
            size = length-set exps (256 * slot + bin) e ∙ held.size;
            low = λ k l. at-put slot bin e h (ltb-true slot 7 p.0) (ltb-true bin 256 p.1) k l (ℕ_discrete k (256 * slot + bin));
          }
      go false q = held
