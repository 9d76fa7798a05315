-- The common-reading theorem, of every format whose header tells the size that the buffer announces. Assumes nothing.
use mathlib.Core.Path.{◌≡◌, ap, sym, ◌∙◌, subst}
use mathlib.Core.List.{List}
use Prim.Native.Nat.{ℕ, ◌*◌, ◌≤◌, ◌<◌}
use native.Mathlib.Omega.{arith}
use lib.ListN.{length, get_or, take}
use lib.Seq.{ext_get_or, get_or-take, length-take-le}
use Rattle.bits.specs.Bits.{SameBits}
use Rattle.bits.proofs.BitLaws.{same_bytes}
use Rattle.reading.specs.Run.{Result, accepted, refused, Outcome}
use Rattle.reading.specs.Frame.{Format, Announces, parse}
use Rattle.reading.specs.CommonReading.{Holds, Case, answer, Bytes, CommonReading}
use Rattle.reading.proofs.Laws.{Ok}
use Rattle.reading.proofs.Rooms.{cut-same}
use Rattle.reading.proofs.Frames.{Parted, whole, parse-whole, whole-ends, whole-parted, stand-first, stand-second}
use Rattle.reading.proofs.Twins.{Twin, whole-twin}

-- equal bytes are equal lists
take_same : (n : ℕ) (x y : List ℕ) → n ≤ length x → n ≤ length y → ((i : ℕ) → i < n → get_or x i 0 ≡ get_or y i 0) → take n x ≡ take n y
take_same n x y h k e =
    let a = length-take-le n x h in
    let b = length-take-le n y k in
    ext_get_or 0 (take n x) (take n y) (a ∙ sym b)
    (λ i l. let j : i < n = omega arith in get_or-take n x i 0 j ∙ e i j ∙ sym (get_or-take n y i 0 j))

ok : {A : Type 0} {r : Result A} {a : A} → r ≡ accepted a → Ok r
ok {A} {r} {a} e = subst Ok (sym e) tt

module _ {H A : Type 0} (F : Format H A) (tells : Announces F) where
  -- with room enough the answer is the whole reading
  answer-whole : (n : ℕ) (b : List ℕ) → Holds F b → ¬ ((answer F n b).result ≡ refused 33) → answer F n b ≡ whole F b
  answer-whole n b h k = cut-same n (parse F b) k ∙ parse-whole F tells b h

  accepts-whole : (n : ℕ) (b : List ℕ) (a : A) → Holds F b → (answer F n b).result ≡ accepted a → answer F n b ≡ whole F b
  accepts-whole n b a h e = answer-whole n b h (λ r. let z : ◌≡◌ {A = ℕ} 0 1 = cc in omega arith)

  module _ (x y : List ℕ) (d m : ℕ) (c : Case F x y d m) where
    first : answer F m x ≡ whole F x
    first = accepts-whole m x c.frame c.holdsˣ c.accepts

    apart : Parted F d (8 * F.announced x) (whole F x) (whole F y)
    apart =
        let e : (whole F x).result ≡ accepted c.frame = rw first at c.accepts in
        whole-parted F x y d c.differ.before c.frame (8 * F.announced x) c.inside e (whole-ends F tells x c.frame e)

  same-frame : (x y : List ℕ) (a c : A) → Bytes x → Bytes y → Holds F x → Holds F y → (whole F x).result ≡ accepted a → (whole F y).result ≡ accepted c
      → Twin x y (whole F x) (whole F y) → take (F.announced x) x ≡ take (F.announced y) y
  same-frame x y a c bx by hx hy ex ey t =
      let lx = whole-ends F tells x a ex in
      let ly = whole-ends F tells y c ey in
      let p : (whole F x).place ≡ (whole F y).place = ap (λ (o : Outcome A). o.place) t.equal in
      let n : F.announced x ≡ F.announced y = omega arith in
      let kx = hx.whole in
      let ky = hy.whole in
      let b : SameBits x y 0 (8 * F.announced x) = subst (SameBits x y 0) lx t.bits in
      rw (← n) (take_same (F.announced x) x y kx (omega arith) (λ i l. same_bytes x y (F.announced x) i b l (bx i) (by i)))

  pub common-reading : CommonReading F
  common-reading = record {
    both = λ x y d m n a c e.
        let s = apart x y d m c in
        let u = accepts-whole n y a c.holdsʸ e in
        rw (first x y d m c, u) (stand-first F x d s (ok (rw u at e)), stand-second F x d s);
    second = λ x y d m n k c e r.
        let s = apart x y d m c in
        let u = answer-whole n y c.holdsʸ (λ q. let z : k ≡ 33 = cc in r z) in
        rw (first x y d m c, u) (s.second.stands, stand-second F x d s);
    same = λ x y m n a c bx by hx hy ex ey l s.
        let ux = accepts-whole m x a hx ex in
        let uy = accepts-whole n y c hy ey in
        let fx : (whole F x).result ≡ accepted a = rw ux at ex in
        let fy : (whole F y).result ≡ accepted c = rw uy at ey in
        same-frame x y a c bx by hx hy fx fy (whole-twin x y F (rw (ux, uy) at l) (ok fx) (ok fy) (rw ux at s));
  }
