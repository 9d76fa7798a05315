-- The common-reading theorem, of the reader, by that of its format. Assumes nothing.
use mathlib.Core.Path.{◌≡◌, refl, ap, sym, subst, ◌∙◌}
use mathlib.Core.Bool.{true}
use mathlib.Core.List.{List, [], ◌∷◌, map}
use mathlib.Core.Logic.{◌⊎◌, inl, inr}
use mathlib.Core.Option.{some}
use Prim.Native.Nat.{ℕ, zero, suc, ◌<◌}
use native.Mathlib.Omega.{arith}
use lib.ListN.{length, get_elem?, length-map}
use Rattle.bits.specs.Bits.{SameBits}
use Rattle.reading.specs.Run.{Field, Entry, end, Outcome}
use Rattle.reading.specs.Room.{size, cut_at, cut}
use Rattle.reading.specs.Records.{All}
use Rattle.reading.specs.Frame.{Format, parse}
use Rattle.reading.specs.CommonReading.{Case, Stand, Excepted, SameSpans, list, CommonReading as CommonReadingOf}
use Rattle.cells.specs.Cells.{State}
use Rattle.rows.specs.Syntax.{among}
use Rattle.annex.specs.Frame.{eac3}
use Rattle.annex.proofs.Header.{eac3-common-reading}
use Rattle.outcomes.specs.Outcomes.{span_names, Named}
use Rattle.outcomes.proofs.Outcomes.{all_keep}
use Rattle.demands.specs.Calls.{CallBy, count, nth, Accepts}
use Rattle.demands.specs.Common.{Pair, Stands, SameSpanBits, CommonReading}
use Rattle.demands.proofs.Calls.{outcome, accepts, refuses, counts, holds, held}

-- two lists with the same record at each place are the same
same_at : (a b : List Field) → length a ≡ length b → ((i : ℕ) (f : Field) → get_elem? a i ≡ some f → get_elem? b i ≡ some f) → a ≡ b
same_at [] [] h k = refl
same_at [] (y ∷ b) h k = absurd (let z : ⊥ = omega arith in z)
same_at (x ∷ a) [] h k = absurd (let z : ⊥ = omega arith in z)
same_at (x ∷ a) (y ∷ b) h k =
    let w : some y ≡ some x = k 0 x refl in
    let e : x ≡ y = cc in
    rw e (ap (λ r. y ∷ r) (same_at a b (omega arith) (λ i f q. k (suc i) f q)))

-- the bits of the spans of the definition's list, from those of the names
cut-named : {A : Type 0} (n : ℕ) (o : Outcome A) → All Named o.records → All Named (cut n o).records
unfolding cut
cut-named {A} n o h = go n o.records h
  where
    go : (n : ℕ) (es : List Entry) → All Named es → All Named (cut_at n o.result o.place es).records
    go n [] h = tt
    go zero (e ∷ es) h = tt
    go (suc n) (e ∷ es) h = (h.0, go n es h.1)

all-at : (P Q : Entry → Type 0) (es : List Entry) → All P es
    → ((i : ℕ) (e : Entry) → get_elem? (map (λ (e : Entry). e.field) es) i ≡ some e.field → P e → Q e) → All Q es
all-at P Q [] h k = tt
all-at P Q (e ∷ es) h k = (k 0 e refl h.0, all-at P Q es h.1 (λ i f q. k (suc i) f q))

module _ (F : Format State State) (common : CommonReadingOf F) (named : (s : List ℕ) → All Named (parse F s).records) where
  stands : (x : List ℕ) (d : ℕ) {y z : List ℕ} (f : CallBy F y) (g : CallBy F z) → Stand F x d (list (outcome f)) (list (outcome g)) → Stands F x d f g
  stands x d f g h i l e = go (h i (nth f i) (holds f i l) e)
    where
      go : (get_elem? (list (outcome g)) i ≡ some (nth f i)) ⊎ Excepted F x d (nth f i) → ((i < count g) × (nth g i ≡ nth f i)) ⊎ Excepted F x d (nth f i)
      go (inl q) = inl (held g i (nth f i) q)
      go (inr q) = inr q

  spans-same : (x y : List ℕ) (f : CallBy F x) → SameSpanBits F x y f → SameSpans x y (outcome f)
  spans-same x y f s =
      all-at Named (λ e. e.spans ≡ true → SameBits x y e.field.first (end e.field)) (outcome f).records (cut-named (size f.lent) (parse F x) (named x))
      (λ i e q n p.
      let h = held f i e.field q in
      subst (λ (g : Field). SameBits x y g.first (end g)) h.1 (s i (let z = h.0 in omega arith) (subst (λ (g : Field). among span_names g.name ≡ true) (sym h.1) (n p))))

  pub common-by : CommonReading F
  common-by = record {
    both = λ x y d f g p a b.
        let u = accepts f a in
        let v = accepts g b in
        let c = case x y d f p a in
        let r = common.both x y d (size f.lent) (size g.lent) v.0 c v.1 in
        (stands x d f g r.0, stands x d g f r.1);
    second = λ x y d k p n f g q a b r.
        let v = refuses g k p n b in
        let t = common.second x y d (size f.lent) (size g.lent) k (case x y d f q a) v.0 r in
        (let z : d < p = omega (arith, t.0, v.1) in z, stands x d g f t.1);
    same = λ x y f g bx by hx hy a b n r s.
        let u = accepts f a in
        let v = accepts g b in
        common.same x y (size f.lent) (size g.lent) u.0 v.0 bx by hx hy u.1 v.1 (lists x y f g n r) (spans-same x y f s);
  }
    where
      case : (x y : List ℕ) (d : ℕ) (f : CallBy F x) → Pair F x y d → Accepts f → Case F x y d (size f.lent)
      case x y d f p a =
          let u = accepts f a in
          record { frame = u.0; holdsˣ = p.holdsˣ; holdsʸ = p.holdsʸ; accepts = u.1; differ = p.differ; inside = p.inside }

      lists : (x y : List ℕ) (f : CallBy F x) (g : CallBy F y) → count f ≡ count g → ((i : ℕ) → i < count f → nth f i ≡ nth g i) → list (outcome f) ≡ list (outcome g)
      lists x y f g n r =
          same_at (list (outcome f)) (list (outcome g))
          (length-map (outcome f).records _ ∙ sym (counts f) ∙ n ∙ counts g ∙ sym (length-map (outcome g).records _))
          (λ i e q.
          let h = held f i e q in
          let l : i < count g = omega (arith, h.0, n) in
          holds g i l ∙ ap some (sym (r i h.0) ∙ h.1))

pub common-reading : CommonReading eac3
common-reading = common-by eac3 eac3-common-reading (λ s. (all_keep s).spans)
