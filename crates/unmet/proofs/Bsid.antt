-- Whatever the buffer, a bsid record holds 11 to 16: the element bsid reads the bits that are looked at ahead. Assumes nothing.
use mathlib.Core.Path.{◌≡◌, refl, ap, sym, ◌∙◌}
use mathlib.Core.Bool.{Bool, true, false, not, cond, ◌&&◌, true≢false}
use mathlib.Core.List.{List, [], ◌∷◌}
use Prim.Native.Nat.{ℕ, ◌+◌, ◌*◌}
use native.Mathlib.Omega.{arith}
use lib.Dec.{leb, eqb}
use lib.ListN.{length}
use borrow.Author.Tests.{leb-true, eqb-true, eqb-false, not-true}
use Rattle.bits.specs.Bits.{bits_at}
use Rattle.reading.specs.Tree.{done, refuse, ◌>>=◌}
use Rattle.reading.specs.Run.{Entry, Result, accepted, refused, Outcome, and_then, after, run}
use Rattle.reading.specs.Records.{All, Valued}
use Rattle.reading.specs.Frame.{header_by, seen, headed, auxdatae_at, tail, finish, framed, sized, parse}
use Rattle.reading.proofs.Laws.{test, all_map, all_append, valued}
use Rattle.names.specs.Names.{bsid}
use Rattle.cells.specs.Cells.{State, stored, place_of}
use Rattle.derivations.specs.Derivations.{derived}
use Rattle.rows.specs.Syntax.{Item, Block, element, elements, span, mantissas, exponents, when, each, reject, reject_at, put, fill, derive, end, ◌⨾◌, holds_of, item, meaning}
use Rattle.annex.specs.Syncinfo.{syncinfo, bsi_size}
use Rattle.annex.specs.Annex.{body}
use Rattle.annex.specs.Frame.{start, tail_names, bytes_of, bsid_ahead, eac3}
use Rattle.annex.proofs.Header.{headed-good, headed_is, headed-gives, sized-is}
use Rattle.bounds.proofs.Bounds.{both}
use Rattle.bounds.proofs.Bounded.{pages}
use Rattle.unmet.specs.Unmet.{BsidFits, BsidsFit}
use Rattle.unmet.proofs.Recorded.{Reads, Holds, reads-run, reads-bind, reads-if, reads_then, reads-tail, passes, reads-block}

-- Q of the place and the width of an element bsid; no span has that name
abbrev Placed : (ℕ → ℕ → Type 0) → ℕ → ℕ → ℕ → Type 0
Placed Q n p w = n ≡ bsid → Q p w

abbrev Other : ℕ → Type 0
Other n = ¬ (n ≡ bsid)

-- the items of a syntax have other names
abbrev pub lacks : Block → Bool
lacks b = passes (λ n w. not (eqb n bsid)) (λ n. not (eqb n bsid)) b

other : (n : ℕ) → not (eqb n bsid) ≡ true → Other n
other n h = eqb-false n bsid (not-true (eqb n bsid) h)

reads_other : (Q : ℕ → ℕ → Type 0) (b : Block) → lacks b ≡ true → (st : State) (p : ℕ) → Reads (Placed Q) Other (meaning b st) p
reads_other Q b h st p = reads-block _ _ (Placed Q) Other (λ n w h p e. absurd (other n h e)) other b h st p

-- a record bsid is an element
bsid-element : (Q : ℕ → ℕ → Type 0) (e : Entry) → Holds (Placed Q) Other e → e.field.name ≡ bsid → (e.spans ≡ false) × Q e.field.first e.field.width
bsid-element Q e h n = go e.spans refl
  where
    go : (c : Bool) → e.spans ≡ c → (e.spans ≡ false) × Q e.field.first e.field.width
    go true q = absurd (h.1 q n)
    go false q = (q, h.0 q n)

-- the element bsid stands at the bit 40 and has 5 bits; before it stand elements of fixed widths, rejections and derivations, and what comes after it has other names
abbrev pub shows_in : Item → ℕ → (ℕ → Bool) → Bool → Bool
shows_in (element name i w a) p k z = cond (eqb name bsid) ((eqb p 40 && eqb w 5) && z) (k (p + w))
shows_in (elements name i w a c f n) p k z = false
shows_in (span name c) p k z = false
shows_in (mantissas name a) p k z = false
shows_in (exponents s name i) p k z = false
shows_in (when c b) p k z = false
shows_in (each c i n b) p k z = false
shows_in (reject c n) p k z = k p
shows_in (reject_at c n j) p k z = false
shows_in (put a v) p k z = false
shows_in (fill j n x y a) p k z = false
shows_in (derive j) p k z = k p

unfoldable pub shows : ℕ → Block → Bool
shows p end = false
shows p (i ⨾ b) = shows_in i p (λ q. shows q b) (lacks b)

There : ℕ → ℕ → Type 0
There p w = (p ≡ 40) × (w ≡ 5)

reads-shown : (b : Block) (p : ℕ) → shows p b ≡ true → (st : State) → Reads (Placed There) Other (meaning b st) p
unfolding shows meaning item ◌>>=◌ There
reads-shown end p h st = absurd (true≢false (sym h))
reads-shown (element name i w a ⨾ b) p h st = go (eqb name bsid) refl h (λ k v. reads-shown b (p + w) k (stored st (place_of a st.cells) v))
  where
    go : (c : Bool) → eqb name bsid ≡ c → cond c ((eqb p 40 && eqb w 5) && lacks b) (shows (p + w) b) ≡ true
        → (shows (p + w) b ≡ true → (v : ℕ) → Reads (Placed There) Other (meaning b (stored st (place_of a st.cells) v)) (p + w))
        → (name ≡ bsid → (p ≡ 40) × (w ≡ 5)) × ((v : ℕ) → Reads (Placed There) Other (meaning b (stored st (place_of a st.cells) v)) (p + w))
    go true e k f =
        let g = both (eqb p 40 && eqb w 5) (lacks b) k in
        let d = both (eqb p 40) (eqb w 5) g.0 in
        (λ _. (eqb-true p 40 d.0, eqb-true w 5 d.1), λ v. reads_other There b g.1 _ (p + w))
    go false e k f = (λ n. absurd (eqb-false name bsid e n), f k)
reads-shown (elements name i w a c f n ⨾ b) p h st = absurd (true≢false (sym h))
reads-shown (span name c ⨾ b) p h st = absurd (true≢false (sym h))
reads-shown (mantissas name a ⨾ b) p h st = absurd (true≢false (sym h))
reads-shown (exponents s name i ⨾ b) p h st = absurd (true≢false (sym h))
reads-shown (when c x ⨾ b) p h st = absurd (true≢false (sym h))
reads-shown (each c i n x ⨾ b) p h st = absurd (true≢false (sym h))
reads-shown (reject c n ⨾ b) p h st = reads_then (Placed There) Other (holds_of c st.cells) (refuse n) (done st) _ p tt (reads-shown b p h st)
reads-shown (reject_at c n j ⨾ b) p h st = absurd (true≢false (sym h))
reads-shown (put a v ⨾ b) p h st = absurd (true≢false (sym h))
reads-shown (fill j n x y a ⨾ b) p h st = absurd (true≢false (sym h))
reads-shown (derive j ⨾ b) p h st =
    reads_then (Placed There) Other (eqb (derived j st).number 0) (done (derived j st).st) (refuse (derived j st).number) _ p (reads-shown b p h (derived j st).st) tt

-- the pages
pub body-shows : shows 32 body ≡ true
unfolding shows passes pages
body-shows = refl

header-lacks : (lacks syncinfo ≡ true) × (lacks bsi_size ≡ true)
unfolding passes syncinfo bsi_size
header-lacks = (refl, refl)

-- no record of this name
Never : ℕ → ℕ → Type 0
Never p w = ⊥

never-header : (v : ℕ) → Reads (Placed Never) Other (header_by eac3 v) 0
unfolding header_by eac3
never-header v =
    reads-bind (Placed Never) Other (meaning syncinfo start) _ 0 (reads_other Never syncinfo header-lacks.0 start 0)
    (λ h q. reads-if (Placed Never) Other (bsid_ahead.good v) _ _ q (reads_other Never bsi_size header-lacks.1 h q) tt)

never-tail : (v l : ℕ) (st : State) (p : ℕ) → Reads (Placed Never) Other (tail tail_names v l st) p
never-tail = reads-tail (Placed Never) Other tail_names (λ e. omega arith) (λ p e. absurd (let z : ⊥ = omega arith in z)) (λ p e. absurd (let z : ⊥ = omega arith in z)) (λ p e. absurd (let z : ⊥ = omega arith in z)) (λ p e. absurd (let z : ⊥ = omega arith in z))

never-fits : (es : List Entry) → All (Holds (Placed Never) Other) es → All BsidFits es
unfolding Never
never-fits es h = all_map es (λ e k n. absurd (bsid-element Never e k n).1) h

shown-fits : (s : List ℕ) (es : List Entry) → bsid_ahead.good (bits_at s 40 5) ≡ true → All (Holds (Placed There) Other) es → All (Valued s) es → All BsidFits es
unfolding There
shown-fits s [] g h k = tt
shown-fits s (e ∷ es) g h k = (fits, shown-fits s es g h.1 k.1)
  where
    fits : BsidFits e
    fits n =
        let t = bsid-element There e h.0 n in
        let v : e.field.value ≡ bits_at s 40 5 = rw (t.1.0, t.1.1) at (k.0 t.0) in
        let b = both (leb 11 (bits_at s 40 5)) (leb (bits_at s 40 5) 16) g in
        rw v (leb-true 11 (bits_at s 40 5) b.0, leb-true (bits_at s 40 5) 16 b.1)

fits_after : {A B : Type 0} (o : Outcome A) (f : A → ℕ → Outcome B) → All BsidFits o.records → ((a : A) → o.result ≡ accepted a → All BsidFits (f a o.place).records) → All BsidFits (after o f).records
unfolding after
fits_after {A} o f h k = go o.result refl
  where
    go : (r : Result A) → o.result ≡ r → All BsidFits (and_then r o.place o.records f).records
    go (accepted a) e = all_append BsidFits o.records (f a o.place).records h (k a e)
    go (refused n) e = h

module _ (s : List ℕ) where
  fits-finish : (l : ℕ) (a : State) (p : ℕ) → All BsidFits (finish tail_names s l a p).records
  unfolding finish
  fits-finish l a p =
      let t = tail tail_names (bits_at s (auxdatae_at l) 1) l a in
      never-fits (run t s p l).records (reads-run (Placed Never) Other t s p l (never-tail (bits_at s (auxdatae_at l) 1) l a p))

  fits-sized : (h : State) (p : ℕ) → p ≡ 32 → bsid_ahead.good (bits_at s 40 5) ≡ true → All BsidFits (sized eac3 s h p).records
  unfolding sized framed eac3
  fits-sized h p e g =
      let l = 8 * bytes_of h in
      let o = run (meaning body h) s p l in
      test (λ o. All BsidFits o.records) (leb (bytes_of h) (length s))
      (λ _. fits_after o (finish tail_names s l)
      (shown-fits s o.records g (reads-run (Placed There) Other (meaning body h) s p l (reads-shown body p (rw e body-shows) h)) (valued (meaning body h) s p l))
      (λ a _. fits-finish l a o.place))
      (λ _. tt)

pub bsids-fit : BsidsFit
unfolding parse eac3
bsids-fit s =
    test (λ o. All BsidFits o.records) (leb 6 (length s))
    (λ _. fits_after (headed eac3 s) (sized eac3 s) (never-fits (headed eac3 s).records (reads-run (Placed Never) Other (header_by eac3 (seen eac3 s)) s 0 48 (never-header (seen eac3 s))))
    (λ h e. fits-sized s h _ (ap (λ (o : Outcome State). o.place) (headed_is s h e) ∙ ((sized-is s).gives h (headed-gives s h e)).ends) (headed-good s h e)))
    (λ _. tt)
