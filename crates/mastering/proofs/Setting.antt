-- A word set in an accepted frame, and crc2 put right: what the reading then gives of it. Assumes nothing.
use mathlib.Core.Path.{◌≡◌, refl, sym, ap, ap₂, ◌∙◌, subst}
use mathlib.Core.Bool.{Bool, true, false, cond, ◌||◌}
use mathlib.Core.List.{List, [], ◌∷◌, map}
use mathlib.Core.Logic.{inl, inr}
use mathlib.Core.Option.{some}
use Prim.Native.Nat.{ℕ, zero, suc, ◌+◌, ◌*◌, ◌-◌, ◌/◌, ◌^◌, ◌≤◌, ◌<◌}
use native.Mathlib.Omega.{arith}
use lib.Dec.{eqb}
use lib.ListN.{length, length-append, get_elem?}
use lib.Seq.{set-set}
use borrow.Author.Tests.{ne_eqb}
use Rattle.bits.specs.Bits.{bit_at, bits_at}
use Rattle.names.specs.Names.{dialnorm, dialnorm2, compr, compr2, dynrng, dynrng2, crc2 as crc2-name}
use Rattle.reading.specs.Run.{Field, Entry, end, element, Result, accepted, refused, Outcome}
use Rattle.reading.specs.Records.{All}
use Rattle.reading.specs.Room.{Room, room, size, Out}
use Rattle.reading.specs.Frame.{plain, parse}
use Rattle.reading.proofs.Rooms.{cut-same}
use Rattle.cells.specs.Cells.{State}
use Rattle.annex.specs.Frame.{eac3}
use Rattle.steers.specs.Steering.{bits_in, Off}
use Rattle.steers.specs.Writing.{patched, patched_by}
use Rattle.steers.specs.Closing.{Closes}
use Rattle.steers.proofs.Closing.{closing, closes-last, closes-other}
use Rattle.loudness.specs.Loudness.{free}
use Rattle.loudness.proofs.Bsid.{frame-long}
use Rattle.loudness.proofs.Loudness.{loudness-rewrites, word-widths}
use Rattle.answer.specs.Answer.{answer_by, answer_of, number_in, count_by, place_by, place_of}
use Rattle.answer.specs.declared.Answer.{Answer}
use Rattle.answer.specs.declared.Verdict.{Verdict}
use Rattle.eac3.specs.Called.{answered, Called}
use Rattle.demands.specs.Calls.{Call, count, nth, Accepts}
use Rattle.demands.proofs.Calls.{outcome, accepts, counts, bytes}
use Rattle.demands.proofs.Answers.{all-answer}
use Rattle.words.specs.Words.{width_of, with_word}
use Rattle.words.specs.Written.{Written}
use Rattle.words.proofs.Writing.{written}
use Rattle.crc.specs.Crc.{crc2, with_crc2}
use Rattle.crc.specs.Checked.{Checked}
use Rattle.crc.proofs.Frame.{checked}

-- a record at a place of a list
all-at : (P : Entry → Type 0) (es : List Entry) (i : ℕ) (e : Entry) → All P es → get_elem? es i ≡ some e → P e
all-at P [] i e h q = absurd (let z : ◌≡◌ {A = ℕ} 0 1 = cc in omega arith)
all-at P (f ∷ es) zero e h q = let w : f ≡ e = cc in subst P w h.0
all-at P (f ∷ es) (suc i) e h q = all-at P es i e h.1 q

pub record At (es : List Entry) (i : ℕ) (f : Field) : Type 0 where
  pub entry : Entry
  pub there : get_elem? es i ≡ some entry
  pub field : entry.field ≡ f

pub entry_at : (es : List Entry) (i : ℕ) (f : Field) → get_elem? (map (λ (e : Entry). e.field) es) i ≡ some f → At es i f
entry_at [] i f q = absurd (let z : ◌≡◌ {A = ℕ} 0 1 = cc in omega arith)
entry_at (e ∷ es) zero f q = record { entry = e; there = refl; field = let w : e.field ≡ f = cc in w }
entry_at (e ∷ es) (suc i) f q = let a = entry_at es i f q in record { entry = a.entry; there = a.there; field = a.field }

width-most : (n : ℕ) → width_of n ≤ 8
unfolding width_of
width-most n = go (eqb n dialnorm || eqb n dialnorm2) (eqb n compr || (eqb n compr2 || (eqb n dynrng || eqb n dynrng2)))
  where
    go : (a b : Bool) → cond a 5 (cond b 8 0) ≤ 8
    go true b = omega arith
    go false true = omega arith
    go false false = omega arith

-- crc2 is no word, and both are free
check-none : width_of crc2-name ≡ 0
unfolding width_of
check-none = refl

word-free : (n : ℕ) → 0 < width_of n → free n ≡ true
word-free n h = rw (ne_eqb (width_of n) 0 (λ q. omega arith)) refl

check-free : free crc2-name ≡ true
unfolding width_of
check-free = refl

-- a value set twice
patched-twice : (m : Room) (i v : ℕ) → patched i v (patched i v m) ≡ patched i v m
unfolding patched
patched-twice m i v = ap (room m.names m.blocks m.indexes m.firsts m.widths) (set-set m.values i v v)

-- a call, and a call with a buffer that is read to the same but for one value
called-again : {s y : List ℕ} {m m' : Room} {a : Answer} (i : ℕ) (e : Entry) → Called s m a m' → answered y m ≡ patched_by free eac3 y i i e e (answered s m)
    → Called y m a (patched i (bits_in y e) m')
unfolding answer_of
called-again {s} {y} {m} {m'} {a} i e c q = record {
  answer = c.answer ∙ sym (ap (λ (o : Out State). answer_by o.result o.place o.count) q);
  number = c.number ∙ sym (ap (λ (o : Out State). number_in o.result) q);
  place = λ k h. c.place k (sym (ap (λ (o : Out State). o.result) q) ∙ h) ∙ sym (ap (λ (o : Out State). o.place) q);
  count = c.count ∙ sym (ap (λ (o : Out State). o.count) q);
  left = ap (λ (m : Room). patched i (bits_in y e) m) c.left ∙ sym (patched-twice (answered s m).left i (bits_in y e)) ∙ sym (ap (λ (o : Out State). o.left) q);
}

abbrev Wide : Entry → Type 0
Wide e = ¬ (width_of e.field.name ≡ 0) → e.field.width ≡ width_of e.field.name

-- an accepted call, the end of its frame, and the record at the place i, which is a word's
module _ {s : List ℕ} (c : Call s) (a : Accepts c) where
  pub ends : Closes eac3 s (outcome c)
  ends = closing eac3 s (size c.lent) (accepts c a).0 (accepts c a).1

  pub fields-are : c.answer.frame.fields ≡ count c
  fields-are = sym (ap (λ (v : Verdict). count_by v c.answer.frame) a)

  module _ (K : Closes eac3 s (outcome c)) where
    pub bytes-is : c.answer.frame.bytes.0 ≡ K.bytes
    bytes-is = bytes c a ∙ (let z : (outcome c).place / 8 ≡ K.bytes = omega (arith, K.place) in z)

    pub long : 8 ≤ K.bytes
    long = frame-long s (size c.lent) (accepts c a).0 (accepts c a).1 K

    pub most : K.bytes ≤ 4096
    most =
        let p : place_of c.answer ≡ 8 * c.answer.frame.bytes.0 = ap (λ (v : Verdict). place_by v c.answer.frame) a in
        omega (arith, bytes-is, (all-answer s c).place)

    whole : outcome c ≡ parse eac3 s
    whole = cut-same (size c.lent) (parse eac3 s) (λ q. let z : ◌≡◌ {A = ℕ} 0 1 = clash (accepts c a).1 q in omega arith)
      where
        clash : {r : Result State} {a : State} {k : ℕ} → r ≡ accepted a → r ≡ refused k → ◌≡◌ {A = ℕ} 0 1
        clash e f = cc

    -- a record that is free, written over: the answer stays, and the room but for its value
    over-called : (i : ℕ) (e : Entry) (y : List ℕ) (v : ℕ) → get_elem? (outcome c).records i ≡ some e → free e.field.name ≡ true → length y ≡ length s
        → ((b : ℕ) → Off e.field b → bit_at s b ≡ bit_at y b) → bits_in y e ≡ v → Called y c.lent c.answer (patched i v c.left)
    over-called i e y v g f l h q =
        subst (λ (u : ℕ). Called y c.lent c.answer (patched i u c.left)) q
        (called-again i e c.called
        (loudness-rewrites.roomed s y c.lent i i e e
        (record { frame = (accepts c a).0; accepts = (accepts c a).1; one = g; other = g; named = (f, f); long = l; elsewhere = λ b p _. h b p })))

    -- crc2 is put right
    pub crc2-called : Called (with_crc2 s K.bytes) c.lent c.answer (patched (count c - 1) (crc2 s K.bytes) c.left)
    unfolding eac3
    crc2-called =
        subst (λ (n : ℕ). Called y c.lent c.answer (patched (n - 1) (crc2 s K.bytes) c.left)) (sym (counts c))
        (over-called (length (outcome c).records - 1) last y (crc2 s K.bytes) (closes-last eac3 K) check-free C.size (λ b o. sym (elsewhere b o)) C.value)
      where
        y : List ℕ
        y = with_crc2 s K.bytes

        last : Entry
        last = element (plain crc2-name) (8 * K.bytes - 16) 16 K.value

        C : Checked s K.bytes
        C = checked s K.bytes (omega (arith, long)) K.held

        elsewhere : (b : ℕ) → Off last.field b → bit_at y b ≡ bit_at s b
        elsewhere b (inl h) = C.before b (omega arith) h
        elsewhere b (inr h) = C.behind (suc b) b (omega (arith, long)) (omega arith)

    -- there is a last record
    pub some-record : 1 ≤ count c
    some-record = let q = counts c in let l = ap (λ (es : List Entry). length es) K.last in omega (arith, length-append K.before (element (plain eac3.names.crc2) (8 * K.bytes - 16) 16 K.value ∷ []))

    module _ (i : ℕ) (E : At (outcome c).records i (nth c i)) (w : 0 < width_of (nth c i).name) where
      name-is : E.entry.field.name ≡ (nth c i).name
      name-is = ap (λ (f : Field). f.name) E.field

      first-is : E.entry.field.first ≡ (nth c i).first
      first-is = ap (λ (f : Field). f.first) E.field

      named : 0 < width_of E.entry.field.name
      named = rw name-is w

      width_is : E.entry.field.width ≡ width_of (nth c i).name
      width_is =
          all-at Wide (outcome c).records i E.entry (subst (λ (o : Outcome State). All Wide o.records) (sym whole) (word-widths s)) E.there (λ q. omega (arith, named))
          ∙ ap width_of name-is

      -- it ends before crc2
      early : end E.entry.field ≤ 8 * K.bytes - 16
      unfolding eac3
      early = closes-other eac3 K i E.entry E.there (λ q. omega (arith, named, check-none, ap width_of q))

      pub in-front : (nth c i).first + width_of (nth c i).name + 16 ≤ 8 * c.answer.frame.bytes.0
      in-front = omega (arith, early, first-is, width_is, long, bytes-is)

      -- the word is set to v
      pub word-called : (v : ℕ) → v < 2 ^ width_of (nth c i).name → Called (with_word s (nth c i).first (width_of (nth c i).name) v) c.lent c.answer (patched i v c.left)
      word-called v fit =
          over-called i E.entry y v E.there (word-free E.entry.field.name named) W.size (λ b o. sym (elsewhere b o))
          (ap₂ (λ (p w : ℕ). bits_at y p w) first-is width_is ∙ W.value)
        where
          y : List ℕ
          y = with_word s (nth c i).first (width_of (nth c i).name) v

          W : Written s (nth c i).first (width_of (nth c i).name) v
          W = written s (nth c i).first (width_of (nth c i).name) v (width-most (nth c i).name) fit (omega (arith, in-front, bytes-is, K.held))

          elsewhere : (b : ℕ) → Off E.entry.field b → bit_at y b ≡ bit_at s b
          elsewhere b (inl h) = W.before b (omega arith) (omega (arith, first-is))
          elsewhere b (inr h) = W.behind (suc b) b (omega (arith, first-is, width_is)) (omega arith)
