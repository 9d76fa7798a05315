-- The first word and bsid, as the definition's header has them. Assumes nothing.
use mathlib.Core.Path.{◌≡◌, refl, ap, sym, ◌∙◌}
use mathlib.Core.Bool.{Bool, true, false, cond, not, ◌&&◌, true≢false}
use mathlib.Core.List.{List}
use Prim.Native.Nat.{ℕ, ◌+◌, ◌%◌, ◌≤◌, ◌<◌}
use native.Mathlib.Omega.{arith}
use lib.Dec.{leb, eqb}
use lib.ListN.{length}
use borrow.Author.Tests.{le-leb, lt-leb, eq-eqb, ne_eqb}
use Rattle.bits.specs.Bits.{bits_at}
use Rattle.bits.proofs.BitLaws.{bits_at-lt}
use Rattle.reading.specs.Tree.{Tree, ◌>>=◌}
use Rattle.reading.specs.Run.{Field, field_of, accepted, refused}
use Rattle.reading.specs.Frame.{plain, header_by, seen}
use Rattle.reading.specs.Room.{Room, size, pushed, Out, got, record_in, exec}
use Rattle.reading.proofs.Heads.{barrier, barred}
use Rattle.reading.proofs.Rooms.{go_on, ◌then◌}
use Rattle.std.specs.Prelude.{Ok, Err, is_ok}
use Rattle.refusals.specs.Refusals.{number_of}
use Rattle.refusals.specs.declared.Refusal.{Refusal}
use Rattle.refusals.specs.declared.Refusal.TheVariants.{ShortSlice}
use Rattle.syntax.specs.Cursors.{Progress}
use Rattle.syntax.specs.Records.{outcome, keep_of}
use Rattle.syntax.specs.declared.Cursor.{Cursor}
use Rattle.syntax.specs.declared.Stopped.{Stopped}
use Rattle.syntax.proofs.Recording.{keep-then, on, off}
use native.Mathlib.Decide.{ℕ_discrete}
use Rattle.names.specs.Names.{syncword}
use Rattle.slots.proofs.Tests.{both}
use Rattle.cells.specs.Cells.{State, Addr, Sum, cell_of, put_in, stored, place_of, part_of}
use Rattle.rows.specs.Syntax.{Cond, holds_of, end, ◌⨾◌, element, reject, item, meaning}
use Rattle.annex.specs.Syncinfo.{syncinfo}
use Rattle.annex.specs.Frame.{start, eac3}
use Rattle.opening.specs.Opened.{Begun, Opened}

-- a record at the count n, and then the refusal k at the place next
abbrev refused_after : Field → ℕ → ℕ → ℕ → Room → Out State
refused_after f k next n m = record_in f n m (λ i r. got (refused k) next i r)

-- an element, an item that may refuse it, and what follows
module _ (s : List ℕ) (l name : ℕ) (i : Sum) (w : ℕ) (a : Addr) (c : Cond) (k : ℕ) (f : State → Tree State) (st : State) (p n : ℕ) (m : Room) (h : p + w ≤ l) where
  element-refused : holds_of c (stored st (place_of a st.cells) (bits_at s p w)).cells ≡ true
      → exec s l (meaning (element name i w a ⨾ reject c k ⨾ end) st >>= f) p n m ≡ refused_after (field_of (part_of name i st.cells) p w (bits_at s p w)) k (p + w) n m
  unfolding exec meaning item ◌>>=◌
  element-refused e = rw (le-leb _ _ h, e) refl

  element-kept : holds_of c (stored st (place_of a st.cells) (bits_at s p w)).cells ≡ false
      → exec s l (meaning (element name i w a ⨾ reject c k ⨾ end) st >>= f) p n m
      ≡ record_in (field_of (part_of name i st.cells) p w (bits_at s p w)) n m (λ j r. exec s l (f (stored st (place_of a st.cells) (bits_at s p w))) (p + w) j r)
  unfolding exec meaning item ◌>>=◌
  element-kept e = rw (le-leb _ _ h, e) refl

-- the refusal k after a record that is in the room or found none
module _ (f : Field) (k place next n : ℕ) (m : Room) (r : Progress) (mu : Room) (st : State) (e : outcome r f.value mu ≡ keep_of f next n m) where
  abbrev refuses : ℕ → ℕ → Room → Out State
  refuses p i r = got (refused k) place i r

  after : refused_after f k place n m ≡ (outcome r f.value mu then (λ _ p i r. refuses p i r))
  after = keep-then m n f next refuses ∙ ap (λ (o : Out ℕ). o then (λ _ p i r. refuses p i r)) (sym e)

  refused-kept : (c : Cursor) → r ≡ Ok c → got (refused k) place c.count mu ≡ refused_after f k place n m
  refused-kept c h = sym (after ∙ ap (λ (x : Progress). outcome x f.value mu then (λ _ p i r. refuses p i r)) h ∙ on f.value mu (λ _ p i r. refuses p i r) c)

  refused-full : (x : Stopped) → r ≡ Err x → got (refused (number_of x.refusal)) x.at.0 x.count mu ≡ refused_after f k place n m
  refused-full x h = sym (after ∙ ap (λ (y : Progress). outcome y f.value mu then (λ _ p i r. refuses p i r)) h ∙ off f.value mu (λ _ p i r. refuses p i r) x)

-- the entry's test of the word w and of bsid, with 11 passed and not passed
pub high-bsid : (w v b : ℕ) → v ≡ b → w ≡ 0x0B77 → 11 ≤ v → leb v 16 ≡ (eqb w 0x0B77 && (leb 11 b && leb b 16))
high-bsid w v b e h k = rw (eq-eqb w 0x0B77 h, ← e, le-leb 11 v k) refl

pub low-bsid : (w v b : ℕ) → v ≡ b → w ≡ 0x0B77 → v < 11 → leb 11 v ≡ (eqb w 0x0B77 && (leb 11 b && leb b 16))
low-bsid w v b e h k = rw (eq-eqb w 0x0B77 h, ← e, lt-leb 11 v k) refl

-- what it tells of bsid
pub good-bsid : (r : Bool) (v : ℕ) (g : Bool) → r ≡ (eqb v 0x0B77 && g) → r ≡ true → g ≡ true
good-bsid r v g e f = (both (eqb v 0x0B77) g (sym e ∙ f)).1

pub other-bsid : (r : Bool) (v : ℕ) (g : Bool) → r ≡ (eqb v 0x0B77 && g) → r ≡ false → v ≡ 0x0B77 → g ≡ false
other-bsid r v g e f h = rw (eq-eqb v 0x0B77 h) at (sym e ∙ f)

-- a slice that is refused by its first word, or by its bsid: the header records the word
module _ (s : List ℕ) (m : Room) (v : ℕ) (ev : v ≡ bits_at s 0 16) where
  abbrev word : ℕ → Field
  word x = field_of (plain syncword) 0 16 x

  tested : bits_at s 0 16 % 65536 ≡ v
  tested = let h : bits_at s 0 16 < 65536 = bits_at-lt s 0 16 in omega arith

  pub word-refused : ¬ (v ≡ 0x0B77) → exec s 48 (header_by eac3 (seen eac3 s)) 0 0 m ≡ refused_after (word v) 2 16 0 m
  unfolding header_by eac3 syncinfo start cell_of put_in
  word-refused other =
      let d : not (eqb (bits_at s 0 16 % 65536) 0x0B77) ≡ true = rw (tested, ne_eqb v 0x0B77 other) refl in
      element-refused s 48 _ _ _ _ _ _ _ start 0 0 m (omega arith) d ∙ ap (λ x. refused_after (word x) 2 16 0 m) (sym ev)

  pub bsid-refused : v ≡ 0x0B77 → eac3.look.good (seen eac3 s) ≡ false → exec s 48 (header_by eac3 (seen eac3 s)) 0 0 m ≡ refused_after (word v) 6 45 0 m
  unfolding eac3 syncinfo start cell_of put_in exec
  bsid-refused sync bad =
      let d : not (eqb (bits_at s 0 16 % 65536) 0x0B77) ≡ false = rw (tested, sync) refl in
      rw (barred eac3 (seen eac3 s) bad)
      (element-kept s 48 _ _ _ _ _ _ (barrier eac3) start 0 0 m (omega arith) d ∙ ap (λ x. refused_after (word x) 6 45 0 m) (sym ev))

  -- a slice whose word is kept, or finds no room, is refused
  abbrev pub Refuses : Type 0
  Refuses = (k : ℕ) × (p : ℕ) × (exec s 48 (header_by eac3 (seen eac3 s)) 0 0 m ≡ refused_after (word v) k p 0 m)

  pub refuses-one : (g : Bool) → (eac3.look.good (seen eac3 s) ≡ g) → (b : Bool) → b ≡ (eqb v 0x0B77 && g) → b ≡ false → Refuses
  refuses-one g eg b e h = by (ℕ_discrete v 0x0B77)
    where
      by : Dec (v ≡ 0x0B77) → Refuses
      by (yes y) = (6, 45, bsid-refused y (eg ∙ other-bsid b v g e h y))
      by (no n) = (2, 16, word-refused n)

  module _ (mu : Room) (long : 6 ≤ length s) (r : Progress) (e : outcome r v mu ≡ keep_of (word v) 16 0 m) where
    stops-so : (x : Stopped) → got (refused (number_of x.refusal)) x.at.0 x.count mu ≡ exec s 48 (header_by eac3 (seen eac3 s)) 0 0 m → Opened s m (Err x) mu
    stops-so x q = record {
      goes = λ c h. absurd (true≢false (sym (ap is_ok h)));
      short = λ y. absurd (let z : ⊥ = omega arith in z);
      stops = λ _ _ _. q;
    }

    -- the ways in which a frame is opened
    pub opened-full : Refuses → (x : Stopped) → r ≡ Err x → Opened s m (Err x) mu
    opened-full h x q = stops-so x (refused-full (word v) h.0 h.1 16 0 m r mu start e x q ∙ sym h.2)

    pub opened-refused : (k : Refusal) (p : ℕ) → exec s 48 (header_by eac3 (seen eac3 s)) 0 0 m ≡ refused_after (word v) (number_of k) p 0 m → (c : Cursor) → r ≡ Ok c
        → Opened s m (Err (record { refusal = k; at = record { 0 = p }; count = c.count })) mu
    opened-refused k p h c q = stops-so (record { refusal = k; at = record { 0 = p }; count = c.count }) (refused-kept (word v) (number_of k) p 16 0 m r mu start e c q ∙ sym h)

pub opened-short : (s : List ℕ) (m : Room) (x : Stopped) → length s < 6 → x ≡ record { refusal = ShortSlice; at = record { 0 = 0 }; count = 0 } → Opened s m (Err x) m
opened-short s m x h e = record {
  goes = λ c y. absurd (true≢false (sym (ap is_ok y)));
  short = λ _. record { is = ap Err e; left = refl };
  stops = λ _ _ y. absurd (let z : ⊥ = omega arith in z);
}

pub opened-on : (s : List ℕ) (m : Room) (c : Cursor) → Begun s → Opened s m (Ok c) m
opened-on s m c b =
    let l : 6 ≤ length s = b.long in
    record {
      goes = λ _ _. record { begun = b; left = refl };
      short = λ y. absurd (let z : ⊥ = omega arith in z);
      stops = λ _ y _. absurd (true≢false (ap is_ok y));
    }
