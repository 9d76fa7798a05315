-- A reading of 6 bytes or more without the sync word leaves nothing behind the next such reading; one of fewer leaves nothing. Assumes nothing.
use mathlib.Core.Path.{◌≡◌, refl, sym, ap, ◌∙◌}
use mathlib.Core.List.{List, [], ◌∷◌}
use Prim.Native.Nat.{ℕ, ◌+◌, ◌-◌, ◌≤◌, ◌<◌}
use native.Mathlib.Omega.{arith}
use lib.ListN.{length, length-set}
use lib.Seq.{set-set}
use borrow.Author.Tests.{le-leb, lt-leb}
use Rattle.bits.specs.Bits.{bits_at}
use Rattle.reading.specs.Tree.{Part, Tree, read, ◌>>=◌}
use Rattle.reading.specs.Run.{Field, Entry, field_of, refused, Outcome, after}
use Rattle.reading.specs.Frame.{plain, header_by, seen, headed, sized, parse}
use Rattle.reading.specs.Room.{Room, size, pushed, fill, cut, Out, got, into, exec}
use Rattle.reading.proofs.Rooms.{go_on, ◌then◌, exec-is, into-after}
use Rattle.names.specs.Names.{syncword}
use Rattle.cells.specs.Cells.{State}
use Rattle.rows.specs.Syntax.{meaning, item}
use Rattle.annex.specs.Syncinfo.{syncinfo}
use Rattle.annex.specs.Frame.{eac3}
use Rattle.answer.specs.Answer.{answer_by, answer_of}
use Rattle.eac3.specs.Called.{answered}
use Rattle.opening.proofs.Openings.{word-refused}

-- a record over another
size-pushed : (m : Room) (n : ℕ) (f : Field) → size (pushed m n f) ≡ size m
unfolding size pushed
size-pushed m n f = simp length-set

pushed-again : (m : Room) (n : ℕ) (f g : Field) → pushed (pushed m n f) n g ≡ pushed m n g
unfolding pushed
pushed-again m n f g = simp set-set

size-fill : (es : List Entry) (m : Room) (n : ℕ) → size (fill m n es) ≡ size m
unfolding fill
size-fill [] m n = refl
size-fill (e ∷ es) m n = size-fill es (pushed m n e.field) (n + 1) ∙ size-pushed m n e.field

-- a tree that begins with an element is the same over a record in the element's place
read-over : {A : Type 0} (s : List ℕ) (q : Part) (w : ℕ) (k : ℕ → Tree A) (l p n : ℕ) (m : Room) (f : Field) → p + w ≤ l → n < size m
    → exec s l (read q w k) p n (pushed m n f) ≡ exec s l (read q w k) p n m
unfolding exec
read-over s q w k l p n m f h u = rw (le-leb (p + w) l h, size-pushed m n f, lt-leb (size m) n u, pushed-again m n f (field_of q p w (bits_at s p w))) refl

-- 6 bytes or more are the header, and what follows it
header-first : (s : List ℕ) → 6 ≤ length s → parse eac3 s ≡ after (headed eac3 s) (sized eac3 s)
unfolding parse
header-first s h = rw (le-leb 6 (length s) h) refl

-- a header without the sync word, where there is room for its record
word-only : (s : List ℕ) (m : Room) → 1 ≤ size m → ¬ (bits_at s 0 16 ≡ 0x0B77)
    → exec s 48 (header_by eac3 (seen eac3 s)) 0 0 m ≡ got (refused 2) 16 1 (pushed m 0 (field_of (plain syncword) 0 16 (bits_at s 0 16)))
word-only s m h other = word-refused s m (bits_at s 0 16) refl other ∙ rw (lt-leb (size m) 0 h) refl

module _ (s : List ℕ) where
  -- the room keeps its size, and what is answered goes by it alone
  pub size-left : (m : Room) → size (answered s m).left ≡ size m
  size-left m = size-fill (cut (size m) (parse eac3 s)).records m 0

  pub same-result : (m m' : Room) → size m ≡ size m' → (answered s m).result ≡ (answered s m').result
  same-result m m' e = ap (λ n. (cut n (parse eac3 s)).result) e

  pub same_answer : (m m' : Room) → size m ≡ size m' → answer_of (answered s m) ≡ answer_of (answered s m')
  unfolding answer_of
  same_answer m m' e = ap (λ n. answer_by (cut n (parse eac3 s)).result (cut n (parse eac3 s)).place (0 + length (cut n (parse eac3 s)).records)) e

  -- fewer than 6 bytes: refusal 1, without a record
  pub short : (m : Room) → length s < 6 → answered s m ≡ got (refused 1) 0 0 m
  unfolding parse cut fill
  short m h = rw (lt-leb 6 (length s) h) refl

  module _ (long : 6 ≤ length s) where
    -- otherwise the header, and what follows it
    abbrev sized_in : State → ℕ → ℕ → Room → Out State
    sized_in a p i r = into i r (cut (size r - i) (sized eac3 s a p))

    by-header : (m : Room) → answered s m ≡ (exec s 48 (header_by eac3 (seen eac3 s)) 0 0 m then sized_in)
    by-header m =
        let z : size m ≡ size m - 0 = omega arith in
        ap (λ n. into 0 m (cut n (parse eac3 s))) z
        ∙ ap (λ (o : Outcome State). into 0 m (cut (size m - 0) o)) (header-first s long)
        ∙ into-after (headed eac3 s) (sized eac3 s) 0 m
        ∙ ap (λ (o : Out State). o then sized_in) (sym (exec-is s 48 (header_by eac3 (seen eac3 s)) 0 0 m))

    -- without the sync word: refusal 2, with the word's record
    pub unsynced : (m : Room) → 1 ≤ size m → ¬ (bits_at s 0 16 ≡ 0x0B77) → answered s m ≡ got (refused 2) 16 1 (pushed m 0 (field_of (plain syncword) 0 16 (bits_at s 0 16)))
    unfolding go_on
    unsynced m h other = by-header m ∙ ap (λ (o : Out State). o then sized_in) (word-only s m h other)

    header-over : (m : Room) (f : Field) → 1 ≤ size m → exec s 48 (header_by eac3 (seen eac3 s)) 0 0 (pushed m 0 f) ≡ exec s 48 (header_by eac3 (seen eac3 s)) 0 0 m
    unfolding header_by eac3 syncinfo meaning item ◌>>=◌
    header-over m f h = read-over s _ 16 _ 48 0 0 m f (omega arith) h

    -- the next reading writes over the first record
    pub over : (m : Room) (f : Field) → 1 ≤ size m → answered s (pushed m 0 f) ≡ answered s m
    over m f h = by-header (pushed m 0 f) ∙ ap (λ (o : Out State). o then sized_in) (header-over m f h) ∙ sym (by-header m)
