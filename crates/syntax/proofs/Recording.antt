-- The recording leaf: what becomes of a record in a room. Assumes nothing.
use Prim.Native.Nat.{ℕ, ◌+◌, ◌≤◌, ◌<◌}
use mathlib.Core.Bool.{Bool, true, false, cond}
use mathlib.Core.Path.{◌≡◌, refl, ap, ap₂, ◌∙◌}
use lib.Dec.{leb}
use lib.IntN.{ℤ}
use mir.Val.{SFits, to_z, of_z}
use mir.Syntax.{w8, w16}
use mir.Facts.{to_z-of_z}
use borrow.Author.Tests.{le-leb, lt-leb}
use Rattle.std.specs.Prelude.{Option, Some, None, Ok, Err}
use Rattle.refusals.specs.Refusals.{number_of}
use Rattle.reading.specs.Run.{Field, field_of, refused, accepted}
use Rattle.reading.specs.Room.{Room, Out, size, pushed, got, record_in}
use Rattle.reading.proofs.Rooms.{go_on, ◌then◌}
use Rattle.syntax.specs.Records.{part, outcome, Recorded, recorded, record_of, keep_of}
use Rattle.syntax.specs.declared.Cursor.{Cursor}
use Rattle.syntax.specs.declared.Stopped.{Stopped}

-- a record's block and index, handed on as the bits of an i8 and an i16
pub signed : {b i : ℤ} → SFits w8 b → SFits w16 i → (name p w v : ℕ) → field_of (part name (to_z w8 (of_z w8 b)) (to_z w16 (of_z w16 i))) p w v ≡ field_of (part name b i) p w v
signed hb hi name p w v = ap₂ (λ x y. field_of (part name x y) p w v) (to_z-of_z hb) (to_z-of_z hi)

module _ (m : Room) (n : ℕ) (f : Field) where
  pub record-full : size m ≤ n → recorded None m ≡ record_of m n f
  unfolding record_of
  record-full h = rw (le-leb _ _ h)

  pub record-made : n < size m → recorded (Some (n + 1)) (pushed m n f) ≡ record_of m n f
  unfolding record_of
  record-made h = rw (lt-leb _ _ h)

module _ (m : Room) (n : ℕ) (f : Field) (next : ℕ) where
  -- the reading goes on with the new count, or is refused
  abbrev pub goes : Option ℕ → Room → Out ℕ
  goes (Some k) m' = got (accepted f.value) next k m'
  goes None m' = got (refused 33) f.first n m'

  kept : goes (record_of m n f).count (record_of m n f).left ≡ keep_of f next n m
  unfolding record_of
  kept = go (leb (size m) n)
    where
      go : (b : Bool) → (let o = cond b (recorded None m) (recorded (Some (n + 1)) (pushed m n f)) in goes o.count o.left) ≡ cond b (got (refused 33) f.first n m) (got (accepted f.value) next (n + 1) (pushed m n f))
      go true = refl
      go false = refl

  pub keep-by : (r : Option ℕ) (m' : Room) → recorded r m' ≡ record_of m n f → goes r m' ≡ keep_of f next n m
  keep-by r m' e = ap (λ (o : Recorded). goes o.count o.left) e ∙ kept

  -- and what follows it
  pub keep-then : {A : Type 0} (k : ℕ → ℕ → Room → Out A) → record_in f n m (λ n m. k next n m) ≡ (keep_of f next n m then (λ _ p n m. k p n m))
  unfolding go_on
  keep-then k = go (leb (size m) n)
    where
      go : (b : Bool) → cond b (got (refused 33) f.first n m) (k next (n + 1) (pushed m n f)) ≡ (cond b (got (refused 33) f.first n m) (got (accepted f.value) next (n + 1) (pushed m n f)) then (λ _ p n m. k p n m))
      go true = refl
      go false = refl

-- what follows a reading that goes on, and one that was stopped
module _ {A B : Type 0} (a : A) (m : Room) (f : A → ℕ → ℕ → Room → Out B) where
  pub on : (c : Cursor) → (outcome (Ok c) a m then f) ≡ f a c.at.0 c.count m
  unfolding go_on
  on c = refl

  pub off : (e : Stopped) → (outcome (Err e) a m then f) ≡ got (refused (number_of e.refusal)) e.at.0 e.count m
  unfolding go_on
  off e = refl
