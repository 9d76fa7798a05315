-- Recorded and stored. Assumes nothing.
use Prim.Native.Nat.{ℕ}
use mathlib.Core.Path.{◌≡◌, refl, sym, ap, ◌∙◌}
use mathlib.Core.List.{List}
use Rattle.std.specs.Prelude.{Ok, Err}
use Rattle.reading.specs.Run.{Field, field_of, accepted}
use Rattle.reading.specs.Room.{Room, Out, got}
use Rattle.reading.proofs.Rooms.{◌then◌}
use Rattle.syntax.specs.Cursors.{Progress}
use Rattle.syntax.specs.Records.{outcome, keep_of}
use Rattle.syntax.specs.declared.Cursor.{Cursor}
use Rattle.syntax.specs.declared.Stopped.{Stopped}
use Rattle.syntax.proofs.Recording.{keep-then, on, off}
use Rattle.refusals.specs.declared.Refused.{Refused}
use Rattle.slots.specs.Held.{Bins}
use Rattle.cells.specs.Cells.{State, state, put_in, place_of, stored, part_of}
use Rattle.rows.specs.Rows.{name_in, index_in, keep_in}
use Rattle.recording.specs.Recorded.{recorded, Keeps}
use Rattle.recording.specs.declared.Look.{Look}

-- a refusal stands
pub keeps-refused : (w : ℕ) (cells : List ℕ) (p q : ℕ) (m : Room) (e : Refused) → Keeps w (Err e) cells p q m (Err (record { refusal = e.refusal; at = e.place; count = q })) cells m
keeps-refused w cells p q m e = record { is = λ b. refl }

module _ (w : ℕ) (cells : List ℕ) (p q : ℕ) (m : Room) (x : Look) where
  abbrev pub field : Field
  field = field_of (part_of (name_in w) (index_in w) cells) p x.width x.value

  abbrev stores : Bins → ℕ → ℕ → Room → Out State
  stores b p n m = got (accepted (stored (state cells b) (place_of (keep_in w) cells) x.stored)) p n m

  module _ (r : Progress) (mu : Room) (e : outcome r x.value mu ≡ keep_of field x.place.0 q m) where
    after : (b : Bins) → recorded w x (state cells b) p q m ≡ (outcome r x.value mu then (λ _ p n m. stores b p n m))
    after b = keep-then m q field x.place.0 (stores b) ∙ ap (λ (o : Out ℕ). o then (λ _ p n m. stores b p n m)) (sym e)

    pub keeps-full : (v : Stopped) → r ≡ Err v → Keeps w (Ok x) cells p q m (Err v) cells mu
    keeps-full v h = record { is = λ b. sym (after b ∙ ap (λ (y : Progress). outcome y x.value mu then (λ _ p n m. stores b p n m)) h ∙ off x.value mu (λ _ p n m. stores b p n m) v) }

    pub keeps-made : (c : Cursor) → r ≡ Ok c → (k : ℕ) → k ≡ place_of (keep_in w) cells → (y : List ℕ) → y ≡ put_in cells k x.stored → Keeps w (Ok x) cells p q m (Ok c) y mu
    keeps-made c h k ek y ey = record {
      is = λ b. rw (ey, ek) refl ∙ sym (after b ∙ ap (λ (y : Progress). outcome y x.value mu then (λ _ p n m. stores b p n m)) h ∙ on x.value mu (λ _ p n m. stores b p n m) c);
    }
