-- What is kept of the last allocation of each slot, in words.
use Rattle.std.specs.Prelude.{◌≡◌, Bool, true, false, cond, List, ℕ, ◌+◌, ◌*◌, ◌<◌, ◌≤◌, ltb, length, get_or, set}
use Rattle.kept.specs.declared.Source.{Source}

-- six words for each of seven slots: the arguments, and the tally of the pointers
abbrev pub source_at : List ℕ → ℕ → Source
source_at memo slot =
    record {
      own = get_or memo (6 * slot) 0;
      common = get_or memo (6 * slot + 1) 0;
      offset = get_or memo (6 * slot + 2) 0;
      len = get_or memo (6 * slot + 3) 0;
      ba = get_or memo (6 * slot + 4) 0;
    }

-- a slot made stale
unfoldable pub stale_of : List ℕ → ℕ → List ℕ
stale_of memo slot = cond (ltb slot 7) (set memo (6 * slot) 0) memo

-- t holds where what is kept of a slot is this, or where the slot is not asked for
pub record Kept (t : Bool) (memo : List ℕ) (slot : ℕ) (s : Source) : Type 0 where
  pub same : t ≡ true → 0 < s.own → source_at memo slot ≡ s
  pub asked : t ≡ false → 0 < s.own

-- this and a tally are kept of one slot, the others as they were
pub record Noted (old new : List ℕ) (slot : ℕ) (s : Source) (t : ℕ) : Type 0 where
  pub size : length new ≡ length old
  pub source : source_at new slot ≡ s
  pub tally : get_or new (6 * slot + 5) 0 ≡ t
  pub before : (k : ℕ) → k < 6 * slot → get_or new k 0 ≡ get_or old k 0
  pub after : (k : ℕ) → 6 * slot + 6 ≤ k → get_or new k 0 ≡ get_or old k 0
