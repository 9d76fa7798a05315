-- What the writing functions ask. Of a frame of b bytes with n records, one or more: it lies in the slices, and each of its words before crc2.
use Rattle.std.specs.Prelude.{ℕ, ◌+◌, ◌*◌, ◌/◌, ◌^◌, ◌≤◌, ◌<◌, List, length, get_or}
use Rattle.words.specs.Words.{width_of}

pub record Listed (long : ℕ) (names firsts : List ℕ) (room b n : ℕ) : Type 0 where
  pub six : 6 ≤ b
  pub most : b ≤ 4096
  pub whole : b ≤ long
  pub some : 1 ≤ n
  pub named : n ≤ length names
  pub placed : n ≤ length firsts
  pub valued : n ≤ room
  pub words : (i : ℕ) → i < n → 0 < width_of (get_or names i 0) → get_or firsts i 0 + width_of (get_or names i 0) + 16 ≤ 8 * b

-- and of the first items: each is a word that lies in the slices, with a value of its bits
pub record Item (long : ℕ) (names firsts : List ℕ) (room i v : ℕ) : Type 0 where
  pub named : i < length names
  pub placed : i < length firsts
  pub valued : i < room
  pub word : 0 < width_of (get_or names i 0)
  pub value : v < 2 ^ width_of (get_or names i 0)
  pub place : get_or firsts i 0 + width_of (get_or names i 0) < 65536
  pub whole : get_or firsts i 0 / 8 + 1 < long

pub record Settable (long : ℕ) (names firsts : List ℕ) (room : ℕ) (places words : List ℕ) (items : ℕ) : Type 0 where
  pub places_held : items ≤ length places
  pub words_held : items ≤ length words
  pub each : (t : ℕ) → t < items → Item long names firsts room (get_or places t 0) (get_or words t 0)
