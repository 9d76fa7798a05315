-- Each way that a read returns, as a law about its definition. Assumes nothing.
use Prim.Native.Nat.{ℕ, ◌+◌, ◌*◌, ◌≤◌, ◌<◌}
use mathlib.Core.Bool.{Bool, true, false}
use mathlib.Core.Path.{◌≡◌, sym, ◌∙◌}
use mathlib.Core.List.{List, []}
use native.Mathlib.Omega.{arith}
use lib.Dec.{leb, ltb}
use lib.ListN.{length}
use borrow.Author.Tests.{le-leb, lt-leb, ltb-true, ltb-false}
use Rattle.bits.specs.Bits.{bits_at, get_of}
use Rattle.bits.proofs.BitLaws.{get_in}
use Rattle.reading.specs.Tree.{Part}
use Rattle.reading.specs.Run.{field_of, accepted, refused, out, skim}
use Rattle.reading.specs.Room.{Room, got, exec}
use Rattle.syntax.specs.Records.{keep_of}
use Rattle.reads.specs.Reads.{read_of, span_of, raw_of}

-- w bits at the place p, which pass the limit or not
module _ (s : List ℕ) (l w p : ℕ) (b : Bool) (eb : b ≡ ltb l (p + w)) where
  over : b ≡ true → leb (p + w) l ≡ false
  over h = let c : l < p + w = ltb-true _ _ (sym eb ∙ h) in lt-leb _ _ c

  under : b ≡ false → leb (p + w) l ≡ true
  under h = let c : p + w ≤ l = ltb-false _ _ (sym eb ∙ h) in le-leb _ _ c

  module _ (h : b ≡ true) where
    pub read-past : (q : Part) (n : ℕ) (m : Room) → got (refused 8) p n m ≡ read_of s l q w p n m
    unfolding exec
    read-past q n m = rw (over h)

    pub span-past : (q : Part) (n : ℕ) (m : Room) → got (refused 8) p n m ≡ span_of s l q w p n m
    unfolding exec
    span-past q n m = rw (over h)

    pub raw-past : out (refused 8) p [] ≡ raw_of s l w p
    unfolding skim
    raw-past = rw (over h)

  module _ (h : b ≡ false) where
    pub span-in : (q : Part) (n : ℕ) (m : Room) → keep_of (field_of q p w 0) (p + w) n m ≡ span_of s l q w p n m
    unfolding exec
    span-in q n m = rw (under h)

    module _ (small : w ≤ 32) (ends : l ≤ 8 * length s) (v : ℕ) (ev : v ≡ get_of s p w) where
      value : bits_at s p w ≡ v
      value = let c : p + w ≤ l = ltb-false _ _ (sym eb ∙ h) in sym (ev ∙ get_in s p w small (omega arith))

      pub read-in : (q : Part) (n : ℕ) (m : Room) → keep_of (field_of q p w v) (p + w) n m ≡ read_of s l q w p n m
      unfolding exec
      read-in q n m = rw (under h, value)

      pub raw-in : out (accepted v) (p + w) [] ≡ raw_of s l w p
      unfolding skim
      raw-in = rw (under h, value)
