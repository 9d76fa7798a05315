-- The header: its size is the one that the buffer announces, it ends at bit 32, and an accepted one is read by all its items. Assumes nothing.
use mathlib.Core.Path.{◌≡◌, refl, ap, sym, ◌∙◌, subst}
use mathlib.Core.Bool.{true}
use mathlib.Core.List.{List}
use Prim.Native.Nat.{ℕ, ◌+◌, ◌*◌, ◌%◌, ◌<◌}
use native.Mathlib.Omega.{arith}
use Rattle.bits.specs.Bits.{bits_at}
use Rattle.bits.proofs.BitLaws.{bits_at-lt}
use Rattle.reading.specs.Run.{accepted, Outcome, run}
use Rattle.reading.specs.Frame.{header_by, seen, headed, Announces}
use Rattle.reading.specs.CommonReading.{CommonReading}
use Rattle.reading.proofs.Laws.{Ok}
use Rattle.reading.proofs.Heads.{clear, good_of}
use Rattle.reading.proofs.Theorem.{common-reading}
use Rattle.cells.specs.Cells.{State, cell_of, put_in}
use Rattle.cells.specs.Names.{FRMSIZ}
use Rattle.rows.specs.Syntax.{◌⧺◌, meaning}
use Rattle.rows.proofs.Blocks.{meaning-append}
use Rattle.annex.specs.Syncinfo.{syncinfo, bsi_size}
use Rattle.annex.specs.Annex.{header}
use Rattle.annex.specs.Frame.{start, eac3}
use Rattle.annex.proofs.Gives.{Gives, gives-next, gives-element, gives-reject, gives-end}

-- with a good bsid the header is the meaning of its items
pub header_of : (v : ℕ) → eac3.look.good v ≡ true → header_by eac3 v ≡ meaning header start
unfolding eac3 header
header_of v e = clear eac3 v e ∙ sym (meaning-append syncinfo bsi_size start)

-- an accepted header is one with a good bsid
pub headed-good : (s : List ℕ) (h : State) → (headed eac3 s).result ≡ accepted h → eac3.look.good (seen eac3 s) ≡ true
headed-good s h e = good_of eac3 s (seen eac3 s) (subst Ok (sym e) tt)

pub headed_is : (s : List ℕ) (h : State) → (headed eac3 s).result ≡ accepted h → headed eac3 s ≡ run (meaning header start) s 0 48
headed_is s h e = ap (λ t. run t s 0 48) (header_of (seen eac3 s) (headed-good s h e))

pub headed-gives : (s : List ℕ) (h : State) → (headed eac3 s).result ≡ accepted h → (run (meaning header start) s 0 48).result ≡ accepted h
headed-gives s h e = ap (λ (o : Outcome State). o.result) (sym (headed_is s h e)) ∙ e

-- where the header ends, and the size that it gives
pub record Sized (b : List ℕ) (h : State) (e : ℕ) : Type 0 where
  pub size : cell_of h.cells FRMSIZ ≡ bits_at b 21 11
  pub ends : e ≡ 32

module _ (b : List ℕ) where
  small : bits_at b 21 11 % 65536 ≡ bits_at b 21 11
  small = let h : bits_at b 21 11 < 2048 = bits_at-lt b 21 11 in omega arith

  pub sized-is : Gives b 48 (meaning header start) 0 (Sized b)
  unfolding header syncinfo bsi_size ◌⧺◌ start cell_of put_in
  sized-is =
      gives-next b 48 _ _ _ _ _ _ (gives-element b 48 _ _ _ _ _ _)
      (gives-next b 48 _ _ _ _ _ _ (gives-reject b 48 _ _ _ _)
      (gives-next b 48 _ _ _ _ _ _ (gives-element b 48 _ _ _ _ _ _)
      (gives-next b 48 _ _ _ _ _ _ (gives-element b 48 _ _ _ _ _ _)
      (gives-next b 48 _ _ _ _ _ _ (gives-element b 48 _ _ _ _ _ _)
      (gives-next b 48 _ _ _ _ _ _ (gives-reject b 48 _ _ _ _)
      (gives-end b 48 _ _ _ (record { size = small; ends = refl })))))))

pub tells : Announces eac3
unfolding eac3
tells b h e = ap (λ n. 2 * (n + 1)) ((sized-is b).gives h (headed-gives b h e)).size

-- demand 3 of the definition: the common-reading theorem, of E-AC-3
pub eac3-common-reading : CommonReading eac3
eac3-common-reading = common-reading eac3 tells
