-- How wide the elements of some names are, in every reading: what the pages say. Assumes nothing.
use mathlib.Core.Path.{◌≡◌, refl}
use mathlib.Core.Bool.{Bool, true, false, ◌||◌}
use mathlib.Core.List.{List}
use mathlib.Core.Logic.{◌⊎◌, inl, inr}
use Prim.Native.Nat.{ℕ, ◌*◌}
use lib.Dec.{leb, eqb}
use lib.ListN.{length}
use borrow.Author.Tests.{eqb-true}
use Rattle.bits.specs.Bits.{bits_at}
use Rattle.reading.specs.Run.{Entry, Result, accepted, refused, Outcome, and_then, after, run}
use Rattle.reading.specs.Records.{All}
use Rattle.reading.specs.Frame.{seen, header_by, headed, auxdatae_at, tail, finish, framed, sized, parse}
use Rattle.reading.proofs.Laws.{test, all_map, all_append}
use Rattle.cells.specs.Cells.{State}
use Rattle.rows.specs.Syntax.{Block, meaning}
use Rattle.annex.specs.Syncinfo.{syncinfo, bsi_size}
use Rattle.annex.specs.Annex.{body}
use Rattle.annex.specs.Frame.{start, tail_names, bytes_of, bsid_ahead, eac3}
use Rattle.unmet.proofs.Recorded.{Reads, Holds, reads-run, reads-bind, reads-if, reads-tail, passes, reads-block}

-- W says how wide the elements of a name are, and 0 of names of which it says nothing; a span has none of its names
module _ (W : ℕ → ℕ) where
  abbrev pub Wide : ℕ → ℕ → ℕ → Type 0
  Wide n p w = (W n ≡ 0) ⊎ (w ≡ W n)

  abbrev Unsaid : ℕ → Type 0
  Unsaid n = W n ≡ 0

  -- the pages keep to it
  abbrev pub wide : Block → Bool
  wide b = passes (λ n w. eqb (W n) 0 || eqb w (W n)) (λ n. eqb (W n) 0) b

  wide_of : (n w : ℕ) → (eqb (W n) 0 || eqb w (W n)) ≡ true → (p : ℕ) → Wide n p w
  wide_of n w h p = go (eqb (W n) 0) refl h
    where
      go : (c : Bool) → eqb (W n) 0 ≡ c → (c || eqb w (W n)) ≡ true → Wide n p w
      go true e h = inl (eqb-true (W n) 0 e)
      go false e h = inr (eqb-true w (W n) h)

  reads-wide : (b : Block) → wide b ≡ true → (st : State) (p : ℕ) → Reads Wide Unsaid (meaning b st) p
  reads-wide b h st p = reads-block _ _ Wide Unsaid wide_of (λ n h. eqb-true (W n) 0 h) b h st p

  all_after : {A B : Type 0} (o : Outcome A) (f : A → ℕ → Outcome B) → All (Holds Wide Unsaid) o.records → ((a : A) (p : ℕ) → All (Holds Wide Unsaid) (f a p).records)
      → All (Holds Wide Unsaid) (after o f).records
  unfolding after
  all_after {A} o f h k = go o.result
    where
      go : (r : Result A) → All (Holds Wide Unsaid) (and_then r o.place o.records f).records
      go (accepted a) = all_append (Holds Wide Unsaid) o.records (f a o.place).records h (k a o.place)
      go (refused n) = h

  module _ (opening : wide syncinfo ≡ true) (rest : wide bsi_size ≡ true) (blocks : wide body ≡ true)
      (auxbits : W tail_names.auxbits ≡ 0) (auxdatal : W tail_names.auxdatal ≡ 0) (auxdatae : W tail_names.auxdatae ≡ 0) (reserved : W tail_names.reserved ≡ 0)
      (crc2 : W tail_names.crc2 ≡ 0) where
    header-wide : (v : ℕ) → Reads Wide Unsaid (header_by eac3 v) 0
    unfolding header_by eac3
    header-wide v =
        reads-bind Wide Unsaid (meaning syncinfo start) _ 0 (reads-wide syncinfo opening start 0)
        (λ h q. reads-if Wide Unsaid (bsid_ahead.good v) _ _ q (reads-wide bsi_size rest h q) tt)

    parse-holds : (s : List ℕ) → All (Holds Wide Unsaid) (parse eac3 s).records
    unfolding parse sized framed finish eac3
    parse-holds s =
        test (λ o. All (Holds Wide Unsaid) o.records) (leb 6 (length s))
        (λ _. all_after (headed eac3 s) (sized eac3 s) (reads-run Wide Unsaid (header_by eac3 (seen eac3 s)) s 0 48 (header-wide (seen eac3 s)))
        (λ h p. test (λ o. All (Holds Wide Unsaid) o.records) (leb (bytes_of h) (length s))
        (λ _. all_after (run (meaning body h) s p (8 * bytes_of h)) _ (reads-run Wide Unsaid (meaning body h) s p (8 * bytes_of h) (reads-wide body blocks h p))
        (λ a q. let t = tail tail_names (bits_at s (auxdatae_at (8 * bytes_of h)) 1) (8 * bytes_of h) a in
        reads-run Wide Unsaid t s q (8 * bytes_of h)
        (reads-tail Wide Unsaid tail_names auxbits (λ _. inl auxdatal) (λ _. inl auxdatae) (λ _. inl reserved) (λ _. inl crc2) (bits_at s (auxdatae_at (8 * bytes_of h)) 1) (8 * bytes_of h) a q)))
        (λ _. tt)))
        (λ _. tt)

    -- each record of which it says how wide it is has that width
    pub parse-wide : (s : List ℕ) → All (λ e. ¬ (W e.field.name ≡ 0) → e.field.width ≡ W e.field.name) (parse eac3 s).records
    parse-wide s = all_map (parse eac3 s).records said (parse-holds s)
      where
        said : (e : Entry) → Holds Wide Unsaid e → ¬ (W e.field.name ≡ 0) → e.field.width ≡ W e.field.name
        said e h n = go e.spans refl
          where
            of : Wide e.field.name e.field.first e.field.width → e.field.width ≡ W e.field.name
            of (inl z) = absurd (n z)
            of (inr z) = z

            go : (c : Bool) → e.spans ≡ c → e.field.width ≡ W e.field.name
            go true q = absurd (n (h.1 q))
            go false q = of (h.0 q)
