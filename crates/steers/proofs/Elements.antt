-- The records with names of a set that a format does not look at are elements. Assumes nothing.
use mathlib.Core.Path.{◌≡◌, refl, sym, ◌∙◌}
use mathlib.Core.Bool.{Bool, true, false, true≢false}
use mathlib.Core.List.{List}
use Prim.Native.Nat.{ℕ, ◌+◌, ◌*◌}
use lib.Dec.{leb}
use lib.ListN.{length}
use Rattle.bits.specs.Bits.{bits_at}
use Rattle.reading.specs.Tree.{Tree, done, refuse, ahead, here, read, span, scan}
use Rattle.reading.specs.Run.{Entry, Result, accepted, refused, Outcome, and_then, after, skim, run}
use Rattle.reading.specs.Records.{All}
use Rattle.reading.specs.Frame.{Format, header_by, seen, headed, auxdatae_at, tail, finish, framed, sized, parse}
use Rattle.reading.proofs.Laws.{test, all_append, skimmed, after-skim}
use Rattle.steers.specs.Blind.{Blind, BlindTo}
use Rattle.steers.proofs.Blinds.{blind-header, blind-tail}

all_after : (P : Entry → Type 0) {A B : Type 0} (o : Outcome A) (f : A → ℕ → Outcome B) → ((a : A) (p : ℕ) → All P (f a p).records) → All P o.records
    → All P (after o f).records
unfolding after
all_after P {A} o f k s = go o.result
  where
    go : (r : Result A) → All P (and_then r o.place o.records f).records
    go (accepted a) = all_append P o.records (f a o.place).records s (k a o.place)
    go (refused n) = s

module _ (N : ℕ → Bool) where
  abbrev pub Element : Entry → Type 0
  Element e = N e.field.name ≡ true → e.spans ≡ false

  run-elements : {A : Type 0} (t : Tree A) → Blind N t → (b : List ℕ) (p l : ℕ) → All Element (run t b p l).records
  unfolding run
  run-elements (done a) h b p l = tt
  run-elements (refuse n) h b p l = tt
  run-elements (ahead n w) h b p l = tt
  run-elements (here k) h b p l = run-elements (k p) (h p) b p l
  run-elements (read q w k) h b p l =
      test (λ o. All Element o.records) (leb (p + w) l) (λ _. (λ _. refl, run-elements (k (bits_at b p w)) (h.1 (bits_at b p w)) b (p + w) l)) (λ _. tt)
  run-elements (span q w t) h b p l =
      test (λ o. All Element o.records) (leb (p + w) l) (λ _. (λ c. absurd (true≢false (sym c ∙ h.0)), run-elements t h.1 b (p + w) l)) (λ _. tt)
  run-elements (scan q s k) h b p l =
      after-skim (λ o. All Element o.records) (skim s b p l) _ (skimmed s b p l)
      (λ v e _. (λ c. absurd (true≢false (sym c ∙ h.0)), run-elements (k v) (h.1 v) b e l)) (λ n e _. tt)

  module _ {H A : Type 0} (F : Format H A) (blind : BlindTo N F) where
    pub parse-elements : (b : List ℕ) → All Element (parse F b).records
    unfolding parse sized framed finish
    parse-elements b =
        test (λ o. All Element o.records) (leb 6 (length b))
        (λ _. all_after Element (headed F b) _
        (λ h p. test (λ o. All Element o.records) (leb (F.bytes h) (length b))
        (λ _. all_after Element (run (F.body h) b p (8 * F.bytes h)) _
        (λ a q. run-elements (tail F.names (bits_at b (auxdatae_at (8 * F.bytes h)) 1) (8 * F.bytes h) a)
        (blind-tail N F.names blind.auxbits blind.auxdatal (bits_at b (auxdatae_at (8 * F.bytes h)) 1) (8 * F.bytes h) a) b q (8 * F.bytes h))
        (run-elements (F.body h) (blind.body h) b p (8 * F.bytes h)))
        (λ _. tt))
        (run-elements (header_by F (seen F b)) (blind-header N F blind.opening blind.rest (seen F b)) b 0 48))
        (λ _. tt)
