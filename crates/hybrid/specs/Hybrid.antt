-- The adaptive hybrid transform: gain words, vector indexes and pre-mantissas of a slot, for all blocks of the frame at once
-- (TS 102 366 clauses E.1.2.4, E.2.4.2 and E.2.4.4; A/52 E2.2.4, E3.4.2 and E3.4.4). Bits inside a span.
use Rattle.std.specs.Prelude.{Bool, ◌&&◌, cond, List, [], ◌∷◌, ◌++◌, ℕ, zero, suc, ◌+◌, ◌-◌, ◌/◌, ◌%◌, ◌^◌, eqb, ltb, get_or}
use Rattle.tables.specs.Small.{vq_bits, gaq_bits}
use Rattle.reading.specs.Tree.{Skim, stop, fail, take, ◌>>-◌}
use Rattle.slots.specs.Slots.{pointer}

-- gaqbin: whether a bin has a gain word, by gaqmod; endbap is 12 in the modes 0 and 1, else 17
unfoldable pub active_of : ℕ → ℕ → Bool
active_of mode hebap = ltb 7 hebap && ltb hebap (cond (ltb mode 2) 12 17)

-- activegaqbins: how many of n bins from the bin `bin` on have one
unfoldable pub active_in : ℕ → List ℕ → ℕ → ℕ → ℕ → ℕ
active_in mode baps slot bin zero = 0
active_in mode baps slot bin (suc n) = cond (active_of mode (pointer baps slot bin)) 1 0 + active_in mode baps slot (suc bin) n

-- n gain words of one bit: gain 1, or the large one
unfoldable pub singles_of : ℕ → ℕ → List ℕ → Skim (List ℕ)
singles_of large zero gains = stop gains
singles_of large (suc n) gains = take 1 (λ v. singles_of large n (gains ++ (cond (eqb v 1) large 1 ∷ [])))

-- n gain words of five bits, of three gains each: 1, 2 or 4
unfoldable pub triples_of : ℕ → List ℕ → Skim (List ℕ)
triples_of zero gains = stop gains
triples_of (suc n) gains =
    take 5
    (λ v. cond (ltb 26 v) (fail 13) (triples_of n (gains ++ (2 ^ (v / 9) ∷ 2 ^ (v % 9 / 3) ∷ 2 ^ (v % 3) ∷ []))))

-- the gains of n active bins, in their order
unfoldable pub gains_of : ℕ → ℕ → Skim (List ℕ)
gains_of mode n =
    cond (eqb mode 0) (stop [])
    (cond (eqb mode 1) (singles_of 2 n [])
    (cond (eqb mode 2) (singles_of 4 n [])
    (triples_of ((n + 2) / 3) [])))

-- E.2.4.4: with gain 2 small and large values have m - 1 bits; with gain 4 small ones m - 2 and large ones m
abbrev pub small_of : ℕ → ℕ → ℕ
small_of m gain = cond (eqb gain 2) (m - 1) (m - 2)

abbrev pub large_of : ℕ → ℕ → ℕ
large_of m gain = cond (eqb gain 2) (m - 1) m

-- a pre-mantissa of m bits; with a gain a small value, which may be the tag 100..0 of a large one. It tells the tags, 0 or 1
unfoldable pub premantissa_of : ℕ → ℕ → Skim ℕ
premantissa_of m gain =
    cond (eqb gain 1) (take m (λ _. stop 0))
    (take (small_of m gain)
    (λ v. cond (eqb v (2 ^ (small_of m gain - 1))) (take (large_of m gain) (λ _. stop 1)) (stop 0)))

-- n of them, after some tags
unfoldable pub premantissas_of : ℕ → ℕ → ℕ → ℕ → Skim ℕ
premantissas_of m gain zero tags = stop tags
premantissas_of m gain (suc n) tags = premantissa_of m gain >>- (λ t. premantissas_of m gain n (tags + t))

-- a bin (Table E.2.2): nothing or a vector index below hebap 8, else one pre-mantissa for each of six blocks
unfoldable pub bin_of : ℕ → ℕ → Skim ℕ
bin_of hebap gain =
    cond (ltb hebap 8) (take (get_or vq_bits hebap 0) (λ _. stop 0))
    (premantissas_of (get_or gaq_bits (hebap - 8) 0) gain 6 0)

-- the gain of a bin, where k active bins came before it
abbrev pub gain_of : ℕ → List ℕ → ℕ → ℕ → ℕ
gain_of mode gains k hebap = cond (active_of mode hebap) (get_or gains k 1) 1

abbrev pub next_active : ℕ → ℕ → ℕ → ℕ
next_active mode k hebap = cond (active_of mode hebap) (k + 1) k

-- n bins from the bin `bin` on, after k active bins and some tags
unfoldable pub bins_of : ℕ → List ℕ → List ℕ → ℕ → ℕ → ℕ → ℕ → ℕ → Skim ℕ
bins_of mode gains baps slot bin zero k tags = stop tags
bins_of mode gains baps slot bin (suc n) k tags =
    bin_of (pointer baps slot bin) (gain_of mode gains k (pointer baps slot bin))
    >>- (λ t. bins_of mode gains baps slot (suc bin) n (next_active mode k (pointer baps slot bin)) (tags + t))

-- gaqmod, the gains, and n bins from the bin `bin` on; it tells how many tags there were
unfoldable pub aht_of : List ℕ → ℕ → ℕ → ℕ → Skim ℕ
aht_of baps slot bin n =
    take 2 (λ mode. gains_of mode (active_in mode baps slot bin n) >>- (λ gains. bins_of mode gains baps slot bin n 0 0))
