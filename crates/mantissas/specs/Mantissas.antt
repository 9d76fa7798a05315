-- Conventional mantissas (A/52 clause 7.3.5, TS 102 366 clause 6.3.5): bits inside a span, not looked at.
use Rattle.std.specs.Prelude.{cond, List, ℕ, zero, suc, ◌+◌, ◌%◌, eqb, get_or}
use Rattle.tables.specs.Small.{bap_bits}
use Rattle.reading.specs.Tree.{Skim, stop, take}
use Rattle.slots.specs.Slots.{pointer}
use Rattle.mantissas.specs.declared.Groups.{Groups}

-- a group's bits come with its first mantissa
abbrev pub opens_of : ℕ → ℕ → ℕ
opens_of count bits = cond (eqb count 0) bits 0

-- the bits that are read at a mantissa (TS 102 366 Table 6.17): 5 for three of pointer 1, 7 for three of 2, 7 for two of 4
unfoldable pub width_of : Groups → ℕ → ℕ
width_of g bap =
    cond (eqb bap 1) (opens_of g.g1 5)
    (cond (eqb bap 2) (opens_of g.g2 7)
    (cond (eqb bap 4) (opens_of g.g4 7)
    (get_or bap_bits bap 0)))

-- how many mantissas of each group at hand have passed, after one more
unfoldable pub counted_of : Groups → ℕ → Groups
counted_of g bap =
    cond (eqb bap 1) (record { g1 = (g.g1 + 1) % 3; g2 = g.g2; g4 = g.g4 })
    (cond (eqb bap 2) (record { g1 = g.g1; g2 = (g.g2 + 1) % 3; g4 = g.g4 })
    (cond (eqb bap 4) (record { g1 = g.g1; g2 = g.g2; g4 = (g.g4 + 1) % 2 })
    g))

-- the mantissas of n bins, from the bin `bin` on
unfoldable pub conventional_of : List ℕ → ℕ → ℕ → ℕ → Groups → Skim Groups
conventional_of baps slot bin zero g = stop g
conventional_of baps slot bin (suc n) g =
    take (width_of g (pointer baps slot bin)) (λ _. conventional_of baps slot (suc bin) n (counted_of g (pointer baps slot bin)))
