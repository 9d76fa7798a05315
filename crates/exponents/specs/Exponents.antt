-- Exponents out of their groups (A/52 clause 7.1.3, TS 102 366 clause 6.1.3).
use Rattle.std.specs.Prelude.{Option, Some, None, Result, Ok, Err, ◌&&◌, cond, List, ℕ, zero, suc, ◌+◌, ◌-◌, ◌*◌, ◌/◌, ◌%◌, leb, ltb, eqb, set}
use Rattle.slots.specs.Slots.{CPL, LFE}
use Rattle.refusals.specs.declared.Refusal.{Refusal}
use Rattle.refusals.specs.declared.Refusal.TheVariants.{GroupedExponent, ExponentOutside}

-- a mapped value is the difference to the exponent before, plus 2; an exponent lies from 0 to 24
unfoldable pub next_of : ℕ → ℕ → Option ℕ
next_of prev m = cond (leb 2 (prev + m) && leb (prev + m) 26) (Some (prev + m - 2)) None

-- the three exponents of a group, or its refusal
abbrev pub Group : Type 0
Group = Result (ℕ × ℕ × ℕ) Refusal

-- on with the exponent, or refusal 27
abbrev pub on_to : Option ℕ → (ℕ → Group) → Group
on_to None k = Err ExponentOutside
on_to (Some e) k = k e

-- three exponents after the one before: M1 = grp / 25, M2 = (grp % 25) / 5, M3 = (grp % 25) % 5
unfoldable pub decode_of : ℕ → ℕ → Group
decode_of prev grp =
    cond (ltb 124 grp) (Err GroupedExponent)
    (on_to (next_of prev (grp / 25)) (λ a. on_to (next_of a (grp % 25 / 5)) (λ b. on_to (next_of b (grp % 25 % 5)) (λ c. Ok (a, b, c)))))

-- grpsize: 1, 2, 4 for D15, D25, D45, the strategies 1, 2, 3
unfoldable pub size_of : ℕ → ℕ
size_of strategy = cond (eqb strategy 3) 4 (cond (eqb strategy 2) 2 1)

-- ncplgrps, nlfegrps, nchgrps: how many groups the bins of a set take
unfoldable pub groups_of : ℕ → ℕ → ℕ → ℕ → ℕ
groups_of slot strategy start end =
    let size = 3 * size_of strategy in
    cond (eqb slot CPL) ((end - start) / size)
    (cond (eqb slot LFE) 2 ((end - 1 + (size - 3)) / size))

-- the value that the first group counts from: cplabsexp is doubled
unfoldable pub start_of : ℕ → ℕ → ℕ
start_of slot absexp = cond (eqb slot CPL) (2 * absexp) absexp

-- the bin of the first group's first exponent: bin 0 of a channel has the absolute exponent itself
unfoldable pub first_of : ℕ → ℕ → ℕ
first_of slot start = cond (eqb slot CPL) start 1

-- the exponent of a bin: seven slots have 256 bins each
unfoldable pub put_of : List ℕ → ℕ → ℕ → ℕ → List ℕ
put_of exps slot bin e = cond (ltb slot 7 && ltb bin 256) (set exps (256 * slot + bin) e) exps

-- one exponent for n bins
unfoldable pub spread_of : List ℕ → ℕ → ℕ → ℕ → ℕ → List ℕ
spread_of exps slot bin zero e = exps
spread_of exps slot bin (suc n) e = spread_of (put_of exps slot bin e) slot (suc bin) n e

-- the three exponents of a group, each for grpsize bins
unfoldable pub laid_of : List ℕ → ℕ → ℕ → ℕ → ℕ → ℕ → ℕ → List ℕ
laid_of exps slot size bin a b c =
    spread_of (spread_of (spread_of exps slot bin size a) slot (bin + size) size b) slot (bin + 2 * size) size c
