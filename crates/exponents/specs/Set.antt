-- A set of exponents, read group by group, each decoded before the next (A/52 clause 7.1.3, TS 102 366 clause 6.1.3).
use Rattle.std.specs.Prelude.{Ok, Err, cond, List, ℕ, zero, suc, ◌+◌, ◌*◌, eqb}
use Rattle.reading.specs.Tree.{Part, Tree, done, refuse, read}
use Rattle.slots.specs.Slots.{CPL}
use Rattle.refusals.specs.Refusals.{number_of}
use Rattle.exponents.specs.Exponents.{Group, decode_of, size_of, groups_of, start_of, first_of, put_of, laid_of}

-- on with the three exponents of a group, or its refusal
abbrev pub on_group : {A : Type 0} → Group → (ℕ → ℕ → ℕ → Tree A) → Tree A
on_group (Err k) f = refuse (number_of k)
on_group (Ok (a, b, c)) f = f a b c

-- n groups of 7 bits; each moves from the exponent before it
unfoldable pub groups_from : Part → ℕ → ℕ → ℕ → ℕ → ℕ → List ℕ → Tree (List ℕ)
groups_from q slot size zero bin prev exps = done exps
groups_from q slot size (suc n) bin prev exps =
    read q 7
    (λ grp. on_group (decode_of prev grp) (λ a b c. groups_from q slot size n (bin + 3 * size) c (laid_of exps slot size bin a b c)))

-- bin 0 of a channel or of LFE has the absolute exponent itself
unfoldable pub begun_of : ℕ → ℕ → List ℕ → List ℕ
begun_of slot absexp exps = cond (eqb slot CPL) exps (put_of exps slot 0 absexp)

-- a set: the exponents of a slot that ends before the bin `end`, of the coupling channel from the bin `start` on
unfoldable pub set_of : Part → ℕ → ℕ → ℕ → ℕ → ℕ → List ℕ → Tree (List ℕ)
set_of q slot strategy start end absexp exps =
    groups_from q slot (size_of strategy) (groups_of slot strategy start end) (first_of slot start) (start_of slot absexp) (begun_of slot absexp exps)
