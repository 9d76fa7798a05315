-- A table keeps its rule by one test that antt computes over all entries. Assumes nothing.
use mathlib.Core.Path.{◌≡◌}
use mathlib.Core.Bool.{Bool}
use mathlib.Core.List.{List}
use Prim.Native.Nat.{ℕ, ◌*◌}
use native.Mathlib.Omega.{arith}
use lib.Dec.{T, eqb, eqb→eq}
use lib.ListN.{length}
use Rattle.tables.proofs.Rule.{every, at}
use Rattle.crc.specs.Table.{steps, Stepped}

-- the test of the entry x at k
abbrev pub passes : ℕ → ℕ → ℕ → Bool
passes n k x = eqb x (steps (k * 256) n)

pub by-test : (n : ℕ) (t : List ℕ) → length t ≡ 256 → T (every (passes n) 0 t) → Stepped n t
by-test n t e h = record { entries = e; each = λ k l. eqb→eq _ _ (at (passes n) t h k (omega (arith, e))) }
