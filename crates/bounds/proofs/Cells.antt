-- Laws of the cells: what a put changes. Assumes nothing.
use mathlib.Core.Path.{◌≡◌, refl, ap, ◌∙◌}
use mathlib.Core.List.{List}
use mathlib.Core.Logic.{by_cases}
use Prim.Native.Nat.{ℕ, ◌%◌, ◌≤◌, ◌<◌}
use native.Mathlib.Omega.{arith}
use native.Mathlib.Decide.{ℕ_discrete}
use lib.ListN.{length}
use Rattle.cells.specs.Cells.{cell_of, put_in}
use Rattle.cells.proofs.Cells.{cell_same, cell_other}

pub cell-zero : (m : List ℕ) → cell_of m 0 ≡ 0
unfolding cell_of
cell-zero m = refl

-- places count modulo 1,024
pub cell-mod : (m : List ℕ) (j : ℕ) → cell_of m j ≡ cell_of m (j % 1024)
unfolding cell_of
cell-mod m j = let e : j % 1024 % 1024 ≡ j % 1024 = omega arith in rw e

-- cell 0 is never put
pub put-zero : (m : List ℕ) (v : ℕ) → put_in m 0 v ≡ m
unfolding put_in
put-zero m v = refl

-- a cell among the 1,024, and another
pub cell_at : (m : List ℕ) (k v : ℕ) → length m ≡ 1024 → 0 < k → k < 1024 → cell_of (put_in m k v) k ≡ v % 65536
cell_at m k v e h i = cell_same m k v e (λ z. omega arith)

pub cell-beside : (m : List ℕ) (k v j : ℕ) → j < 1024 → k < 1024 → ¬ (j ≡ k) → cell_of (put_in m k v) j ≡ cell_of m j
cell-beside m k v j a b h = cell_other m k v j (λ e. h (omega arith))

-- a cell holds at most what was put
pub cell-put : (m : List ℕ) (k v : ℕ) → length m ≡ 1024 → cell_of (put_in m k v) k ≤ v % 65536
cell-put m k v e =
    by_cases (ℕ_discrete (k % 1024) 0)
    (λ z. let y : cell_of (put_in m k v) k ≡ 0 = cell-mod (put_in m k v) k ∙ ap (cell_of (put_in m k v)) z ∙ cell-zero (put_in m k v) in omega arith)
    (λ z. rw (cell_same m k v e z) (omega arith))
