-- Laws of the cells: what a put changes. Assumes nothing.
use mathlib.Core.Path.{◌≡◌, refl, ap, ap₂, ◌∙◌}
use mathlib.Core.Bool.{Bool, true, false, cond}
use mathlib.Core.List.{List}
use Prim.Native.Nat.{ℕ, suc, ◌+◌, ◌%◌, ◌≤◌, ◌<◌}
use native.Mathlib.Omega.{arith}
use lib.Dec.{eqb}
use lib.ListN.{length, get_or, set, drop, length-set, replicate, get_or-replicate, drop_of_length-le}
use lib.Seq.{get_or-set_same, get_or-set_other, drop-cons}
use borrow.Author.Tests.{ne_eqb}
use Rattle.cells.specs.Cells.{cell_of, put_in, puts_in}

pub put-sized : (m : List ℕ) (k v : ℕ) → length (put_in m k v) ≡ length m
unfolding put_in
put-sized m k v = go (eqb (k % 1024) 0)
  where
    go : (a : Bool) → length (cond a m (set m (k % 1024) (v % 65536))) ≡ length m
    go true = refl
    go false = length-set m (k % 1024) (v % 65536)

pub cell_same : (m : List ℕ) (k v : ℕ) → length m ≡ 1024 → ¬ (k % 1024 ≡ 0) → cell_of (put_in m k v) k ≡ v % 65536
unfolding cell_of put_in
cell_same m k v e h = rw (ne_eqb (k % 1024) 0 h) (get_or-set_same m (k % 1024) (v % 65536) 0 (omega arith))

pub cell_other : (m : List ℕ) (k v j : ℕ) → ¬ (j % 1024 ≡ k % 1024) → cell_of (put_in m k v) j ≡ cell_of m j
unfolding cell_of put_in
cell_other m k v j h = go (eqb (k % 1024) 0)
  where
    go : (a : Bool) → cond (eqb (j % 1024) 0) 0 (get_or (cond a m (set m (k % 1024) (v % 65536))) (j % 1024) 0) ≡ cond (eqb (j % 1024) 0) 0 (get_or m (j % 1024) 0)
    go true = refl
    go false = ap (λ x. cond (eqb (j % 1024) 0) 0 x) (get_or-set_other m (k % 1024) (j % 1024) (v % 65536) 0 h)

-- cells of which nothing was put
pub cell-none : (j : ℕ) → cell_of (replicate 1024 0) j ≡ 0
unfolding cell_of
cell-none j = go (eqb (j % 1024) 0)
  where
    go : (a : Bool) → ◌≡◌ {A = ℕ} (cond a 0 (get_or (replicate 1024 0) (j % 1024) 0)) 0
    go true = refl
    go false = get_or-replicate 1024 (j % 1024) 0 0 (omega arith)

-- numbers put one after another, i of them so far; and none are left
pub puts-more : (m : List ℕ) (k : ℕ) (vs : List ℕ) (i : ℕ) → i < length vs → puts_in m (k + i) (drop i vs) ≡ puts_in (put_in m (k + i) (get_or vs i 0)) (k + (i + 1)) (drop (i + 1) vs)
unfolding puts_in
puts-more m k vs i h =
    let a : suc (k + i) ≡ k + (i + 1) = omega arith in
    let b : suc i ≡ i + 1 = omega arith in
    ap (puts_in m (k + i)) (drop-cons vs i 0 h) ∙ ap₂ (λ x y. puts_in (put_in m (k + i) (get_or vs i 0)) x (drop y vs)) a b

pub puts-all : (m : List ℕ) (k : ℕ) (vs : List ℕ) (i : ℕ) → length vs ≤ i → puts_in m k (drop i vs) ≡ m
unfolding puts_in
puts-all m k vs i h = ap (puts_in m k) (drop_of_length-le vs {i = i} h)
