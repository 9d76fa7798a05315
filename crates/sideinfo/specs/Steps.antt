-- What is done for each of the first n numbers.
use Rattle.std.specs.Prelude.{ℕ, zero, suc, ◌+◌, List, [], ◌∷◌}

-- f 0 + f 1 + ..
unfoldable pub sum_of : (ℕ → ℕ) → ℕ → ℕ
sum_of f zero = 0
sum_of f (suc n) = sum_of f n + f n

-- f 0, then f 1, and so on
unfoldable pub each_of : (ℕ → List ℕ → List ℕ) → ℕ → List ℕ → List ℕ
each_of f zero m = m
each_of f (suc n) m = f n (each_of f n m)

-- f i, f (i + 1), .., n of them
unfoldable pub tab_of : {A : Type 0} → (ℕ → A) → ℕ → ℕ → List A
tab_of f i zero = []
tab_of f i (suc n) = f i ∷ tab_of f (suc i) n
