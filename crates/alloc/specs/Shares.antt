-- What pointers cost: a table says the share of each pointer, and the shares of a range of bins are added.
use Rattle.std.specs.Prelude.{List, ℕ, zero, suc, ◌+◌, get_or}

-- f i + f (i + 1) + .., n of them
abbrev pub total : (ℕ → ℕ) → ℕ → ℕ → ℕ
total f i zero = 0
total f i (suc n) = total f i n + f (i + n)

-- the shares of the pointers at i, i + 1, .., n of them
abbrev pub shares_of : List ℕ → List ℕ → ℕ → ℕ → ℕ
shares_of shares pointers i n = total (λ k. get_or shares (get_or pointers k 0) 0) i n
