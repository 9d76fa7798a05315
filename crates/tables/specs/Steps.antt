-- A table of 64 that is entered from the other end, and past both ends: by t, which falls as the address rises.
use Rattle.std.specs.Prelude.{List, [], ◌∷◌, ℕ, zero, suc, ◌-◌, min, get_or}

-- the entries at t, t + 1, .., n of them: at t stands that of the address 160 - t, which stays from 0 to 63
unfoldable pub steps : List ℕ → ℕ → ℕ → List ℕ
steps table t zero = []
steps table t (suc n) = get_or table (min (160 - t) 63) 0 ∷ steps table (suc t) n
