-- The silence rule (A/52 clause 7.2.2.1, TS 102 366 clause 6.2.2.1).
use Rattle.std.specs.Prelude.{Bool, true, ◌&&◌, ◌||◌, not, List, ℕ, zero, suc, eqb, get_or}
use Rattle.slots.specs.Slots.{used_of}
use Rattle.slots.specs.declared.Shape.{Shape}

-- where csnroffst and the fsnroffst of every slot in use are 0, all pointers are 0. A slot of the adaptive hybrid transform that was read before is in use.
unfoldable pub offsets_zero : List ℕ → Shape → ℕ → ℕ → Bool
offsets_zero fsnroffst shape slot zero = true
offsets_zero fsnroffst shape slot (suc n) = (not (used_of shape slot) || eqb (get_or fsnroffst slot 0) 0) && offsets_zero fsnroffst shape (suc slot) n

unfoldable pub silent_by : ℕ → List ℕ → Shape → Bool
silent_by csnroffst fsnroffst shape = eqb csnroffst 0 && offsets_zero fsnroffst shape 0 7
