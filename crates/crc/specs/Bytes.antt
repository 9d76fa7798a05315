-- The register after bits of one byte.
use Rattle.std.specs.Prelude.{ℕ, zero, suc, ◌-◌, ◌/◌, ◌%◌, ◌^◌}
use Rattle.crc.specs.Crc.{step}

-- the register r after the first k bits of the byte x
unfoldable pub after : ℕ → ℕ → ℕ → ℕ
after r x zero = r
after r x (suc k) = step (after r x k) (x / 2 ^ (7 - k) % 2)
