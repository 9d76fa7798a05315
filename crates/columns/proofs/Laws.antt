-- Laws of the columns. Assumes nothing.
use Prim.Native.Nat.{ℕ, zero, suc, ◌≤◌}
use native.Mathlib.Omega.{arith}
use lib.ListN.{length, get_or, length-append}
use Rattle.names.specs.Spelling.{bytes}
use Rattle.tables.specs.Small.{nfchans}
use Rattle.columns.specs.Columns.{modes, names_of, heading_of}

names-short : (mode : ℕ) → length (names_of mode) ≤ 35
unfolding names_of modes bytes
names-short zero = omega arith
names-short (suc zero) = omega arith
names-short (suc (suc zero)) = omega arith
names-short (suc (suc (suc zero))) = omega arith
names-short (suc (suc (suc (suc zero)))) = omega arith
names-short (suc (suc (suc (suc (suc zero))))) = omega arith
names-short (suc (suc (suc (suc (suc (suc zero)))))) = omega arith
names-short (suc (suc (suc (suc (suc (suc (suc mode))))))) = omega arith

pub heading-short : (mode : ℕ) → length (heading_of mode) ≤ 54
unfolding heading_of bytes
heading-short mode = let h = names-short mode in simp length-append (omega arith)

pub few-channels : (k : ℕ) → get_or nfchans k 0 ≤ 5
unfolding nfchans
few-channels zero = omega arith
few-channels (suc zero) = omega arith
few-channels (suc (suc zero)) = omega arith
few-channels (suc (suc (suc zero))) = omega arith
few-channels (suc (suc (suc (suc zero)))) = omega arith
few-channels (suc (suc (suc (suc (suc zero))))) = omega arith
few-channels (suc (suc (suc (suc (suc (suc zero)))))) = omega arith
few-channels (suc (suc (suc (suc (suc (suc (suc zero))))))) = omega arith
few-channels (suc (suc (suc (suc (suc (suc (suc (suc k)))))))) = omega arith
