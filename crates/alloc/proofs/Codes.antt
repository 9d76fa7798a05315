-- From codes to values: every code gives parameters in range; the leaks as levels.
-- Assumes nothing.
use Rattle.std.specs.Prelude.{Some}
use Prim.Native.Nat.{ℕ, ◌≤◌, ◌<◌}
use native.Mathlib.Omega.{arith}
use Rattle.tables.proofs.Limits.{slowdec-high, fastdec-high, slowgain-high, dbpbtab-high, floortab-range}
use Rattle.alloc.specs.Allocation.{params_of, leak_of, fast_of, slow_of}
use Rattle.alloc.specs.Premises.{Tuned}

-- what `params_of` gives is what `allocate` asks
pub codes-tuned : (sdcycod fdcycod sgaincod dbpbcod floorcod fscod : ℕ) → fscod < 3
    → Tuned (params_of sdcycod fdcycod sgaincod dbpbcod floorcod fscod)
codes-tuned sdcycod fdcycod sgaincod dbpbcod floorcod fscod h =
    record {
      sdecay = slowdec-high sdcycod;
      fdecay = fastdec-high fdcycod;
      sgain = slowgain-high sgaincod;
      knee = dbpbtab-high dbpbcod;
      least = (floortab-range floorcod).0;
      most = (floortab-range floorcod).1;
      rate = h;
    }

-- and so is what `leak_of` gives, for codes of three bits
pub codes-leak : (cplfleak cplsleak : ℕ) → cplfleak < 8 → cplsleak < 8
    → (fast_of (Some (leak_of cplfleak cplsleak)) ≤ 2560) × (slow_of (Some (leak_of cplfleak cplsleak)) ≤ 2560)
codes-leak f s hf hs = (omega arith, omega arith)
