-- What the driver's arrays stand for. The codes, in this order: fscod, sdcycod, fdcycod, sgaincod, dbpbcod, floorcod, fgaincod,
-- csnroffst, fsnroffst, cplfleak, cplsleak, 1 for coupling, 1 for HEBAP, the number of segments. The segments: their
-- offsets, their lengths, their values.
use Rattle.std.specs.Prelude.{Bool, true, false, Option, Some, None, List, [], ◌≡◌, ℕ, ◌<◌, ◌≤◌, eqb, length, get_or}
use Rattle.tables.specs.BitAllocation.{fastgain}
use Rattle.alloc.specs.Allocation.{leak_of, params_of, allocation}
use Rattle.alloc.specs.declared.Channel.{Channel}
use Rattle.alloc.specs.declared.Deltas.{Deltas}
use Rattle.alloc.specs.declared.Leak.{Leak}
use Rattle.alloc.specs.declared.Params.{Params}
use Rattle.alloc.specs.declared.Pointers.{Pointers}
use Rattle.alloc.specs.declared.Pointers.TheVariants.{Bap, Hebap}

abbrev pub kind_of : Bool → Pointers
kind_of true = Hebap
kind_of false = Bap

abbrev pub leak_by : Bool → ℕ → ℕ → Option Leak
leak_by true cplfleak cplsleak = Some (leak_of cplfleak cplsleak)
leak_by false cplfleak cplsleak = None

abbrev pub channel_of : ℕ → ℕ → List ℕ → Channel
channel_of start end codes =
    record { start = start; end = end; fgain = get_or fastgain (get_or codes 6 0) 0; csnroffst = get_or codes 7 0; fsnroffst = get_or codes 8 0 }

abbrev pub params_by : List ℕ → Params
params_by codes =
    params_of (get_or codes 1 0) (get_or codes 2 0) (get_or codes 3 0) (get_or codes 4 0) (get_or codes 5 0) (get_or codes 0 0)

abbrev pub deltas_of : ℕ → List (List ℕ) → Deltas
deltas_of n segments =
    record { n = n; offset = get_or segments 0 []; len = get_or segments 1 []; ba = get_or segments 2 [] }

abbrev pub allocation_by : List ℕ → List (List ℕ) → List ℕ → ℕ → ℕ → List ℕ
allocation_by exps segments codes start end =
    allocation (kind_of (eqb (get_or codes 12 0) 1)) exps (channel_of start end codes) (params_by codes)
    (leak_by (eqb (get_or codes 11 0) 1) (get_or codes 9 0) (get_or codes 10 0)) (deltas_of (get_or codes 13 0) segments)

-- the ranges of the codes
pub record Codes (codes : List ℕ) : Type 0 where
  pub size : length codes ≡ 14
  pub fscod : get_or codes 0 0 < 3
  pub cplfleak : get_or codes 9 0 < 8
  pub cplsleak : get_or codes 10 0 < 8
  pub segs : get_or codes 13 0 ≤ 8
