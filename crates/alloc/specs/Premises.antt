-- What contracts ask for and leave, besides the definitions.
use Rattle.std.specs.Prelude.{◌≡◌, Option, List, ◌++◌, ℕ, ◌-◌, ◌≤◌, ◌<◌, pos, negsuc, length, get_or, ◌≤ℤ◌}
use Rattle.tables.specs.BitAllocation.{latab, bndend, masktab, hth, baptab, hebaptab}
use Rattle.tables.specs.Steps.{steps}
use Rattle.alloc.specs.Allocation.{fast_of, slow_of}
use Rattle.alloc.specs.Levels.{fast_l, slow_l, low_l, excite_l}
use Rattle.alloc.specs.Shares.{total}
use Rattle.alloc.specs.declared.Channel.{Channel}
use Rattle.alloc.specs.declared.Deltas.{Deltas}
use Rattle.alloc.specs.declared.Gains.{Gains}
use Rattle.alloc.specs.declared.Leak.{Leak}
use Rattle.alloc.specs.declared.Leaks.{Leaks}
use Rattle.alloc.specs.declared.Levels.{Levels}
use Rattle.alloc.specs.declared.Params.{Params}
use Rattle.alloc.specs.declared.Passed.{Passed}

-- 256 exponents, of which those of the bins lo .. hi - 1 are at most 24
pub record Exponents (exp : List ℕ) (lo hi : ℕ) : Type 0 where
  pub size : length exp ≡ 256
  pub low : (j : ℕ) → lo ≤ j → j < hi → get_or exp j 0 ≤ 24

-- 256 powers, none of which is below 0: in steps of 32 below 3072
pub record Powers (powers : List ℕ) : Type 0 where
  pub size : length powers ≡ 256
  pub low : (j : ℕ) → get_or powers j 0 ≤ 96

-- the lent tables
pub record Lent (log-add mask-tab band-end hearing pointers : List ℕ) : Type 0 where
  pub log : log-add ≡ latab
  pub bins : mask-tab ≡ masktab
  pub ends : band-end ≡ bndend
  pub heard : hearing ≡ hth
  pub points : pointers ≡ steps baptab 0 512 ++ steps hebaptab 0 512

-- the ranges of the parameters, which every code gives (`proofs/Codes.antt`)
pub record Tuned (q : Params) : Type 0 where
  pub sdecay : q.sdecay ≤ 21
  pub fdecay : q.fdecay ≤ 123
  pub sgain : q.sgain ≤ 1344
  pub knee : q.dbknee ≤ 2816
  pub least : negsuc 2047 ≤ℤ q.floor
  pub most : q.floor ≤ℤ pos 752
  pub rate : q.fscod < 3

-- the ranges of a channel, its leaks and its segments
pub record Channelled (c : Channel) (l : Option Leak) (d : Deltas) : Type 0 where
  pub within : c.end ≤ 253
  pub fgain : c.fgain ≤ 1024
  pub fast : fast_of l ≤ 2560
  pub slow : slow_of l ≤ 2560
  pub segs : d.n ≤ 8

-- the ranges of the levels
pub record Levelled (q : Levels) : Type 0 where
  pub rate : q.fscod < 3
  pub knee : q.knee < 16384
  pub least : 6144 ≤ q.floor
  pub most : q.floor ≤ 11264
  pub offset : q.snr < 65536

-- the ranges of the gains and decays, which are taken from powers and leaks
pub record Gained (g : Gains) : Type 0 where
  pub fgain : g.fgain ≤ 2048
  pub sgain : g.sgain ≤ 2048
  pub fdecay : g.fdecay ≤ 2048
  pub sdecay : g.sdecay ≤ 2048

-- the ranges of the leaks before the first band
pub record Leaking (l : Leaks) : Type 0 where
  pub fast : l.fast < 32768
  pub slow : l.slow < 32768
  pub fast_least : 8192 ≤ l.fast
  pub slow_least : 8192 ≤ l.slow

-- the places lo .. hi - 1 of a list hold f's values, and the others what they held
pub record Written (f : ℕ → ℕ) (lo hi : ℕ) (old new : List ℕ) : Type 0 where
  pub size : length new ≡ length old
  pub made : (k : ℕ) → lo ≤ k → k < hi → get_or new k 0 ≡ f k
  pub before : (k : ℕ) → k < lo → get_or new k 0 ≡ get_or old k 0
  pub after : (k : ℕ) → hi ≤ k → get_or new k 0 ≡ get_or old k 0

-- the leaks and lowcomp when the bands from `first` to b - 1 are passed
pub record Passing (bnd : List ℕ) (g : Gains) (l : Leaks) (first last b : ℕ) (s : Passed) : Type 0 where
  pub from : first ≤ b
  pub fast : s.fast ≡ fast_l bnd g l first last (b - first)
  pub slow : s.slow ≡ slow_l bnd g l first last (b - first)
  pub low : s.low ≡ low_l bnd g l first last (b - first)

-- the bands lo .. hi - 1 are passed, from s to r, and their excitation is written, whatever leaks the first band had
pub record Excites (bnd : List ℕ) (g : Gains) (first last lo hi : ℕ) (s r : Passed) (old new : List ℕ) : Type 0 where
  pub up : lo ≤ hi
  pub on : (l : Leaks) → Passing bnd g l first last lo s → Passing bnd g l first last hi r
  pub made : (l : Leaks) → Passing bnd g l first last lo s → Written (λ b. excite_l bnd g l first last (b - first)) lo hi old new

-- the pointers f of the bins lo .. hi - 1 are written, and their shares add up to r
pub record Pointed (shares : List ℕ) (f : ℕ → ℕ) (lo hi : ℕ) (old new : List ℕ) (r : ℕ) : Type 0 where
  pub written : Written f lo hi old new
  pub sum : r ≡ total (λ k. get_or shares (f k) 0) lo (hi - lo)
