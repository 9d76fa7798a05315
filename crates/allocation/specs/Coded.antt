-- What the allocation of a block asks of the codes, and how the code says that a block is silent.
use Rattle.std.specs.Prelude.{Bool, cond, ℕ, ◌<◌}
use Rattle.alloc.specs.declared.Channel.{Channel}
use Rattle.allocation.specs.declared.AllocState.{AllocState}

-- codes of three bits, and one of the three sampling rates
pub record Coded (st : AllocState) (fscod : ℕ) : Type 0 where
  pub fast : st.cplfleak < 8
  pub slow : st.cplsleak < 8
  pub rate : fscod < 3

-- with no bins
abbrev pub silenced : Bool → Channel → Channel
silenced silent c = record { start = c.start; end = cond silent 0 c.end; fgain = c.fgain; csnroffst = c.csnroffst; fsnroffst = c.fsnroffst }
