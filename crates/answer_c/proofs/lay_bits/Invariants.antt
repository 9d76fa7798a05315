-- The bits of the blocks before this one are written.
use Rattle.std.proofs.Common.{◌≡◌, length}
use Rattle.answer_c.specs.Numbers.{bits_laid}
use Rattle.answer_c.proofs.lay_bits.Given as goal

abbrev pub invariant-loop-block : goal.invariant-loop-block
invariant-loop-block l = (l.out ≡ bits_laid l.initial.out l.slots l.block) × (length l.out ≡ length l.initial.out)
