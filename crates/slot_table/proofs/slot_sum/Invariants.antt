-- The blocks before this one are summed up.
use Rattle.std.proofs.Common.{◌≡◌, ◌*◌, ◌≤◌}
use Rattle.answer.specs.Answer.{bits_in}
use Rattle.sideinfo.specs.Steps.{sum_of}
use Rattle.slot_table.proofs.slot_sum.Given as goal

abbrev pub invariant-loop-block : goal.invariant-loop-block
invariant-loop-block l = (l.sum ≡ sum_of (λ b. bits_in l.blocks b l.slot) l.block) × (l.sum ≤ 65535 * l.block)
