use Rattle.std.proofs.Common.{sym, ◌∙◌}
use Rattle.std.specs.Cmp.Lexicographic.{bytes_decides}
use Rattle.allocation.proofs.StateLaws.{alike-none}
use Rattle.derivations.proofs.allocating.segments_in.Goals as goal

pub returns-then-eq : goal.returns-then-eq
returns-then-eq c = λ slot. rw (← c.bytes-n.ensures) (alike-none _ _ _ _ _ _ _ ((bytes_decides _ _).0 (sym c.eq.ensures ∙ c.if-eq.true)) slot)
