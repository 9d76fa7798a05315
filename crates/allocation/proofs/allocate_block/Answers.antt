use Rattle.std.proofs.Common.{refl, sym, ◌∙◌, arith}
use Rattle.allocation.proofs.StateLaws.{never-sent, sent}
use Rattle.allocation.proofs.MemoLaws.{common-coded, points-are, points-done}
use Rattle.allocation.proofs.allocate_block.Goals as goal

pub returns-in_default : goal.returns-in_default
returns-in_default c = (never-sent _ _ _ _ _ _ _ refl c.in_default.is, c.requires.2)

pub first_stale-requires : goal.first_stale-requires
first_stale-requires c = (c.requires.2.tallies.size, c.own_words-own.ensures.size)

pub point_slots-requires : goal.point_slots-requires
point_slots-requires c = (c.requires.0, c.requires.2, c.own_words-own.ensures.size, common-coded _ _ _ _ c.common_of-common.ensures c.requires.1, c.in-Some-first_stale.ensures.within)

pub returns-in-Some-first_stale : goal.returns-in-Some-first_stale
returns-in-Some-first_stale c = (
  sent _ _ _ _ _ _ _ refl _ c.in-Some.is _
      (c.point_slots.ensures.0 ∙ sym (c.in-Some-first_stale.ensures.there _ _ c.requires.2) ∙ points-are _ _ _ _ _ _ _ _ _ _ c.own_words-own.ensures c.common_of-common.ensures _ _ 0 7 (omega arith)),
  c.point_slots.ensures.1,
)

pub returns-in_default-first_stale : goal.returns-in_default-first_stale
returns-in_default-first_stale c = (
  sent _ _ _ _ _ _ _ refl _ c.in-Some.is _
      (sym (c.in_default-first_stale.ensures.there _ _ c.requires.2 ∙ points-done _ _ _ _ _ _ _ _ (omega arith)) ∙ points-are _ _ _ _ _ _ _ _ _ _ c.own_words-own.ensures c.common_of-common.ensures _ _ 0 7 (omega arith)),
  c.requires.2,
)
