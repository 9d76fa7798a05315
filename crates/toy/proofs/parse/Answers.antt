use Rattle.std.proofs.Common.{rules}
use lib.ListN.{length-replicate}
use Prim.Native.Nat.{ℕ}
use Rattle.allocation.proofs.MemoLaws.{memo-fresh}
use Rattle.walk.proofs.Walks.{turned-once}
use Rattle.toy.specs.Toy.{frame}
use Rattle.toy.proofs.Answers.{answered, held_start}
use Rattle.toy.proofs.parse.Goals as goal

pub each-requires : goal.each-requires
each-requires c = record { what = frame; stands = c.rows-table.ensures.framed; table = c.rows-table.ensures.table; within = c.limit_of-limit.ensures.1; right = record { held = held_start; memo = memo-fresh _ _ (length-replicate {A = ℕ} 1792 0) } }

pub returns : goal.returns
returns c = let h = answered _ _ _ c.each.result _ _ c.limit_of-limit.ensures.0 (turned-once c.each.ensures.turned frame c.rows-table.ensures.framed) in search rules
