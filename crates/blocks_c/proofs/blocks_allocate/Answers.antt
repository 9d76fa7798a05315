use Rattle.allocation.proofs.MemoLaws.{memo-fresh}
use Rattle.blocks_c.proofs.blocks_allocate.Goals as goal

pub allocate_block-requires : goal.allocate_block-requires
allocate_block-requires c =
    let pre = c.requires in
    (pre.0, record { fast = pre.2; slow = pre.3; rate = pre.4 }, memo-fresh _ _ pre.1)
