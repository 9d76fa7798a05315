use Rattle.std.proofs.Common.{rules}
use Rattle.allocation.proofs.MemoLaws.{word-packs, eight-small}
use Rattle.allocation.proofs.common_of.Goals as goal

pub returns : goal.returns
returns c =
    word-packs _ _
    (eight-small (search rules) (search rules) (search rules) (search rules) (search rules) (search rules) (search rules) (search rules))
    c.from_le_bytes.ensures
