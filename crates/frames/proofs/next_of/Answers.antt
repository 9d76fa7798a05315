-- As many bytes as are held.
use Rattle.std.proofs.Common.{take, ap, ◌∙◌, arith, length-take}
use Rattle.ingest.specs.Ingest.{empty}
use Rattle.search.specs.Find.{found_in}
use Rattle.frames.specs.Held.{allowance_of}
use Rattle.frames.proofs.next_of.Goals as goal

pub slice_bounds-next-end : goal.slice_bounds-next-end
slice_bounds-next-end c = rw length-take (omega arith)

pub returns : goal.returns
returns c =
    c.next.ensures
    ∙ ap (found_in (take c.min-n.result c.args.bytes.now) (empty 32782) c.args.at) c.allowance.ensures
    ∙ ap (λ n. found_in (take n c.args.bytes.now) (empty 32782) c.args.at (allowance_of n c.args.at c.args.ended)) c.min-n.ensures
