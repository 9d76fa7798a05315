use Rattle.std.proofs.Common.{◌%◌, ap}
use Rattle.derivations.proofs.AllocLaws.{allocate-is, allocate-numbered}
use Rattle.derivations.proofs.allocating.allocate_in.Goals as goal

pub returns : goal.returns
returns c = (
  allocate-is _ _ _ _ c.alloc_state_of-st.result _ _ c.shape_of-shape.result c.segments_in-d.result c.alloc_state_of-st.ensures.0 (ap (λ x. x % 3) c.cell_of.ensures) c.shape_of-shape.ensures c.segments_in-d.ensures c.allocate_block.ensures.0,
  allocate-numbered _ _ _ _ _ _ _ _ c.allocate_block.ensures.0,
  c.allocate_block.ensures.1,
)
