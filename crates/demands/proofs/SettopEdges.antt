-- The values at the edges of the settop entry, computed. Assumes nothing.
use mathlib.Core.Path.{◌≡◌, refl}
use mathlib.Core.List.{map}
use Rattle.bits.specs.Bits.{bit_at, bits_at}
use Rattle.reading.specs.Tree.{◌>>=◌}
use Rattle.reading.specs.Run.{after, run}
use Rattle.reading.specs.Frame.{header_by, sized, parse}
use Rattle.reading.specs.Room.{cut}
use Rattle.short_frames.specs.ShortFrames.{up_to}
use Rattle.cells.specs.Cells.{cell_of, put_in}
use Rattle.rows.specs.Syntax.{item, meaning}
use Rattle.annex.specs.Syncinfo.{syncinfo, bsi_size}
use Rattle.annex.specs.Frame.{start, eac3}
use Rattle.annex.specs.Edges.{Edge}
use Rattle.demands.specs.SettopEdges.{settop_edges}

pub settop-edges-hold : map (λ (e : Edge). e.gives) settop_edges ≡ map (λ (e : Edge). e.is) settop_edges
unfolding bit_at bits_at ◌>>=◌ after run header_by sized parse cut up_to cell_of put_in item meaning syncinfo bsi_size start eac3 settop_edges
settop-edges-hold = refl
