use mathlib.Core.Path.{◌≡◌, sym, ap, ◌∙◌}
use Prim.Native.Nat.{◌+◌}
use native.Mathlib.Omega.{arith}
use native.Mathlib.Nat.{add-zero}
use lib.ListN.{drop, get_or}
use Rattle.cells.specs.Cells.{put_in, puts_in}
use Rattle.cells.proofs.Cells.{puts-more, puts-all}
use Rattle.inputs.proofs.tell.Goals as goal

pub loop-i-init : goal.loop-i-init
loop-i-init c = rw (add-zero c.args.k)

pub loop-i-preserved : goal.loop-i-preserved
loop-i-preserved c =
    let put : c.put.new.cells ≡ put_in c.loop-i.cells (c.args.k + c.loop-i.i) (get_or c.args.numbers c.loop-i.i 0) = c.put.ensures ∙ ap (put_in c.loop-i.cells (c.args.k + c.loop-i.i)) c.from.ensures in
    c.loop-i.invariant ∙ puts-more _ c.args.k _ _ (omega (arith, c.well_formed)) ∙ ap (λ m. puts_in m (c.args.k + (c.loop-i.i + 1)) (drop (c.loop-i.i + 1) c.args.numbers)) (sym put)

pub returns : goal.returns
returns c = sym (c.loop-i.invariant ∙ puts-all _ _ c.args.numbers c.loop-i.i (omega (arith, c.well_formed)))
