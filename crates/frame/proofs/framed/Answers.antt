use mathlib.Core.Path.{refl, ◌∙◌}
use native.Mathlib.Omega.{arith}
use Rattle.slots.specs.Held.{bins as held}
use Rattle.syntax.proofs.Returned.{returned}
use Rattle.walk.proofs.Walks.{turned-once}
use Rattle.annex.specs.Annex.{body}
use Rattle.annex.specs.Tail.{tail}
use Rattle.short_frames.proofs.Sizes.{fit-bounds}
use Rattle.frame.proofs.Parts.{unfit-stops, body-stops, tail-follows, tail-outcome}
use Rattle.frame.proofs.framed.Goals as goal

pub returns-in-Some-clause-framed : goal.returns-in-Some-clause-framed
returns-in-Some-clause-framed c = record { bins = held c.args.exps.now c.args.baps.now; is = rw c.stop.ensures (unfit-stops _ _ _ _ _ c.requires.small _ c.bytes_of-bytes.ensures.0 _ c.in-Some.ensures) }

pub each-requires : goal.each-requires
each-requires c = record { what = body; stands = c.requires.annexed.bodied; table = c.requires.annexed.table; within = omega (arith, c.bits-limit.ensures, (fit-bounds _ _ _ c.in_default.ensures).1); right = c.requires.right }

pub returns-in_err-end-clause-framed : goal.returns-in_err-end-clause-framed
returns-in_err-end-clause-framed c = record { bins = held c.args.exps.now c.args.baps.now; is = rw (returned _ _ c.from_residual.ensures.1) (body-stops _ _ _ _ _ c.requires.small _ c.bytes_of-bytes.ensures.0 c.in_default.ensures _ c.bits-limit.ensures _ _ _ (turned-once c.each.ensures.turned body c.requires.annexed.bodied) _ c.in_err-end.was) }

pub tail_cells-ends-requires : goal.tail_cells-ends-requires
tail_cells-ends-requires c = (omega (arith, c.bits-limit.ensures, c.bytes_of-bytes.ensures.0), omega (arith, c.bits-limit.ensures, (fit-bounds _ _ _ c.in_default.ensures).1))

pub each-requires-2 : goal.each-requires-2
each-requires-2 c = record { what = tail; stands = c.requires.annexed.tailed; table = c.requires.annexed.table; within = omega (arith, c.bits-limit.ensures, (fit-bounds _ _ _ c.in_default.ensures).1); right = c.each.ensures.turned.right }

pub returns-clause-framed : goal.returns-clause-framed
returns-clause-framed c =
    record {
      bins = _;
      is = tail-follows _ _ _ _ _ c.requires.small _ c.bytes_of-bytes.ensures.0 c.in_default.ensures _ c.bits-limit.ensures _ _ _ (turned-once c.each.ensures.turned body c.requires.annexed.bodied) _ c.in_ok-end.was c.each-2.result _
          (tail-outcome _ _ _ (omega (arith, c.bits-limit.ensures, c.bytes_of-bytes.ensures.1)) (omega (arith, c.in_ok-end.end.at)) _ refl _ _ _ c.each-2.result _ _ _ _ c.tail_cells-ends.ensures (turned-once c.each-2.ensures.turned tail c.requires.annexed.tailed));
    }
