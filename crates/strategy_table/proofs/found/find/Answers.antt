use Rattle.std.proofs.Common.{◌<◌, ◌∙◌, min, sym, ap, arith, to_z-of_z}
use Rattle.strategy_table.specs.Strategies.{found}
use Rattle.strategy_table.proofs.Laws.{here, passed, further, ended}
use Rattle.strategy_table.proofs.found.find.Goals as goal
use Rattle.strategy_table.proofs.found.find.Goals.{then-is_of+else-left-eq0, else-is_of}

pub returns-then-left-eq0 : goal.returns-then-left-eq0
returns-then-left-eq0 c =
    let n = min c.args.count 2048 in
    let h : c.loop-i.i < n = omega arith in
    here c.args.r.now c.args.name _ n c.loop-i.i c.loop-i.left _ h c.loop-i.invariant (sym c.is_of.ensures ∙ c.if-is_of.true) (omega arith)
    ∙ ap (λ z. found c.args.r.now c.args.name z n 0 c.args.after) (to_z-of_z c.ranges.index)

pub loop-i-preserved : goal.loop-i-preserved
loop-i-preserved c =
    let n = min c.args.count 2048 in
    let h : c.loop-i.i < n = omega arith in
    elim c.if-is_of.branch [
      | then-is_of+else-left-eq0 w ↦ rw w.left-is (passed c.args.r.now c.args.name _ n c.loop-i.i c.loop-i.left _ h c.loop-i.invariant (sym c.is_of.ensures ∙ w.if-is_of.true) w.if-left-eq0.false)
      | else-is_of w ↦ rw w.left-is (further c.args.r.now c.args.name _ n c.loop-i.i c.loop-i.left _ h c.loop-i.invariant (sym c.is_of.ensures ∙ w.if-is_of.false))
    ]

pub returns : goal.returns
returns c =
    let n = min c.args.count 2048 in
    ended c.args.r.now c.args.name _ n c.loop-i.i c.loop-i.left _ (omega arith) c.loop-i.invariant
    ∙ ap (λ z. found c.args.r.now c.args.name z n 0 c.args.after) (to_z-of_z c.ranges.index)
