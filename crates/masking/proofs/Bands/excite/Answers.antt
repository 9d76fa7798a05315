use mathlib.Core.Path.{refl}
use Rattle.masking.proofs.Excitation.{passing-none, excites-join}
use Rattle.masking.proofs.Bands.excite.Goals as goal

pub returns-then-self-ne0 : goal.returns-then-self-ne0
returns-then-self-ne0 c = c.high.ensures.made _ (passing-none _ _ _ _ _ _ refl refl refl)

pub returns : goal.returns
returns c =
    let v = c.args.self.now in
    let g = c.args.curve.now.gains in
    let y = rw c.if-self-ne0.false at c.high-2.ensures in
    let x = excites-join v.powers.now g 0 v.last 0 _ _ _ _ _ _ _ _ c.rise-low.ensures c.middle-t.ensures in
    let z = excites-join v.powers.now g 0 v.last 0 _ _ _ _ _ _ _ _ x y in
    rw c.if-self-ne0.false (z.made _ (passing-none _ _ _ _ _ _ refl refl refl))
