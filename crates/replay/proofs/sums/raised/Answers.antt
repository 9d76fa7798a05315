-- By its sign.
use Rattle.std.proofs.Common.{◌+◌, pos, nat_abs, sym, ap, ◌∙◌, subst, to_z-of_z, w16, Fits}
use lib.Signed.{lt_z}
use Rattle.print.proofs.Signs.{unsigned}
use Rattle.replay.proofs.SumLaws.{below, above, fits_more}
use Rattle.replay.proofs.sums.raised.Goals as goal

pub returns-then-n-lt0 : goal.returns-then-n-lt0
returns-then-n-lt0 c = below c.args.n (ap (λ z. lt_z z (pos 0)) (sym (to_z-of_z c.ranges.n)) ∙ c.if-n-lt0.true)

pub overflow_cast-result : goal.overflow_cast-result
overflow_cast-result c = unsigned c.ranges.n c.if-n-lt0.false

pub overflow_add-result : goal.overflow_add-result
overflow_add-result c = subst (λ z. Fits w16 (nat_abs z + 1)) (sym (to_z-of_z c.ranges.n)) (fits_more c.ranges.n)

pub returns-else-n-lt0 : goal.returns-else-n-lt0
returns-else-n-lt0 c = ap (λ z. nat_abs z + 1) (to_z-of_z c.ranges.n) ∙ above c.args.n (ap (λ z. lt_z z (pos 0)) (sym (to_z-of_z c.ranges.n)) ∙ c.if-n-lt0.false)
