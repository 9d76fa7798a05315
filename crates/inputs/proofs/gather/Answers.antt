use native.Mathlib.Omega.{arith}
use mathlib.Core.Path.{refl}
use Rattle.syntax.proofs.Returned.{returned}
use Rattle.inputs.proofs.Takes.{gathers-missed, gathers-full, gathers-mantissas, gathers-set}
use Rattle.inputs.proofs.gather.Goals as goal

pub mantissas_in-requires : goal.mantissas_in-requires
mantissas_in-requires c = (c.requires.right.memo.tallies, c.requires.within)

pub tell-requires : goal.tell-requires
tell-requires c = omega (arith, c.keep_of-k.ensures.1)

pub stale-requires : goal.stale-requires
stale-requires c = c.requires.right.memo.tallies.size

pub read_exponents-requires : goal.read_exponents-requires
read_exponents-requires c = record { within = c.requires.within; held = c.requires.right.held; small = c.set_of-set.ensures.1 }

pub returns-then-w-ge8-clause-gathered : goal.returns-then-w-ge8-clause-gathered
returns-then-w-ge8-clause-gathered c = gathers-set _ _ _ _ _ _ _ c.requires.right _ _ _ c.requires.kind _ c.set_of-set.ensures.0 _ _ _ c.read_exponents.ensures.read c.if-w-ge8.true _ c.stale.ensures

pub returns-in-Err-clause-gathered : goal.returns-in-Err-clause-gathered
returns-in-Err-clause-gathered c = gathers-missed _ _ _ _ _ _ _ c.requires.right _ _ _ c.requires.kind (omega (arith, c.if-w-ge8.false)) _ c.in-Err.is (c.mantissas_in.ensures _) _ _ _ c.keep.ensures.kept

pub returns-in_err-next-clause-gathered : goal.returns-in_err-next-clause-gathered
returns-in_err-next-clause-gathered c = rw (returned _ _ c.from_residual.ensures.1) (gathers-full _ _ _ _ _ _ _ c.requires.right _ _ _ c.requires.kind (omega (arith, c.if-w-ge8.false)) _ c.in-Ok.is (c.mantissas_in.ensures _) _ (rw (c.saturating_sub.ensures, c.from.ensures) refl) _ _ _ c.keep-2.ensures.kept _ c.in_err-next.was _)

pub returns-clause-gathered : goal.returns-clause-gathered
returns-clause-gathered c = gathers-mantissas _ _ _ _ _ _ _ c.requires.right _ _ _ c.requires.kind (omega (arith, c.if-w-ge8.false)) _ c.in-Ok.is (c.mantissas_in.ensures _) _ (rw (c.saturating_sub.ensures, c.from.ensures) refl) _ _ _ c.keep-2.ensures.kept _ c.in_ok-next.was _ c.keep_of-k.ensures.0 _ c.tell.ensures
