use native.Mathlib.Omega.{arith}
use mathlib.Core.Path.{◌≡◌, refl, ap, sym, ◌∙◌}
use Prim.Native.Nat.{◌+◌, ◌-◌, ◌*◌}
use borrow.Author.Tests.{ltb-true, ltb-false}
use Rattle.std.specs.Prelude.{Ok, Err}
use Rattle.reading.specs.Run.{field_of}
use Rattle.refusals.specs.declared.Refusal.TheVariants.{NoRoom}
use Rattle.syntax.specs.Records.{part_of}
use Rattle.syntax.proofs.Recording.{keep-by}
use Rattle.syntax.proofs.Slices.{same_refl, same-trans}
use Rattle.exponents.proofs.ExpLaws.{decode-low}
use Rattle.exponents.proofs.SetLaws.{standing-first, standing-end, standing-past, standing-full, standing-refused, standing-moved, set-read}
use Rattle.exponents.proofs.set.read_exponents.Goals as goal

pub loop-init : goal.loop-init
loop-init c =
    let e : c.groups-left.result - 0 ≡ c.groups-left.result = omega arith in (
      rw e (standing-first _ _ _ _ _ _ _ _ _ _ _ _ _ _ c.requires.held c.requires.small c.begin.ensures c.start_of-prev.ensures (omega arith) (omega arith)),
      same_refl _,
    )

pub returns-then-past-clause-read : goal.returns-then-past-clause-read
returns-then-past-clause-read c = set-read _ _ _ _ _ _ _ _ _ _ _ _ c.requires.held c.requires.small c.groups-left.ensures (c.from-bin.ensures ∙ c.first_of.ensures) c.start_of-prev.ensures c.begin.ensures _ c.loop.invariant.0.laid (rw c.stop.ensures (standing-past c.loop.invariant.0 (omega arith) (ltb-true c.args.limit.0 (c.loop.here.at.0 + 7) (sym c.past.ensures.0 ∙ c.if-past.true))))

pub returns-in_default-clause-read : goal.returns-in_default-clause-read
returns-in_default-clause-read c = set-read _ _ _ _ _ _ _ _ _ _ _ _ c.requires.held c.requires.small c.groups-left.ensures (c.from-bin.ensures ∙ c.first_of.ensures) c.start_of-prev.ensures c.begin.ensures _ c.loop.invariant.0.laid (rw c.stop-in_default.ensures (standing-full c.loop.invariant.0 (omega arith) (ltb-false c.args.limit.0 (c.loop.here.at.0 + 7) (sym c.past.ensures.0 ∙ c.if-past.false)) _ c.bits_at-value.ensures (Err (record { refusal = NoRoom; at = c.loop.here.at; count = c.loop.here.count })) _ (keep-by _ _ (field_of (part_of c.args.set.label) c.loop.here.at.0 7 c.bits_at-value.result) (c.loop.here.at.0 + 7) _ _ c.in_default.ensures.recorded) _ refl))

pub returns-in-Err-clause-read : goal.returns-in-Err-clause-read
returns-in-Err-clause-read c = set-read _ _ _ _ _ _ _ _ _ _ _ _ c.requires.held c.requires.small c.groups-left.ensures (c.from-bin.ensures ∙ c.first_of.ensures) c.start_of-prev.ensures c.begin.ensures _ c.loop.invariant.0.laid (rw c.stop-in-Err.ensures (standing-refused c.loop.invariant.0 (omega arith) (ltb-false c.args.limit.0 (c.loop.here.at.0 + 7) (sym c.past.ensures.0 ∙ c.if-past.false)) _ c.bits_at-value.ensures (Ok (record { at = record { 0 = c.loop.here.at.0 + 7 }; count = c.in-Some.count })) _ (keep-by _ _ (field_of (part_of c.args.set.label) c.loop.here.at.0 7 c.bits_at-value.result) (c.loop.here.at.0 + 7) _ _ c.in-Some.ensures.recorded) _ refl _ (sym c.decode.ensures ∙ c.in-Err.is)))

pub overflow_cast-a : goal.overflow_cast-a
overflow_cast-a c = omega (arith, (decode-low _ _ _ _ _ (sym c.decode.ensures ∙ c.in-Ok.is)).first)

pub overflow_cast-b : goal.overflow_cast-b
overflow_cast-b c = omega (arith, (decode-low _ _ _ _ _ (sym c.decode.ensures ∙ c.in-Ok.is)).second)

pub overflow_cast-c : goal.overflow_cast-c
overflow_cast-c c = omega (arith, (decode-low _ _ _ _ _ (sym c.decode.ensures ∙ c.in-Ok.is)).third)

pub loop-preserved : goal.loop-preserved
loop-preserved c =
    let e : c.groups-left.result - (c.loop.counter + 1) ≡ c.groups-left.result - c.loop.counter - 1 = omega arith in (
      rw e (standing-moved c.loop.invariant.0 (omega arith) (ltb-false c.args.limit.0 (c.loop.here.at.0 + 7) (sym c.past.ensures.0 ∙ c.if-past.false)) _ c.bits_at-value.ensures (Ok (record { at = record { 0 = c.loop.here.at.0 + 7 }; count = c.in-Some.count })) _ (keep-by _ _ (field_of (part_of c.args.set.label) c.loop.here.at.0 7 c.bits_at-value.result) (c.loop.here.at.0 + 7) _ _ c.in-Some.ensures.recorded) _ refl _ _ _ (sym c.decode.ensures ∙ c.in-Ok.is) _ c.lay.ensures (omega (arith, c.group_size-step.ensures.0, c.group_size-step.ensures.2)) _ (ap (λ k. 3 * k) c.group_size-step.ensures.0)),
      same-trans c.loop.invariant.1 c.record.ensures.same,
    )

pub returns-clause-read : goal.returns-clause-read
returns-clause-read c = set-read _ _ _ _ _ _ _ _ _ _ _ _ c.requires.held c.requires.small c.groups-left.ensures (c.from-bin.ensures ∙ c.first_of.ensures) c.start_of-prev.ensures c.begin.ensures _ c.loop.invariant.0.laid (standing-end c.loop.invariant.0 (omega arith))
