use mathlib.Core.Path.{◌≡◌, refl, ap, ◌∙◌}
use Prim.Native.Nat.{ℕ, ◌+◌, ◌-◌, ◌*◌, ◌/◌}
use native.Mathlib.Omega.{arith}
use Rattle.crc.specs.Crc.{remainder}
use Rattle.crc.specs.Bytes.{after}
use Rattle.crc.proofs.Remainders.{one_more, pair_more, behind}
use Rattle.crc.proofs.Tables.pass.Goals as goal

pub loop-pair-init : goal.loop-pair-init
unfolding remainder
loop-pair-init c = refl

pub loop-pair-preserved : goal.loop-pair-preserved
loop-pair-preserved c = pair_more c.args.src.now c.args.from c.args.to c.requires.0 c.requires.1 c.as_chunks.ensures.front c.as_chunks.ensures.front_len c.loop-pair.invariant c.loop-pair-test.true c.take_two-r.ensures

pub loop-byte-preserved : goal.loop-byte-preserved
loop-byte-preserved c =
    let e = behind c.args.src.now c.args.from c.args.to c.requires.0 c.requires.1 c.as_chunks.ensures.back c.loop-byte.byte-index (omega (arith, c.as_chunks.ensures.back_len)) in
    let n : 2 * ((c.args.to - c.args.from) / 2) + c.loop-byte.byte-index + 1 ≡ 2 * ((c.args.to - c.args.from) / 2) + (c.loop-byte.byte-index + 1) = omega arith in
    one_more c.args.src.now c.args.from _ c.loop-byte.invariant (c.take_byte-r.ensures ∙ ap (λ (x : ℕ). after c.loop-byte.r x 8) e) ∙ ap (λ (x : ℕ). remainder c.args.src.now (8 * c.args.from) (8 * x)) n
