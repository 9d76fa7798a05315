use Rattle.std.proofs.Common.{◌≡◌, sym, ◌/◌, ◌%◌, Some, None, arith}
use Rattle.std.proofs.lemmas.Grind.{common_steps}
use borrow.Author.Tests.{lt-ltb}
use Rattle.exponents.specs.Exponents.{next_of, decode_of}
use Rattle.exponents.proofs.ExpLaws.{decode-first, decode-second, decode-third, decode-moved, next-byte}
use Rattle.exponents.proofs.decode.Goals as goal

pub returns-then-group-gt124 : goal.returns-then-group-gt124
unfolding decode_of
returns-then-group-gt124 c = rw (lt-ltb _ _ c.if-group-gt124.true)

pub returns-in_err-a : goal.returns-in_err-a
returns-in_err-a c =
    let e : next_of c.args.prev (c.args.group / 25) ≡ None = grind arith in
    grind (arith, common_steps, decode-first _ _ c.if-group-gt124.false e)

pub step-requires-2 : goal.step-requires-2
step-requires-2 c =
    let e : next_of c.args.prev (c.args.group / 25) ≡ Some c.in_ok-a.a = grind arith in
    (next-byte _ _ _ e, grind arith)

pub returns-in_err-b : goal.returns-in_err-b
returns-in_err-b c =
    let e : next_of c.args.prev (c.args.group / 25) ≡ Some c.in_ok-a.a = grind arith in
    let f : next_of c.in_ok-a.a (c.args.group % 25 / 5) ≡ None = grind arith in
    grind (arith, common_steps, decode-second _ _ c.if-group-gt124.false _ e f)

pub step-requires-3 : goal.step-requires-3
step-requires-3 c =
    let f : next_of c.in_ok-a.a (c.args.group % 25 / 5) ≡ Some c.in_ok-b.b = grind arith in
    (next-byte _ _ _ f, grind arith)

pub returns-in_err-c : goal.returns-in_err-c
returns-in_err-c c =
    let e : next_of c.args.prev (c.args.group / 25) ≡ Some c.in_ok-a.a = grind arith in
    let f : next_of c.in_ok-a.a (c.args.group % 25 / 5) ≡ Some c.in_ok-b.b = grind arith in
    let g : next_of c.in_ok-b.b (c.args.group % 25 % 5) ≡ None = grind arith in
    grind (arith, common_steps, decode-third _ _ c.if-group-gt124.false _ e _ f g)

pub returns : goal.returns
returns c =
    let e : next_of c.args.prev (c.args.group / 25) ≡ Some c.in_ok-a.a = grind arith in
    let f : next_of c.in_ok-a.a (c.args.group % 25 / 5) ≡ Some c.in_ok-b.b = grind arith in
    let g : next_of c.in_ok-b.b (c.args.group % 25 % 5) ≡ Some c.in_ok-c.c = grind arith in
    sym (decode-moved _ _ c.if-group-gt124.false _ e _ f _ g)
