use native.Mathlib.Omega.{arith}
use Rattle.words.proofs.Writing.{before_small, front-small, behind-small, both_small, written_is}
use Rattle.words.proofs.write_word.Goals as goal

pub append-requires : goal.append-requires
append-requires c =
    let a = c.args in
    (omega (arith, c.requires.0), before_small a.frame.now a.at.0 a.width a.value c.requires.0 c.requires.1 c.bits_at-before.ensures, c.requires.1)

pub append-both-requires : goal.append-both-requires
append-both-requires c =
    let a = c.args in
    (omega arith, front-small a.frame.now a.at.0 a.width a.value c.requires.0 c.requires.1 c.bits_at-before.ensures c.append.ensures, behind-small a.frame.now a.at.0 a.width a.value c.requires.0 c.requires.1 c.bits_at-behind.ensures)

pub overflow_cast-frame : goal.overflow_cast-frame
overflow_cast-frame c =
    let a = c.args in
    record { fits = both_small a.frame.now a.at.0 a.width a.value c.requires.0 c.requires.1 c.bits_at-before.ensures c.append.ensures c.bits_at-behind.ensures c.append-both.ensures }

pub returns : goal.returns
returns c =
    let a = c.args in
    written_is a.frame.now a.at.0 a.width a.value c.requires.0 c.requires.1 c.bits_at-before.ensures c.append.ensures c.bits_at-behind.ensures c.append-both.ensures
