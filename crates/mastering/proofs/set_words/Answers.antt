-- A reading; and where it is accepted, the words and crc2 set.
use mathlib.Core.Path.{refl, ap, ◌∙◌}
use native.Mathlib.Omega.{arith}
use Rattle.mastering.specs.SetWord.{accepted_by}
use Rattle.mastering.proofs.Entry.{reader-refuses, listed, words-set}
use Rattle.mastering.proofs.Rewriting.{set-is, refused-is}
use Rattle.mastering.proofs.set_words.Goals as goal

pub returns-in-Refused : goal.returns-in-Refused
returns-in-Refused c = reader-refuses _ _ _ _ c.parse-read.ensures (ap accepted_by c.in-Refused.is)

pub rewrite-requires : goal.rewrite-requires
rewrite-requires c = listed _ _ _ _ _ _ _ _ c.parse-read.ensures (ap accepted_by c.in-Accepted.is)

pub returns-in-Ok : goal.returns-in-Ok
returns-in-Ok c =
    let e = c.in-Ok.ensures in
    words-set _ _ _ _ _ _ _ _ c.parse-read.ensures (ap accepted_by c.in-Accepted.is) _ _ _ refl e.1 e.2 (set-is _ _ _ e.0)

pub returns-in-Err : goal.returns-in-Err
returns-in-Err c =
    let e = c.in-Err.ensures in
    words-set _ _ _ _ _ _ _ _ c.parse-read.ensures (ap accepted_by c.in-Accepted.is) _ _ _ refl e.1 e.2
    (refused-is _ c.in-Err.why _ c.refusal.ensures _ e.0.0 (λ z. omega (arith, e.0.1, z)))
