use mathlib.Core.Path.{refl}
use borrow.Author.Tests.{ne_eqb}
use Rattle.opening.proofs.Openings.{high-bsid, low-bsid}
use Rattle.opening.proofs.begins.Goals as goal

pub returns-then-bsid-ge11 : goal.returns-then-bsid-ge11
returns-then-bsid-ge11 c = high-bsid _ _ _ c.bits_at-bsid.ensures c.if-word-eq-SYNC.true c.if-bsid-ge11.true

pub returns-else-bsid-ge11 : goal.returns-else-bsid-ge11
returns-else-bsid-ge11 c = low-bsid _ _ _ c.bits_at-bsid.ensures c.if-word-eq-SYNC.true c.if-bsid-ge11.false

pub returns-else-word-eq-SYNC : goal.returns-else-word-eq-SYNC
returns-else-word-eq-SYNC c = rw (ne_eqb _ _ c.if-word-eq-SYNC.false) refl
