use Rattle.positions.proofs.Syncs.{synced-is, unsynced-is, going_on, stopped-at}
use Rattle.positions.proofs.candidate.Goals as goal

pub returns-then-sync_word : goal.returns-then-sync_word
returns-then-sync_word c = stopped-at _ _ _ _ c.loop-p.invariant (synced-is c.args.capture.now c.loop-p.p (λ i. (c.type_inv.capture i).fits) c.sync_word.ensures c.if-sync_word.true)

pub loop-p-preserved : goal.loop-p-preserved
loop-p-preserved c = going_on _ _ _ _ c.loop-p.invariant c.loop-p-test.true (unsynced-is c.args.capture.now c.loop-p.p (λ i. (c.type_inv.capture i).fits) c.sync_word.ensures c.if-sync_word.false)
