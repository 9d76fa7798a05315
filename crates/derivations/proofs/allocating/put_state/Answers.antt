use Rattle.derivations.proofs.AllocLaws.{put-state-is}
use Rattle.derivations.proofs.allocating.put_state.Goals as goal

pub returns : goal.returns
returns c = put-state-is _ _ _ _ _ c.args.a _ c.sent_of.ensures c.put_all.ensures c.put_all-2.ensures c.put_all-3.ensures c.put_all-4.ensures
