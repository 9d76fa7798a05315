use Rattle.derivations.proofs.AllocLaws.{fresh-is}
use Rattle.derivations.proofs.allocating.fresh.Goals as goal

pub returns : goal.returns
returns c = fresh-is _ _ _ _ _ _ _ _ c.fresh.result _ _ c.fresh.ensures c.put_state.ensures c.put_all.ensures c.def_spx_bndstrc.ensures c.put_all-2.ensures c.def_cpl_bndstrc.ensures c.put_all-3.ensures c.put_all-4.ensures c.put_all-5.ensures c.put.ensures
