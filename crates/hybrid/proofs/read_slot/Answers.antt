use Rattle.skim.proofs.SkimLaws.{handed_on}
use Rattle.hybrid.proofs.HybridLaws.{gained-none, aht-past, aht-gains, aht-bins}
use Rattle.hybrid.proofs.read_slot.Goals as goal

pub returns-in_err-mode : goal.returns-in_err-mode
returns-in_err-mode c = handed_on _ _ _ c.in_err-mode.field-0.0 _ c.from_residual.ensures.1 (aht-past _ _ _ _ _ _ _ _ c.in_err-mode.ensures)

pub read_gains-requires : goal.read_gains-requires
read_gains-requires c = (c.active_in.ensures.1, c.requires.3, gained-none)

pub returns-in_err-place : goal.returns-in_err-place
returns-in_err-place c = handed_on _ _ _ c.in_err-place.field-0.0 _ c.from_residual-in_err-place.ensures.1 (aht-gains _ _ _ _ _ _ _ _ c.in_ok-mode.ensures _ c.active_in.ensures.0 c.in_err-place.field-0.0 c.in_err-place.ensures)

pub returns : goal.returns
returns c = let g = c.in_ok-place.ensures in (aht-bins _ _ _ _ _ _ _ _ c.in_ok-mode.ensures _ c.active_in.ensures.0 _ _ g _ (c.read_bins.ensures.0 g.gains g.held), c.read_bins.ensures.1)
