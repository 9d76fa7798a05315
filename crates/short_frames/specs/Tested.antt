-- A format that takes short frames only, as code reads it: the header of F, and then the test. Only the code's contracts need this page.
use Rattle.std.specs.Prelude.{cond, List, [], ℕ, leb, Option, None, Some}
use Rattle.refusals.specs.declared.Refusal.{Refusal}
use Rattle.refusals.specs.declared.Refusal.TheVariants.{ShortFrame, LongFrame}
use Rattle.reading.specs.Run.{refused, Outcome, out}
use Rattle.reading.specs.Frame.{Format, sized}

-- what follows F's header
unfoldable pub tested : {H A : Type 0} → ℕ → Format H A → List ℕ → H → ℕ → Outcome A
tested greatest F b h p = let r = sized F b h p in cond (leb (F.bytes h) greatest) r (out (refused 46) p [])

-- the refusal of a frame of so many bytes in a buffer of so many: above the greatest, or longer than the buffer
unfoldable pub unfit_by : ℕ → ℕ → ℕ → Option Refusal
unfit_by greatest bytes long = cond (leb bytes greatest) (cond (leb bytes long) None (Some ShortFrame)) (Some LongFrame)
