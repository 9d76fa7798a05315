-- The numbers of the refusals, as docs/REFUSALS.md and the syntax's rows have them.
use Rattle.std.specs.Prelude.{ℕ}
use Rattle.refusals.specs.declared.Refusal.{Refusal}
use Rattle.refusals.specs.declared.Refusal.TheVariants.{ShortSlice, NoSyncWord, ShortFrame, OtherFormat, Truncated, GroupedExponent, CompositeGain, BandwidthNeverSent, ExponentOutside, ParametersNeverSent, NoRoom, NoSuchRecord, NotAWord, ValueTooWide, NoPositionLeft, AllowanceUsedUp, LongFrame, ListedTwice, TooManyItems, ByRow}

abbrev pub number_of : Refusal → ℕ
number_of ShortSlice = 1
number_of NoSyncWord = 2
number_of ShortFrame = 4
number_of OtherFormat = 6
number_of Truncated = 8
number_of GroupedExponent = 11
number_of CompositeGain = 13
number_of BandwidthNeverSent = 23
number_of ExponentOutside = 27
number_of ParametersNeverSent = 29
number_of NoRoom = 33
number_of NoSuchRecord = 41
number_of NotAWord = 42
number_of ValueTooWide = 43
number_of NoPositionLeft = 44
number_of AllowanceUsedUp = 45
number_of LongFrame = 46
number_of ListedTwice = 47
number_of TooManyItems = 48
number_of (ByRow number) = number
