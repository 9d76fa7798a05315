-- The outcome that a result tells, and bits at a place.
use Rattle.std.specs.Prelude.{cond, List, [], ℕ, ◌+◌, ltb, Result, Ok, Err}
use Rattle.bits.specs.Bits.{bits_at}
use Rattle.reading.specs.Run.{refused, Outcome, out}
use Rattle.refusals.specs.Refusals.{number_of}
use Rattle.refusals.specs.declared.Refused.{Refused}
use Rattle.refusals.specs.declared.Refusal.TheVariants.{Truncated}
use Rattle.skim.specs.declared.Seen.{Seen}

-- a refusal: its number, at its place
abbrev pub refused_at : {A : Type 0} → Refused → Outcome A
refused_at e = out (refused (number_of e.refusal)) e.place.0 []

-- what was read, or the refusal
abbrev pub outcome : {A B : Type 0} → (A → Outcome B) → Result A Refused → Outcome B
outcome told (Ok a) = told a
outcome told (Err e) = refused_at e

-- bits at a place, or that they pass the end
unfoldable pub look_of : List ℕ → ℕ → ℕ → ℕ → Result Seen Refused
look_of s p w l =
    cond (ltb l (p + w)) (Err (record { refusal = Truncated; place = record { 0 = p } }))
    (Ok (record { value = bits_at s p w; next = record { 0 = p + w } }))
