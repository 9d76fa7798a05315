-- The flags are numbers by their calls; all else is in its place.
use mathlib.Core.Path.{refl, ◌∙◌}
use Rattle.answer_c.specs.Numbers.{frame_numbers}
use Rattle.answer_c.proofs.Laying.{also, bit-is}
use Rattle.answer_c.proofs.numbers.Goals as goal

pub returns : goal.returns
unfolding frame_numbers
returns c =
    also refl
    (also refl
    (also refl
    (also (c.from.ensures ∙ bit-is _)
    (also refl
    (also refl
    (also refl
    (also refl
    (also refl
    (also refl
    (also refl
    (also refl
    (also refl
    (also refl
    (also refl
    (also refl
    (also refl
    (also refl
    (also refl
    (also refl
    (also refl
    (also refl
    (also (c.from-2.ensures ∙ bit-is _)
    (also (c.from-3.ensures ∙ bit-is _)
    (also (c.from-4.ensures ∙ bit-is _)
    (also (c.from-5.ensures ∙ bit-is _)
    (also (c.from-6.ensures ∙ bit-is _)
    (also (c.from-7.ensures ∙ bit-is _)
    (also (c.from-8.ensures ∙ bit-is _)
    refl))))))))))))))))))))))))))))
