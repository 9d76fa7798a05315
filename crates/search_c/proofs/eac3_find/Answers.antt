-- By the callees.
use mathlib.Core.Path.{ap, ◌∙◌}
use native.Mathlib.Omega.{arith}
use Rattle.answer.specs.Answer.{number_of}
use Rattle.reading.specs.Room.{room}
use Rattle.search.specs.Find.{room_after}
use Rattle.search.specs.declared.Found.{Found}
use Rattle.search_c.proofs.Laid.{bare-found, found-laid}
use Rattle.search_c.proofs.eac3_find.Goals as goal

pub tell-number-requires : goal.tell-number-requires
tell-number-requires c = (bare-found c.find-found.ensures, omega (arith, c.tell-arg-1.given.0.1))

pub returns : goal.returns
returns c = record {
  number = c.tell-number.ensures.0 ∙ ap (λ (f : Found). number_of f.answer) c.find-found.ensures.found;
  left = c.find-found.ensures.left
      ∙ ap (λ (f : Found). room_after c.args.capture.now (room c.args.names.now c.args.blocks.now c.args.indexes.now c.args.firsts.now c.args.widths.now c.args.values.now) c.args.start f.tried) c.find-found.ensures.found;
  answer = found-laid c.args.answer.now _ _ _ c.tell-number.ensures.1 c.find-found.ensures.found;
}
