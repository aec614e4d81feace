use Rattle.std.proofs.Common.{◌≡◌, ap, sym, subst, refl, ◌∙◌}
use Rattle.std.specs.Option.{option_copied}
use Rattle.profiler.proofs.Running.{fetched-step, on-ok}
use Rattle.profiler.proofs.run.take_turn.Goals as goal

pub returns-clause-tally : goal.returns-clause-tally
returns-clause-tally c = on-ok c.meet.result (λ meets. record {
  between = c.note_place.new.tally;
  fetch = fetched-step c.args.image.now c.args.board.now.state c.args.i c.args.tally.now c.note_place.new.tally c.listed-listed.result c.step-place.result
      (option_copied c.name_of.result) c.depth_of.result c.listed-listed.ensures.value c.name_of.ensures c.depth_of.ensures c.step-place.ensures.place c.in_ok-note_place.ensures;
  meets = rw c.name_of-2.ensures at meets;
}) c.meet.ensures.met

pub returns-clause-many : goal.returns-clause-many
returns-clause-many c = λ e. record {
  between = c.note_place.new.tally;
  fetch = fetched-step c.args.image.now c.args.board.now.state c.args.i c.args.tally.now c.note_place.new.tally c.listed-listed.result c.step-place.result
      (option_copied c.name_of.result) c.depth_of.result c.listed-listed.ensures.value c.name_of.ensures c.depth_of.ensures c.step-place.ensures.place c.in_ok-note_place.ensures;
  many = rw c.name_of-2.ensures at (c.meet.ensures.many e);
}
