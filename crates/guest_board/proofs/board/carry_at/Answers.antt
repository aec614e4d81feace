use Rattle.std.proofs.Common.{◌≡◌, ap}
use Rattle.std.specs.Prelude.{slice_index_or}
use Rattle.std.proofs.lemmas.List.{get_or_default}
use Rattle.guest_board.specs.declared.step.StepOutcome.{StepOutcome}
use Rattle.guest_board.specs.Board.{no_slot}
use Rattle.guest_board.proofs.Carried.{all-depths, all-left, all-slots}
use Rattle.guest_board.proofs.board.carry_at.Goals as goal

pub returns-clause-slots : goal.returns-clause-slots
returns-clause-slots g c =
    let was : slice_index_or c.args.slots.now c.args.begun.at c.index-slots-at.result ≡ slice_index_or c.args.slots.now c.args.begun.at no_slot = get_or_default c.args.slots.now c.args.begun.at c.index-slots-at.result no_slot c.requires.inside in
    all-slots c.carry_slot-put.result.left.wrote _ c.args.begun.at c.args.slots.now c.break_others.new.slots c.carry_slot-put.new.slot _ c.requires.inside c.break_others.ensures
    (rw was at c.carry_slot-put.ensures.slot) (ap (λ (left : StepOutcome). left.wrote) (rw was at c.carry_slot-put.ensures.left))

pub returns-clause-one_less : goal.returns-clause-one_less
returns-clause-one_less g c =
    all-left c.args.rules.now _ c.args.begun.start _ _ c.args.begun.at c.args.slots.now c.break_others.new.slots c.requires.inside c.requires.steps (returns-clause-slots g c)

pub returns-clause-depths : goal.returns-clause-depths
returns-clause-depths g c =
    all-depths c.args.rules.now _ c.args.begun.start _ _ c.args.begun.at c.args.slots.now c.break_others.new.slots c.args.begun.clock c.requires.depths (returns-clause-slots g c)
