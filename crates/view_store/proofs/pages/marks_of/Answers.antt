use Rattle.std.proofs.Common.{◌≡◌, ◌*◌, ◌/◌, arith}
use Rattle.std.proofs.lemmas.Grind.{common_steps}
use Rattle.fc_numbers.specs.Spans.{text_size}
use Rattle.view_store.proofs.PageLemmas.{text-even}
use Rattle.view_store.proofs.pages.marks_of.Goals as goal

pub mark_kept-requires-clause-marks : goal.mark_kept-requires-clause-marks
mark_kept-requires-clause-marks c =
    let even : 2 * (text_size c.args.table.now.text / 2) ≡ text_size c.args.table.now.text = text-even _ c.text.ensures.lawful in
    grind (arith, common_steps)

pub returns-clause-len : goal.returns-clause-len
returns-clause-len c =
    let even : 2 * (text_size c.args.table.now.text / 2) ≡ text_size c.args.table.now.text = text-even _ c.text.ensures.lawful in
    grind (arith, common_steps)
