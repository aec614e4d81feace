use Rattle.std.proofs.Common.{◌≡◌, ◌∙◌, ap, sym, Some, []}
use Rattle.vcpu_core.specs.declared.lane.Lane.{Lane}
use Rattle.vcpu_core.specs.declared.lane.Phase.{Phase}
use Rattle.vcpu_core.specs.declared.lane.Phase.TheVariants.{Looked}
use Rattle.vcpu_core.specs.Lanes.{after_mend, mend_answer, mend_row, mend_view}
use Rattle.vcpu_core.proofs.Mended.{mend_keeps}
use Rattle.vcpu_core.proofs.rows.mend.Goals as goal

pub returns-clause-kept : goal.returns-clause-kept
returns-clause-kept c =
    let is : c.args.lane.now.phase ≡ Looked c.in-Looked.looked = sym c.in-Looked.ensures.value in
    let after : Lane = record { vcpu = c.args.lane.now.vcpu; windows = record { view = c.args.lane.now.windows.view; held = c.clear.new.self; cleared = Some c.range.result }; phase = c.replace.new.dest } in
    let none : c.clear.new.self.items ≡ [] = c.clear.ensures in
    let mended : after ≡ after_mend c.args.table.now c.in-Looked.looked.group c.args.lane.now =
    λ x. record { vcpu = c.args.lane.now.vcpu; windows = record { view = c.args.lane.now.windows.view; held = record { items = none x }; cleared = Some (c.range.ensures.value x) }; phase = c.replace.ensures.after x } in
    mend_keeps c.args.view.now c.patch.new.self c.args.table.now c.args.lane.now after c.patch.result c.requires.phase c.requires.groups
    (c.patch.ensures.after ∙ ap (λ (q : Phase). mend_view c.args.view.now q) (sym is))
    (mended ∙ ap (λ (q : Phase). mend_row c.args.table.now c.args.lane.now q) (sym is))
    (c.patch.ensures.answer ∙ ap (λ (q : Phase). mend_answer c.args.view.now q) (sym is))
