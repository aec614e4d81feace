use Rattle.std.proofs.Common.{◌≡◌, ◌∙◌, ap, sym}
use Rattle.vcpu_core.specs.declared.lane.Lane.{Lane}
use Rattle.vcpu_core.specs.declared.lane.Phase.{Phase}
use Rattle.vcpu_core.specs.declared.lane.Phase.TheVariants.{Running}
use Rattle.vcpu_core.specs.Lanes.{after_fill, fill_row, with_newest}
use Rattle.vcpu_core.proofs.Mended.{fill_keeps}
use Rattle.vcpu_core.proofs.rows.fill.Goals as goal

pub returns-clause-kept : goal.returns-clause-kept
returns-clause-kept c =
    let p = c.args.view.now in
    let l : Lane = c.args.lane.now in
    let after : Lane = record { vcpu = c.args.lane.now.vcpu; windows = record { view = c.args.lane.now.windows.view; held = c.hold.new.held; cleared = c.args.lane.now.windows.cleared }; phase = Running } in
    let held : c.hold.new.held.items ≡ with_newest c.args.lane.now.windows.held.items (Rattle.view_store.specs.Paged.window_of c.args.view.now c.in-Wants.line) = c.hold.ensures in
    let filled : after ≡ after_fill c.args.view.now c.in-Wants.line c.args.lane.now =
    λ x. record { vcpu = c.args.lane.now.vcpu; windows = record { view = c.args.lane.now.windows.view; held = record { items = held x }; cleared = c.args.lane.now.windows.cleared }; phase = Running } in
    let exact : after ≡ fill_row c.args.view.now c.args.lane.now c.args.lane.now.phase = filled ∙ ap (λ (q : Phase). fill_row c.args.view.now c.args.lane.now q) (sym c.in-Wants.is) in
    fill_keeps c.args.view.now c.args.lane.now after c.requires.phase exact
