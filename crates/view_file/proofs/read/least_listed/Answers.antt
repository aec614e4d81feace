use Rattle.std.proofs.Common.{◌≡◌, ◌<◌, length, ap, subst, ◌∙◌}
use Rattle.std.specs.Prelude.{slice_index_or}
use Rattle.function_table.specs.Groups.{is_function}
use Rattle.view_file.proofs.Leasts.{least_app}
use Rattle.view_file.proofs.read.least_listed.Goals as goal

pub loop-app-preserved : goal.loop-app-preserved
loop-app-preserved c =
    let within : c.loop-app.app-index < length c.args.views.now.apps = subst (λ l. c.loop-app.app-index < length l) c.as_slice-app-items.ensures.value c.loop-app-test.true in
    let is : c.app-item.result ≡ slice_index_or c.args.views.now.apps c.loop-app.app-index c.app-item.result =
    c.app-item.is ∙ ap (λ l. slice_index_or l c.loop-app.app-index c.app-item.result) c.as_slice-app-items.ensures.value in
    rw c.lesser-least.ensures
    (least_app (is_function c.args.table.now) c.args.views.now.shared c.args.views.now.apps c.loop-app.app-index c.app-item.result c.loop-app.least c.least_unknown.result
    within is c.loop-app.invariant (rw c.as_slice-in-loop-app.ensures at c.least_unknown.ensures))
