use Rattle.std.proofs.Common.{◌≡◌, ◌+◌, length, subst}
use Rattle.std.specs.Prelude.{IfOk}
use Rattle.turn_table.specs.Tried.{fresh_views}
use Rattle.turn_table.proofs.Trying.{fresh_opens}
use Rattle.turn_table.proofs.runs.open_run.Goals as goal

pub open-requires-2-clause-many : goal.open-requires-2-clause-many
open-requires-2-clause-many c = (fresh_opens c.args.image.now c.args.setup.now c.args.groups.now c.args.profile.now c.in_ok-board.board c.in_ok-views.views.items c.requires c.in_ok-board.ensures
    (subst (λ r. IfOk r (λ vs. vs.items ≡ fresh_views (record { image = c.args.image.now; setup = c.args.setup.now; views = c.args.profile.now }) (length c.args.profile.now.apps + 1))) c.in_ok-views.was (c.first_views.ensures c.args.setup.now))).many

pub open-requires-2-clause-each : goal.open-requires-2-clause-each
open-requires-2-clause-each c = (fresh_opens c.args.image.now c.args.setup.now c.args.groups.now c.args.profile.now c.in_ok-board.board c.in_ok-views.views.items c.requires c.in_ok-board.ensures
    (subst (λ r. IfOk r (λ vs. vs.items ≡ fresh_views (record { image = c.args.image.now; setup = c.args.setup.now; views = c.args.profile.now }) (length c.args.profile.now.apps + 1))) c.in_ok-views.was (c.first_views.ensures c.args.setup.now))).each

pub open-requires-2-clause-sound : goal.open-requires-2-clause-sound
open-requires-2-clause-sound c = (fresh_opens c.args.image.now c.args.setup.now c.args.groups.now c.args.profile.now c.in_ok-board.board c.in_ok-views.views.items c.requires c.in_ok-board.ensures
    (subst (λ r. IfOk r (λ vs. vs.items ≡ fresh_views (record { image = c.args.image.now; setup = c.args.setup.now; views = c.args.profile.now }) (length c.args.profile.now.apps + 1))) c.in_ok-views.was (c.first_views.ensures c.args.setup.now))).sound
