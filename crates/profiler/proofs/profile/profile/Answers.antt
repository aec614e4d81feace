use Rattle.std.proofs.Common.{◌≡◌, ap, sym, subst, refl, ◌∙◌, length, Err}
use Rattle.std.proofs.lemmas.Result.{err_from_is_err_and}
use Rattle.run_evidence.specs.Config.{Config}
use Rattle.profiler.specs.Profile.{unviewed}
use Rattle.profiler.proofs.Accepted.{accepted}
use Rattle.profiler.proofs.Profiled.{is-profile, refused-profile}
use Rattle.profiler.proofs.profile.profile.Goals as goal

pub views_of-requires-clause-long : goal.views_of-requires-clause-long
views_of-requires-clause-long c = c.in_ok-tally.ensures.2.long

pub views_of-requires-clause-few : goal.views_of-requires-clause-few
views_of-requires-clause-few c = c.in_ok-tally.ensures.2.few

pub views_of-requires-clause-once : goal.views_of-requires-clause-once
views_of-requires-clause-once c = c.in_ok-tally.ensures.2.once

pub returns-in_err-tally-clause-profiles : goal.returns-in_err-tally-clause-profiles
returns-in_err-tally-clause-profiles c =
    let p = err_from_is_err_and c.from_residual.result c.from_residual.ensures.1 in
    rw (p.1, p.2) (refused-profile c.args.image.now c.args.setup.now c.in_err-tally.field-0.0 c.in_err-tally.ensures)

pub returns-clause-profiles : goal.returns-clause-profiles
returns-clause-profiles c =
    let config : Config = unviewed c.args.image.now c.args.setup.now in
    let ran = c.in_ok-tally.ensures in
    record {
      schedule = ran.0;
      robin = ran.1;
      profile = is-profile config ran.0 c.in_ok-tally.tally c.in_ok-views.views ran.2 c.in_ok-views.ensures;
    }

pub returns-clause-accepted : goal.returns-clause-accepted
returns-clause-accepted c =
    let config : Config = unviewed c.args.image.now c.args.setup.now in
    let ran = c.in_ok-tally.ensures in
    let profile = is-profile config ran.0 c.in_ok-tally.tally c.in_ok-views.views ran.2 c.in_ok-views.ensures in
    accepted config c.requires.image ran.0 c.in_ok-tally.tally c.in_ok-views.views ran.2 c.in_ok-views.ensures profile
