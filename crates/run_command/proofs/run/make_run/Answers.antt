use Rattle.std.proofs.Common.{◌∙◌, map, List, ℕ}
use Rattle.std.specs.Prelude.{string_bytes}
use Rattle.std.proofs.lemmas.Result.{err_from_is_err_and}
use Rattle.run_command.proofs.Refusals.{views-refused}
use Rattle.run_command.proofs.run.make_run.Goals as goal

pub returns-in_err-views-clause-said : goal.returns-in_err-views-clause-said
returns-in_err-views-clause-said g c =
    let p = err_from_is_err_and c.from_residual-in_err-views.result c.from_residual-in_err-views.ensures.1 in
    let words : List (List ℕ) = map string_bytes c.args.words.now in
    rw (p.1, p.2) (λ at told-at. views-refused words at c.in_ok-image.image c.in_ok-setup.setup (c.in_ok-image.ensures.said at told-at)
    (c.in_ok-setup.ensures.said at (c.in_ok-image.ensures.files ∙ told-at)) c.in_err-views.field-0.0
    (c.in_err-views.ensures.said at (c.in_ok-setup.ensures.files ∙ c.in_ok-image.ensures.files ∙ told-at)))
