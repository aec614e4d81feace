use Rattle.std.proofs.Common.{sym, subst, ◌∙◌}
use Rattle.std.proofs.lemmas.Result.{err_from_is_err_and}
use Rattle.function_table.specs.Groups.{is_function}
use Rattle.view_file.specs.Fits.{all_written}
use Rattle.view_file.specs.Least.{IsLeastUnknown}
use Rattle.view_file.proofs.Leasts.{fails_read, listed_same, least_same, text_same}
use Rattle.view_file.proofs.read.read_views.Goals as goal

pub returns-in_err-views : goal.returns-in_err-views
returns-in_err-views c =
    let p = err_from_is_err_and c.from_residual.result c.from_residual.ensures.1 in
    rw (p.1, p.2) (fails_read c.args.bytes.now c.args.image.now c.in_err-views.field-0.0 c.in_err-views.ensures)

pub returns-in-Some : goal.returns-in-Some
returns-in-Some c =
    let told = c.in_ok-views.ensures in
    let least = least_same (is_function c.args.table.now) _ _ c.in-Some.at (λ m. listed_same told.0 c.in_ok-views.views m told.2) c.in-Some.ensures in (
      told.0,
      told.1,
      sym told.2.text ∙ text_same _ _ c.if-ne.ensures,
      subst (λ t. IsLeastUnknown (is_function t) (all_written told.0) c.in-Some.at) c.requires least,
    )
