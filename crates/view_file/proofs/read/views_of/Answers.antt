use Rattle.std.proofs.Common.{◌≡◌, ◌≤◌, length, refl, subst, sym}
use Rattle.view_file.specs.declared.views.TheConstants.{APPS_MOST}
use Rattle.view_file.specs.Fits.{AreAppsOf}
use Rattle.view_file.proofs.Chosen.{chosen_few, chosen_many}
use Rattle.view_file.proofs.read.views_of.Goals as goal

pub returns-in_default-of-clause-err : goal.returns-in_default-of-clause-err
returns-in_default-of-clause-err c =
    let told = rw (c.in-Some.is, c.as_slice.ensures) at c.in_ok-apps.ensures in
    chosen_many c.args.written.now c.in-Some.apps told.0 told.1 c.in_default-of.ensures.value

pub returns-clause-ok : goal.returns-clause-ok
returns-clause-ok c =
    let told = rw (c.in-Some.is, c.as_slice.ensures) at c.in_ok-apps.ensures in
    let few = c.in-Some-of.ensures.few in
    let same : c.in-Some-of.apps ≡ c.in-Some.apps = c.in-Some-of.ensures.value in (
      chosen_few c.args.written.now c.in-Some.apps told.0 told.1 (subst (λ l. length l ≤ APPS_MOST) same few),
      record {
        text = refl;
        shared = rw c.as_slice-2.ensures at c.in_ok-shared.ensures;
        apps = subst (AreAppsOf c.args.written.now.apps) (sym same) told.1;
        few = few;
      },
    )
