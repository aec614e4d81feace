-- What the tests of names and of their number give.
use Rattle.std.proofs.Common.{◌≡◌, ◌<◌, ◌≤◌, true, false, List, length, refl, ◌∙◌, arith, Ok, Err}
use Rattle.std.specs.Prelude.{nat_le}
use Rattle.std.proofs.lemmas.Bool.Decides.{nat_tests}
use Rattle.std.proofs.lemmas.List.Sorted.{length_permutation}
use Rattle.std.proofs.lemmas.Slice.Zip.{AllZip-long}
use Rattle.view_file.specs.declared.views.App.{App}
use Rattle.view_file.specs.declared.views.TheConstants.{APPS_MOST}
use Rattle.view_file.specs.declared.written.Written.{Written}
use Rattle.view_file.specs.declared.written.WrittenApp.{WrittenApp}
use Rattle.view_file.specs.declared.fault.ViewFault.TheVariants.{TooManyApps}
use Rattle.view_file.specs.Fits.{IsAppOf, AreAppsOf}
use Rattle.view_file.specs.Written.{are_names, written_names, named_well}

pub same_length : (written : List WrittenApp) (apps : List App) → AreAppsOf written apps → length apps ≡ length written
same_length written apps of = length_permutation of.found apps of.order ∙ AllZip-long IsAppOf written of.found of.each

pub chosen_few : (w : Written) (apps : List App) → are_names (written_names w.apps) ≡ true → AreAppsOf w.apps apps → length apps ≤ APPS_MOST → named_well (Ok w) ≡ Ok w
chosen_few w apps good of few =
    let test : nat_le (length w.apps) APPS_MOST ≡ true = grind (arith, nat_tests, same_length w.apps apps of) in
    rw (good, test) refl

pub chosen_many : (w : Written) (apps : List App) → are_names (written_names w.apps) ≡ true → AreAppsOf w.apps apps → APPS_MOST < length apps → named_well (Ok w) ≡ Err TooManyApps
chosen_many w apps good of many =
    let test : nat_le (length w.apps) APPS_MOST ≡ false = grind (arith, nat_tests, same_length w.apps apps of) in
    rw (good, test) refl
