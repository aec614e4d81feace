-- The text of views has no float, and names are texts.
use Rattle.std.proofs.Common.{◌≡◌, ℕ, zero, suc, true, false, List, [], ◌∷◌, map, refl, arith}
use Rattle.std.specs.List.{list_all}
use Rattle.std.specs.Str.{IsAscii, IsUtf8}
use Rattle.std.proofs.lemmas.Str.{IsUtf8-from_ascii}
use Rattle.std.proofs.lemmas.Bool.Decides.{nat_tests}
use Rattle.serde_json.specs.View.{items_of}
use Rattle.serde_json.specs.Written.{has_float, items_have_float}
use Rattle.fc_numbers.specs.Names.{is_app_name, is_printed}
use Rattle.guest_input.specs.declared.image.Start.{Start}
use Rattle.view_file.specs.declared.views.App.{App}
use Rattle.view_file.specs.declared.views.Views.{Views}
use Rattle.view_file.proofs.Functions.{both-left, both-right}
use Rattle.view_file.specs.Text.{app_data, start_data, views_data}

starts_no_float : (starts : List Start) → items_have_float (items_of (map start_data starts)) ≡ false
starts_no_float [] = refl
starts_no_float (at ∷ starts) = starts_no_float starts

apps_no_float : (apps : List App) → items_have_float (items_of (map app_data apps)) ≡ false
apps_no_float [] = refl
apps_no_float (app ∷ apps) = rw (starts_no_float app.functions, apps_no_float apps) refl

pub no_float : (v : Views) → has_float (views_data v) ≡ false
no_float v = rw (apps_no_float v.apps, starts_no_float v.shared) refl

printed_ascii : (bytes : List ℕ) → list_all is_printed bytes ≡ true → IsAscii bytes
printed_ascii [] all i = omega arith
printed_ascii (b ∷ bytes) all zero =
    let here : is_printed b ≡ true = both-left (is_printed b) (list_all is_printed bytes) all in
    grind (arith, nat_tests, here)
printed_ascii (b ∷ bytes) all (suc i) = printed_ascii bytes (both-right (is_printed b) (list_all is_printed bytes) all) i

-- the name of an app is a text
pub name_utf8 : (name : List ℕ) → is_app_name name ≡ true → IsUtf8 name
name_utf8 name good = IsUtf8-from_ascii name (printed_ascii name (both-right _ (list_all is_printed name) good))
