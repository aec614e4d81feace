-- The text of views reads back as these views.
use Rattle.std.proofs.Common.{◌≡◌, ℕ, ◌≤◌, true, List, [], ◌∷◌, map, length, refl, ap, ◌∙◌, arith, Some, Ok}
use Rattle.std.specs.Prelude.{if◌then◌else◌, None}
use Rattle.std.specs.List.{list_all, AllZip}
use Rattle.std.specs.Str.{IsUtf8}
use Rattle.std.proofs.lemmas.Str.{is_utf8-from_IsUtf8}
use Rattle.std.proofs.lemmas.List.Sorted.{IsPermutation-refl}
use Rattle.std.specs.Result.{result_ok}
use Rattle.hex.specs.Hex.{IsBytes, encode_lower}
use Rattle.hex.proofs.HexLemmas.{decode_sized-encode_lower}
use Rattle.serde_json.specs.Data.{depth, items_depth, string}
use Rattle.serde_json.specs.Read.{read, max_depth}
use Rattle.serde_json.specs.View.{items_of}
use Rattle.fc_numbers.specs.Names.{is_app_name}
use Rattle.json_fields.specs.Fields.{each_of, json_of, list_of}
use Rattle.guest_input.specs.declared.image.Start.{Start}
use Rattle.view_file.specs.declared.views.App.{App}
use Rattle.view_file.specs.declared.views.Views.{Views}
use Rattle.view_file.specs.declared.written.Version.TheVariants.{Two}
use Rattle.view_file.specs.declared.written.Written.{Written}
use Rattle.view_file.specs.declared.written.WrittenApp.{WrittenApp}
use Rattle.view_file.specs.Fits.{IsAppOf, AreAppsOf, IsViewsOf, Parses}
use Rattle.view_file.specs.Lawful.{AreListedBy, IsViews, is_start}
use Rattle.view_file.specs.Text.{app_data, apps_data, start_data, starts_data, views_data}
use Rattle.view_file.specs.Written.{app_of, apps_of, are_names, written_digest, written_names, shaped_of, written_start, written_starts, written_of}
use Rattle.view_file.proofs.Apart.{names_well}
use Rattle.view_file.proofs.Chosen.{chosen_few}
use Rattle.view_file.proofs.Functions.{both-left, both-right}

-- what a file writes of an app, and of views
abbrev app_written : App → WrittenApp
app_written app = record { name = app.name; functions = app.functions }

abbrev pub views_written : Views → Written
views_written v = record { text = v.text; shared = v.shared; apps = map app_written v.apps }

start_back : (at : Start) → is_start at ≡ true → written_start Two (start_data at) ≡ Some at
unfolding written_start
start_back at good = ap (λ b. if b then Some at else None) good

each_start_back : (starts : List Start) → list_all is_start starts ≡ true → each_of (written_start Two) (list_of (items_of (map start_data starts))) ≡ Some starts
each_start_back [] good = refl
each_start_back (at ∷ starts) good =
    rw (start_back at (both-left (is_start at) (list_all is_start starts) good), each_start_back starts (both-right (is_start at) (list_all is_start starts) good)) refl

starts_back : (starts : List Start) → list_all is_start starts ≡ true → written_starts Two (starts_data starts) ≡ Some starts
unfolding written_starts
starts_back starts good = each_start_back starts good

app_back : (app : App) → list_all is_start app.functions ≡ true → app_of Two (app_data app) ≡ Some (app_written app)
unfolding app_of
app_back app good = rw (starts_back app.functions good) refl

each_app_back : (apps : List App) → AreListedBy apps → each_of (app_of Two) (list_of (items_of (map app_data apps))) ≡ Some (map app_written apps)
each_app_back [] good = refl
each_app_back (app ∷ apps) good = rw (app_back app good.0.each, each_app_back apps good.1) refl

apps_back : (apps : List App) → AreListedBy apps → apps_of Two (apps_data apps) ≡ Some (map app_written apps)
unfolding apps_of
apps_back apps good = each_app_back apps good

digest_back : (text : List ℕ) → length text ≡ 32 → IsBytes text → written_digest (string (encode_lower text)) ≡ Some text
unfolding written_digest
digest_back text long bytes = ap result_ok (decode_sized-encode_lower text 32 long bytes)

views_back : (v : Views) → IsViews v → written_of (views_data v) ≡ Some (views_written v)
unfolding written_of
views_back v good = rw (digest_back v.text good.text good.bytes, starts_back v.shared good.shared.each, apps_back v.apps good.functions) refl

each_written : (apps : List App) → AreListedBy apps → AllZip IsAppOf (map app_written apps) apps
each_written [] good = tt
each_written (app ∷ apps) good = (record { name = refl; functions = record { ascending = good.0.ascending; same = λ at. refl } }, each_written apps good.1)

same_names : (apps : List App) → written_names (map app_written apps) ≡ map (λ (app : App). app.name) apps
same_names [] = refl
same_names (app ∷ apps) = ap (λ l. app.name ∷ l) (same_names apps)

apps_written : (v : Views) → IsViews v → AreAppsOf (map app_written v.apps) v.apps
apps_written v good = record { found = v.apps; each = each_written v.apps good.functions; order = IsPermutation-refl v.apps; ascending = good.ascending }

-- the views are those that their file writes
pub views_of_written : (v : Views) → IsViews v → IsViewsOf (views_written v) v
views_of_written v good = record {
  text = refl;
  shared = record { ascending = good.shared.ascending; same = λ at. refl };
  apps = apps_written v good;
  few = good.few;
}

shaped_back : (bytes : List ℕ) (v : Views) → IsViews v → json_of bytes ≡ Some (views_data v) → shaped_of bytes ≡ Ok (views_written v)
unfolding shaped_of
shaped_back bytes v good is = rw (is, views_back v good) refl

-- bytes with the JSON value of views read as these views
pub reads_back : (bytes : List ℕ) (v : Views) → IsViews v → IsUtf8 bytes → read bytes ≡ Some (views_data v) → Parses bytes (Ok v)
unfolding json_of
reads_back bytes v good text is =
    let json : json_of bytes ≡ Some (views_data v) = rw (is_utf8-from_IsUtf8 bytes text) is in
    let names : are_names (written_names (map app_written v.apps)) ≡ true =
    names_well (map app_written v.apps) v.apps v.apps (ap (list_all is_app_name) (same_names v.apps) ∙ good.names) (each_written v.apps good.functions) (IsPermutation-refl v.apps) good.ascending in (
      views_written v,
      rw (shaped_back bytes v good json) (chosen_few (views_written v) v.apps names (apps_written v good) good.few),
      views_of_written v good,
    )

-- ---- how deep the text nests

starts_depth : (starts : List Start) → items_depth (items_of (map start_data starts)) ≤ 1
starts_depth [] = omega arith
starts_depth (at ∷ starts) = let rest : items_depth (items_of (map start_data starts)) ≤ 1 = starts_depth starts in omega (arith, rest)

apps_depth : (apps : List App) → items_depth (items_of (map app_data apps)) ≤ 3
apps_depth [] = omega arith
apps_depth (app ∷ apps) =
    let here : items_depth (items_of (map start_data app.functions)) ≤ 1 = starts_depth app.functions in
    let rest : items_depth (items_of (map app_data apps)) ≤ 3 = apps_depth apps in omega (arith, here, rest)

pub views_depth : (v : Views) → depth (views_data v) ≤ max_depth
views_depth v =
    let apps : items_depth (items_of (map app_data v.apps)) ≤ 3 = apps_depth v.apps in
    let shared : items_depth (items_of (map start_data v.shared)) ≤ 1 = starts_depth v.shared in omega (arith, apps, shared)
