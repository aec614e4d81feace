-- A profile of an image lists functions of the image alone, so that its views are accepted for the image.
use Rattle.std.proofs.Common.{◌≡◌, ℕ, zero, suc, ◌+◌, ◌<◌, ◌≤◌, List, [], ◌∷◌, ◌++◌, map, length, arith, refl, ◌∙◌, sym, ap, subst, Some, None}
use Rattle.std.specs.Prelude.{All, Bool, true, false, ◌&&◌, ◌||◌, ◌==◌, nat_lt, if◌then◌else◌, slice_get, slice_index_or, Option}
use Rattle.std.specs.List.{flat_map, list_all, list_any}
use Rattle.std.proofs.lemmas.Bool.Decides.{nat_tests}
use Rattle.std.proofs.lemmas.List.Folds.{list_all-append}
use Rattle.std.proofs.lemmas.List.Sorted.{length_permutation}
use Rattle.fc_numbers.specs.declared.places.Span.{Span}
use Rattle.guest_input.specs.declared.image.Image.{Image}
use Rattle.guest_input.specs.declared.image.Start.{Start}
use Rattle.guest_input.specs.Accepted.{IsImage, starts_of}
use Rattle.guest_input.specs.Starts.{is_same}
use Rattle.guest_input.specs.Text.{IsStartIn, flat_of, spans_of}
use Rattle.function_table.specs.Groups.{function_at, groups_of, has_start, in_groups_text, is_function}
use Rattle.view_file.specs.declared.views.TheConstants.{APPS_MOST}
use Rattle.view_file.specs.declared.views.App.{App}
use Rattle.view_file.specs.declared.views.Views.{Views}
use Rattle.view_file.specs.Base.{all_listed}
use Rattle.view_file.specs.Fits.{IsViewsFor}
use Rattle.view_file.specs.Least.{contains}
use Rattle.run_evidence.specs.Config.{Config}
use Rattle.profiler.specs.Profile.{AreAll, FetchesFrom, IsAppOfSchedule, IsProfile, start_of}
use Rattle.profiler.specs.Seen.{IsViewsFrom}
use Rattle.profiler.specs.Tally.{IsTally}
use Rattle.profiler.specs.declared.tally.Tally.{Tally}
use Rattle.profiler.proofs.Grown.{same-start}

-- a start that a list has at a place
found-any : (text : List Span) (ss : List Start) (n : ℕ) (at : Start) → slice_get ss n ≡ Some at → list_any (λ start. start == flat_of text at) (map (flat_of text) ss) ≡ true
found-any text [] zero at is = absurd (cc is)
found-any text [] (suc n) at is = absurd (cc is)
found-any text (s ∷ ss) zero at is =
    let same : s ≡ at = cc is in
    let equal : (flat_of text s == flat_of text at) ≡ true = let e : flat_of text s ≡ flat_of text at = ap (flat_of text) same in grind (arith, nat_tests, e) in
    rw equal refl
found-any text (s ∷ ss) (suc n) at is =
    let rest : list_any (λ start. start == flat_of text at) (map (flat_of text) ss) ≡ true = found-any text ss n at is in
    or-right (flat_of text s == flat_of text at) (list_any (λ start. start == flat_of text at) (map (flat_of text) ss)) rest
  where
    or-right : (a b : Bool) → b ≡ true → (a || b) ≡ true
    or-right true b e = refl
    or-right false b e = e

found-all : (P : Start → Type 0) (ss : List Start) (n : ℕ) (at : Start) → All P ss → slice_get ss n ≡ Some at → P at
found-all P [] zero at all is = absurd (cc is)
found-all P [] (suc n) at all is = absurd (cc is)
found-all P (s ∷ ss) zero at all is = let same : s ≡ at = cc is in subst P same (all 0 s (omega arith))
found-all P (s ∷ ss) (suc n) at all is = found-all P ss n at (λ k d within. all (suc k) d (omega (arith, within))) is

-- the start of the function that holds a place is that of a function
pub start-known : (i : Image) → IsImage i → (place : ℕ) (at : Start) → start_of i place ≡ Some at → is_function (groups_of i) at ≡ true
start-known i image place at is = elim (in_groups_text (groups_of i) place) as (λ b. (if b then slice_get (starts_of i.functions) (function_at (groups_of i) place) else None) ≡ Some at → is_function (groups_of i) at ≡ true) [
  | true ↦ λ e.
      let n : ℕ = function_at (groups_of i) place in
      let inside : IsStartIn (spans_of i.ranges) at = found-all (IsStartIn (spans_of i.ranges)) (starts_of i.functions) n at image.inside e in
      let low = inside.inside in
      let has : has_start (spans_of i.ranges) at ≡ true = grind (arith, nat_tests, low) in
      let any : list_any (λ start. start == flat_of (spans_of i.ranges) at) (map (flat_of (spans_of i.ranges)) (starts_of i.functions)) ≡ true = found-any (spans_of i.ranges) (starts_of i.functions) n at e in
      rw (has, any) refl
  | false ↦ λ e. let x : None ≡ Some at = e in cc
] is

each-passes : (p : Start → Bool) (starts : List Start) → ((at : Start) → contains starts at ≡ true → p at ≡ true) → list_all p starts ≡ true
each-passes p [] each = refl
each-passes p (x ∷ xs) each =
    let first : p x ≡ true = each x (let same : is_same x x ≡ true = same-start x in rw same refl) in
    let rest : list_all p xs ≡ true = each-passes p xs (λ at e. each at (or-right (is_same at x) (contains xs at) e)) in
    rw (first, rest) refl
  where
    or-right : (a b : Bool) → b ≡ true → (a || b) ≡ true
    or-right true b e = refl
    or-right false b e = e

apps-pass : (p : Start → Bool) (apps : List App) → ((k : ℕ) (d : App) → k < length apps → list_all p (slice_index_or apps k d).functions ≡ true) → list_all p (flat_map (λ app. app.functions) apps) ≡ true
apps-pass p [] each = refl
apps-pass p (a ∷ more) each =
    let first : list_all p a.functions ≡ true = each 0 a (omega arith) in
    let rest : list_all p (flat_map (λ (app : App). app.functions) more) ≡ true = apps-pass p more (λ k d within. each (suc k) d (omega (arith, within))) in
    list_all-append p a.functions (flat_map (λ (app : App). app.functions) more) ∙ rw (first, rest) refl

-- the views of a profile are accepted for its image
pub accepted : (c : Config) → IsImage c.image → (h : List ℕ) (t : Tally) (v : Views) → IsTally c h t → IsViewsFrom c.image t v → IsProfile c h v → IsViewsFor v c.image
accepted c image h t v is from profile =
    let shared : list_all (is_function (groups_of c.image)) v.shared ≡ true =
    each-passes (is_function (groups_of c.image)) v.shared (λ at e. let some = (profile.shared.members at).0 e in start-known c.image image some.is.fetches.place at some.is.fetches.start) in
    let apps : list_all (is_function (groups_of c.image)) (flat_map (λ (app : App). app.functions) v.apps) ≡ true =
    apps-pass (is_function (groups_of c.image)) v.apps (λ k d within.
    each-passes (is_function (groups_of c.image)) (slice_index_or v.apps k d).functions
    (λ at e. let app : IsAppOfSchedule c h (slice_index_or v.apps k d) = profile.apps k d within in let some = (app.members at).0 e in start-known c.image image some.is.fetches.place at some.is.fetches.start)) in
    let long : length v.apps ≡ length from.found = length_permutation from.found v.apps from.order in
    let each = from.apps.long in let few = is.few in
    record {
      text = profile.text;
      few = omega (arith, long, each, few);
      ascending = profile.ordered;
      listed = list_all-append (is_function (groups_of c.image)) v.shared (flat_map (λ (app : App). app.functions) v.apps) ∙ rw (shared, apps) refl;
    }
