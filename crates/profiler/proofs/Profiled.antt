-- The views of the tally of a schedule are its profile.
use Rattle.std.proofs.Common.{◌≡◌, ◌≢◌, ℕ, zero, suc, ◌+◌, ◌<◌, ◌≤◌, List, [], ◌∷◌, ◌++◌, map, length, get_or, arith, refl, ◌∙◌, sym, ap, subst, inl, inr, Some, None, Err}
use Rattle.std.specs.Prelude.{All, Bool, true, false, ◌&&◌, ◌||◌, slice_index_or, ◌↔◌}
use Rattle.std.specs.BTreeSet.{BTreeSet}
use Rattle.std.specs.BTreeSet as sets
use Rattle.std.specs.List.{IsDistinct, list_any}
use Rattle.std.specs.List.Sorted.{IsPermutation, IsSortedByKey, IsStrictlySortedBy}
use Rattle.std.specs.Ordering.{nat_cmp, is_lt, is_eq, ordering_reverse}
use Rattle.std.specs.Cmp.Lexicographic.{slice_cmp, nat_list_cmp_total, nat_list_eq_equiv}
use Rattle.std.specs.Str.{bytes_eq}
use Rattle.std.specs.declared.cmp.Ordering.{Ordering}
use Rattle.std.specs.declared.cmp.Ordering.TheVariants.{Less, Equal, Greater}
use Rattle.std.proofs.lemmas.List.{get_or-map, length-map}
use Rattle.std.proofs.lemmas.List.Sorted.{All-permutation, IsPermutation-map, list_any-IsPermutation}
use Rattle.std.proofs.lemmas.Map.Keys.{IsDistinct-IsPermutation, apart_from_distinct, sorted_from_all_adjacent}
use Rattle.std.proofs.lemmas.Map.Text.{is_eq-slice_cmp}
use Rattle.std.proofs.lemmas.Slice.Eq.{bytes_eq-Decides}
use Rattle.guest_input.specs.declared.image.Image.{Image}
use Rattle.guest_input.specs.declared.image.Start.{Start}
use Rattle.guest_input.specs.declared.setup.Setup.{Setup}
use Rattle.guest_input.specs.Starts.{start_cmp, is_same}
use Rattle.view_file.specs.declared.views.App.{App}
use Rattle.view_file.specs.declared.views.Views.{Views}
use Rattle.view_file.specs.Fits.{AreOrdered}
use Rattle.view_file.specs.Least.{contains}
use Rattle.view_file.specs.Union.{has_app}
use Rattle.run_evidence.specs.Config.{Config}
use Rattle.profiler.specs.Profile.{AreAll, IsAppOfSchedule, IsMet, IsProfile, IsUsedInTrap, IsUsedUnder, Profiles, unviewed}
use Rattle.profiler.specs.Seen.{AreAppsOfSets, IsAppFrom, IsListOf, IsViewsFrom}
use Rattle.profiler.specs.Tally.{HasAll, IsTally, Runs, has_name, set_of}
use Rattle.profiler.specs.declared.profile.ProfileFault.{ProfileFault}
use Rattle.profiler.specs.declared.profile.ProfileFault.TheVariants.{TooManyApps, NoMemory}
use Rattle.profiler.specs.declared.tally.Tally.{Tally}
use Rattle.profiler.proofs.Grown.{ties}

contains-tied : (at : Start) (xs : List Start) → list_any (λ other. is_eq (start_cmp at other)) xs ≡ contains xs at
contains-tied at [] = refl
contains-tied at (x ∷ xs) = rw (ties at x, contains-tied at xs) refl

-- a list of a set that has exactly the starts of which something holds
all-listed : (Is : Start → Type 0) (set : BTreeSet Start) (starts : List Start) → HasAll Is set → IsListOf set starts → AreAll Is starts
all-listed Is set starts all list = record {
  ascending = subst (IsStrictlySortedBy start_cmp) (sym list.keys) list.ascending;
  members = λ at. let same : contains starts at ≡ sets.contains start_cmp set at = ap (λ xs. contains xs at) list.keys ∙ sym (contains-tied at set.keys) in
      ((λ e. (all at).0 (sym same ∙ e)), λ is. same ∙ (all at).1 is);
}

same-names : (names : List (List ℕ)) (found : List App) → length found ≡ length names
    → ((k : ℕ) (d : App) → k < length names → (slice_index_or found k d).name ≡ slice_index_or names k []) → map (λ (a : App). a.name) found ≡ names
same-names [] [] long each = refl
same-names [] (a ∷ more) long each = absurd (omega (arith, long))
same-names (n ∷ ns) [] long each = absurd (omega (arith, long))
same-names (n ∷ ns) (a ∷ more) long each =
    let first : a.name ≡ n = each 0 a (omega arith) in
    let rest : map (λ (x : App). x.name) more ≡ ns = same-names ns more (omega (arith, long)) (λ k d within. each (suc k) d (omega (arith, within))) in
    rw (first, rest) refl

has-names : (found : List App) (name : List ℕ) → has_app found name ≡ has_name (map (λ (a : App). a.name) found) name
has-names [] name = refl
has-names (a ∷ more) name = ap (λ b. bytes_eq a.name name || b) (has-names more name)

pub names-found : (names : List (List ℕ)) (used : List (BTreeSet Start)) (found : List App) → AreAppsOfSets names used found → map (λ (a : App). a.name) found ≡ names
names-found names used found apps = same-names names found apps.long (λ k d within. (apps.each k d within).named)

pub is-profile : (c : Config) (h : List ℕ) (t : Tally) (v : Views) → IsTally c h t → IsViewsFrom c.image t v → IsProfile c h v
is-profile c h t v is from = record {
  text = from.text;
  shared = all-listed (IsUsedInTrap c h) t.shared v.shared is.shared from.shared;
  apps = All-permutation (IsAppOfSchedule c h) from.found v.apps from.order (λ k d within.
      let inside : k < length t.names.items = let long = from.apps.long in omega (arith, long, within) in
      let app = from.apps.each k d inside in
      subst (λ n. AreAll (IsUsedUnder c h n) (slice_index_or from.found k d).functions) (sym app.named)
      (all-listed (IsUsedUnder c h (slice_index_or t.names.items k [])) (set_of t.used.items k) (slice_index_or from.found k d).functions (is.used k inside) app.functions));
  names = λ name.
      let same : has_app v.apps name ≡ has_name t.names.items name =
      sym (list_any-IsPermutation (λ (a : App). bytes_eq a.name name) from.found v.apps from.order) ∙ has-names from.found name
      ∙ ap (λ xs. has_name xs name) (names-found t.names.items t.used.items from.found from.apps) in
      ((λ e. (is.met name).0 (sym same ∙ e)), λ met. same ∙ (is.met name).1 met);
  ordered = from.ascending;
}

-- what is not below, and not the same, is above
less : (a b : List ℕ) (r : Ordering) → slice_cmp nat_cmp a b ≡ r → is_lt (slice_cmp nat_cmp b a) ≡ false → a ≢ b → slice_cmp nat_cmp a b ≡ Less
less a b Less is not_lt apart = is
less a b Equal is not_lt apart = absurd (apart ((bytes_eq-Decides a b).0 (sym (is_eq-slice_cmp a b) ∙ ap is_eq is)))
less a b Greater is not_lt apart =
    let back : slice_cmp nat_cmp b a ≡ ordering_reverse (slice_cmp nat_cmp a b) = nat_list_cmp_total.antisymm b a in
    let e : slice_cmp nat_cmp b a ≡ Less = back ∙ ap ordering_reverse is in
    let t : true ≡ false = sym (ap is_lt e) ∙ not_lt in cc

no_app : App
no_app = record { name = []; functions = [] }

flips : (a b : List ℕ) → bytes_eq a b ≡ bytes_eq b a
flips a b = nat_list_eq_equiv.symm a b

-- sorted apps of different names
pub ordered : (found apps : List App) → IsDistinct bytes_eq (map (λ (a : App). a.name) found) → IsPermutation found apps
    → IsSortedByKey (λ (app : App). app.name) (slice_cmp nat_cmp) apps → AreOrdered apps
ordered found apps once moved up =
    let names : List (List ℕ) = map (λ (a : App). a.name) apps in
    let distinct : IsDistinct bytes_eq names = IsDistinct-IsPermutation bytes_eq flips (map (λ (a : App). a.name) found) names (IsPermutation-map (λ (a : App). a.name) found apps moved) once in
    sorted_from_all_adjacent nat_list_cmp_total names [] (λ k within.
    let inside : k + 1 < length apps = subst (λ n. k + 1 < n) (length-map apps (λ (a : App). a.name)) within in
    let before : k < length apps = omega (arith, inside) in
    let here : get_or names k [] ≡ (get_or apps k no_app).name = get_or-map (λ (a : App). a.name) apps k no_app [] before in
    let next : get_or names (k + 1) [] ≡ (get_or apps (k + 1) no_app).name = get_or-map (λ (a : App). a.name) apps (k + 1) no_app [] inside in
    let other : get_or names k [] ≢ get_or names (k + 1) [] = λ same.
    let t : true ≡ false = sym ((bytes_eq-Decides _ _).1 same) ∙ apart_from_distinct bytes_eq names k (k + 1) [] distinct (omega arith) within in cc in
    less _ _ _ refl (rw (here, next) (up k no_app (omega arith) inside)) other)

-- a run that was refused has no profile
pub refused-profile : (image : Image) (setup : Setup) (fault : ProfileFault) → Runs (unviewed image setup) (Err fault) → Profiles image setup (Err fault)
refused-profile image setup TooManyApps many = many
refused-profile image setup NoMemory many = tt
