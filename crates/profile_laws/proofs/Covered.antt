-- A profile covers its own run.
use Rattle.std.proofs.Common.{◌≡◌, ℕ, zero, suc, ◌+◌, ◌-◌, ◌<◌, true, false, leb, List, [], ◌∷◌, ◌++◌, length, get_or, Option, Some, None, refl, ap, sym, ◌∙◌, arith, ◌||◌}
use Rattle.std.specs.Prelude.{◌==◌, bytes_eq, slice_get, slice_index}
use Rattle.std.proofs.lemmas.Bool.{both_ways, and_parts, eq-eqb, eqb-true, or_left, or_right, cond-true}
use Rattle.std.proofs.lemmas.List.{get_or-map, length-map}
use Rattle.std.proofs.lemmas.List.Folds.{list_any-append}
use Rattle.std.proofs.lemmas.List.FromFn.{get_or-map-range_with_len}
use Rattle.std.proofs.lemmas.List.Quantifiers.{position-Some}
use Rattle.std.proofs.lemmas.List.Sums.{count_by-le-length}
use Rattle.std.proofs.lemmas.Option.{slice_get-get_or}
use Rattle.std.proofs.lemmas.Slice.Eq.{bytes_eq-Decides}
use Rattle.fc_numbers.specs.Spans.{offset_in, text_size}
use Rattle.guest_input.specs.declared.image.Image.{Image}
use Rattle.guest_input.specs.declared.image.Start.{Start}
use Rattle.guest_input.specs.Accepted.{IsImage, IsStarts, offsets_of, starts_of}
use Rattle.guest_input.specs.Starts.{is_same}
use Rattle.guest_input.specs.Text.{bytes_of, flat_of, spans_of}
use Rattle.function_table.specs.Groups.{Groups, function_at, group_at, group_in, groups_count, groups_of, in_groups_text, is_closed}
use Rattle.chain_log.specs.declared.entry.LogEntry.{LogEntry}
use Rattle.view_file.specs.declared.views.App.{App}
use Rattle.view_file.specs.declared.views.Views.{Views}
use Rattle.view_file.specs.Base.{functions_of_app, group_of_start, holds_one, is_based, listed_for}
use Rattle.view_file.specs.Least.{contains}
use Rattle.view_file.specs.Named.{position_of, view_of_position as view_of_place, view_named}
use Rattle.guest_board.specs.Board.{State, depth_of, name_of}
use Rattle.run_evidence.specs.Config.{Config, IsConfig, IsLawfulSchedule, fetched_at, full_at, image_groups, is_base, view_at}
use Rattle.run_evidence.specs.Evidence.{IsJustified, chain_in}
use Rattle.guest_runs.specs.Log.{JustifiedEntriesArePrintable}
use Rattle.profiler.specs.Profile.{FetchesFrom, IsProfile, IsUsedInTrap, IsUsedUnder, start_of, unviewed}
use Rattle.vcpu_core.specs.Undisturbed.{IsCovered}
use Rattle.profile_laws.proofs.Groups.{start-same}

abbrev no_start : Start
no_start = record { range = 0; offset = 0 }

abbrev no_app : App
no_app = record { name = []; functions = [] }

-- the start of the function that holds a place
abbrev holder : Image → ℕ → Start
holder i p = get_or (starts_of i.functions) (function_at (groups_of i) p) no_start

some-start : (xs : List ℕ) (size : ℕ) → IsStarts xs size → 0 < length xs
some-start [] size good = absurd good
some-start (x ∷ xs) size good = omega arith

holder-within : (i : Image) (p : ℕ) → IsImage i → function_at (groups_of i) p < length (starts_of i.functions)
holder-within i p good =
    let functions = (groups_of i).functions in
    let some = some-start functions (text_size (spans_of i.ranges)) good.starts in
    let long : length functions ≡ length (starts_of i.functions) = length-map (starts_of i.functions) (flat_of (spans_of i.ranges)) in
    let most = count_by-le-length (λ start. leb start (offset_in (groups_of i).text p)) functions in
    omega (arith, some, long, most)

holder-starts : (i : Image) (p : ℕ) → IsImage i → in_groups_text (groups_of i) p ≡ true → start_of i p ≡ Some (holder i p)
holder-starts i p good inside =
    cond-true (in_groups_text (groups_of i) p) (slice_get (starts_of i.functions) (function_at (groups_of i) p)) None inside
    ∙ slice_get-get_or (starts_of i.functions) (function_at (groups_of i) p) no_start (holder-within i p good)

-- the group of a place is that of the start of the function that holds it
holder-group : (i : Image) (p : ℕ) → IsImage i → group_of_start (groups_of i) (holder i p) ≡ group_at (groups_of i) p
holder-group i p good =
    let text = spans_of i.ranges in
    let functions = offsets_of text (starts_of i.functions) in
    let k = function_at (groups_of i) p in
    let off = offset_in text p in
    let at : get_or functions k 0 ≡ flat_of text (holder i p) = get_or-map (flat_of text) (starts_of i.functions) k no_start 0 (holder-within i p good) in
    ap (group_in (groups_of i).starts) (sym at) ∙ start-same (is_closed text (bytes_of i.ranges)) off (text_size text) functions good.starts

-- a function that is listed
same-start : (a b : Start) → is_same a b ≡ true → a ≡ b
same-start a b e =
    let parts = and_parts (a.range == b.range) (a.offset == b.offset) e in
    let range = eqb-true a.range b.range parts.0 in
    let offset = eqb-true a.offset b.offset parts.1 in
    ap (λ (r : ℕ). record a { range = r }) range ∙ ap (λ (o : ℕ). record b { offset = o }) offset

holds-listed : (t : Groups) (starts : List Start) (at : Start) (g : ℕ) → group_of_start t at ≡ g → contains starts at ≡ true → holds_one t starts g ≡ true
holds-listed t [] at g group listed = listed
holds-listed t (x ∷ xs) at g group listed =
    elim (is_same at x) as (λ b. is_same at x ≡ b → (b || contains xs at) ≡ true → ((group_of_start t x == g) || holds_one t xs g) ≡ true) [
      | true ↦ λ is rest.
          let same : group_of_start t x ≡ g = ap (group_of_start t) (sym (same-start at x is)) ∙ group in
          or_left (group_of_start t x == g) (holds_one t xs g) (eq-eqb (group_of_start t x) g same)
      | false ↦ λ is rest. or_right (group_of_start t x == g) (holds_one t xs g) (holds-listed t xs at g group rest)
    ] refl listed

functions-at : (apps : List App) (k : ℕ) (d : App) → k < length apps → functions_of_app apps k ≡ (get_or apps k d).functions
functions-at [] k d within = absurd (omega (arith, within))
functions-at (app ∷ apps) zero d within = refl
functions-at (app ∷ apps) (suc k) d within = functions-at apps k d (omega (arith, within))

holds-shared : (t : Groups) (v : Views) (number g : ℕ) → holds_one t v.shared g ≡ true → is_based v t number g ≡ true
holds-shared t v number g holds =
    let functions = functions_of_app v.apps (number - 1) in
    or_right (number == 0) (holds_one t (listed_for v number) g)
    (list_any-append (λ at. group_of_start t at == g) functions v.shared ∙ or_right (holds_one t functions g) (holds_one t v.shared g) holds)

holds-own : (t : Groups) (v : Views) (k g : ℕ) → holds_one t (functions_of_app v.apps k) g ≡ true → is_based v t (k + 1) g ≡ true
holds-own t v k g holds =
    let same : k + 1 - 1 ≡ k = omega arith in
    or_right (k + 1 == 0) (holds_one t (listed_for v (k + 1)) g)
    (ap (λ n. holds_one t (functions_of_app v.apps n ++ v.shared) g) same
    ∙ list_any-append (λ at. group_of_start t at == g) (functions_of_app v.apps k) v.shared
    ∙ or_left (holds_one t (functions_of_app v.apps k) g) (holds_one t v.shared g) holds)

full-view : (t : Groups) (v : Views) (g : ℕ) → is_based v t 0 g ≡ true
full-view t v g = refl

-- what a step fetched, and from which function
record HasFetched (c : Config) (h : List ℕ) (t p : ℕ) : Type 0 where
  config : IsConfig c
  profile : IsProfile (unviewed c.image c.setup) h c.views
  within : t < length h
  next : fetched_at c h t ≡ Some p
  inside : in_groups_text (image_groups c) p ≡ true

module _ (c : Config) (h : List ℕ) (t p : ℕ) (f : HasFetched c h t p) where
  abbrev s : State
  s = full_at c h t

  abbrev i : ℕ
  i = slice_index h t

  abbrev at : Start
  at = holder c.image p

  abbrev g : ℕ
  g = group_at (image_groups c) p

  from : FetchesFrom c.image at s i
  from = record { place = p; next = f.next; start = holder-starts c.image p f.config.image f.inside }

  in-trap : 0 < depth_of s i → is_based c.views (image_groups c) (view_at c h t) g ≡ true
  in-trap deep =
      let step : IsUsedInTrap (unviewed c.image c.setup) h at = record { step = t; within = f.within; is = record { fetches = from; inside_trap = deep } } in
      holds-shared (image_groups c) c.views (view_at c h t) g (holds-listed (image_groups c) c.views.shared at g (holder-group c.image p f.config.image) ((f.profile.shared.members at).1 step))

  under-app : (name : List ℕ) (k : ℕ) → depth_of s i ≡ 0 → name_of s i ≡ Some name → position_of name c.views.apps ≡ Some k → is_based c.views (image_groups c) (k + 1) g ≡ true
  under-app name k outside named found =
      let app = get_or c.views.apps k no_app in
      let place = position-Some (λ (app : App). bytes_eq app.name name) c.views.apps k no_app found in
      let same : app.name ≡ name = (bytes_eq-Decides app.name name).0 place.1 in
      let step : IsUsedUnder (unviewed c.image c.setup) h app.name at =
      record { step = t; within = f.within; is = record { fetches = from; named = named ∙ ap (λ (n : List ℕ). Some n) (sym same); outside_traps = outside } } in
      let listed = ((f.profile.apps k no_app place.0).members at).1 step in
      let holds = holds-listed (image_groups c) app.functions at g (holder-group c.image p f.config.image) listed in
      holds-own (image_groups c) c.views k g (ap (λ fs. holds_one (image_groups c) fs g) (functions-at c.views.apps k no_app place.0) ∙ holds)

  under-place : (name : List ℕ) (o : Option ℕ) → depth_of s i ≡ 0 → name_of s i ≡ Some name → position_of name c.views.apps ≡ o → is_based c.views (image_groups c) (view_of_place o) g ≡ true
  under-place name None outside named found = refl
  under-place name (Some k) outside named found = under-app name k outside named found

  under-name : (o : Option (List ℕ)) → depth_of s i ≡ 0 → name_of s i ≡ o → is_based c.views (image_groups c) (view_named c.views o) g ≡ true
  under-name None outside named = refl
  under-name (Some name) outside named = under-place name (position_of name c.views.apps) outside named refl

  by-depth : (d : ℕ) → depth_of s i ≡ d → is_based c.views (image_groups c) (view_at c h t) g ≡ true
  by-depth zero e = under-name (name_of s i) e refl
  by-depth (suc d) e = in-trap (omega (arith, e))

  based : is_base c (view_at c h t) g ≡ true
  based =
      let few = count_by-le-length (λ start. leb start (offset_in (image_groups c).text p)) (image_groups c).starts in
      get_or-map-range_with_len (is_based c.views (image_groups c) (view_at c h t)) 0 (groups_count (image_groups c)) g g false (omega (arith, few)) (omega arith)
      ∙ by-depth (depth_of s i) refl

-- a place that is fetched without being in the base would be logged, and so it is in text
missing-inside : (c : Config) (h : List ℕ) (t p : ℕ) → JustifiedEntriesArePrintable → IsConfig c → IsLawfulSchedule c h → t < length h → fetched_at c h t ≡ Some p
    → is_base c (view_at c h t) (group_at (image_groups c) p) ≡ false → in_groups_text (image_groups c) p ≡ true
missing-inside c h t p printable good lawful within next missing =
    let s = full_at c h t in
    let i = slice_index h t in
    let e : LogEntry = record { view = view_at c h t; group = group_at (image_groups c) p; vcpu = i; at = t; pc = p; chain = record { items = chain_in s i } } in
    let justified : IsJustified c h e = record { early = omega (arith, within); may_step = lawful t within; next = next; view = refl; group = refl; missing = missing; chain = refl } in
    (printable c good h (e ∷ []) (justified, tt) 0 e (omega arith)).pc

pub covered : (c : Config) (h : List ℕ) → JustifiedEntriesArePrintable → IsConfig c → IsLawfulSchedule c h → IsProfile (unviewed c.image c.setup) h c.views → IsCovered c h
covered c h printable good lawful profile = λ t p within next.
    elim (is_base c (view_at c h t) (group_at (image_groups c) p)) as (λ b. is_base c (view_at c h t) (group_at (image_groups c) p) ≡ b → b ≡ true) [
      | true ↦ λ is. refl
      | false ↦ λ is.
          let inside = missing-inside c h t p printable good lawful within next is in
          let here = based c h t p (record { config = good; profile = profile; within = within; next = next; inside = inside }) in
          absurd (both_ways (is_base c (view_at c h t) (group_at (image_groups c) p)) is here)
    ] refl
