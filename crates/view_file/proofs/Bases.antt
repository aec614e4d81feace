-- The base of a view from the groups that were marked.
use mathlib.Core.Bool.{true≢false}
use Rattle.std.proofs.Common.{◌≡◌, ◌≢◌, sym, take, ℕ, zero, suc, ◌+◌, ◌-◌, ◌<◌, Bool, true, false, List, [], ◌∷◌, ◌++◌, ◌||◌, ◌&&◌, length, arith, refl, ap, ◌∙◌}
use Rattle.std.specs.Prelude.{◌==◌, replicate, slice_index_or, slice_set}
use Rattle.std.specs.List.{list_all, flat_map}
use Rattle.std.proofs.lemmas.List.{get_or-replicate, get_or-set_other, get_or-set_same, length-replicate}
use Rattle.std.proofs.lemmas.List.Folds.{list_any-append, list_any_more, list_all-append}
use Rattle.std.proofs.lemmas.List.FromFn.{fill_by_all}
use Rattle.std.proofs.lemmas.Bool.Decides.{nat_tests}
use Rattle.guest_input.specs.declared.image.Start.{Start}
use Rattle.function_table.specs.Groups.{Groups, groups_count}
use Rattle.view_file.specs.declared.views.App.{App}
use Rattle.view_file.specs.declared.views.Views.{Views}
use Rattle.view_file.specs.Base.{functions_of_app, group_of_start, holds_one, is_based, base_of, all_listed}

-- the functions of the app at a place
pub functions_of-at : (apps : List App) (n : ℕ) (d : App) → n < length apps → (slice_index_or apps n d).functions ≡ functions_of_app apps n
functions_of-at [] n d within = absurd (omega arith)
functions_of-at (app ∷ apps) zero d within = refl
functions_of-at (app ∷ apps) (suc n) d within = functions_of-at apps n d (omega arith)

app-passes : (p : Start → Bool) (apps : List App) (n : ℕ) → list_all p (flat_map (λ app. app.functions) apps) ≡ true → list_all p (functions_of_app apps n) ≡ true
app-passes p [] n all = refl
app-passes p (app ∷ apps) zero all =
    let parts : list_all p (app.functions ++ flat_map (λ a. a.functions) apps) ≡ (list_all p app.functions && list_all p (flat_map (λ a. a.functions) apps)) = list_all-append p _ _ in
    grind (arith, parts)
app-passes p (app ∷ apps) (suc n) all =
    let parts : list_all p (app.functions ++ flat_map (λ a. a.functions) apps) ≡ (list_all p app.functions && list_all p (flat_map (λ a. a.functions) apps)) = list_all-append p _ _ in
    let rest : list_all p (flat_map (λ a. a.functions) apps) ≡ true = grind (arith, parts) in
    app-passes p apps n rest

-- what holds of every listed function, holds of those of each app
pub list_all-functions_of : (p : Start → Bool) (v : Views) (n : ℕ) → list_all p (all_listed v) ≡ true → list_all p (functions_of_app v.apps n) ≡ true
list_all-functions_of p v n all =
    let parts : list_all p (all_listed v) ≡ (list_all p v.shared && list_all p (flat_map (λ a. a.functions) v.apps)) = list_all-append p _ _ in
    let rest : list_all p (flat_map (λ a. a.functions) v.apps) ≡ true = grind (arith, parts) in
    app-passes p v.apps n rest

-- and of the shared ones
pub list_all-shared : (p : Start → Bool) (v : Views) → list_all p (all_listed v) ≡ true → list_all p v.shared ≡ true
list_all-shared p v all =
    let parts : list_all p (all_listed v) ≡ (list_all p v.shared && list_all p (flat_map (λ a. a.functions) v.apps)) = list_all-append p _ _ in
    grind (arith, parts)

-- the full view's base
pub base_of-full : (v : Views) (t : Groups) (number count : ℕ) → number ≡ 0 → count ≡ groups_count t → replicate count true ≡ base_of v t number
base_of-full v t number count is counted =
    fill_by_all (is_based v t number) (replicate count true) (groups_count t) false (length-replicate count true ∙ counted)
    (λ k below. get_or-replicate count k true false (omega arith) ∙ grind (arith, nat_tests, is))

-- an app's base: what both lists of functions marked
pub base_of-marked : (v : Views) (t : Groups) (number count at : ℕ) (start first second : List Bool) (functions shared : List Start)
    → number ≡ at + 1 → count ≡ groups_count t → start ≡ replicate count false → functions ≡ functions_of_app v.apps at → shared ≡ v.shared
    → ((g : ℕ) → slice_index_or first g false ≡ (slice_index_or start g false || holds_one t functions g))
    → ((g : ℕ) → slice_index_or second g false ≡ (slice_index_or first g false || holds_one t shared g))
    → length second ≡ length start → second ≡ base_of v t number
base_of-marked v t number count at start first second functions shared is counted from mine ours one two long =
    fill_by_all (is_based v t number) second (groups_count t) false (long ∙ ap length from ∙ length-replicate count false ∙ counted)
    (λ k below.
    let none : slice_index_or start k false ≡ false = ap (λ l. slice_index_or l k false) from ∙ get_or-replicate count k false false (omega arith) in
    let parts : holds_one t (functions_of_app v.apps at ++ v.shared) k ≡ (holds_one t (functions_of_app v.apps at) k || holds_one t v.shared k) = list_any-append (λ at. group_of_start t at == k) _ _ in
    let place : number - 1 ≡ at = omega arith in
    let test : (number == 0) ≡ false = grind (arith, nat_tests, is) in
    let e1 : slice_index_or first k false ≡ (slice_index_or start k false || holds_one t functions k) = one k in
    let e2 : slice_index_or second k false ≡ (slice_index_or first k false || holds_one t shared k) = two k in
    let e3 : holds_one t functions k ≡ holds_one t (functions_of_app v.apps at) k = ap (λ l. holds_one t l k) mine in
    let e4 : holds_one t shared k ≡ holds_one t v.shared k = ap (λ l. holds_one t l k) ours in
    rw (test, place, parts) (grind (arith, none, e1, e2, e3, e4)))

or_shared : (b c : Bool) → (b || (c || true)) ≡ true
or_shared true c = refl
or_shared false true = refl
or_shared false false = refl

or_other : (a b c : Bool) → a ≡ (b || c) → a ≡ (b || (c || false))
or_other a true c h = h
or_other a false true h = h
or_other a false false h = h

-- a loop over functions: one more group that is marked
pub marked_next : (t : Groups) (functions : List Start) (i : ℕ) (at : Start) (old now : List Bool) (group g : ℕ) → i < length functions → group < length now
    → group ≡ group_of_start t (slice_index_or functions i at) → slice_index_or now g false ≡ (slice_index_or old g false || holds_one t (take i functions) g)
    → slice_index_or (slice_set now group true) g false ≡ (slice_index_or old g false || holds_one t (take (i + 1) functions) g)
marked_next t functions i at old now group g within inside is so =
    let more : holds_one t (take (i + 1) functions) g ≡ (holds_one t (take i functions) g || (group == g)) =
    list_any_more (λ s. group_of_start t s == g) functions i at within ∙ ap (λ k. holds_one t (take i functions) g || (k == g)) (sym is) in
    (elim (group == g) as (λ b. (group == g) ≡ b → slice_index_or (slice_set now group true) g false ≡ (slice_index_or old g false || (holds_one t (take i functions) g || b))) [
      | true ↦ λ e. let one : g ≡ group = grind (arith, nat_tests, e) in
          ap (λ k. slice_index_or (slice_set now group true) k false) one ∙ get_or-set_same now group true false inside ∙ sym (or_shared (slice_index_or old g false) (holds_one t (take i functions) g))
      | false ↦ λ e. let other : g ≢ group = λ h. let n : (group == g) ≡ true = grind (arith, nat_tests, h) in absurd (true≢false (sym n ∙ e)) in
          get_or-set_other now group g true false other ∙ or_other _ (slice_index_or old g false) (holds_one t (take i functions) g) so
    ] refl) ∙ ap (λ b. slice_index_or old g false || b) (sym more)
