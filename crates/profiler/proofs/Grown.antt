-- A tally with one step more.
use Rattle.std.proofs.Common.{◌≡◌, ◌≢◌, ℕ, zero, suc, ◌+◌, ◌<◌, ◌≤◌, List, [], ◌∷◌, ◌++◌, length, arith, refl, ◌∙◌, sym, ap, subst, inl, inr, ◌⊎◌, Some, None}
use Rattle.std.specs.Prelude.{if◌then◌else◌, Bool, true, false, nat_lt, ◌==◌, ◌||◌, ◌&&◌, Option, option_and_then, slice_index_or, slice_set, ◌↔◌}
use Rattle.std.specs.BTreeSet.{BTreeSet}
use Rattle.std.specs.BTreeSet as sets
use Rattle.std.specs.List.{list_any, position, position_or_len}
use Rattle.std.specs.Ordering.{is_eq}
use Rattle.std.specs.Str.{bytes_eq}
use Rattle.std.specs.Cmp.Lexicographic.{nat_list_eq_equiv}
use Rattle.std.proofs.lemmas.Bool.Decides.{nat_tests}
use Rattle.std.proofs.lemmas.List.{get_or-set_same, get_or-set_other, length-set}
use Rattle.std.proofs.lemmas.List.Quantifiers.{position-Some}
use Rattle.std.proofs.lemmas.Map.Keys.{apart_from_distinct}
use Rattle.std.proofs.lemmas.Slice.Eq.{bytes_eq-Decides}
use Rattle.guest_input.specs.declared.image.Image.{Image}
use Rattle.guest_input.specs.declared.image.Start.{Start}
use Rattle.guest_input.specs.Starts.{start_cmp, is_same}
use Rattle.guest_board.specs.Board.{State, name_of, depth_of, next_of}
use Rattle.run_evidence.specs.Config.{Config, full, full_at}
use Rattle.view_file.specs.declared.views.TheConstants.{APPS_MOST}
use Rattle.profiler.specs.Profile.{SomeStep, FetchesFrom, FetchesUnder, FetchesInTrap, IsMet, IsUsedInTrap, IsUsedUnder, start_of}
use Rattle.profiler.specs.Tally.{IsTally, HasAll, AddsStart, AddsListed, AddsPlace, AddsFetch, set_of, no_starts, has_name, position_of_name, listed_by, listed_by_name, under, start_next}
use Rattle.profiler.specs.declared.tally.Tally.{Tally}
use Rattle.profiler.specs.declared.tally.Listed.{Listed}
use Rattle.profiler.specs.declared.tally.Listed.TheVariants.{Shared, Under, Nowhere}
use Rattle.profiler.proofs.Steps.{old-or-new, from-old, from-new, state-now}

pub ties : (a b : Start) → is_eq (start_cmp a b) ≡ is_same a b
ties a b = grind (arith, nat_tests)

-- starts that are the same are one
pub one-start : (a b : Start) → is_same a b ≡ true → a ≡ b
one-start a b e =
    let range : a.range ≡ b.range = grind (arith, nat_tests, e) in
    let offset : a.offset ≡ b.offset = grind (arith, nat_tests, e) in
    let f : ℕ → Start = λ n. record { range = n; offset = a.offset } in
    let g : ℕ → Start = λ n. record { range = b.range; offset = n } in
    ap f range ∙ ap g offset

pub same-start : (a : Start) → is_same a a ≡ true
same-start a = grind (arith, nat_tests)

module _ (c : Config) (h : List ℕ) (i : ℕ) (F : Start → State → ℕ → Type 0) (set : BTreeSet Start) (all : HasAll (λ q. SomeStep c h (F q)) set) where
  -- a step of which nothing holds adds nothing
  pub kept : ((q : Start) → F q (full c h) i → ⊥) → HasAll (λ q. SomeStep c (h ++ i ∷ []) (F q)) set
  kept none = λ q. (
    (λ e. from-old c h i (F q) ((all q).0 e)),
    λ some. elim (old-or-new c h i (F q) some) [ inl old ↦ (all q).1 old | inr new ↦ absurd (none q new) ],
  )

  -- one of which it holds at a start adds that start
  pub added : (more : BTreeSet Start) (at : Start) → AddsStart set at more → F at (full c h) i → ((q : Start) → F q (full c h) i → q ≡ at)
      → HasAll (λ q. SomeStep c (h ++ i ∷ []) (F q)) more
  added more at adds here only = λ q. (
    (λ e. elim (is_eq (start_cmp at q)) as (λ b. is_eq (start_cmp at q) ≡ b → SomeStep c (h ++ i ∷ []) (F q)) [
      | true ↦ λ t. subst (λ x. SomeStep c (h ++ i ∷ []) (F x)) (one-start at q (sym (ties at q) ∙ t)) (from-new c h i (F at) here)
      | false ↦ λ t. from-old c h i (F q) ((all q).0 (sym (adds.2 q t) ∙ e))
    ] refl),
    λ some. elim (is_eq (start_cmp at q)) as (λ b. is_eq (start_cmp at q) ≡ b → sets.contains start_cmp more q ≡ true) [
      | true ↦ λ t. adds.0 q ∙ rw t refl
      | false ↦ λ t. adds.2 q t ∙ (elim (old-or-new c h i (F q) some) [
        | inl old ↦ (all q).1 old
        | inr new ↦ let is : q ≡ at = only q new in
            let same : is_eq (start_cmp at q) ≡ true = ap (λ x. is_eq (start_cmp at x)) is ∙ ties at at ∙ same-start at in
            absurd (let x : true ≡ false = sym same ∙ t in cc)
      ])
    ] refl,
  )

-- what a fetch adds comes from the start that is next
pub fetch-next : (image : Image) (q : Start) (s : State) (i : ℕ) → FetchesFrom image q s i → start_next image s i ≡ Some q
fetch-next image q s i f = ap (option_and_then (start_of image)) f.next ∙ f.start

pub next-fetch : (image : Image) (q : Start) (s : State) (i : ℕ) → start_next image s i ≡ Some q → FetchesFrom image q s i
next-fetch image q s i e = elim (next_of s i) as (λ o. next_of s i ≡ o → option_and_then (start_of image) o ≡ Some q → FetchesFrom image q s i) [
  | None ↦ λ n is. absurd (cc)
  | Some p ↦ λ n is. record { place = p; next = n; start = is }
] refl e

-- the tally after the fetch of a step, and before its name
pub record IsBetween (c : Config) (h : List ℕ) (i : ℕ) (t : Tally) : Type 0 where
  pub shared : HasAll (IsUsedInTrap c (h ++ i ∷ [])) t.shared
  pub long : length t.used.items ≡ length t.names.items
  pub used : (k : ℕ) → k < length t.names.items → HasAll (IsUsedUnder c (h ++ i ∷ []) (slice_index_or t.names.items k [])) (set_of t.used.items k)

position-any : (p : List ℕ → Bool) (xs : List (List ℕ)) → list_any p xs ≡ true → position_or_len p xs < length xs
position-any p [] any = absurd cc
position-any p (x ∷ xs) any = elim (p x) as (λ b. p x ≡ b → position_or_len p (x ∷ xs) < suc (length xs)) [
  | true ↦ λ e. rw e (omega arith)
  | false ↦ λ e.
      let rest : list_any p xs ≡ true = rw e at any in
      let low : position_or_len p xs < length xs = position-any p xs rest in
      rw e (omega (arith, low))
] refl

position-none : (p : List ℕ → Bool) (xs : List (List ℕ)) → position p xs ≡ None → list_any p xs ≡ true → ⊥
position-none p xs none any =
    let low : nat_lt (position_or_len p xs) (length xs) ≡ true = grind (arith, nat_tests, position-any p xs any) in
    let some : position p xs ≡ Some (position_or_len p xs) = rw low refl in
    cc

differ : (names : List (List ℕ)) (a k : ℕ) (name : List ℕ) → a < length names → k < length names → (k ≡ a → ⊥)
    → ((i j : ℕ) → i < j → j < length names → bytes_eq (slice_index_or names i []) (slice_index_or names j []) ≡ false)
    → bytes_eq (slice_index_or names a []) name ≡ true → slice_index_or names k [] ≡ name → ⊥
differ names a k name inside within other apart is same =
    let equal : slice_index_or names a [] ≡ slice_index_or names k [] = (bytes_eq-Decides _ _).0 is ∙ sym same in
    elim (nat_lt a k) as (λ b. nat_lt a k ≡ b → ⊥) [
      | true ↦ λ e.
          let less : a < k = grind (arith, nat_tests, e) in
          let t : true ≡ false = sym ((bytes_eq-Decides _ _).1 equal) ∙ apart a k less within in cc
      | false ↦ λ e.
          let less : k < a = let over : k ≤ a = grind (arith, nat_tests, e) in omega (arith, other, over) in
          let t : true ≡ false = sym ((bytes_eq-Decides _ _).1 (sym equal)) ∙ apart k a less inside in cc
    ] refl

module _ (c : Config) (h : List ℕ) (i : ℕ) (t : Tally) (is : IsTally c h t) where
  abbrev now : State
  now = full c h

  abbrev under_name : ℕ → Start → State → ℕ → Type 0
  under_name k = FetchesUnder c.image (slice_index_or t.names.items k [])

  -- a step that fetches nothing
  idle : start_next c.image now i ≡ None → IsBetween c h i t
  idle next = record {
    shared = kept c h i (FetchesInTrap c.image) t.shared is.shared (λ q f. let x : None ≡ Some q = sym next ∙ fetch-next c.image q now i f.fetches in cc);
    long = is.long;
    used = λ k within. kept c h i (under_name k) (set_of t.used.items k) (is.used k within)
        (λ q f. let x : None ≡ Some q = sym next ∙ fetch-next c.image q now i f.fetches in cc);
  }

  -- one at a greater depth
  in-trap : (at : Start) (u : Tally) → start_next c.image now i ≡ Some at → 0 < depth_of now i → AddsListed t Shared at u → IsBetween c h i u
  in-trap at u next deep adds = record {
    shared = added c h i (FetchesInTrap c.image) t.shared is.shared u.shared at adds.0
        (record { fetches = next-fetch c.image at now i next; inside_trap = deep })
        (λ q f. let x : Some at ≡ Some q = sym next ∙ fetch-next c.image q now i f.fetches in cc);
    long = rw (adds.1, adds.2) is.long;
    used = rw (adds.1, adds.2) (λ k within. kept c h i (under_name k) (set_of t.used.items k) (is.used k within)
        (λ q f. absurd (let none = f.outside_traps in omega (arith, deep, none))));
  }

  shared-kept : depth_of now i ≡ 0 → HasAll (IsUsedInTrap c (h ++ i ∷ [])) t.shared
  shared-kept shallow = kept c h i (FetchesInTrap c.image) t.shared is.shared (λ q f. let deep = f.inside_trap in omega (arith, shallow, deep))

  -- one outside traps, without a name
  nameless : depth_of now i ≡ 0 → name_of now i ≡ None → IsBetween c h i t
  nameless shallow none = record {
    shared = shared-kept shallow;
    long = is.long;
    used = λ k within. kept c h i (under_name k) (set_of t.used.items k) (is.used k within) (λ q f. let named = f.named in cc);
  }

  -- one under the name at a place
  under-name : (at : Start) (u : Tally) (a : ℕ) (name : List ℕ) → start_next c.image now i ≡ Some at → depth_of now i ≡ 0 → name_of now i ≡ Some name
      → position_of_name t.names.items name ≡ Some a → AddsListed t (Under a) at u → IsBetween c h i u
  under-name at u a name next shallow named place adds =
      let found = position-Some (λ other. bytes_eq other name) t.names.items a [] place in
      let same : slice_index_or t.names.items a [] ≡ name = (bytes_eq-Decides _ _).0 found.1 in
      let names : u.names.items ≡ t.names.items = ap (λ v. v.items) adds.3 in
      let inside : a < length t.used.items = omega (arith, is.long, found.0) in
      let sets_at : (k : ℕ) → k < length t.names.items → HasAll (IsUsedUnder c (h ++ i ∷ []) (slice_index_or t.names.items k [])) (set_of (slice_set t.used.items a adds.0) k) =
      λ k within. elim (k == a) as (λ b. (k == a) ≡ b → HasAll (IsUsedUnder c (h ++ i ∷ []) (slice_index_or t.names.items k [])) (set_of (slice_set t.used.items a adds.0) k)) [
        | true ↦ λ e.
            let one : k ≡ a = grind (arith, nat_tests, e) in
            let mine : set_of (slice_set t.used.items a adds.0) a ≡ adds.0 = get_or-set_same t.used.items a adds.0 no_starts inside in
            subst (λ n. HasAll (IsUsedUnder c (h ++ i ∷ []) (slice_index_or t.names.items n [])) (set_of (slice_set t.used.items a adds.0) n)) (sym one)
            (subst (HasAll (IsUsedUnder c (h ++ i ∷ []) (slice_index_or t.names.items a []))) (sym mine)
            (added c h i (under_name a) (set_of t.used.items a) (is.used a found.0) adds.0 at adds.1
            (record { fetches = next-fetch c.image at now i next; named = named ∙ ap (λ n. Some n) (sym same); outside_traps = shallow })
            (λ q f. let x : Some at ≡ Some q = sym next ∙ fetch-next c.image q now i f.fetches in cc)))
        | false ↦ λ e.
            let other : k ≢ a = λ one. let x : (k == a) ≡ true = grind (arith, nat_tests, one) in let y : true ≡ false = sym x ∙ e in cc in
            let its : set_of (slice_set t.used.items a adds.0) k ≡ set_of t.used.items k = get_or-set_other t.used.items a k adds.0 no_starts other in
            subst (HasAll (IsUsedUnder c (h ++ i ∷ []) (slice_index_or t.names.items k []))) (sym its)
            (kept c h i (under_name k) (set_of t.used.items k) (is.used k within)
            (λ q f. let equal : slice_index_or t.names.items k [] ≡ name = let x : Some (slice_index_or t.names.items k []) ≡ Some name = sym f.named ∙ named in cc in
            differ t.names.items a k name found.0 within other (λ x y low high. apart_from_distinct bytes_eq t.names.items x y [] is.once low high) found.1 equal))
      ] refl in
      record {
        shared = subst (HasAll (IsUsedInTrap c (h ++ i ∷ []))) (sym adds.4) (shared-kept shallow);
        long = ap length adds.2 ∙ length-set t.used.items a adds.0 ∙ is.long ∙ ap length (sym names);
        used = rw (names, adds.2) sets_at;
      }

  at-depth-0 : (u : Tally) (at : Start) (o : Option (List ℕ)) → start_next c.image now i ≡ Some at → depth_of now i ≡ 0 → name_of now i ≡ o
      → AddsListed t (listed_by_name t.names.items o) at u → IsBetween c h i u
  at-depth-0 u at None next shallow named adds = subst (IsBetween c h i) (sym adds) (nameless shallow named)
  at-depth-0 u at (Some name) next shallow named adds =
      elim (position_of_name t.names.items name) as (λ o. position_of_name t.names.items name ≡ o → AddsListed t (under o) at u → IsBetween c h i u) [
        | None ↦ λ e z. absurd (position-none (λ other. bytes_eq other name) t.names.items e
            (is.known (length h) i name (omega arith) (ap (λ x. name_of x i) (state-now c h) ∙ named)))
        | Some a ↦ λ e z. under-name at u a name next shallow named e z
      ] refl adds

  some-start : (u : Tally) (at : Start) → start_next c.image now i ≡ Some at → AddsListed t (listed_by t.names.items (name_of now i) (depth_of now i)) at u → IsBetween c h i u
  some-start u at next adds =
      elim (depth_of now i == 0) as (λ b. (depth_of now i == 0) ≡ b → AddsListed t (if b then listed_by_name t.names.items (name_of now i) else Shared) at u → IsBetween c h i u) [
        | true ↦ λ e z. at-depth-0 u at (name_of now i) next (grind (arith, nat_tests, e)) refl z
        | false ↦ λ e z. in-trap at u next (grind (arith, nat_tests, e)) z
      ] refl adds

  -- the sets after a step
  pub between : (u : Tally) → AddsFetch c.image now i t u → IsBetween c h i u
  between u adds = elim (start_next c.image now i) as (λ o. start_next c.image now i ≡ o → AddsPlace t (listed_by t.names.items (name_of now i) (depth_of now i)) o u → IsBetween c h i u) [
    | None ↦ λ e z. subst (IsBetween c h i) (sym z) (idle e)
    | Some at ↦ λ e z. some-start u at e z
  ] refl adds

  listed-names : (listed : Listed) (at : Start) (u : Tally) → AddsListed t listed at u → u.names ≡ t.names
  listed-names Nowhere at u adds = ap (λ (x : Tally). x.names) adds
  listed-names Shared at u adds = adds.1
  listed-names (Under n) at u adds = adds.3

  -- the names stay
  pub between-names : (u : Tally) → AddsFetch c.image now i t u → u.names ≡ t.names
  between-names u adds = elim (start_next c.image now i) as (λ o. AddsPlace t (listed_by t.names.items (name_of now i) (depth_of now i)) o u → u.names ≡ t.names) [
    | None ↦ λ z. ap (λ (x : Tally). x.names) z
    | Some at ↦ λ z. listed-names (listed_by t.names.items (name_of now i) (depth_of now i)) at u z
  ] adds
