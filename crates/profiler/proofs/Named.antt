-- The names of a tally with one step more.
use Rattle.std.proofs.Common.{◌≡◌, ◌≢◌, ℕ, zero, suc, ◌+◌, ◌<◌, ◌≤◌, List, [], ◌∷◌, ◌++◌, length, arith, refl, ◌∙◌, sym, ap, subst, inl, inr, ◌⊎◌, Some, None, length-append}
use Rattle.std.specs.Prelude.{All, Bool, true, false, nat_lt, nat_le, ◌==◌, ◌||◌, ◌&&◌, Option, slice_index, slice_index_or, ◌↔◌}
use Rattle.std.specs.BTreeSet.{BTreeSet}
use Rattle.std.specs.List.{IsDistinct, list_any}
use Rattle.std.specs.Str.{bytes_eq}
use Rattle.std.specs.Cmp.Lexicographic.{nat_list_eq_equiv}
use Rattle.std.proofs.lemmas.Bool.Decides.{nat_tests}
use Rattle.std.proofs.lemmas.List.{get_or_append_left}
use Rattle.std.proofs.Math.Seq.{get_or-append_seam}
use Rattle.std.proofs.lemmas.List.Folds.{list_any-append}
use Rattle.std.proofs.lemmas.List.Elements.{All-push}
use Rattle.std.proofs.lemmas.Map.Keys.{IsDistinct-push}
use Rattle.std.proofs.lemmas.Slice.Eq.{bytes_eq-Decides}
use Rattle.guest_input.specs.declared.image.Start.{Start}
use Rattle.guest_board.specs.declared.rules.Rules.{Rules}
use Rattle.guest_board.specs.Board.{State, may, name_of, next_start, slot_of, step_of, stepped_by}
use Rattle.guest_board.specs.Laws.{FullStepsBegin, StepsLeaveOthers}
use Rattle.run_evidence.specs.Config.{Config, full, full_at, rules_in}
use Rattle.run_evidence.specs.Growing.{RunsAppend}
use Rattle.view_file.specs.declared.views.TheConstants.{APPS_MOST}
use Rattle.profiler.specs.Profile.{SomeStep, FetchesUnder, IsMet, IsNamedNext, IsUsedUnder, MeetsTooMany}
use Rattle.profiler.specs.Tally.{IsTally, HasAll, AddsFetch, AddsName, AddsStep, IsLonger, IsTooMuch, IsTooMuchAfter, set_of, no_starts, has_name}
use Rattle.profiler.specs.declared.tally.Tally.{Tally}
use Rattle.profiler.proofs.Steps.{old-or-new, from-old, from-new, longer, state-front, state-now}
use Rattle.profiler.proofs.Grown.{IsBetween, between, between-names}

flips : (a b : List ℕ) → bytes_eq a b ≡ bytes_eq b a
flips a b = nat_list_eq_equiv.symm a b

any-flips : (names : List (List ℕ)) (name : List ℕ) → list_any (bytes_eq name) names ≡ has_name names name
any-flips [] name = refl
any-flips (x ∷ xs) name = rw (flips name x, any-flips xs name) refl

or-left : (a b : Bool) → a ≡ true → (a || b) ≡ true
or-left true b e = refl
or-left false b e = absurd cc

or-right : (a b : Bool) → b ≡ true → (a || b) ≡ true
or-right true b e = refl
or-right false b e = e

or-either : (a b : Bool) → (a || b) ≡ true → (a ≡ true) ⊎ (b ≡ true)
or-either true b e = inl refl
or-either false b e = inr e

-- a name more
has-more : (names : List (List ℕ)) (n q : List ℕ) → has_name (names ++ n ∷ []) q ≡ (has_name names q || bytes_eq n q)
has-more names n q = list_any-append (λ x. bytes_eq x q) names (n ∷ []) ∙ ap (λ b. has_name names q || b) (last (bytes_eq n q))
  where
    last : (b : Bool) → (b || false) ≡ b
    last true = refl
    last false = refl

has-member : (names : List (List ℕ)) (k : ℕ) (d : List ℕ) → k < length names → has_name names (slice_index_or names k d) ≡ true
has-member [] k d within = absurd (omega (arith, within))
has-member (x ∷ xs) zero d within = or-left (bytes_eq x x) (has_name xs x) ((bytes_eq-Decides x x).1 refl)
has-member (x ∷ xs) (suc k) d within = or-right (bytes_eq x (slice_index_or xs k d)) (has_name xs (slice_index_or xs k d)) (has-member xs k d (omega (arith, within)))

-- what holds of each name that they have holds of all
pub all-members : (P : List ℕ → Type 0) (names : List (List ℕ)) → ((q : List ℕ) → has_name names q ≡ true → P q) → All P names
all-members P names each k d within = each (slice_index_or names k d) (has-member names k d within)

module _ (begins : FullStepsBegin) (leaves : StepsLeaveOthers) (appends : RunsAppend) (c : Config) (h : List ℕ) (i : ℕ) where
  abbrev now : State
  now = full c h

  abbrev next : State
  next = step_of (rules_in c) now i

  abbrev more : List ℕ
  more = h ++ i ∷ []

  pub full-next : full c more ≡ next
  full-next = appends c h (i ∷ [])

  other-name : (k : ℕ) → k ≢ i → name_of next k ≡ name_of now k
  other-name k other = ap (λ s. name_of s k) (begins (rules_in c) now i) ∙ (leaves (rules_in c) now i k (next_start now i) other).name

  -- names of the longer schedule: those of before, and that of the vCPU of the new step
  met-more : (name : List ℕ) → IsMet c more name → IsMet c h name ⊎ (name_of next i ≡ Some name)
  met-more name met = elim met [
    | inl start ↦ inl (inl start)
    | inr some ↦ elim (old-or-new c h i (IsNamedNext c name) some) [ inl old ↦ inl (inr old) | inr new ↦ inr new ]
  ]

  met-old : (name : List ℕ) → IsMet c h name → IsMet c more name
  met-old name met = elim met [ inl start ↦ inl start | inr some ↦ inr (from-old c h i (IsNamedNext c name) some) ]

  met-new : (name : List ℕ) → name_of next i ≡ Some name → IsMet c more name
  met-new name e = inr (from-new c h i (IsNamedNext c name) e)

  module _ (t : Tally) (is : IsTally c h t) (m : Tally) (adds : AddsFetch c.image now i t m) where
    same-names : m.names.items ≡ t.names.items
    same-names = ap (λ v. v.items) (between-names c h i t is m adds)

    sets_now : IsBetween c h i m
    sets_now = between c h i t is m adds

    -- who is known in the longer run, where the names of before and the new one are
    known-more : (has : List ℕ → Type 0) → ((name : List ℕ) → has_name t.names.items name ≡ true → has name) → ((name : List ℕ) → name_of next i ≡ Some name → has name)
        → (step k : ℕ) (name : List ℕ) → step ≤ length more → name_of (full_at c more step) k ≡ Some name → has name
    known-more has old new step k name within named =
        let long : length more ≡ length h + 1 = longer h i in
        elim (nat_le step (length h)) as (λ b. nat_le step (length h) ≡ b → has name) [
          | true ↦ λ e.
              let low : step ≤ length h = grind (arith, nat_tests, e) in
              old name (is.known step k name low (ap (λ s. name_of s k) (sym (state-front c h i step low)) ∙ named))
          | false ↦ λ e.
              let last : step ≡ length more = let over : length h < step = grind (arith, nat_tests, e) in omega (arith, long, over, within) in
              let at : name_of next k ≡ Some name = ap (λ s. name_of s k) (sym (ap (λ n. full_at c more n) last ∙ state-now c more ∙ full-next)) ∙ named in
              elim (k == i) as (λ b. (k == i) ≡ b → has name) [
                | true ↦ λ t. let one : k ≡ i = grind (arith, nat_tests, t) in new name (ap (λ n. name_of next n) (sym one) ∙ at)
                | false ↦ λ t.
                    let other : k ≢ i = λ one. let x : (k == i) ≡ true = grind (arith, nat_tests, one) in let y : true ≡ false = sym x ∙ t in cc in
                    old name (is.known (length h) k name (omega arith) (ap (λ s. name_of s k) (state-now c h) ∙ sym (other-name k other) ∙ at))
              ] refl
        ] refl

    -- a step after which the vCPU has no name, or one that is known
    pub same-tally : ((name : List ℕ) → name_of next i ≡ Some name → has_name t.names.items name ≡ true) → IsTally c more m
    same-tally known = record {
      shared = sets_now.shared;
      long = sets_now.long;
      used = sets_now.used;
      once = subst (IsDistinct bytes_eq) (sym same-names) is.once;
      met = rw same-names (λ name. (
        (λ e. met-old name ((is.met name).0 e)),
        λ met. elim (met-more name met) [ inl old ↦ (is.met name).1 old | inr new ↦ known name new ],
      ));
      few = rw same-names is.few;
      known = rw same-names (known-more (λ name. has_name t.names.items name ≡ true) (λ name e. e) known);
    }

    module _ (name : List ℕ) (named : name_of next i ≡ Some name) where
      -- a name that is not known was used under by no step
      unused : has_name t.names.items name ≡ false → (q : Start) → IsUsedUnder c more name q → ⊥
      unused new q used =
          let old : SomeStep c more (FetchesUnder c.image name q) = used in
          let low : old.step ≤ length h = let inside = old.within in omega (arith, longer h i, inside) in
          let has : has_name t.names.items name ≡ true = is.known old.step (slice_index more old.step) name low
          (ap (λ s. name_of s (slice_index more old.step)) (sym (state-front c h i old.step low)) ∙ old.is.named) in
          let x : true ≡ false = sym has ∙ new in cc

      only : (q : List ℕ) → name_of next i ≡ Some q → bytes_eq name q ≡ true
      only q e = let x : Some name ≡ Some q = sym named ∙ e in (bytes_eq-Decides name q).1 (cc)

      pub longer-tally : (u : Tally) → IsLonger m name u → IsTally c more u
      longer-tally u l =
          let fresh : has_name t.names.items name ≡ false = ap (λ names. has_name names name) (sym same-names) ∙ l.new in
          let names : u.names.items ≡ t.names.items ++ name ∷ [] = l.names ∙ ap (λ xs. xs ++ name ∷ []) same-names in
          let long : length (t.names.items ++ name ∷ []) ≡ length t.names.items + 1 = length-append t.names.items (name ∷ []) in
          let long_used : length (m.used.items ++ no_starts ∷ []) ≡ length m.used.items + 1 = length-append m.used.items (no_starts ∷ []) in
          let same_long : length m.names.items ≡ length t.names.items = ap length same-names in
          let m_long = sets_now.long in
          record {
            shared = rw l.shared sets_now.shared;
            long = rw (l.used, names) (omega (arith, long, long_used, m_long, same_long));
            used = rw (l.used, names) (λ k within. elim (nat_lt k (length t.names.items)) as (λ b. nat_lt k (length t.names.items) ≡ b
                → HasAll (IsUsedUnder c more (slice_index_or (t.names.items ++ name ∷ []) k [])) (set_of (m.used.items ++ no_starts ∷ []) k)) [
                  | true ↦ λ e.
                      let low : k < length t.names.items = grind (arith, nat_tests, e) in
                      let low_m : k < length m.names.items = omega (arith, low, same_long) in
                      let low_used : k < length m.used.items = omega (arith, low_m, m_long) in
                      let a : slice_index_or (t.names.items ++ name ∷ []) k [] ≡ slice_index_or m.names.items k [] =
                      get_or_append_left t.names.items (name ∷ []) [] k low ∙ ap (λ xs. slice_index_or xs k []) (sym same-names) in
                      let b : set_of (m.used.items ++ no_starts ∷ []) k ≡ set_of m.used.items k = get_or_append_left m.used.items (no_starts ∷ []) no_starts k low_used in
                      rw (a, b) (sets_now.used k low_m)
                  | false ↦ λ e.
                      let last : k ≡ length t.names.items = let over : length t.names.items ≤ k = grind (arith, nat_tests, e) in omega (arith, over, within, long) in
                      let last_used : k ≡ length m.used.items = omega (arith, last, same_long, m_long) in
                      let a : slice_index_or (t.names.items ++ name ∷ []) k [] ≡ name = ap (λ n. slice_index_or (t.names.items ++ name ∷ []) n []) last ∙ get_or-append_seam t.names.items name [] [] in
                      let b : set_of (m.used.items ++ no_starts ∷ []) k ≡ no_starts = ap (λ n. set_of (m.used.items ++ no_starts ∷ []) n) last_used ∙ get_or-append_seam m.used.items no_starts [] no_starts in
                      rw (a, b) (λ q. ((λ e. absurd (let x : false ≡ true = e in cc)), λ used. absurd (unused fresh q used)))
                ] refl);
            once = subst (IsDistinct bytes_eq) (sym names) (IsDistinct-push nat_list_eq_equiv t.names.items name is.once (any-flips t.names.items name ∙ fresh));
            met = rw names (λ q. (
              (λ e. elim (or-either (has_name t.names.items q) (bytes_eq name q) (sym (has-more t.names.items name q) ∙ e)) [
                | inl old ↦ met-old q ((is.met q).0 old)
                | inr new ↦ met-new q (named ∙ ap (λ n. Some n) ((bytes_eq-Decides name q).0 new))
              ]),
              λ met. has-more t.names.items name q ∙ (elim (met-more q met) [
                | inl old ↦ or-left (has_name t.names.items q) (bytes_eq name q) ((is.met q).1 old)
                | inr new ↦ or-right (has_name t.names.items q) (bytes_eq name q) (only q new)
              ]),
            ));
            few = rw names (let room = l.room in omega (arith, long, room, same_long));
            known = rw names (known-more (λ q. has_name (t.names.items ++ name ∷ []) q ≡ true)
                (λ q e. has-more t.names.items name q ∙ or-left (has_name t.names.items q) (bytes_eq name q) e)
                (λ q e. has-more t.names.items name q ∙ or-right (has_name t.names.items q) (bytes_eq name q) (only q e)));
          }

      pub too-many : (has_name m.names.items name ≡ false) × (APPS_MOST ≤ length m.names.items) → MeetsTooMany c more
      too-many z =
          let fresh : has_name t.names.items name ≡ false = ap (λ names. has_name names name) (sym same-names) ∙ z.0 in
          let long : length (t.names.items ++ name ∷ []) ≡ length t.names.items + 1 = length-append t.names.items (name ∷ []) in
          let same_long : length m.names.items ≡ length t.names.items = ap length same-names in
          let full_up = z.1 in
          record {
            names = t.names.items ++ name ∷ [];
            once = IsDistinct-push nat_list_eq_equiv t.names.items name is.once (any-flips t.names.items name ∙ fresh);
            met = All-push (IsMet c more) t.names.items name (all-members (IsMet c more) t.names.items (λ q e. met-old q ((is.met q).0 e))) (met-new name named);
            many = omega (arith, long, same_long, full_up);
          }
