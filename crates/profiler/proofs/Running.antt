-- A round-robin run on its way: where it begins, one turn more, and where it ends.
use Rattle.std.proofs.Common.{◌≡◌, ◌≢◌, ℕ, zero, suc, ◌+◌, ◌-◌, ◌<◌, ◌≤◌, List, [], ◌∷◌, ◌++◌, length, arith, refl, ◌∙◌, sym, ap, subst, inl, inr, ◌⊎◌, Some, None, add-one, zero-add}
use Rattle.std.specs.Prelude.{option_and_then, Bool, true, false, IsSome, nat_lt, nat_le, ◌==◌, ◌||◌, ◌&&◌, is_none, Option, OnOk, Result, Ok, Err, slice_index, slice_index_or}
use Rattle.std.specs.BTreeSet.{BTreeSet}
use Rattle.std.specs.List.{IsDistinct}
use Rattle.std.specs.Str.{bytes_eq}
use Rattle.std.specs.Cmp.Lexicographic.{nat_list_eq_equiv}
use Rattle.std.proofs.lemmas.Bool.Decides.{nat_tests}
use Rattle.std.proofs.lemmas.List.{get_or_past}
use Rattle.std.proofs.lemmas.List.FromFn.{get_or-map-range_with_len, length-map-range_with_len}
use Rattle.std.proofs.lemmas.Map.Keys.{IsDistinct-push}
use Rattle.std.proofs.lemmas.Slice.Eq.{bytes_eq-Decides}
use Rattle.fc_numbers.specs.declared.machine.End.{End}
use Rattle.guest_input.specs.declared.image.Image.{Image}
use Rattle.guest_input.specs.declared.image.Start.{Start}
use Rattle.guest_input.specs.declared.setup.Setup.{Setup}
use Rattle.guest_input.specs.Accepted.{IsSetupFor}
use Rattle.guest_input.specs.declared.limits.TheConstants.{STEPS_MOST}
use Rattle.guest_board.specs.declared.rules.Rules.{Rules}
use Rattle.guest_board.specs.declared.slot.Slot.{Slot}
use Rattle.guest_board.specs.Board.{State, Seat, depth_of, next_of, may, made_of, moved, name_of, no_slot, next_start, run_from, slot_of, step_of}
use Rattle.guest_board.specs.First.{first_seat, first_slot, first_slots, first_state}
use Rattle.guest_board.specs.Laws.{FullStepsBegin, IdleRunsHaveEnded, NumberOfVcpusStays, StepsLeaveOthers}
use Rattle.run_evidence.specs.Config.{Config, full, full_at, rules_in}
use Rattle.run_evidence.specs.Growing.{BoardsMove, RunsAppend, board_of}
use Rattle.view_file.specs.declared.views.TheConstants.{APPS_MOST}
use Rattle.profiler.specs.RoundRobin.{IsNextInTurn, TakesTurns, vcpu_before}
use Rattle.profiler.specs.Profile.{start_of, SomeStep, FetchesInTrap, FetchesUnder, IsNamedNext, IsUsedInTrap, IsUsedUnder, IsMet, IsOverfull, MeetsTooMany, unviewed}
use Rattle.profiler.specs.Tally.{AddsPlace, listed_by, start_next, IsTally, HasAll, AddsFetch, AddsName, AddsStep, IsLonger, IsTooMuch, IsTooMuchAfter, Runs, has_name, no_starts, set_of}
use Rattle.profiler.specs.Turning.{IsTurning}
use Rattle.profiler.specs.declared.profile.ProfileFault.{ProfileFault}
use Rattle.profiler.specs.declared.profile.ProfileFault.TheVariants.{TooManyApps, NoMemory}
use Rattle.profiler.specs.declared.tally.Listed.{Listed}
use Rattle.profiler.specs.declared.tally.Tally.{Tally}
use Rattle.profiler.proofs.Steps.{longer, member-front, member-last, state-front, state-now}
use Rattle.profiler.proofs.Grown.{between-names}
use Rattle.profiler.proofs.Named.{full-next, same-tally, longer-tally, too-many}

before-front : (c : Config) (h : List ℕ) (i t : ℕ) → t ≤ length h → vcpu_before c (h ++ i ∷ []) t ≡ vcpu_before c h t
before-front c h i zero within = refl
before-front c h i (suc t) within = member-front h i t (omega (arith, within))

before-suc : (c : Config) (h : List ℕ) (n k : ℕ) → n ≡ k + 1 → vcpu_before c h n ≡ slice_index h k
before-suc c h n k is = ap (vcpu_before c h) (is ∙ add-one k)

-- one turn more
turns-more : (c : Config) (h : List ℕ) (i : ℕ) → TakesTurns c h → IsNextInTurn (rules_in c) (full c h) (vcpu_before c h (length h)) i → TakesTurns c (h ++ i ∷ [])
turns-more c h i turns next t within =
    let long : length (h ++ i ∷ []) ≡ length h + 1 = longer h i in
    elim (nat_lt t (length h)) as (λ b. nat_lt t (length h) ≡ b → IsNextInTurn (rules_in c) (full_at c (h ++ i ∷ []) t) (vcpu_before c (h ++ i ∷ []) t) (slice_index (h ++ i ∷ []) t)) [
      | true ↦ λ e.
          let low : t < length h = grind (arith, nat_tests, e) in
          let state : full_at c (h ++ i ∷ []) t ≡ full_at c h t = state-front c h i t (omega (arith, low)) in
          let last : vcpu_before c (h ++ i ∷ []) t ≡ vcpu_before c h t = before-front c h i t (omega (arith, low)) in
          let member : slice_index (h ++ i ∷ []) t ≡ slice_index h t = member-front h i t low in
          rw (state, last, member) (turns t low)
      | false ↦ λ e.
          let is : t ≡ length h = let over : length h ≤ t = grind (arith, nat_tests, e) in omega (arith, over, within, long) in
          let state : full_at c (h ++ i ∷ []) t ≡ full c h = ap (full_at c (h ++ i ∷ [])) is ∙ state-front c h i (length h) (omega arith) ∙ state-now c h in
          let last : vcpu_before c (h ++ i ∷ []) t ≡ vcpu_before c h (length h) = ap (vcpu_before c (h ++ i ∷ [])) is ∙ before-front c h i (length h) (omega arith) in
          let member : slice_index (h ++ i ∷ []) t ≡ i = ap (slice_index (h ++ i ∷ [])) is ∙ member-last h i in
          rw (state, last, member) next
    ] refl

pub inside-may : (rules : Rules) (s : State) (i : ℕ) → may rules s i ≡ true → i < length s.slots
inside-may rules s i is = grind (arith, nat_tests, is)

module _ (begins : FullStepsBegin) (leaves : StepsLeaveOthers) (appends : RunsAppend) (c : Config) (h : List ℕ) (i : ℕ) (t : Tally) (is : IsTally c h t) where
  abbrev next : State
  next = step_of (rules_in c) (full c h) i

  pub step-tally : (u : Tally) → AddsStep c.image (full c h) i (name_of next i) t u → IsTally c (h ++ i ∷ []) u
  step-tally u adds = by-name (name_of next i) refl adds.meets
    where
      between-same : (m : Tally) → AddsFetch c.image (full c h) i t m → m.names.items ≡ t.names.items
      between-same m fetch = ap (λ v. v.items) (between-names c h i t is m fetch)

      by-name : (o : Option (List ℕ)) → name_of next i ≡ o → AddsName adds.between o u → IsTally c (h ++ i ∷ []) u
      by-name None e same = subst (IsTally c (h ++ i ∷ [])) (sym same)
          (same-tally begins leaves appends c h i t is adds.between adds.fetch (λ name named. let x : None ≡ Some name = sym e ∙ named in cc))
      by-name (Some n) e meets = elim meets [
        | inl (known, same) ↦ subst (IsTally c (h ++ i ∷ [])) (sym same)
            (same-tally begins leaves appends c h i t is adds.between adds.fetch (λ name named.
            let x : Some n ≡ Some name = sym e ∙ named in
            let one : n ≡ name = cc in
            subst (λ q. has_name t.names.items q ≡ true) one (ap (λ (names : List (List ℕ)). has_name names n) (sym (between-same adds.between adds.fetch)) ∙ known)))
        | inr l ↦ longer-tally begins leaves appends c h i t is adds.between adds.fetch n e u l
      ]

  pub step-many : IsTooMuchAfter c.image (full c h) i (name_of next i) t → MeetsTooMany c (h ++ i ∷ [])
  step-many many = by-name (name_of next i) refl many.many
    where
      by-name : (o : Option (List ℕ)) → name_of next i ≡ o → IsTooMuch many.between o → MeetsTooMany c (h ++ i ∷ [])
      by-name None e none = absurd none
      by-name (Some n) e z = too-many begins leaves appends c h i t is many.between many.fetch n e z

pub next-turning : FullStepsBegin → StepsLeaveOthers → RunsAppend → BoardsMove → NumberOfVcpusStays → (c : Config) (h : List ℕ) (i last : ℕ) (t u : Tally) → TakesTurns c h → IsTally c h t → last ≡ vcpu_before c h (length h)
    → IsNextInTurn (rules_in c) (full c h) last i → AddsStep c.image (full c h) i (name_of (step_of (rules_in c) (full c h) i) i) t u
    → IsTurning c (moved (board_of c h) i (step_of (rules_in c) (full c h) i)) u i
next-turning begins leaves appends moves number c h i last t u turns is before next adds = record {
  board = sym (moves c h i);
  turns = turns-more c h i turns (subst (λ n. IsNextInTurn (rules_in c) (full c h) n i) before next);
  tally = step-tally begins leaves appends c h i t is u adds;
  before = sym (before-suc c (h ++ i ∷ []) (length (h ++ i ∷ [])) (length h) (longer h i) ∙ member-last h i);
  within = let inside : i < length (full c h).slots = inside-may (rules_in c) (full c h) i next.may_step in
      let same : length (step_of (rules_in c) (full c h) i).slots ≡ length (full c h).slots = ap (λ (s : State). length s.slots) (begins (rules_in c) (full c h) i) ∙ number (rules_in c) (full c h) i _ in
      omega (arith, inside, same);
}

pub next-many : FullStepsBegin → StepsLeaveOthers → RunsAppend → (c : Config) (h : List ℕ) (i last : ℕ) (t : Tally) → TakesTurns c h → IsTally c h t → last ≡ vcpu_before c h (length h)
    → IsNextInTurn (rules_in c) (full c h) last i → IsTooMuchAfter c.image (full c h) i (name_of (step_of (rules_in c) (full c h) i) i) t → IsOverfull c
next-many begins leaves appends c h i last t turns is before next many = record {
  schedule = h ++ i ∷ [];
  turns = turns-more c h i turns (subst (λ n. IsNextInTurn (rules_in c) (full c h) n i) before next);
  many = step-many begins leaves appends c h i t is many;
}

-- the slots before the first step
first-long : (image : Image) (setup : Setup) → length (first_state image setup).slots ≡ setup.vcpus
unfolding first_state first_slots
first-long image setup = length-map-range_with_len (first_slot image.entry setup.start) 0 setup.vcpus

first-at : (image : Image) (setup : Setup) (k : ℕ) → k < setup.vcpus → slot_of (first_state image setup) k ≡ first_slot image.entry setup.start k
unfolding first_state first_slots
first-at image setup k within = get_or-map-range_with_len (first_slot image.entry setup.start) 0 setup.vcpus k k no_slot within (zero-add k)

first-name : (image : Image) (setup : Setup) (k : ℕ) (name : List ℕ) → name_of (first_state image setup) k ≡ Some name → setup.start ≡ Some name
first-name image setup k name named = elim (nat_lt k setup.vcpus) as (λ b. nat_lt k setup.vcpus ≡ b → setup.start ≡ Some name) [
  | true ↦ λ e.
      let within : k < setup.vcpus = grind (arith, nat_tests, e) in
      ap (λ (s : Slot). s.name) (sym (first-at image setup k within)) ∙ named
  | false ↦ λ e.
      let past : length (first_state image setup).slots ≤ k = let over : setup.vcpus ≤ k = grind (arith, nat_tests, e) in omega (arith, over, first-long image setup) in
      let none : name_of (first_state image setup) k ≡ None = ap (λ (s : Slot). s.name) (get_or_past (first_state image setup).slots k no_slot past) in
      let x : None ≡ Some name = sym none ∙ named in cc
] refl

none-yet : (c : Config) (Is : State → ℕ → Type 0) → SomeStep c [] Is → ⊥
none-yet c Is some = let inside = some.within in omega (arith, inside)

no-members : (P : Start → Type 0) → ((q : Start) → P q → ⊥) → HasAll P no_starts
no-members P none q = ((λ e. let x : false ≡ true = e in cc), λ p. absurd (none q p))

no-names : IsDistinct bytes_eq []
unfolding IsDistinct
no-names = tt

known-start : (image : Image) (setup : Setup) (step k : ℕ) (name : List ℕ) → step ≤ 0 → name_of (full_at (unviewed image setup) [] step) k ≡ Some name → setup.start ≡ Some name
known-start image setup step k name within named =
    let zero_step : step ≡ 0 = omega (arith, within) in
    first-name image setup k name (ap (λ n. name_of (full_at (unviewed image setup) [] n) k) (sym zero_step) ∙ named)

module _ (image : Image) (setup : Setup) (u : Tally) (shared : u.shared ≡ no_starts) where
  abbrev c : Config
  c = unviewed image setup

  none-shared : HasAll (IsUsedInTrap c []) u.shared
  none-shared = subst (HasAll (IsUsedInTrap c [])) (sym shared) (no-members (IsUsedInTrap c []) (λ q. none-yet c (FetchesInTrap image q)))

  no-start : setup.start ≡ None → u.names.items ≡ [] → u.used.items ≡ [] → IsTally c [] u
  no-start e un uu = record {
    shared = none-shared;
    long = ap length uu ∙ sym (ap length un);
    used = λ k within. let x : k < 0 = subst (λ (xs : List (List ℕ)). k < length xs) un within in absurd (omega (arith, x));
    once = subst (IsDistinct bytes_eq) (sym un) no-names;
    met = λ name. (
      (λ z. let x : false ≡ true = subst (λ xs. has_name xs name ≡ true) un z in cc),
      λ met. elim met [
        | inl start ↦ let x : None ≡ Some name = sym e ∙ start in cc
        | inr some ↦ absurd (none-yet c (IsNamedNext c name) some)
      ],
    );
    few = subst (λ (xs : List (List ℕ)). length xs ≤ APPS_MOST) (sym un) (omega arith);
    known = λ step k name within named. let x : None ≡ Some name = sym e ∙ known-start image setup step k name within named in cc;
  }

  one-start : (n : List ℕ) → setup.start ≡ Some n → u.names.items ≡ n ∷ [] → u.used.items ≡ no_starts ∷ [] → IsTally c [] u
  one-start n e un uu =
      let is : (name : List ℕ) → setup.start ≡ Some name → has_name (n ∷ []) name ≡ true =
      λ name start. let x : Some n ≡ Some name = sym e ∙ start in let one : n ≡ name = cc in let same : bytes_eq n name ≡ true = (bytes_eq-Decides n name).1 one in rw same refl in
      record {
        shared = none-shared;
        long = ap length uu ∙ sym (ap length un);
        used = λ k within.
            let x : k < 1 = subst (λ (xs : List (List ℕ)). k < length xs) un within in
            let zero_k : k ≡ 0 = omega (arith, x) in
            let set : set_of u.used.items k ≡ no_starts = ap (λ (xs : List (BTreeSet Start)). set_of xs k) uu ∙ ap (set_of (no_starts ∷ [])) zero_k in
            subst (HasAll (IsUsedUnder c [] (slice_index_or u.names.items k []))) (sym set)
            (no-members (IsUsedUnder c [] (slice_index_or u.names.items k [])) (λ q. none-yet c (FetchesUnder image (slice_index_or u.names.items k []) q)));
        once = subst (IsDistinct bytes_eq) (sym un) (IsDistinct-push nat_list_eq_equiv [] n no-names refl);
        met = λ name. (
          (λ z.
              let x : (bytes_eq n name || false) ≡ true = subst (λ xs. has_name xs name ≡ true) un z in
              let same : bytes_eq n name ≡ true = grind (arith, x) in
              inl (e ∙ ap (λ q. Some q) ((bytes_eq-Decides n name).0 same))),
          λ met. elim met [
            | inl start ↦ subst (λ xs. has_name xs name ≡ true) (sym un) (is name start)
            | inr some ↦ absurd (none-yet c (IsNamedNext c name) some)
          ],
        );
        few = subst (λ (xs : List (List ℕ)). length xs ≤ APPS_MOST) (sym un) (omega arith);
        known = λ step k name within named. subst (λ xs. has_name xs name ≡ true) (sym un) (is name (known-start image setup step k name within named));
      }

-- the tally before the first step
pub started : (image : Image) (setup : Setup) (t u : Tally) → t.names.items ≡ [] → t.used.items ≡ [] → t.shared ≡ no_starts → AddsName t setup.start u → IsTally (unviewed image setup) [] u
started image setup t u names used shared adds = by-start setup.start refl adds
  where
    by-start : (o : Option (List ℕ)) → setup.start ≡ o → AddsName t o u → IsTally (unviewed image setup) [] u
    by-start None e same =
        no-start image setup u (ap (λ (x : Tally). x.shared) same ∙ shared) e (ap (λ (x : Tally). x.names.items) same ∙ names) (ap (λ (x : Tally). x.used.items) same ∙ used)
    by-start (Some n) e meets = elim meets [
      | inl known ↦ let x : false ≡ true = subst (λ xs. has_name xs n ≡ true) names known.0 in cc
      | inr l ↦ one-start image setup u (l.shared ∙ shared) n e (l.names ∙ ap (λ (xs : List (List ℕ)). xs ++ n ∷ []) names)
          (l.used ∙ ap (λ (xs : List (BTreeSet Start)). xs ++ no_starts ∷ []) used)
    ]

-- there is room for the first name
pub room-first : (t : Tally) (o : Option (List ℕ)) → t.names.items ≡ [] → IsTooMuch t o → ⊥
room-first t None names much = much
room-first t (Some n) names much = let x : APPS_MOST ≤ 0 = subst (λ (xs : List (List ℕ)). APPS_MOST ≤ length xs) names much.1 in omega (arith, x)

-- the board before the first step
pub first-turning : BoardsMove → (image : Image) (setup : Setup) → IsSetupFor image setup → (b : Seat) (t : Tally) (last : ℕ) → b ≡ first_seat image setup → IsTally (unviewed image setup) [] t
    → last ≡ setup.vcpus - 1 → IsTurning (unviewed image setup) b t last
first-turning moves image setup ok b t last is tally at =
    let some = ok.setup.some in
    let long = first-long image setup in
    subst (λ (s : Seat). IsTurning (unviewed image setup) s t last) (sym is) (record {
      board = refl;
      turns = λ step within. absurd (omega (arith, within));
      tally = tally;
      before = at;
      within = omega (arith, at, some, long);
    })

-- where nobody may step, the run has ended
abbrev AllIdle : Rules → State → Type 0
AllIdle rules s = (k : ℕ) → may rules s k ≡ false

first-open : (c : Config) → is_none (first_state c.image c.setup).end ≡ true
unfolding first_state
first-open c = refl

first-may : (c : Config) → IsSetupFor c.image c.setup → may (rules_in c) (full c []) 0 ≡ true
first-may c ok =
    let some : 0 < c.setup.vcpus = omega (arith, ok.setup.some) in
    let slot : slot_of (first_state c.image c.setup) 0 ≡ first_slot c.image.entry c.setup.start 0 = first-at c.image c.setup 0 some in
    let there : nat_lt 0 (length (first_state c.image c.setup).slots) ≡ true = grind (arith, nat_tests, first-long c.image c.setup, some) in
    let open_end : is_none (first_state c.image c.setup).end ≡ true = first-open c in
    let left : nat_lt 0 c.setup.steps ≡ true = grind (arith, nat_tests, ok.setup.steps_some) in
    let made : nat_lt (made_of (first_state c.image c.setup) 0) c.setup.steps ≡ true = subst (λ (x : Slot). nat_lt x.made c.setup.steps ≡ true) (sym slot) left in
    rw (there, open_end, made) refl

last-ended : FullStepsBegin → IdleRunsHaveEnded → (rules : Rules) (s : State) (i : ℕ) (is : List ℕ) → AllIdle rules (run_from rules s (i ∷ is)) → (run_from rules s (i ∷ is)).end ≢ None
last-ended begins law rules s i [] idle = λ none.
    law rules s i (next_start s i) (λ k. ap (λ x. may rules x k) (sym (begins rules s i)) ∙ idle k) (ap (λ (x : State). x.end) (sym (begins rules s i)) ∙ none)
last-ended begins law rules s i (j ∷ js) idle = last-ended begins law rules (step_of rules s i) j js idle

pub idle-ended : FullStepsBegin → IdleRunsHaveEnded → (c : Config) → IsSetupFor c.image c.setup → (h : List ℕ) → AllIdle (rules_in c) (full c h) → (full c h).end ≢ None
idle-ended begins law c ok [] idle = absurd (let x : true ≡ false = sym (first-may c ok) ∙ idle 0 in cc)
idle-ended begins law c ok (i ∷ is) idle = last-ended begins law (rules_in c) (first_state c.image c.setup) i is idle

-- the answer of a run that was refused
pub refused-run : (c : Config) (fault : ProfileFault) → (fault ≡ TooManyApps → IsOverfull c) → Runs c (Err fault)
refused-run c TooManyApps many = many refl
refused-run c NoMemory many = tt

-- what is said where a call answers Ok, said of more
pub on-ok : {E P Q : Type 0} (r : Result (Unit {0}) E) → (P → Q) → OnOk r P → OnOk r Q
on-ok (Ok x) f p = f p
on-ok (Err e) f p = tt

pub fetched-step : (image : Image) (s : State) (i : ℕ) (t m : Tally) (listed : Listed) (place : Option ℕ) (name : Option (List ℕ)) (depth : ℕ) → listed ≡ listed_by t.names.items name depth
    → name ≡ name_of s i → depth ≡ depth_of s i → place ≡ next_of s i → AddsPlace t listed (option_and_then (start_of image) place) m → AddsFetch image s i t m
fetched-step image s i t m listed place name depth a b d e adds =
    let is : listed ≡ listed_by t.names.items (name_of s i) (depth_of s i) = a ∙ ap (λ n. listed_by t.names.items n depth) b ∙ ap (λ k. listed_by t.names.items (name_of s i) k) d in
    subst (λ l. AddsPlace t l (start_next image s i) m) is (subst (λ p. AddsPlace t listed (option_and_then (start_of image) p) m) e adds)

-- one turn more of a run on its way
pub keeps-turning : FullStepsBegin → StepsLeaveOthers → RunsAppend → BoardsMove → NumberOfVcpusStays → (c : Config) (b later : Seat) (i last : ℕ) (t u : Tally) → IsTurning c b t last
    → IsNextInTurn b.rules b.state last i → later ≡ moved b i (step_of b.rules b.state i) → AddsStep c.image b.state i (name_of later.state i) t u → IsTurning c later u i
keeps-turning begins leaves appends moves number c b later i last t u turning =
    let P : Seat → Type 0 = λ x. IsNextInTurn x.rules x.state last i → later ≡ moved x i (step_of x.rules x.state i) → AddsStep c.image x.state i (name_of later.state i) t u → IsTurning c later u i in
    subst P (sym turning.board) (λ next is adds. subst (λ (y : Seat). IsTurning c y u i) (sym is)
    (next-turning begins leaves appends moves number c b.schedule i last t u turning.turns turning.tally turning.before next
    (subst (λ (y : Seat). AddsStep c.image (full c b.schedule) i (name_of y.state i) t u) is adds)))

pub overfull : FullStepsBegin → StepsLeaveOthers → RunsAppend → (c : Config) (b later : Seat) (i last : ℕ) (t : Tally) → IsTurning c b t last
    → IsNextInTurn b.rules b.state last i → later ≡ moved b i (step_of b.rules b.state i) → IsTooMuchAfter c.image b.state i (name_of later.state i) t → IsOverfull c
overfull begins leaves appends c b later i last t turning =
    let P : Seat → Type 0 = λ x. IsNextInTurn x.rules x.state last i → later ≡ moved x i (step_of x.rules x.state i) → IsTooMuchAfter c.image x.state i (name_of later.state i) t → IsOverfull c in
    subst P (sym turning.board) (λ next is many.
    next-many begins leaves appends c b.schedule i last t turning.turns turning.tally turning.before next
    (subst (λ (y : Seat). IsTooMuchAfter c.image (full c b.schedule) i (name_of y.state i) t) is many))

-- a run that has ended
pub finished : (c : Config) (b : Seat) (t : Tally) (last : ℕ) (end : End) → IsTurning c b t last → b.state.end ≡ Some end → Runs c (Ok (t, end))
finished c b t last end turning is = (
  b.schedule,
  record { turns = turning.turns; ended = ap (λ (x : Seat). x.state.end) (sym turning.board) ∙ is },
  turning.tally,
)

pub never-open : FullStepsBegin → IdleRunsHaveEnded → (c : Config) → IsSetupFor c.image c.setup → (b : Seat) (t : Tally) (last : ℕ) → IsTurning c b t last
    → ((k : ℕ) → may b.rules b.state k ≡ false) → b.state.end ≡ None → ⊥
never-open begins law c ok b t last turning =
    let P : Seat → Type 0 = λ x. ((k : ℕ) → may x.rules x.state k ≡ false) → x.state.end ≡ None → ⊥ in
    subst P (sym turning.board) (idle-ended begins law c ok b.schedule)

pub fewer-left : (h later : List ℕ) (i : ℕ) → later ≡ h ++ i ∷ [] → length later ≤ STEPS_MOST → STEPS_MOST - length later < STEPS_MOST - length h
fewer-left h later i is few = let long : length later ≡ length h + 1 = ap length is ∙ longer h i in omega (arith, long, few)
