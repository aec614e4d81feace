-- The trace of a run is sound, and has a text.
use Rattle.std.proofs.Common.{◌≡◌, ◌≢◌, ℕ, zero, suc, ◌+◌, ◌*◌, ◌^◌, ◌<◌, ◌≤◌, Bool, true, false, arith, refl, ◌∙◌, sym, ap, subst, Some, List, [], ◌∷◌, ◌++◌, length, get_or, map}
use Rattle.std.specs.Prelude.{◌==◌, ◌||◌, nat_lt, slice_index, slice_index_or, take, All}
use Rattle.std.specs.List.{AllByRecursion, flat_map, range_with_len}
use Rattle.std.proofs.lemmas.Bool.Decides.{nat_tests}
use Rattle.std.proofs.lemmas.List.{get_or-map, get_or_default, get_or_past, length-map}
use Rattle.std.proofs.lemmas.Simd.{map-map}
use Rattle.std.proofs.lemmas.List.Elements.{recursion_from_All}
use Rattle.std.proofs.lemmas.List.Folds.{flat_map-map}
use Rattle.std.proofs.lemmas.List.FromFn.{fill_by_all, get_or-map-range_with_len, length-map-range_with_len}
use Rattle.guest_input.specs.Text.{bytes_of}
use Rattle.guest_input.specs.Accepted.{IsSetup}
use Rattle.guest_input.specs.declared.limits.TheConstants.{FUNCTIONS_MOST}
use Rattle.chain_log.specs.declared.entry.LogEntry.{LogEntry}
use Rattle.function_table.specs.Groups.{Groups, IsGroups, group_at, group_in, groups_count}
use Rattle.function_table.proofs.GroupLemmas.{group-below, groups-good}
use Rattle.view_file.specs.Base.{base_of, is_based}
use Rattle.view_store.specs.Paged.{PagedView}
use Rattle.guest_board.specs.declared.rules.Rules.{Rules}
use Rattle.guest_board.specs.Board.{Seat, State, may, run_from, step_of}
use Rattle.guest_board.specs.First.{first_state, first_slots}
use Rattle.guest_board.specs.Laws.{NumberOfVcpusStays}
use Rattle.run_evidence.specs.Config.{Config, IsConfig, IsLawfulSchedule, full, full_at, image_groups, is_base, rules_in}
use Rattle.run_evidence.specs.Evidence.{IsJustified, AllJustified, AllOfView, IsAllowed, IsOnce, log_in}
use Rattle.run_evidence.specs.Growing.{paged_at, views_count}
use Rattle.run_evidence.specs.Sound.{IsSoundView}
use Rattle.trace_file.specs.Trace.{Told}
use Rattle.trace_file.specs.Lawful.{IsEntry, AreEntries}
use Rattle.run_trace.specs.Told.{IsToldBy, IsInRange, IsEntryInRange, vcpu_states, memory_digest, pages_digest}
use Rattle.run_trace.specs.Sound.{IsRun, IsSoundTrace, IsTraceOf, RunsHaveSoundTraces, TracesOfRunsAreLawful, entries_for, logs_told, view_numbers, NoneTwice}
use Rattle.run_trace.proofs.ByView.{InOrder, one-of, none-twice, all-justified, in-order, all-below, few-joined}
use Rattle.run_trace.proofs.Few.{few-once}

-- a machine keeps its vCPUs
run-keeps : NumberOfVcpusStays → (rules : Rules) (s : State) (schedule : List ℕ) → length (run_from rules s schedule).slots ≡ length s.slots
unfolding step_of
run-keeps stays rules s [] = refl
run-keeps stays rules s (i ∷ is) = run-keeps stays rules (step_of rules s i) is ∙ stays rules s i _

vcpus-of : NumberOfVcpusStays → (c : Config) (schedule : List ℕ) → length (full c schedule).slots ≡ c.setup.vcpus
unfolding first_state first_slots
vcpus-of stays c schedule = run-keeps stays (rules_in c) (first_state c.image c.setup) schedule ∙ length-map-range_with_len _ 0 c.setup.vcpus

pub may-within : (rules : Rules) (s : State) (i : ℕ) → may rules s i ≡ true → i < length s.slots
may-within rules s i h = grind (arith, nat_tests, h)

same-paged : (p : PagedView) (n : ℕ) (t : List ℕ) (g : Groups) (b : List Bool) (l : List LogEntry)
    → p.number ≡ n → p.text ≡ t → p.groups ≡ g → p.base ≡ b → p.log ≡ l → p ≡ record { number = n; text = t; groups = g; base = b; log = l }
same-paged p n t g b l e1 e2 e3 e4 e5 = rw (← e1, ← e2, ← e3, ← e4, ← e5) refl

module _ (c : Config) (board : Seat) (views : List PagedView) (run : IsRun c board views) where
  abbrev logs : ℕ → List LogEntry
  logs v = log_in (map (λ p. p.log) views) v

  log-is : (v : ℕ) (d : PagedView) → v < length views → logs v ≡ (slice_index_or views v d).log
  log-is v d within = get_or-map (λ (p : PagedView). p.log) views v d [] within

  of-logs : (P : ℕ → List LogEntry → Type 0) → ((v : ℕ) → P v []) → ((v : ℕ) (d : PagedView) → v < length views → P v (slice_index_or views v d).log) → (v : ℕ) → P v (logs v)
  of-logs P none some v = elim (nat_lt v (length views)) as (λ b. nat_lt v (length views) ≡ b → P v (logs v)) [
    | true ↦ λ is.
        let within : v < length views = grind (arith, nat_tests, is) in
        let d : PagedView = paged_at c v [] in
        subst (P v) (sym (log-is v d within)) (some v d within)
    | false ↦ λ is.
        let beyond : length (map (λ (p : PagedView). p.log) views) ≤ v = rw (length-map views (λ (p : PagedView). p.log)) (grind (arith, nat_tests, is)) in
        subst (P v) (sym (get_or_past (map (λ (p : PagedView). p.log) views) v [] beyond)) (none v)
  ] refl

  each : (v : ℕ) → AllOfView v (logs v)
  each = of-logs AllOfView (λ v. tt) (λ v d within. (run.each v d within).of_view)

  once : (v : ℕ) → IsOnce (logs v)
  once = of-logs (λ v log. IsOnce log) (λ v. tt) (λ v d within. (run.each v d within).once)

  justified : (v : ℕ) → AllJustified c board.schedule (logs v)
  justified = of-logs (λ v log. AllJustified c board.schedule log) (λ v. tt) (λ v d within. (run.each v d within).justified)

  view-is : (v : ℕ) (d : PagedView) → v < length views → slice_index_or views v d ≡ paged_at c v (logs v)
  view-is v d within =
      let s : IsSoundView c board.schedule v (slice_index_or views v d) = run.each v d within in
      same-paged (slice_index_or views v d) v (bytes_of c.image.ranges) (image_groups c) (base_of c.views (image_groups c) v) (logs v)
      s.number s.text s.groups s.base (sym (log-is v d within))

  all-views : views ≡ map (λ v. paged_at c v (logs v)) (view_numbers c)
  all-views = fill_by_all (λ v. paged_at c v (logs v)) views (views_count c) (paged_at c 0 []) run.numbered (λ k within. view-is k (paged_at c 0 []) (omega (arith, within, run.numbered)))

  all-entries : flat_map (λ p. p.log) views ≡ flat_map logs (view_numbers c)
  all-entries = ap (λ (vs : List PagedView). flat_map (λ (p : PagedView). p.log) vs) all-views ∙ flat_map-map (λ (p : PagedView). p.log) (λ v. paged_at c v (logs v)) (view_numbers c)

  module _ (t : Told) (told : IsToldBy board views t) where
    entries : t.entries ≡ flat_map logs (view_numbers c)
    entries = told.entries ∙ all-entries

    same-logs : map (λ p. p.log) views ≡ logs_told c t
    same-logs = fill_by_all (entries_for t.entries) (map (λ (p : PagedView). p.log) views) (views_count c) [] (length-map views (λ (p : PagedView). p.log) ∙ run.numbered)
        (λ k within. sym (ap (λ es. entries_for es k) entries ∙ one-of logs each 0 (views_count c) k (omega arith) (omega (arith, within))))

    state : board.state ≡ full c t.schedule
    state = run.state ∙ ap (full c) (sym told.schedule)

    tells : NumberOfVcpusStays → IsTraceOf c t.schedule (logs_told c t) t
    tells stays = record {
      vcpus = told.vcpus ∙ ap (λ (s : State). length s.slots) state ∙ vcpus-of stays c t.schedule;
      schedule = refl;
      entries = entries ∙ ap (λ ls. flat_map (log_in ls) (view_numbers c)) same-logs;
      ended = ap (λ (s : State). s.end) (sym state) ∙ told.ended;
      states = told.states ∙ ap vcpu_states state;
      memory = told.memory ∙ ap (λ (s : State). memory_digest s.ram) state;
      pages = told.pages ∙ ap (map pages_digest) all-views ∙ map-map _ _ _ ∙ ap (λ ls. map (λ v. pages_digest (paged_at c v (log_in ls v))) (view_numbers c)) same-logs;
    }

    pub sound-told : NumberOfVcpusStays → IsSoundTrace c t
    sound-told stays = record {
      lawful = subst (IsLawfulSchedule c) (sym told.schedule) run.lawful;
      told = tells stays;
      allowed = subst (λ ls. IsAllowed c ls t.schedule) same-logs (subst (IsAllowed c (map (λ p. p.log) views)) (sym told.schedule) run.allowed);
      justified = subst (AllJustified c t.schedule) (sym entries) (subst (λ h. AllJustified c h (flat_map logs (view_numbers c))) (sym told.schedule) (all-justified logs each c board.schedule 0 (views_count c) justified));
      once = subst NoneTwice (sym entries) (none-twice logs each 0 (views_count c) once);
    }

-- what a justified entry is
pub record IsEntryOf (c : Config) (schedule : List ℕ) (e : LogEntry) : Type 0 where
  pub some : 1 ≤ e.view
  pub group : e.group < FUNCTIONS_MOST
  pub vcpu : e.vcpu < c.setup.vcpus
  pub at : e.at ≤ length schedule

full-base : (c : Config) (g : ℕ) → g < groups_count (image_groups c) → is_base c 0 g ≡ true
full-base c g within = get_or-map-range_with_len (is_based c.views (image_groups c) 0) 0 (groups_count (image_groups c)) g g false within (omega arith)

entry-of : NumberOfVcpusStays → (c : Config) → IsConfig c → (schedule : List ℕ) (e : LogEntry) → IsJustified c schedule e → IsEntryOf c schedule e
entry-of stays c ok schedule e j =
    let good : IsGroups (image_groups c) = groups-good c.image ok.image in
    let below : group_at (image_groups c) e.pc < groups_count (image_groups c) = group-below (image_groups c) e.pc in
    let group : e.group < groups_count (image_groups c) = rw j.group below in
    record {
      some = elim (e.view == 0) as (λ b. (e.view == 0) ≡ b → 1 ≤ e.view) [
        | true ↦ λ is.
            let full : e.view ≡ 0 = grind (arith, nat_tests, is) in
            absurd (cc (sym (subst (λ v. is_base c v e.group ≡ false) full j.missing) ∙ full-base c e.group group))
        | false ↦ λ is. grind (arith, nat_tests, is)
      ] refl;
      group = omega (arith, group, good.fewer);
      vcpu = subst (λ n. e.vcpu < n) (vcpus-of stays c (take e.at schedule)) (may-within (rules_in c) (full_at c schedule e.at) e.vcpu j.may_step);
      at = j.early;
    }

entries-of : NumberOfVcpusStays → (c : Config) → IsConfig c → (schedule : List ℕ) (es : List LogEntry) → AllJustified c schedule es → AllByRecursion (IsEntryOf c schedule) es
entries-of stays c ok schedule [] all = tt
entries-of stays c ok schedule (e ∷ es) all = (entry-of stays c ok schedule e all.0, entries-of stays c ok schedule es all.1)

are-entries : (c : Config) (schedule : List ℕ) (before n : ℕ) (es : List LogEntry) → n ≤ 16 → InOrder before es → AllByRecursion (λ e. e.view < n) es
    → AllByRecursion (IsEntryOf c schedule) es → AllByRecursion IsEntryInRange es → AreEntries c.setup.vcpus (length schedule) before es
are-entries c schedule before n [] few order below of ranges = tt
are-entries c schedule before n (e ∷ es) few order below of ranges = (
  record {
    some = of.0.some;
    most = omega (arith, few, below.0);
    order = order.0;
    group = of.0.group;
    vcpu = of.0.vcpu;
    at = of.0.at;
    pc = ranges.0.pc;
    chain = ranges.0.chain;
    places = ranges.0.places;
  },
  are-entries c schedule e.view n es few order.1 below.1 of.1 ranges.1,
)

groups-below : (c : Config) (schedule : List ℕ) (es : List LogEntry) → AllByRecursion (IsEntryOf c schedule) es → AllByRecursion (λ e. e.group < FUNCTIONS_MOST) es
groups-below c schedule [] all = tt
groups-below c schedule (e ∷ es) all = (all.0.group, groups-below c schedule es all.1)

all-steps : NumberOfVcpusStays → (c : Config) (schedule : List ℕ) → IsLawfulSchedule c schedule → AllByRecursion (λ v. v < c.setup.vcpus) schedule
all-steps stays c schedule lawful = recursion_from_All (λ v. v < c.setup.vcpus) schedule
    (λ t d within.
    let there : slice_index_or schedule t d ≡ slice_index schedule t = get_or_default schedule t d 0 within in
    rw there (subst (λ n. slice_index schedule t < n) (vcpus-of stays c (take t schedule)) (may-within (rules_in c) (full_at c schedule t) (slice_index schedule t) (lawful t within))))

pub sound-trace : NumberOfVcpusStays → RunsHaveSoundTraces
sound-trace stays c board views t run told = sound-told c board views run t told stays

pub lawful-trace : NumberOfVcpusStays → TracesOfRunsAreLawful
lawful-trace stays c board views t run told ranges =
    let sound : IsSoundTrace c t = sound-told c board views run t told stays in
    let setup : IsSetup c.setup = run.config.setup.setup in
    let vcpus : t.vcpus ≡ c.setup.vcpus = sound.told.vcpus in
    let of : AllByRecursion (IsEntryOf c t.schedule) t.entries = entries-of stays c run.config t.schedule t.entries sound.justified in
    let count : views_count c ≤ 16 = omega (arith, run.config.views.few) in
    let each-few : (v : ℕ) → length (logs c board views run v) ≤ FUNCTIONS_MOST
    = λ v. few-once FUNCTIONS_MOST (logs c board views run v) (once c board views run v)
    (groups-below c board.schedule (logs c board views run v) (entries-of stays c run.config board.schedule (logs c board views run v) (justified c board views run v))) in
    let all-few : length (flat_map (logs c board views run) (view_numbers c)) ≤ views_count c * FUNCTIONS_MOST
    = few-joined (logs c board views run) (each c board views run) 0 (views_count c) FUNCTIONS_MOST each-few in
    let order : InOrder 0 t.entries = subst (InOrder 0) (sym (entries c board views run t told)) (in-order (logs c board views run) (each c board views run) 0 (views_count c) 0 (omega arith)) in
    let below : AllByRecursion (λ e. e.view < views_count c) t.entries
    = subst (AllByRecursion (λ e. e.view < views_count c)) (sym (entries c board views run t told)) (all-below (logs c board views run) (each c board views run) 0 (views_count c) (views_count c) (omega arith)) in
    let pages : length t.pages ≡ views_count c = ap (λ xs. length xs) told.pages ∙ length-map views pages_digest ∙ run.numbered in
    record {
      some = omega (arith, vcpus, setup.some);
      most = omega (arith, vcpus, setup.eight);
      steps = ranges.steps;
      schedule = rw vcpus (all-steps stays c t.schedule sound.lawful);
      few = let same : length t.entries ≡ length (flat_map (logs c board views run) (view_numbers c)) = ap (λ xs. length xs) (entries c board views run t told) in omega (arith, same, all-few, count);
      entries = rw vcpus (are-entries c t.schedule 0 (views_count c) t.entries count order below of ranges.entries);
      each = ap (λ xs. length xs) told.states ∙ length-map-range_with_len _ 0 (length board.state.slots) ∙ sym told.vcpus;
      states = ranges.states;
      memory = ranges.memory;
      views = omega (arith, pages);
      few_views = omega (arith, pages, count);
      pages = ranges.pages;
    }
