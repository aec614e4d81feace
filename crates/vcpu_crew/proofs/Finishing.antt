-- Workers that have made their rounds, and the one pass that theirs become.
use Rattle.std.proofs.Common.{◌≡◌, ◌≢◌, ℕ, zero, suc, ◌+◌, ◌<◌, ◌≤◌, true, false, Option, Some, None, List, [], ◌∷◌, ◌++◌, length, take, drop, ◌⊎◌, inl, inr, ⊎_elim, sym, refl, ap, ◌∙◌, subst, arith, length-append}
use Rattle.std.specs.Prelude.{IsSome, is_none, slice_index_or}
use Rattle.std.proofs.lemmas.Bool.Decides.{nat_tests}
use Rattle.std.proofs.lemmas.List.{get_or_append_left, get_or_push}
use Rattle.std.proofs.lemmas.List.FromFn.{get_or-map-range_with_len}
use mathlib.Core.Logic.{dite}
use native.Mathlib.Decide.{dec_lt, ℕ_discrete}
use Rattle.fc_numbers.specs.declared.machine.End.{End}
use Rattle.view_store.specs.Paged.{PagedView}
use Rattle.guest_board.specs.declared.rules.Rules.{Rules}
use Rattle.guest_board.specs.declared.slot.Slot.{Slot}
use Rattle.guest_board.specs.Board.{Seat, State, made_of, may, next_start, no_slot, run_from, step_of}
use Rattle.guest_board.specs.First.{first_slot, first_slots, first_state}
use Rattle.guest_board.proofs.Idle.{idle_runs_have_ended}
use Rattle.run_evidence.specs.Config.{Config, IsConfig, IsLawfulSchedule, full, rules_in}
use Rattle.run_evidence.specs.Evidence.{log_in}
use Rattle.run_evidence.specs.Growing.{Begins, board_of, paged_at, views_count, logs_of}
use Rattle.run_evidence.specs.Sound.{IsSoundView}
use Rattle.run_evidence.proofs.Growing.{stopped_stays}
use Rattle.run_evidence.proofs.OneVcpu.{full-vcpus}
use Rattle.run_evidence.proofs.Steps.{step-is}
use Rattle.turn_table.specs.declared.known.Known.{Known}
use Rattle.turn_table.specs.Calls.{IsJoined, OwnsAll}
use Rattle.turn_table.specs.Numbers.{Counts, at, either_count, times, together}
use Rattle.turn_table.specs.Rule.{AreViews, IsTruthfulPass, config_of}
use Rattle.turn_table.specs.Sound.{Log, IsEvidence, AreSoundLogs}
use Rattle.turn_table.specs.Steps.{IsConsistent}
use Rattle.turn_table.specs.declared.pass.Pass.{Pass}
use Rattle.turn_table.specs.declared.pass.Turns.{Turns}
use Rattle.turn_table.specs.Passes.{IsPassOf, config_in, known}
use Rattle.view_file.specs.declared.views.Views.{Views}
use Rattle.guest_board.specs.declared.seen.Verdict.{Verdict}
use Rattle.guest_board.specs.declared.seen.Verdict.TheVariants.{Idle, Needs, Zeroes, Goes}
use Rattle.guest_board.specs.declared.seen.Windows.{Windows}
use Rattle.guest_board.specs.Seen.{after_verdict, verdict_of}
use Rattle.vcpu_core.specs.declared.lane.Lane.{Lane}
use Rattle.vcpu_core.specs.declared.lane.Phase.{Phase}
use Rattle.vcpu_core.specs.declared.lane.Phase.TheVariants.{Running, Wants, Trapped, Looked}
use Rattle.vcpu_core.specs.declared.lane.Then.{Then}
use Rattle.vcpu_core.specs.declared.lane.Then.TheVariants as then
use Rattle.vcpu_core.specs.Lanes.{after_turn}
use Rattle.vcpu_core.specs.Turns.{AfterTurns, board_after, lane_after, turns_by, turns_from, verdict_for, windows_for}
use Rattle.vcpu_core.proofs.Verdicts.{start-busy, verdict-may}
use Rattle.vcpu_crew.specs.declared.round.Rounded.{Rounded}
use Rattle.vcpu_crew.specs.declared.round.Rounded.TheVariants.{Went, Over}
use Rattle.vcpu_crew.specs.declared.round.TheConstants.{TURN_LIMIT}
use Rattle.vcpu_crew.specs.Round.{HasTurned, IsBetweenRounds, IsRound, round_answer}
use Rattle.vcpu_crew.specs.Crew.{AreFinished, AreWorkers, HasRun, HasRunAll, HasStopped, IsDoneWith, IsFinished, IsWholeRun, IsWorker}

together_at : (c d : Counts) (i : ℕ) → length c ≡ length d → at (together c d) i ≡ either_count (at c i) (at d i)
together_at [] [] i e = refl
together_at [] (y ∷ d) i e = absurd (omega arith)
together_at (x ∷ c) [] i e = absurd (omega arith)
together_at (x ∷ c) (y ∷ d) zero e = refl
together_at (x ∷ c) (y ∷ d) (suc i) e = together_at c d i (omega arith)

either_right : (x y : Option ℕ) (n : ℕ) → y ≡ Some n → (k : ℕ) × (either_count x y ≡ Some k)
either_right None y n e = (n, e)
either_right (Some m) y n e = (m, refl)

stop_stays : (c : Config) (h k : List ℕ) (i : ℕ) → HasStopped c h i → Begins h k → IsLawfulSchedule c k → HasStopped c k i
stop_stays c h k i stuck b l = subst (λ z. HasStopped c z i) (sym b.1) (stopped_stays c h b.0 i stuck (subst (λ z. IsLawfulSchedule c z) b.1 l))

module _ (c : Config) (v w n : Known) (one : config_of v ≡ c) (two : config_of w ≡ c) (sure : IsConsistent v) (safe : IsConsistent w) (j : IsJoined v w n) where
  pub joined_config : config_of n ≡ c
  joined_config = j.config ∙ one

  lawful : IsLawfulSchedule c n.seen
  lawful = subst (λ (d : Config). IsLawfulSchedule d n.seen) joined_config j.consistent.lawful

  long : length v.counts ≡ length w.counts
  long = sure.long ∙ (ap (λ (d : Config). d.setup.vcpus) (one ∙ sym two) ∙ sym safe.long)

  pub done_left : (i : ℕ) → IsDoneWith c v i → IsDoneWith c n i
  done_left i d = record {
    made = d.made;
    owned = ap (λ z. at z i) j.counts ∙ (together_at v.counts w.counts i long ∙ ap (λ z. either_count z (at w.counts i)) d.owned);
    stopped = stop_stays c v.seen n.seen i d.stopped j.seen lawful;
  }

  pub done_right : (i : ℕ) → IsDoneWith c w i → IsDoneWith c n i
  done_right i d = let t = either_right (at v.counts i) (at w.counts i) d.made d.owned in record {
    made = t.0;
    owned = ap (λ z. at z i) j.counts ∙ (together_at v.counts w.counts i long ∙ t.1);
    stopped = stop_stays c w.seen n.seen i d.stopped j.other_seen lawful;
  }

pub owns_all : (c : Config) (n : ℕ) (v : Known) → HasRunAll c n v → OwnsAll n v
owns_all c n v r i lt = let d = r.done i lt in (d.made, d.owned)

-- a vCPU that there is not may not step
idle_other : (rules : Rules) (s : State) (k : ℕ) → length s.slots ≤ k → may rules s k ≡ false
idle_other rules s k over = grind (arith, nat_tests, over)

may_first : (rules : Rules) (s : State) → 0 < length s.slots → is_none s.end ≡ true → made_of s 0 < rules.steps → may rules s 0 ≡ true
may_first rules s some going left = grind (arith, nat_tests, some, going, left)

first_made : (c : Config) → 0 < c.setup.vcpus → made_of (first_state c.image c.setup) 0 ≡ 0
unfolding first_state first_slots
first_made c some = ap (λ (x : Slot). x.made) (get_or-map-range_with_len (first_slot c.image.entry c.setup.start) 0 c.setup.vcpus 0 0 no_slot (omega (arith, some)) (omega arith))

first_going : (c : Config) → is_none (first_state c.image c.setup).end ≡ true
unfolding first_state
first_going c = refl

first_may : (c : Config) → IsConfig c → may (rules_in c) (full c []) 0 ≡ true
first_may c ok =
    let some : 1 ≤ c.setup.vcpus = ok.setup.setup.some in
    let left : 1 ≤ c.setup.steps = ok.setup.setup.steps_some in
    let wide : length (full c []).slots ≡ c.setup.vcpus = full-vcpus c [] in
    let made : made_of (first_state c.image c.setup) 0 ≡ 0 = first_made c some in
    may_first (rules_in c) (first_state c.image c.setup) (omega (arith, wide, some)) (first_going c) (omega (arith, made, left))

-- a run of some steps, after which nobody may step, has ended
ended_run : (rules : Rules) (s : State) (i : ℕ) (h : List ℕ) → ((k : ℕ) → may rules (run_from rules s (i ∷ h)) k ≡ false) → (run_from rules s (i ∷ h)).end ≢ None
ended_run rules s i [] idle =
    subst (λ (x : State). ((k : ℕ) → may rules x k ≡ false) → x.end ≢ None) (sym (step-is rules s i)) (λ all. idle_runs_have_ended rules s i (next_start s i) all) idle
ended_run rules s i (j ∷ h) idle = ended_run rules (step_of rules s i) j h idle

ended_by : (c : Config) → IsConfig c → (h : List ℕ) → ((k : ℕ) → may (rules_in c) (full c h) k ≡ false) → (full c h).end ≢ None
ended_by c ok [] idle = absurd (let z : true ≡ false = sym (first_may c ok) ∙ idle 0 in cc)
ended_by c ok (i ∷ h) idle = ended_run (rules_in c) (first_state c.image c.setup) i h idle

idle_all : (c : Config) (h : List ℕ) → ((i : ℕ) → i < c.setup.vcpus → HasStopped c h i) → (k : ℕ) → may (rules_in c) (full c h) k ≡ false
idle_all c h stopped k = dite (dec_lt k c.setup.vcpus) (λ less. stopped k less) (λ more. let wide = full-vcpus c h in idle_other (rules_in c) (full c h) k (omega arith))

some_end : (e : Option End) → e ≢ None → IsSome e
some_end None not = absurd (not refl)
some_end (Some e) not = refl

-- the run of all workers has ended
has_ended : (c : Config) (v : Known) (b : Seat) → IsConfig c → HasRunAll c c.setup.vcpus v → Begins v.seen b.schedule → IsLawfulSchedule c b.schedule → b ≡ board_of c b.schedule → IsSome b.state.end
has_ended c v b ok r front lawful is =
    subst (λ (d : Seat). IsSome d.state.end) (sym is) (some_end (full c b.schedule).end
    (ended_by c ok b.schedule (idle_all c b.schedule (λ i lt. stop_stays c v.seen b.schedule i (r.done i lt).stopped front lawful))))

view_sound : (c : Config) (h : List ℕ) (log : Log) (v : ℕ) (p : PagedView) → p ≡ paged_at c v log → IsEvidence c h v log → IsSoundView c h v p
view_sound c h log v p is e = subst (IsSoundView c h v) (sym is) record { number = refl; text = refl; groups = refl; base = refl; of_view = e.of_view; justified = e.justified; once = e.once }

-- what closing the table gives, where the pass is done with every vCPU
pub whole_run : (c : Config) (b : Seat) (ps : List PagedView) (v : Known) → IsConfig c → HasRunAll c c.setup.vcpus v → b ≡ board_of c b.schedule → length ps ≡ views_count c → AreViews c (logs_of ps) ps
    → AreSoundLogs c b.schedule (logs_of ps) → IsTruthfulPass c b.schedule (logs_of ps) v → IsWholeRun c b ps
whole_run c b ps v ok r is many views sound counted = record {
  board = is;
  ended = has_ended c v b ok r counted.seen sound.lawful is;
  lawful = sound.lawful;
  numbered = many;
  each = λ k d lt. view_sound c b.schedule (log_in (logs_of ps) k) k (slice_index_or ps k d) (views k d lt) (sound.evidence k);
  allowed = sound.allowed;
  pass = v;
  owns = owns_all c c.setup.vcpus v r;
  counted = counted;
}

-- a turn says Over only where the vCPU may not step
stuck_by : (v : Verdict) (made : ℕ) (b : Seat) (l : Lane) (later : AfterTurns) (b' : Seat) (l' : Lane) (n : ℕ) → turns_by v made b l later ≡ record { board = b'; lane = l'; answer = record { steps = n; then = then.Over } }
    → ((v ≡ Idle) × (b ≡ b')) ⊎ (later ≡ record { board = b'; lane = l'; answer = record { steps = n; then = then.Over } })
stuck_by Idle made b l later b' l' n e = inl (refl, ap (λ (a : AfterTurns). a.board) e)
stuck_by (Needs k) made b l later b' l' n e = absurd (let z : then.Need ≡ then.Over = ap (λ (a : AfterTurns). a.answer.then) e in cc)
stuck_by (Zeroes p) made b l later b' l' n e = absurd (let z : then.Zero ≡ then.Over = ap (λ (a : AfterTurns). a.answer.then) e in cc)
stuck_by (Goes start) made b l later b' l' n e = inr e

by_start_goes : (rules : Rules) (s : State) (i : ℕ) (w : Windows) → verdict_of rules s i w ≡ Idle → may rules s i ≡ false
by_start_goes rules s i w e =
    elim (may rules s i) as (λ b. may rules s i ≡ b → may rules s i ≡ false) [
      | true ↦ λ m. absurd (start-busy s.ram.text w (next_start s i) (sym (verdict-may rules s i w m) ∙ e))
      | false ↦ λ m. m
    ] refl

after_idle : (b : Seat) (i : ℕ) → after_verdict b i Idle ≡ b
unfolding after_verdict
after_idle b i = refl

after_vcpu : (s : State) (i : ℕ) (l : Lane) (w : Windows) (v : Verdict) → (after_turn s i l w v).vcpu ≡ l.vcpu
after_vcpu s i l w Idle = refl
after_vcpu s i l w (Needs n) = refl
after_vcpu s i l w (Zeroes p) = refl
after_vcpu s i l w (Goes start) = refl

turn_stops : (views : Views) (made k : ℕ) (b : Seat) (l : Lane) (b' : Seat) (l' : Lane) (n : ℕ) → turns_from views made k b l ≡ record { board = b'; lane = l'; answer = record { steps = n; then = then.Over } }
    → may b'.rules b'.state l.vcpu ≡ false
unfolding turns_from
turn_stops views made zero b l b' l' n e = absurd (let z : then.Limit ≡ then.Over = ap (λ (a : AfterTurns). a.answer.then) e in cc)
turn_stops views made (suc k) b l b' l' n e =
    ⊎_elim
    (λ t.
    let still : board_after views b l ≡ b = ap (after_verdict b l.vcpu) t.0 ∙ after_idle b l.vcpu in
    let here : b ≡ b' = sym still ∙ t.1 in
    subst (λ (d : Seat). may d.rules d.state l.vcpu ≡ false) here (by_start_goes b.rules b.state l.vcpu (windows_for views b l) t.0))
    (λ t. subst (λ (i : ℕ). may b'.rules b'.state i ≡ false) (after_vcpu b.state l.vcpu l (windows_for views b l) (verdict_for views b l)) (turn_stops views (made + 1) k (board_after views b l) (lane_after views b l) b' l' n t))
    (stuck_by (verdict_for views b l) made (board_after views b l) (lane_after views b l) (turns_from views (made + 1) k (board_after views b l) (lane_after views b l)) b' l' n e)

over_then : (t : Then) → round_answer t ≡ Over → t ≡ then.Over
over_then then.Limit e = absurd (cc)
over_then then.Need e = absurd (cc)
over_then then.Zero e = absurd (cc)
over_then then.Over e = refl

turned_stops : (c : Config) (v : Known) (l : Lane) (v' : Known) (l' : Lane) (answer : Rounded) → answer ≡ Over → HasTurned c v l v' l' answer → HasStopped c v'.seen l.vcpu
turned_stops c v l v' l' answer over t =
    let said : t.did.then ≡ then.Over = over_then t.did.then (sym t.answer_is ∙ over) in
    turn_stops c.views 0 TURN_LIMIT (board_of c t.schedule) l (board_of c v'.seen) l' t.did.steps (t.exact ∙ ap (λ (q : Then). record { board = board_of c v'.seen; lane = l'; answer = record { steps = t.did.steps; then = q } }) said)

round_stops : (c : Config) (v : Known) (l : Lane) (v' : Known) (l' : Lane) (p : Phase) (answer : Rounded) → answer ≡ Over → IsRound c v l p v' l' answer → HasStopped c v'.seen l.vcpu
round_stops c v l v' l' Running answer over d = turned_stops c v l v' l' answer over d
round_stops c v l v' l' (Wants n) answer over d = absurd (let z : Went ≡ Over = sym d.1 ∙ over in cc)
round_stops c v l v' l' (Trapped t) answer over d = absurd (let z : Went ≡ Over = sym d.2 ∙ over in cc)
round_stops c v l v' l' (Looked k) answer over d = absurd (let z : Went ≡ Over = sym d.1 ∙ over in cc)

pub over_stops : (c : Config) (v : Known) (l : Lane) (v' : Known) (l' : Lane) (answer : Rounded) → answer ≡ Over → l'.vcpu ≡ l.vcpu → IsRound c v l l.phase v' l' answer → HasStopped c v'.seen l'.vcpu
over_stops c v l v' l' answer over same d = subst (HasStopped c v'.seen) (sym same) (round_stops c v l v' l' l.phase answer over d)

-- a worker after its rounds
pub worker_finished : (t : Turns) (w w' : Pass × Lane) (v : Known) → IsPassOf t w'.0 → known w'.0 ≡ v → IsBetweenRounds (config_in t) v w'.1 → w'.1.vcpu ≡ w.1.vcpu → HasStopped (config_in t) v.seen w'.1.vcpu → IsConsistent (known w'.0) → IsFinished t w.1.vcpu w'
worker_finished t w w' v pass is b same stop sure = record {
  pass = pass;
  run = subst (λ (x : Known). IsConsistent x → HasRun (config_in t) w.1.vcpu x) (sym is) (λ s. record {
    config = b.config;
    free = b.free;
    consistent = s;
    done = subst (λ (i : ℕ). IsDoneWith (config_in t) v i) same record { made = times w'.1.vcpu v.seen; owned = b.steps; stopped = stop };
  }) sure;
}

-- The pass, while others are joined to it from the last one back: it is done with the vCPUs from `low` on.
pub record IsJoinedDownTo (t : Turns) (low n : ℕ) (p : Pass) : Type 0 where
  pub pass : IsPassOf t p
  pub config : config_of (known p) ≡ config_in t
  pub free : (known p).holds ≡ None
  pub consistent : IsConsistent (known p)
  pub done : (i : ℕ) → low ≤ i → i < n → IsDoneWith (config_in t) (known p) i

-- the last worker, and those before it
finished_last : (t : Turns) (ws : List (Pass × Lane)) (w : Pass × Lane) → AreFinished t (ws ++ w ∷ []) → IsFinished t (length ws) w
finished_last t ws w all = subst (IsFinished t (length ws)) (get_or_push ws w w (length ws) refl) (all (length ws) w (let e = length-append ws (w ∷ []) in omega arith))

pub finished_at : (t : Turns) (ws front : List (Pass × Lane)) (w : Pass × Lane) (k : ℕ) → ws ≡ front ++ w ∷ [] → k ≡ length front → AreFinished t ws → IsFinished t k w
finished_at t ws front w k is same all = subst (λ (i : ℕ). IsFinished t i w) (sym same) (finished_last t front w (subst (λ (xs : List (Pass × Lane)). AreFinished t xs) is all))

finished_before : (t : Turns) (ws : List (Pass × Lane)) (w : Pass × Lane) → AreFinished t (ws ++ w ∷ []) → AreFinished t ws
finished_before t ws w all i d lt = subst (IsFinished t i) (get_or_append_left ws (w ∷ []) d i lt) (all i d (let e = length-append ws (w ∷ []) in omega arith))

pub finished_front : (t : Turns) (ws front : List (Pass × Lane)) (w : Pass × Lane) → ws ≡ front ++ w ∷ [] → AreFinished t ws → AreFinished t front
finished_front t ws front w is all = finished_before t front w (subst (λ (xs : List (Pass × Lane)). AreFinished t xs) is all)

pub joined_last : (t : Turns) (k n : ℕ) (w : Pass × Lane) → k + 1 ≡ n → IsFinished t k w → IsJoinedDownTo t k n w.0
joined_last t k n w last f = record {
  pass = f.pass;
  config = f.run.config;
  free = f.run.free;
  consistent = f.run.consistent;
  done = λ i le lt. let e : i ≡ k = omega arith in subst (λ (j : ℕ). IsDoneWith (config_in t) (known w.0) j) (sym e) f.run.done;
}

pub joined_more : (t : Turns) (k high n : ℕ) (p p' : Pass) (w : Pass × Lane) → k + 1 ≡ high → IsJoinedDownTo t high n p → IsFinished t k w → IsPassOf t p' → IsJoined (known p) (known w.0) (known p') → IsJoinedDownTo t k n p'
joined_more t k high n p p' w next a f same j =
    let c : Config = config_in t in record {
      pass = same;
      config = joined_config c (known p) (known w.0) (known p') a.config f.run.config a.consistent f.run.consistent j;
      free = j.free;
      consistent = j.consistent;
      done = λ i le lt. dite (ℕ_discrete i k)
          (λ e. done_right c (known p) (known w.0) (known p') a.config f.run.config a.consistent f.run.consistent j i (subst (λ (z : ℕ). IsDoneWith c (known w.0) z) (sym e) f.run.done))
          (λ d. done_left c (known p) (known w.0) (known p') a.config f.run.config a.consistent f.run.consistent j i (a.done i (omega arith) lt));
    }

-- a worker in its place, and what its call left there
pub worker_here : (t : Turns) (ws : List (Pass × Lane)) (i : ℕ) (w : Pass × Lane) → AreWorkers t ws → i < length ws → w ≡ slice_index_or ws i w → IsWorker t w.1.vcpu w
worker_here t ws i w all lt is =
    let here : IsWorker t i w = subst (IsWorker t i) (sym is) (all i w lt) in
    subst (λ (k : ℕ). IsWorker t k w) (sym here.vcpu) here

pub finished_here : (t : Turns) (ws : List (Pass × Lane)) (i : ℕ) (d w w' x : Pass × Lane) → AreWorkers t ws → i < length ws → w ≡ slice_index_or ws i d → w' ≡ x → IsFinished t w.1.vcpu w' → IsFinished t i x
finished_here t ws i d w w' x all lt is left f =
    let here : IsWorker t i w = subst (IsWorker t i) (sym is) (all i d lt) in
    subst (IsFinished t i) left (subst (λ (k : ℕ). IsFinished t k w') here.vcpu f)

pub joined_all : (t : Turns) (n : ℕ) (p : Pass) → IsJoinedDownTo t 0 n p → HasRunAll (config_in t) n (known p)
joined_all t n p a = record { config = a.config; free = a.free; consistent = a.consistent; done = λ i lt. a.done i (omega arith) lt }

take_front : (xs ys : List (Pass × Lane)) → take (length xs) (xs ++ ys) ≡ xs
take_front [] ys = refl
take_front (x ∷ xs) ys = ap (λ (zs : List (Pass × Lane)). x ∷ zs) (take_front xs ys)

-- the workers are left where they were
pub left_in_place : (t : Turns) (ws old : List (Pass × Lane)) (n : ℕ) → length ws ≡ n → AreFinished t ws → AreFinished t (take n (ws ++ drop (length ws) old))
left_in_place t ws old n same all =
    let is : take n (ws ++ drop (length ws) old) ≡ ws = ap (λ (k : ℕ). take k (ws ++ drop (length ws) old)) (sym same) ∙ take_front ws (drop (length ws) old) in
    subst (λ (xs : List (Pass × Lane)). AreFinished t xs) (sym is) all
