-- With one vCPU the logs are in order, and where the run has ended they are its misses.
use Rattle.std.proofs.Common.{◌≡◌, ℕ, ◌<◌, true, false, Bool, List, [], ◌∷◌, ◌++◌, length, refl, sym, ap, subst, ◌∙◌, arith, None, length-set}
use Rattle.std.specs.Prelude.{IsSome, slice_index_or, slice_set, if◌then◌else◌}
use Rattle.chain_log.specs.declared.entry.LogEntry.{LogEntry}
use Rattle.view_file.specs.Named.{view_named}
use Rattle.view_store.specs.Paged.{PagedView, is_present, logged, patched}
use Rattle.guest_board.specs.declared.seen.Verdict.{Verdict}
use Rattle.guest_board.specs.declared.seen.Verdict.TheVariants.{Idle, Needs, Zeroes, Goes}
use Rattle.guest_board.specs.Board.{Seat as Seating, State, may}
use Rattle.guest_board.specs.Seen.{after_verdict, trapped_at}
use Rattle.run_evidence.proofs.Steps.{may-slot}
use Rattle.run_evidence.specs.Config.{Config, IsConfig, full}
use Rattle.run_evidence.proofs.Logged.{AreOrdered, ordered-push, log-is-misses}
use Rattle.run_evidence.proofs.Missed.{under-all}
use Rattle.run_evidence.proofs.OneVcpu.{view-first, all-of-steps}
use Rattle.vcpu_core.specs.declared.lane.Lane.{Lane}
use Rattle.vcpu_core.specs.declared.lane.Phase.{Phase}
use Rattle.vcpu_core.specs.declared.lane.Phase.TheVariants.{Running, Wants, Trapped, Looked}
use Rattle.vcpu_core.specs.Lanes.{in_phase, after_fill, after_look, after_mend}
use Rattle.vcpu_core.specs.First.{first_world, first_lane, first_lanes}
use Rattle.vcpu_core.specs.World.{World, gone, go_of, go_all, erased, lane_of, paged_in, blank_lane, windows_of, verdict_in, with_lane, after_event}
use Rattle.run_evidence.specs.Growing.{logs_of, views_count}
use Rattle.run_evidence.specs.Sound.{IsSoundView}
use Rattle.vcpu_core.specs.Sound.{IsSound}
use Rattle.vcpu_core.specs.Missed.{HasEnded, EachLogsItsMisses, first_view, FirstLogsAllMisses}
use Rattle.vcpu_core.proofs.Ready.{set-paged, named-below}
use Rattle.vcpu_core.proofs.Kept.{IsKept, log-of, go-kept}
use Rattle.vcpu_core.proofs.Run.{full-clock}
use Rattle.vcpu_core.proofs.Start.{first-kept, paged-views-long, paged-views-at, lanes-long, lanes-at, sound_of_events}

-- a trap that is not yet mended is of this moment
abbrev pub IsOfNow : ℕ → Phase → Type 0
IsOfNow now Running = Unit {0}
IsOfNow now (Wants n) = Unit {0}
IsOfNow now (Trapped t) = t.at ≡ now
IsOfNow now (Looked k) = k.entry.at ≡ now

-- the one lane's trap is of this moment, and each log is in order
pub record IsInOrder (w : World) : Type 0 where
  pub one : length w.lanes ≡ 1
  pub phase : IsOfNow (length w.board.schedule) (lane_of w 0).phase
  pub logs : (v : ℕ) → v < length w.paged_views → AreOrdered (paged_in w.paged_views v).log

set-first : (now : ℕ) (lanes : List Lane) (l : Lane) → length lanes ≡ 1 → IsOfNow now l.phase → IsOfNow now (slice_index_or (slice_set lanes 0 l) 0 (blank_lane 0)).phase
set-first now [] l one k = absurd (omega (arith, one))
set-first now (x ∷ xs) l one k = k

lane-order : (w : World) (l : Lane) → IsInOrder w → IsOfNow (length w.board.schedule) l.phase → IsInOrder (with_lane w 0 l)
lane-order w l o k = record {
  one = simp length-set o.one;
  phase = set-first (length w.board.schedule) w.lanes l o.one k;
  logs = o.logs;
}

-- an event of a running lane
turned-order : (c : Config) (w : World) (v : Verdict) → IsKept c w → IsInOrder w → IsInOrder (after_event w 0 (lane_of w 0) (windows_of w 0 (lane_of w 0)) v)
unfolding after_verdict
turned-order c w Idle k o = lane-order w (lane_of w 0) o o.phase
turned-order c w (Needs n) k o = lane-order w (in_phase (lane_of w 0) (windows_of w 0 (lane_of w 0)) (Wants n)) o tt
turned-order c w (Zeroes p) k o =
    lane-order w (in_phase (lane_of w 0) (windows_of w 0 (lane_of w 0)) (Trapped (trapped_at w.board.state 0 (windows_of w 0 (lane_of w 0)).view p))) o (ap (λ (b : Seating). b.state.clock) k.board ∙ full-clock c w.board.schedule)
turned-order c w (Goes r) k o = record {
  one = simp length-set o.one;
  phase = set-first (length (w.board.schedule ++ 0 ∷ [])) w.lanes (in_phase (lane_of w 0) (windows_of w 0 (lane_of w 0)) Running) o.one tt;
  logs = o.logs;
}

-- a view after the group of an entry was restored, or found present
patched-order : (c : Config) (schedule : List ℕ) (p : PagedView) (e : LogEntry) (v : ℕ) (b : Bool) → IsSoundView c schedule v p → e.at ≡ length schedule → AreOrdered p.log
    → AreOrdered (if b then p else logged p e).log
patched-order c schedule p e v true s now o = o
patched-order c schedule p e v false s now o = ordered-push c schedule e p.log s.justified now o

gone-order : (c : Config) (w : World) (phase : Phase) → IsKept c w → IsInOrder w → (lane_of w 0).phase ≡ phase → IsInOrder (gone w 0 (lane_of w 0) phase)
unfolding gone
gone-order c w Running k o e = turned-order c w (verdict_in w 0 (windows_of w 0 (lane_of w 0))) k o
gone-order c w (Wants n) k o e = lane-order w (after_fill (paged_in w.paged_views (lane_of w 0).windows.view) n (lane_of w 0)) o tt
gone-order c w (Trapped t) k o e = lane-order w (after_look w.groups t (lane_of w 0)) o (subst (λ x. IsOfNow (length w.board.schedule) x) e o.phase)
gone-order c w (Looked x) k o e =
    let inside : (lane_of w 0).windows.view < length w.paged_views = (k.ready.each 0 (omega (arith, o.one))).view in
    let now : x.entry.at ≡ length w.board.schedule = subst (λ y. IsOfNow (length w.board.schedule) y) e o.phase in
    record {
      one = simp length-set o.one;
      phase = set-first (length w.board.schedule) w.lanes (after_mend w.groups x.group (lane_of w 0)) o.one tt;
      logs = set-paged (λ n q. AreOrdered q.log) w.paged_views (lane_of w 0).windows.view (patched (paged_in w.paged_views (lane_of w 0).windows.view) x.entry) o.logs
          (patched-order c w.board.schedule (paged_in w.paged_views (lane_of w 0).windows.view) x.entry (lane_of w 0).windows.view
          (is_present (paged_in w.paged_views (lane_of w 0).windows.view).base (paged_in w.paged_views (lane_of w 0).windows.view).log x.entry.group)
          (k.paged_views (lane_of w 0).windows.view inside) now (o.logs (lane_of w 0).windows.view inside));
    }

go-order : (c : Config) (w : World) (i : ℕ) → IsKept c w → IsInOrder w → IsInOrder (go_of w i)
unfolding go_of
go-order c w i k o =
    elim (may w.board.rules w.board.state i) as (λ b. may w.board.rules w.board.state i ≡ b → IsInOrder (if b then gone w i (lane_of w i) (lane_of w i).phase else w)) [
      | true ↦ λ m.
          let first : 0 ≡ i = omega (arith, may-slot w.board.rules w.board.state i m, k.ready.lanes, o.one) in
          subst (λ j. IsInOrder (gone w j (lane_of w j) (lane_of w j).phase)) first (gone-order c w (lane_of w 0).phase k o refl)
      | false ↦ λ m. o
    ] refl

go_all-order : (c : Config) → IsConfig c → (w : World) (is : List ℕ) → IsKept c w → IsInOrder w → IsInOrder (go_all w is)
go_all-order c ok w [] k o = o
go_all-order c ok w (i ∷ is) k o = go_all-order c ok (go_of w i) is (go-kept c ok w i k) (go-order c w i k o)

-- before any event
first-order : (c : Config) → c.setup.vcpus ≡ 1 → IsInOrder (first_world c)
unfolding first_world
first-order c one =
    let long : length (first_lanes (view_named c.views c.setup.start) c.setup.vcpus) ≡ c.setup.vcpus = lanes-long (view_named c.views c.setup.start) c.setup.vcpus in
    let lane : slice_index_or (first_lanes (view_named c.views c.setup.start) c.setup.vcpus) 0 (blank_lane 0) ≡ first_lane (view_named c.views c.setup.start) 0 =
    lanes-at (view_named c.views c.setup.start) c.setup.vcpus 0 (omega (arith, one)) in
    record {
      one = long ∙ one;
      phase = subst (λ (l : Lane). IsOfNow 0 l.phase) (sym lane) tt;
      logs = λ v h. subst (λ (p : PagedView). AreOrdered p.log)
          (sym (paged-views-at c (views_count c) v (subst (λ n. v < n) (paged-views-long c (views_count c)) h))) tt;
    }

pub in_order : (c : Config) → IsConfig c → c.setup.vcpus ≡ 1 → (is : List ℕ) → IsInOrder (go_all (first_world c) is)
in_order c ok one is = go_all-order c ok (first_world c) is (first-kept c ok) (first-order c one)

pub each_logs_its_misses : (c : Config) → IsConfig c → c.setup.vcpus ≡ 1 → (is : List ℕ) → HasEnded (go_all (first_world c) is)
    → EachLogsItsMisses c (go_all (first_world c) is) (erased (first_world c) is)
each_logs_its_misses c ok one is ended v inside =
    let s : IsSound c (go_all (first_world c) is) (erased (first_world c) is) = sound_of_events c ok is in
    let p : IsSoundView c (erased (first_world c) is) v (paged_in (go_all (first_world c) is).paged_views v) = s.views v inside in
    let over : IsSome (full c (erased (first_world c) is)).end = subst (λ (x : State). IsSome x.end) s.state ended in
    log-is-misses c (erased (first_world c) is) (logs_of (go_all (first_world c) is).paged_views) v (paged_in (go_all (first_world c) is).paged_views v).log
    (log-of (go_all (first_world c) is).paged_views v) s.allowed p.justified p.of_view p.once
    (all-of-steps c one (erased (first_world c) is) s.lawful (paged_in (go_all (first_world c) is).paged_views v).log over p.justified)
    ((in_order c ok one is).logs v inside)

pub first_logs_all_misses : (c : Config) → IsConfig c → c.setup.vcpus ≡ 1 → c.setup.hook ≡ None → (is : List ℕ) → HasEnded (go_all (first_world c) is)
    → FirstLogsAllMisses c (go_all (first_world c) is) (erased (first_world c) is)
first_logs_all_misses c ok one unhooked is ended =
    let s : IsSound c (go_all (first_world c) is) (erased (first_world c) is) = sound_of_events c ok is in
    let inside : first_view c < length (go_all (first_world c) is).paged_views = omega (arith, s.numbered, named-below c.views c.setup.start) in
    record {
      within = inside;
      all = each_logs_its_misses c ok one is ended (first_view c) inside ∙ under-all c (erased (first_world c) is) (first_view c) (view-first c one (erased (first_world c) is) s.lawful unhooked);
    }
