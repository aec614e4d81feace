-- What every event keeps: the board is the full kernel's run, the logs are evidence, the lanes are truthful.
use Rattle.std.proofs.Common.{◌≡◌, ◌≢◌, ℕ, zero, suc, ◌<◌, true, false, Bool, List, [], ◌∷◌, ◌++◌, length, refl, sym, ap, subst, ◌∙◌, arith, append_assoc, append-nil, replicate}
use Rattle.std.specs.Prelude.{◌||◌, slice_set, if◌then◌else◌}
use Rattle.chain_log.specs.declared.entry.LogEntry.{LogEntry}
use Rattle.chain_log.specs.declared.entry.Trapped.{Trapped as Trapping}
use Rattle.guest_ram.specs.Ram.{IsLaid}
use Rattle.recovery.specs.declared.Looked.{Looked as Looking}
use Rattle.view_file.specs.Named.{view_named}
use Rattle.view_store.specs.declared.view.Patched.{Patched}
use Rattle.view_store.specs.declared.view.Patched.TheVariants.{Recovered, WasPresent}
use Rattle.view_store.specs.Paged.{PagedView, is_present, patched}
use Rattle.guest_board.specs.declared.seen.Verdict.{Verdict}
use Rattle.guest_board.specs.declared.seen.Verdict.TheVariants.{Idle, Needs, Zeroes, Goes}
use Rattle.guest_board.specs.Board.{Seat, may, name_of}
use Rattle.guest_board.specs.Seen.{after_verdict, verdict_of}
use Rattle.run_evidence.specs.Config.{Config, IsConfig, IsLawfulSchedule, image_groups}
use Rattle.run_evidence.specs.Evidence.{AllJustified, AreJustified, IsAllowed, log_in}
use Rattle.run_evidence.specs.Growing.{Begins, IsAllowedFrom, board_of, paged_at, logs_of}
use Rattle.run_evidence.specs.Sound.{IsSoundView}
use Rattle.run_evidence.proofs.Growing.{all_justified_later, allowed_from_stays, allowed_is_from_start}
use Rattle.run_evidence.proofs.Stable.{all_justified-push, of_view-push, once-push}
use Rattle.vcpu_core.specs.declared.lane.Lane.{Lane}
use Rattle.vcpu_core.specs.declared.lane.Phase.{Phase}
use Rattle.vcpu_core.specs.declared.lane.Phase.TheVariants.{Running, Wants, Trapped, Looked}
use Rattle.vcpu_core.specs.declared.lane.Went.TheVariants.{Over}
use Rattle.vcpu_core.specs.Lanes.{after_fill, after_look, after_mend, after_turn, seated, went_by}
use Rattle.vcpu_core.specs.Truthful.{IsTruthful}
use Rattle.vcpu_core.specs.Turns.{turns_of}
use Rattle.vcpu_core.specs.Rows.{AreOfOthers, IsMended, IsNewEntry, IsPatched}
use Rattle.vcpu_core.specs.World.{World, IsReady, IsLaneReady, erased, go_all, go_of, gone, kept_if, lane_of, paged_in, verdict_in, went_in, went_of, windows_of, with_lane}
use Rattle.vcpu_core.proofs.Mended.{fill_keeps, look_keeps, mend_keeps}
use Rattle.vcpu_core.proofs.Ready.{gone-ready, set-lane, set-paged}
use Rattle.vcpu_core.proofs.Run.{full-texted}
use Rattle.vcpu_core.proofs.Stays.{truthful_lanes_stay}
use Rattle.vcpu_core.proofs.Truth.{begins-itself}
use Rattle.vcpu_core.proofs.Turned.{HasRun, IsRunTo, one-turn, turns-run}
use Rattle.run_evidence.proofs.Steps.{may-slot}

pub record IsKept (c : Config) (w : World) : Type 0 where
  pub ready : IsReady w
  pub profile : w.profile ≡ c.views
  pub groups : w.groups ≡ image_groups c
  pub board : w.board ≡ board_of c w.board.schedule
  pub lawful : IsLawfulSchedule c w.board.schedule
  pub paged_views : (v : ℕ) → v < length w.paged_views → IsSoundView c w.board.schedule v (paged_in w.paged_views v)
  pub lanes : (k : ℕ) → k < length w.lanes → IsTruthful c w.board.schedule (logs_of w.paged_views) (lane_of w k)
  pub allowed : IsAllowed c (logs_of w.paged_views) w.board.schedule

-- the log of a view among all logs
pub log-of : (paged_views : List PagedView) (v : ℕ) → log_in (logs_of paged_views) v ≡ (paged_in paged_views v).log
log-of [] v = refl
log-of (p ∷ ps) zero = refl
log-of (p ∷ ps) (suc v) = log-of ps v

view-longer : (c : Config) (schedule later : List ℕ) (v : ℕ) (p : PagedView) → IsSoundView c schedule v p → IsSoundView c (schedule ++ later) v p
view-longer c schedule later v p k = record {
  number = k.number;
  text = k.text;
  groups = k.groups;
  base = k.base;
  of_view = k.of_view;
  justified = all_justified_later c schedule later p.log k.justified;
  once = k.once;
}

-- a sound view is that of its number with its log
pub paged-is : (c : Config) (schedule : List ℕ) (v : ℕ) (p : PagedView) → IsSoundView c schedule v p → p ≡ paged_at c v p.log
paged-is c schedule v p k = λ x. record { number = k.number x; text = k.text x; groups = k.groups x; base = k.base x; log = p.log }

others-only : (i k n : ℕ) → k ≢ i → AreOfOthers k (replicate n i)
others-only i k zero apart = tt
others-only i k (suc n) apart = ((λ e. apart (sym e)), others-only i k n apart)

same-logs : (logs : List (List LogEntry)) (v : ℕ) → Begins (log_in logs v) (log_in logs v)
same-logs logs v = begins-itself (log_in logs v)

set-same : (paged_views : List PagedView) (v : ℕ) → slice_set paged_views v (paged_in paged_views v) ≡ paged_views
set-same [] v = refl
set-same (p ∷ ps) zero = refl
set-same (p ∷ ps) (suc v) = ap (λ x. p ∷ x) (set-same ps v)

set-get : (paged_views : List PagedView) (v : ℕ) (p : PagedView) → v < length paged_views → paged_in (slice_set paged_views v p) v ≡ p
set-get [] v p h = absurd (omega (arith, h))
set-get (q ∷ qs) zero p h = refl
set-get (q ∷ qs) (suc v) p h = set-get qs v p (omega (arith, h))

-- where one view's log grew, each log begins with what it was
pub logs-begin : (paged_views : List PagedView) (v : ℕ) (p : PagedView) → Begins (paged_in paged_views v).log p.log
    → (u : ℕ) → Begins (log_in (logs_of paged_views) u) (log_in (logs_of (slice_set paged_views v p)) u)
logs-begin [] v p grown u = begins-itself []
logs-begin (q ∷ qs) zero p grown zero = grown
logs-begin (q ∷ qs) zero p grown (suc u) = begins-itself (log_in (logs_of qs) u)
logs-begin (q ∷ qs) (suc v) p grown zero = begins-itself q.log
logs-begin (q ∷ qs) (suc v) p grown (suc u) = logs-begin qs v p grown u

module _ (c : Config) (ok : IsConfig c) (w : World) (k : IsKept c w) (i : ℕ) (m : may w.board.rules w.board.state i ≡ true) where
  within : i < length w.lanes
  within = omega (arith, may-slot w.board.rules w.board.state i m, k.ready.lanes)

  lane-ready : IsLaneReady w i (lane_of w i)
  lane-ready = k.ready.each i within

  truthful : IsTruthful c w.board.schedule (logs_of w.paged_views) (lane_of w i)
  truthful = k.lanes i within

  justified : AreJustified c (logs_of w.paged_views) w.board.schedule
  justified v = subst (λ (l : List LogEntry). AllJustified c w.board.schedule l) (sym (log-of w.paged_views v)) (of-view v) where
    of-paged : (ps : List PagedView) (v : ℕ) → ((u : ℕ) → u < length ps → AllJustified c w.board.schedule (paged_in ps u).log) → AllJustified c w.board.schedule (paged_in ps v).log
    of-paged [] v all = tt
    of-paged (p ∷ ps) zero all = all 0 (omega arith)
    of-paged (p ∷ ps) (suc v) all = of-paged ps v (λ u h. all (suc u) (omega (arith, h)))

    of-view : (v : ℕ) → AllJustified c w.board.schedule (paged_in w.paged_views v).log
    of-view v = of-paged w.paged_views v (λ u h. (k.paged_views u h).justified)

  -- an event that replaces a lane alone
  lane-kept : (l : Lane) → IsReady (with_lane w i l) → IsTruthful c w.board.schedule (logs_of w.paged_views) l → IsKept c (with_lane w i l)
  lane-kept l ready new = record {
    ready = ready;
    profile = k.profile;
    groups = k.groups;
    board = k.board;
    lawful = k.lawful;
    paged_views = k.paged_views;
    lanes = set-lane (λ n x. IsTruthful c w.board.schedule (logs_of w.paged_views) x) w.lanes i l (λ n h other. k.lanes n h) new;
    allowed = k.allowed;
  }

  -- an event after which the board is that of n more steps
  steps-kept : (l : Lane) (n : ℕ) (b : Seat) → b ≡ board_of c (w.board.schedule ++ replicate n i) → IsLawfulSchedule c (w.board.schedule ++ replicate n i)
      → IsAllowed c (logs_of w.paged_views) (w.board.schedule ++ replicate n i) → IsTruthful c (w.board.schedule ++ replicate n i) (logs_of w.paged_views) l
      → IsReady (record w { board = b; lanes = slice_set w.lanes i l }) → IsKept c (record w { board = b; lanes = slice_set w.lanes i l })
  steps-kept l n b is lawful allowed new =
      subst (λ (x : Seat). IsReady (record w { board = x; lanes = slice_set w.lanes i l }) → IsKept c (record w { board = x; lanes = slice_set w.lanes i l })) (sym is)
      (λ ready. record {
        ready = ready;
        profile = k.profile;
        groups = k.groups;
        board = refl;
        lawful = lawful;
        paged_views = λ v h. view-longer c w.board.schedule (replicate n i) v (paged_in w.paged_views v) (k.paged_views v h);
        lanes = set-lane (λ j x. IsTruthful c (w.board.schedule ++ replicate n i) (logs_of w.paged_views) x) w.lanes i l
            (λ j h other. truthful_lanes_stay c w.board.schedule (replicate n i) (logs_of w.paged_views) (logs_of w.paged_views) (lane_of w j)
            (subst (λ x. AreOfOthers x (replicate n i)) (sym (k.ready.each j h).number) (others-only i j n other)) (same-logs (logs_of w.paged_views)) (k.lanes j h)) new;
        allowed = allowed;
      })

  -- an event of a lane that runs
  running-kept : (lane_of w i).phase ≡ Running → IsReady (gone w i (lane_of w i) Running) → IsKept c (gone w i (lane_of w i) Running)
  unfolding gone
  running-kept e ready =
      let l : Lane = lane_of w i in
      let own : (lane_of w i).vcpu ≡ i = lane-ready.number in
      let nothing : IsAllowedFrom c (logs_of w.paged_views) w.board.schedule 0 = (allowed_is_from_start c (logs_of w.paged_views) w.board.schedule).0 k.allowed in
      let start : IsRunTo c (logs_of w.paged_views) 0 (lane_of w i).vcpu w.board.schedule (board_of c w.board.schedule) (lane_of w i) =
      record { board = refl; lawful = k.lawful; allowed = nothing; vcpu = refl; truthful = truthful } in
      let run : HasRun c (logs_of w.paged_views) 0 (lane_of w i).vcpu 0 w.board.schedule (turns_of c.views 1 (board_of c w.board.schedule) (lane_of w i)) =
      turns-run c ok (logs_of w.paged_views) 0 1 0 w.board.schedule (lane_of w i) justified start in
      let one = one-turn c.views (board_of c w.board.schedule) (lane_of w i) in
      let mine : i ≡ (lane_of w i).vcpu = sym own in
      let board : after_verdict w.board i (verdict_in w i (windows_of w i (lane_of w i))) ≡ (turns_of c.views 1 (board_of c w.board.schedule) (lane_of w i)).board =
      (λ x. after_verdict (k.board x) (mine x) (verdict_of (k.board x).rules (k.board x).state (mine x) (seated (view_named (k.profile x) (name_of (k.board x).state (mine x))) (lane_of w i).windows))) ∙ sym one.0 in
      let lane : after_turn w.board.state i (lane_of w i) (windows_of w i (lane_of w i)) (verdict_in w i (windows_of w i (lane_of w i))) ≡ (turns_of c.views 1 (board_of c w.board.schedule) (lane_of w i)).lane =
      (λ x. after_turn (k.board x).state (mine x) (lane_of w i) (seated (view_named (k.profile x) (name_of (k.board x).state (mine x))) (lane_of w i).windows)
      (verdict_of (k.board x).rules (k.board x).state (mine x) (seated (view_named (k.profile x) (name_of (k.board x).state (mine x))) (lane_of w i).windows))) ∙ sym one.1 in
      let to : IsRunTo c (logs_of w.paged_views) 0 i (w.board.schedule ++ replicate run.more i) (turns_of c.views 1 (board_of c w.board.schedule) (lane_of w i)).board (turns_of c.views 1 (board_of c w.board.schedule) (lane_of w i)).lane =
      subst (λ n. IsRunTo c (logs_of w.paged_views) 0 n (w.board.schedule ++ replicate run.more n) (turns_of c.views 1 (board_of c w.board.schedule) (lane_of w i)).board (turns_of c.views 1 (board_of c w.board.schedule) (lane_of w i)).lane) own run.to in
      steps-kept (after_turn w.board.state i (lane_of w i) (windows_of w i (lane_of w i)) (verdict_in w i (windows_of w i (lane_of w i)))) run.more
      (after_verdict w.board i (verdict_in w i (windows_of w i (lane_of w i)))) (board ∙ to.board) to.lawful
      ((allowed_is_from_start c (logs_of w.paged_views) (w.board.schedule ++ replicate run.more i)).1 to.allowed)
      (subst (λ (y : Lane). IsTruthful c (w.board.schedule ++ replicate run.more i) (logs_of w.paged_views) y) (sym lane) to.truthful) ready

  view-here : (lane_of w i).windows.view < length w.paged_views → paged_in w.paged_views (lane_of w i).windows.view ≡ paged_at c (lane_of w i).windows.view (log_in (logs_of w.paged_views) (lane_of w i).windows.view)
  view-here inside =
      paged-is c w.board.schedule (lane_of w i).windows.view (paged_in w.paged_views (lane_of w i).windows.view) (k.paged_views (lane_of w i).windows.view inside)
      ∙ ap (λ (l : List LogEntry). paged_at c (lane_of w i).windows.view l) (sym (log-of w.paged_views (lane_of w i).windows.view))

  -- the lane in its phase
  lane-is : (phase : Phase) → (lane_of w i).phase ≡ phase → lane_of w i ≡ record { vcpu = (lane_of w i).vcpu; windows = (lane_of w i).windows; phase = phase }
  lane-is phase e = λ x. record { vcpu = (lane_of w i).vcpu; windows = (lane_of w i).windows; phase = e x }

  truthful-in : (phase : Phase) → (lane_of w i).phase ≡ phase → IsTruthful c w.board.schedule (logs_of w.paged_views) (record { vcpu = (lane_of w i).vcpu; windows = (lane_of w i).windows; phase = phase })
  truthful-in phase e = subst (λ (l : Lane). IsTruthful c w.board.schedule (logs_of w.paged_views) l) (lane-is phase e) truthful

  wants-kept : (n : ℕ) → (lane_of w i).phase ≡ Wants n → IsReady (gone w i (lane_of w i) (Wants n)) → IsKept c (gone w i (lane_of w i) (Wants n))
  unfolding gone
  wants-kept n e ready =
      lane-kept (after_fill (paged_in w.paged_views (lane_of w i).windows.view) n (lane_of w i)) ready
      (fill_keeps (paged_in w.paged_views (lane_of w i).windows.view) (record { vcpu = (lane_of w i).vcpu; windows = (lane_of w i).windows; phase = Wants n })
      (after_fill (paged_in w.paged_views (lane_of w i).windows.view) n (lane_of w i)) tt refl c w.board.schedule (logs_of w.paged_views) ok (view-here lane-ready.view) (truthful-in (Wants n) e))

  trapped-kept : (t : Trapping) → (lane_of w i).phase ≡ Trapped t → IsReady (gone w i (lane_of w i) (Trapped t)) → IsKept c (gone w i (lane_of w i) (Trapped t))
  unfolding gone
  trapped-kept t e ready =
      lane-kept (after_look w.groups t (lane_of w i)) ready
      (look_keeps w.groups (record { vcpu = (lane_of w i).vcpu; windows = (lane_of w i).windows; phase = Trapped t })
      (after_look w.groups t (lane_of w i)) tt refl c w.board.schedule (logs_of w.paged_views) ok k.groups (truthful-in (Trapped t) e))

  -- a view after a mend
  record IsGrown (v : ℕ) (q : PagedView) : Type 0 where
    grown : Begins (paged_in w.paged_views v).log q.log
    sound : IsSoundView c w.board.schedule v q

  or-false : (a b : Bool) → (a || b) ≡ false → (a ≡ false) × (b ≡ false)
  or-false true b e = absurd (cc)
  or-false false b e = (refl, e)

  grown-by : (v : ℕ) (q : PagedView) (did : Patched) → v < length w.paged_views → IsPatched c w.board.schedule (paged_in w.paged_views v) q did → IsGrown v q
  grown-by v q WasPresent inside same =
      subst (λ (x : PagedView). IsGrown v x) (sym same) (record { grown = begins-itself (paged_in w.paged_views v).log; sound = k.paged_views v inside })
  grown-by v q Recovered inside more =
      let s : IsSoundView c w.board.schedule v (paged_in w.paged_views v) = k.paged_views v inside in
      let e : LogEntry = more.0 in
      let new : IsNewEntry c w.board.schedule (paged_in w.paged_views v) more.0 = more.2 in
      subst (λ (x : PagedView). IsGrown v x) (sym more.1) (record {
        grown = (more.0 ∷ [], refl);
        sound = record {
          number = s.number;
          text = s.text;
          groups = s.groups;
          base = s.base;
          of_view = of_view-push v more.0 (paged_in w.paged_views v).log s.of_view (new.view ∙ s.number);
          justified = all_justified-push c w.board.schedule more.0 (paged_in w.paged_views v).log s.justified new.justified;
          once = once-push more.0 (paged_in w.paged_views v).log s.once new.new;
        };
      })

  view-kept : (l : Lane) (v : ℕ) (q : PagedView) → IsGrown v q → IsTruthful c w.board.schedule (logs_of (slice_set w.paged_views v q)) l
      → IsReady (record w { paged_views = slice_set w.paged_views v q; lanes = slice_set w.lanes i l }) → IsKept c (record w { paged_views = slice_set w.paged_views v q; lanes = slice_set w.lanes i l })
  view-kept l v q g new ready =
      let begin : (u : ℕ) → Begins (log_in (logs_of w.paged_views) u) (log_in (logs_of (slice_set w.paged_views v q)) u) = logs-begin w.paged_views v q g.grown in
      let whole : w.board.schedule ++ [] ≡ w.board.schedule = append-nil w.board.schedule in
      record {
        ready = ready;
        profile = k.profile;
        groups = k.groups;
        board = k.board;
        lawful = k.lawful;
        paged_views = set-paged (λ n p. IsSoundView c w.board.schedule n p) w.paged_views v q k.paged_views g.sound;
        lanes = set-lane (λ n x. IsTruthful c w.board.schedule (logs_of (slice_set w.paged_views v q)) x) w.lanes i l
            (λ n h other. subst (λ s. IsTruthful c s (logs_of (slice_set w.paged_views v q)) (lane_of w n)) whole
            (truthful_lanes_stay c w.board.schedule [] (logs_of w.paged_views) (logs_of (slice_set w.paged_views v q)) (lane_of w n) tt begin (k.lanes n h))) new;
        allowed = (allowed_is_from_start c (logs_of (slice_set w.paged_views v q)) w.board.schedule).1
            (allowed_from_stays c w.board.schedule 0 (logs_of w.paged_views) (logs_of (slice_set w.paged_views v q)) begin
            ((allowed_is_from_start c (logs_of w.paged_views) w.board.schedule).0 k.allowed));
      }

  looked-kept : (x : Looking) → (lane_of w i).phase ≡ Looked x → IsReady (gone w i (lane_of w i) (Looked x)) → IsKept c (gone w i (lane_of w i) (Looked x))
  unfolding gone
  looked-kept x e ready =
      let v : ℕ = (lane_of w i).windows.view in
      let p : PagedView = paged_in w.paged_views (lane_of w i).windows.view in
      let did : Patched = if is_present (paged_in w.paged_views (lane_of w i).windows.view).base (paged_in w.paged_views (lane_of w i).windows.view).log x.entry.group then WasPresent else Recovered in
      let inside : (lane_of w i).windows.view < length w.paged_views = lane-ready.view in
      let number : (paged_in w.paged_views (lane_of w i).windows.view).number ≡ (lane_of w i).windows.view = (k.ready.paged_views (lane_of w i).windows.view inside).number in
      let done : IsMended c w.board.schedule (paged_in w.paged_views (lane_of w i).windows.view) (patched (paged_in w.paged_views (lane_of w i).windows.view) x.entry) (after_mend w.groups x.group (lane_of w i)) did =
      mend_keeps (paged_in w.paged_views (lane_of w i).windows.view) (patched (paged_in w.paged_views (lane_of w i).windows.view) x.entry) w.groups
      (record { vcpu = (lane_of w i).vcpu; windows = (lane_of w i).windows; phase = Looked x }) (after_mend w.groups x.group (lane_of w i)) did tt
      (k.ready.paged_views (lane_of w i).windows.view inside).groups refl refl refl c w.board.schedule (logs_of w.paged_views) ok (view-here inside) (truthful-in (Looked x) e) in
      view-kept (after_mend w.groups x.group (lane_of w i)) (lane_of w i).windows.view (patched (paged_in w.paged_views (lane_of w i).windows.view) x.entry)
      (grown-by (lane_of w i).windows.view (patched (paged_in w.paged_views (lane_of w i).windows.view) x.entry) did inside done.view)
      (done.truthful (logs_of (slice_set w.paged_views (lane_of w i).windows.view (patched (paged_in w.paged_views (lane_of w i).windows.view) x.entry)))
      (ap (λ n. log_in (logs_of (slice_set w.paged_views (lane_of w i).windows.view (patched (paged_in w.paged_views (lane_of w i).windows.view) x.entry))) n) number
      ∙ log-of (slice_set w.paged_views (lane_of w i).windows.view (patched (paged_in w.paged_views (lane_of w i).windows.view) x.entry)) (lane_of w i).windows.view
      ∙ ap (λ (q : PagedView). q.log) (set-get w.paged_views (lane_of w i).windows.view (patched (paged_in w.paged_views (lane_of w i).windows.view) x.entry) inside)))
      ready

  gone-kept : (phase : Phase) → (lane_of w i).phase ≡ phase → IsReady (gone w i (lane_of w i) phase) → IsKept c (gone w i (lane_of w i) phase)
  gone-kept Running e ready = running-kept e ready
  gone-kept (Wants n) e ready = wants-kept n e ready
  gone-kept (Trapped t) e ready = trapped-kept t e ready
  gone-kept (Looked x) e ready = looked-kept x e ready

  pub event-kept : IsKept c (gone w i (lane_of w i) (lane_of w i).phase)
  event-kept =
      gone-kept (lane_of w i).phase refl (gone-ready w i (lane_of w i) (lane_of w i).phase m k.ready
      (subst (λ (b : Seat). IsLaid b.state.ram) (sym k.board) (full-texted c w.board.schedule ok).laid) lane-ready refl)

-- an event keeps all this
pub go-kept : (c : Config) → IsConfig c → (w : World) (i : ℕ) → IsKept c w → IsKept c (go_of w i)
unfolding go_of
go-kept c ok w i k =
    elim (may w.board.rules w.board.state i) as (λ b. may w.board.rules w.board.state i ≡ b → IsKept c (if b then gone w i (lane_of w i) (lane_of w i).phase else w)) [
      | true ↦ λ m. event-kept c ok w k i m
      | false ↦ λ m. k
    ] refl

pub go_all-kept : (c : Config) → IsConfig c → (w : World) (is : List ℕ) → IsKept c w → IsKept c (go_all w is)
go_all-kept c ok w [] k = k
go_all-kept c ok w (i ∷ is) k = go_all-kept c ok (go_of w i) is (go-kept c ok w i k)

-- the schedule is the events that stepped
verdict-schedule : (b : Seat) (i : ℕ) (v : Verdict) (rest : List ℕ) → (after_verdict b i v).schedule ++ rest ≡ b.schedule ++ kept_if (went_by v) i rest
unfolding after_verdict
verdict-schedule b i Idle rest = refl
verdict-schedule b i (Needs n) rest = refl
verdict-schedule b i (Zeroes p) rest = refl
verdict-schedule b i (Goes r) rest = append_assoc b.schedule (i ∷ []) rest

gone-schedule : (w : World) (i : ℕ) (l : Lane) (phase : Phase) (rest : List ℕ) → (gone w i l phase).board.schedule ++ rest ≡ w.board.schedule ++ kept_if (went_in w i l phase) i rest
unfolding gone went_in
gone-schedule w i l Running rest = verdict-schedule w.board i (verdict_in w i (windows_of w i l)) rest
gone-schedule w i l (Wants n) rest = refl
gone-schedule w i l (Trapped trap) rest = refl
gone-schedule w i l (Looked x) rest = refl

go-schedule : (w : World) (i : ℕ) (rest : List ℕ) → (go_of w i).board.schedule ++ rest ≡ w.board.schedule ++ kept_if (went_of w i) i rest
unfolding go_of went_of
go-schedule w i rest =
    elim (may w.board.rules w.board.state i) as (λ b. (if b then gone w i (lane_of w i) (lane_of w i).phase else w).board.schedule ++ rest
    ≡ w.board.schedule ++ kept_if (if b then went_in w i (lane_of w i) (lane_of w i).phase else Over) i rest) [
      | true ↦ gone-schedule w i (lane_of w i) (lane_of w i).phase rest
      | false ↦ refl
    ]

pub go_all-schedule : (w : World) (is : List ℕ) → (go_all w is).board.schedule ≡ w.board.schedule ++ erased w is
go_all-schedule w [] = sym (append-nil w.board.schedule)
go_all-schedule w (i ∷ is) = go_all-schedule (go_of w i) is ∙ go-schedule w i (erased (go_of w i) is)
