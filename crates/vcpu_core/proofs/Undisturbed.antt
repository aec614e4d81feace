-- In an undisturbed list each trap is mended, and its vCPU steps, before any other vCPU does: so each entry is of a step.
use Rattle.std.proofs.Common.{◌≡◌, ℕ, ◌<◌, true, false, Bool, List, [], ◌∷◌, ◌++◌, length, refl, sym, ap, subst, ◌∙◌, arith, Some, ◌⊎◌, inl, inr, length-append}
use Rattle.std.specs.Prelude.{slice_index_or, slice_set, if◌then◌else◌}
use Rattle.recovery.specs.declared.Looked.{Looked as Looking}
use Rattle.chain_log.specs.declared.entry.LogEntry.{LogEntry}
use Rattle.function_table.specs.Groups.{group_at}
use Rattle.view_file.specs.Named.{view_named}
use Rattle.view_store.specs.Paged.{PagedView, is_present, logged, patched}
use Rattle.guest_board.specs.declared.seen.Verdict.{Verdict}
use Rattle.guest_board.specs.declared.seen.Verdict.TheVariants.{Idle, Needs, Zeroes, Goes}
use Rattle.guest_board.specs.Board.{Seat, may, next_of}
use Rattle.guest_board.specs.Seen.{after_verdict}
use Rattle.run_evidence.proofs.Steps.{may-slot}
use Rattle.run_evidence.specs.Config.{Config, IsConfig, image_groups, is_base, full_at, view_in, fetched_at, view_at}
use Rattle.run_evidence.specs.Evidence.{IsJustified, AllJustified}
use Rattle.run_evidence.specs.Growing.{views_count}
use Rattle.run_evidence.proofs.Logged.{IsOfStep, AllOfSteps}
use Rattle.run_evidence.proofs.Runs.{member-more, member-now}
use Rattle.vcpu_core.specs.declared.lane.Lane.{Lane}
use Rattle.vcpu_core.specs.declared.lane.Phase.{Phase}
use Rattle.vcpu_core.specs.declared.lane.Phase.TheVariants.{Running, Wants, Trapped, Looked}
use Rattle.vcpu_core.specs.declared.lane.Went.TheVariants.{Over, Erased}
use Rattle.vcpu_core.specs.Lanes.{after_turn, after_fill, after_look, after_mend, went_by}
use Rattle.vcpu_core.specs.First.{first_world}
use Rattle.vcpu_core.specs.World.{World, gone, went_in, go_of, went_of, go_all, erased, lane_of, paged_in, blank_lane, windows_of, verdict_in, after_event}
use Rattle.vcpu_core.specs.Sound.{IsSound}
use Rattle.vcpu_core.specs.Truthful.{IsTruePhase}
use Rattle.vcpu_core.proofs.Ready.{set-lane, set-paged}
use Rattle.vcpu_core.proofs.Kept.{IsKept, go-kept}
use Rattle.vcpu_core.proofs.Run.{full-clock}
use Rattle.vcpu_core.proofs.Start.{first-kept, lanes-at, lanes-long, paged-views-at, paged-views-long, sound_of_events}
use Rattle.vcpu_core.specs.Undisturbed.{first_by, StepsFirst, IsUndisturbed, IsCovered, CoveredLogsNothing}

-- a trap that is not yet mended is of this moment, and its vCPU steps next
abbrev pub StandsBy : ℕ → Type 0 → Phase → Type 0
StandsBy now next Running = Unit {0}
StandsBy now next (Wants n) = next
StandsBy now next (Trapped t) = (t.at ≡ now) × next
StandsBy now next (Looked k) = (k.entry.at ≡ now) × next

-- the entry is of a step that was made, or of the next one
abbrev pub IsDue : List ℕ → (ℕ → Type 0) → LogEntry → Type 0
IsDue schedule next e = IsOfStep schedule e ⊎ ((e.at ≡ length schedule) × next e.vcpu)

abbrev pub AllDue : List ℕ → (ℕ → Type 0) → List LogEntry → Type 0
AllDue schedule next [] = Unit {0}
AllDue schedule next (e ∷ es) = IsDue schedule next e × AllDue schedule next es

pub record IsCalm (lanes : List Lane) (views : List PagedView) (schedule : List ℕ) (next : ℕ → Type 0) : Type 0 where
  pub stand : (k : ℕ) → k < length lanes → StandsBy (length schedule) (next k) (slice_index_or lanes k (blank_lane k)).phase
  pub due : (v : ℕ) → v < length views → AllDue schedule next (paged_in views v).log

due-push : (schedule : List ℕ) (next : ℕ → Type 0) (e : LogEntry) (log : List LogEntry) → AllDue schedule next log → IsDue schedule next e → AllDue schedule next (log ++ e ∷ [])
due-push schedule next e [] all new = (new, tt)
due-push schedule next e (x ∷ xs) all new = (all.0, due-push schedule next e xs all.1 new)

-- after a step of vCPU i
due-step : (schedule : List ℕ) (i : ℕ) (next : ℕ → Type 0) (log : List LogEntry) → AllDue schedule (λ k. i ≡ k) log → AllDue (schedule ++ i ∷ []) next log
due-step schedule i next [] all = tt
due-step schedule i next (e ∷ es) all = (one all.0, due-step schedule i next es all.1) where
  one : IsDue schedule (λ k. i ≡ k) e → IsDue (schedule ++ i ∷ []) next e
  one (inl s) = inl (record {
    within = let w : e.at < length schedule = s.within in simp length-append (omega (arith, w));
    vcpu = s.vcpu ∙ sym (member-more schedule i e.at s.within);
  })
  one (inr n) = inl (record {
    within = let w : e.at ≡ length schedule = n.0 in simp length-append (omega (arith, w));
    vcpu = sym n.1 ∙ sym (member-now schedule i e.at n.0);
  })

stands-step : (now more i k : ℕ) (next : Type 0) (phase : Phase) → (i ≡ k → phase ≡ Running) → StandsBy now (i ≡ k) phase → StandsBy more next phase
stands-step now more i k next Running r s = tt
stands-step now more i k next (Wants n) r s = absurd (let e : Wants n ≡ Running = r s in cc)
stands-step now more i k next (Trapped t) r s = absurd (let e : Trapped t ≡ Running = r s.1 in cc)
stands-step now more i k next (Looked x) r s = absurd (let e : Looked x ≡ Running = r s.1 in cc)

module _ (w : World) (i : ℕ) (next : ℕ → Type 0) (clock : w.board.state.clock ≡ length w.board.schedule) where
  abbrev Calm : (ℕ → Type 0) → Type 0
  Calm n = IsCalm w.lanes w.paged_views w.board.schedule n

  -- one lane is replaced
  lane-calm : (l : Lane) → Calm next → StandsBy (length w.board.schedule) (next i) l.phase → IsCalm (slice_set w.lanes i l) w.paged_views w.board.schedule next
  lane-calm l k new = record {
    stand = set-lane (λ n x. StandsBy (length w.board.schedule) (next n) x.phase) w.lanes i l (λ n h other. k.stand n h) new;
    due = k.due;
  }

  turned-calm : (v : Verdict) → (lane_of w i).phase ≡ Running → Calm (λ k. first_by (went_by v) i k (next k)) → (went_by v ≡ Erased → next i)
      → IsCalm (after_event w i (lane_of w i) (windows_of w i (lane_of w i)) v).lanes (after_event w i (lane_of w i) (windows_of w i (lane_of w i)) v).paged_views
      (after_event w i (lane_of w i) (windows_of w i (lane_of w i)) v).board.schedule next
  unfolding after_verdict
  turned-calm Idle e k u = lane-calm (lane_of w i) k (subst (λ p. StandsBy (length w.board.schedule) (next i) p) (sym e) tt)
  turned-calm (Needs n) e k u = lane-calm (after_turn w.board.state i (lane_of w i) (windows_of w i (lane_of w i)) (Needs n)) k (u refl)
  turned-calm (Zeroes p) e k u = lane-calm (after_turn w.board.state i (lane_of w i) (windows_of w i (lane_of w i)) (Zeroes p)) k (clock, u refl)
  turned-calm (Goes r) e k u = record {
    stand = set-lane (λ n x. StandsBy (length (w.board.schedule ++ i ∷ [])) (next n) x.phase) w.lanes i (after_turn w.board.state i (lane_of w i) (windows_of w i (lane_of w i)) (Goes r))
        (λ n h other. stands-step (length w.board.schedule) (length (w.board.schedule ++ i ∷ [])) i n (next n) (lane_of w n).phase
        (λ s. subst (λ z. (lane_of w z).phase ≡ Running) s e) (k.stand n h)) tt;
    due = λ v h. due-step w.board.schedule i next (paged_in w.paged_views v).log (k.due v h);
  }

  patched-due : (p : PagedView) (e : LogEntry) (b : Bool) → AllDue w.board.schedule next p.log → IsDue w.board.schedule next e → AllDue w.board.schedule next (if b then p else logged p e).log
  patched-due p e true all new = all
  patched-due p e false all new = due-push w.board.schedule next e p.log all new

  gone-calm : (phase : Phase) → (lane_of w i).phase ≡ phase → i < length w.lanes → ((k : Looking) → phase ≡ Looked k → (k.entry.vcpu ≡ i) × ((lane_of w i).windows.view < length w.paged_views))
      → Calm (λ k. first_by (went_in w i (lane_of w i) phase) i k (next k)) → (went_in w i (lane_of w i) phase ≡ Erased → next i)
      → IsCalm (gone w i (lane_of w i) phase).lanes (gone w i (lane_of w i) phase).paged_views (gone w i (lane_of w i) phase).board.schedule next
  unfolding gone went_in
  gone-calm Running e h own k u = turned-calm (verdict_in w i (windows_of w i (lane_of w i))) e k u
  gone-calm (Wants n) e h own k u = lane-calm (after_fill (paged_in w.paged_views (lane_of w i).windows.view) n (lane_of w i)) k tt
  gone-calm (Trapped t) e h own k u =
      let stands : (t.at ≡ length w.board.schedule) × next i = subst (λ p. StandsBy (length w.board.schedule) (next i) p) e (k.stand i h) in
      lane-calm (after_look w.groups t (lane_of w i)) k stands
  gone-calm (Looked x) e h own k u =
      let stands : (x.entry.at ≡ length w.board.schedule) × next i = subst (λ p. StandsBy (length w.board.schedule) (next i) p) e (k.stand i h) in
      let mine : (x.entry.vcpu ≡ i) × ((lane_of w i).windows.view < length w.paged_views) = own x refl in
      let new : IsDue w.board.schedule next x.entry = inr (stands.0, subst (λ z. next z) (sym mine.0) stands.1) in
      record {
        stand = (lane-calm (after_mend w.groups x.group (lane_of w i)) k tt).stand;
        due = set-paged (λ n q. AllDue w.board.schedule next q.log) w.paged_views (lane_of w i).windows.view (patched (paged_in w.paged_views (lane_of w i).windows.view) x.entry) k.due
            (patched-due (paged_in w.paged_views (lane_of w i).windows.view) x.entry
            (is_present (paged_in w.paged_views (lane_of w i).windows.view).base (paged_in w.paged_views (lane_of w i).windows.view).log x.entry.group)
            (k.due (lane_of w i).windows.view mine.1) new);
      }

own-of : (c : Config) (w : World) (i : ℕ) → IsKept c w → i < length w.lanes → (phase : Phase) → (lane_of w i).phase ≡ phase → (k : Looking) → phase ≡ Looked k
    → (k.entry.vcpu ≡ i) × ((lane_of w i).windows.view < length w.paged_views)
own-of c w i kept h phase e k f =
    let truth : IsTruePhase c w.board.schedule (lane_of w i) (Looked k) = subst (λ x. IsTruePhase c w.board.schedule (lane_of w i) x) (e ∙ f) (kept.lanes i h).phase in
    (truth.0.vcpu_is ∙ (kept.ready.each i h).number, (kept.ready.each i h).view)

go-calm : (c : Config) (w : World) (i : ℕ) (next : ℕ → Type 0) → IsKept c w → IsCalm w.lanes w.paged_views w.board.schedule (λ k. first_by (went_of w i) i k (next k)) → (went_of w i ≡ Erased → next i)
    → IsCalm (go_of w i).lanes (go_of w i).paged_views (go_of w i).board.schedule next
unfolding go_of went_of
go-calm c w i next kept calm u =
    elim (may w.board.rules w.board.state i) as (λ b. may w.board.rules w.board.state i ≡ b
    → IsCalm w.lanes w.paged_views w.board.schedule (λ k. first_by (if b then went_in w i (lane_of w i) (lane_of w i).phase else Over) i k (next k))
    → ((if b then went_in w i (lane_of w i) (lane_of w i).phase else Over) ≡ Erased → next i)
    → IsCalm (if b then gone w i (lane_of w i) (lane_of w i).phase else w).lanes (if b then gone w i (lane_of w i) (lane_of w i).phase else w).paged_views
    (if b then gone w i (lane_of w i) (lane_of w i).phase else w).board.schedule next) [
      | true ↦ λ m k n.
          let h : i < length w.lanes = omega (arith, may-slot w.board.rules w.board.state i m, kept.ready.lanes) in
          gone-calm w i next (ap (λ (b : Seat). b.state.clock) kept.board ∙ full-clock c w.board.schedule) (lane_of w i).phase refl h (own-of c w i kept h (lane_of w i).phase refl) k n
      | false ↦ λ m k n. k
    ] refl calm u

calm-all : (c : Config) → IsConfig c → (w : World) (is : List ℕ) → IsKept c w → IsUndisturbed w is → IsCalm w.lanes w.paged_views w.board.schedule (λ k. StepsFirst w k is)
    → IsCalm (go_all w is).lanes (go_all w is).paged_views (go_all w is).board.schedule (λ k. ⊥)
calm-all c ok w [] kept u calm = calm
calm-all c ok w (i ∷ is) kept u calm =
    calm-all c ok (go_of w i) is (go-kept c ok w i kept) u.1 (go-calm c w i (λ k. StepsFirst (go_of w i) k is) kept calm u.0)

-- before any event
first-calm : (c : Config) (next : ℕ → Type 0) → IsCalm (first_world c).lanes (first_world c).paged_views (first_world c).board.schedule next
unfolding first_world
first-calm c next = record {
  stand = λ k h. subst (λ (l : Lane). StandsBy 0 (next k) l.phase)
      (sym (lanes-at (view_named c.views c.setup.start) c.setup.vcpus k (subst (λ n. k < n) (lanes-long (view_named c.views c.setup.start) c.setup.vcpus) h))) tt;
  due = λ v h. subst (λ (p : PagedView). AllDue [] next p.log)
      (sym (paged-views-at c (views_count c) v (subst (λ n. v < n) (paged-views-long c (views_count c)) h))) tt;
}

all-of-steps : (schedule : List ℕ) (log : List LogEntry) → AllDue schedule (λ k. ⊥) log → AllOfSteps schedule log
all-of-steps schedule [] all = tt
all-of-steps schedule (e ∷ es) all = (one all.0, all-of-steps schedule es all.1) where
  one : IsDue schedule (λ k. ⊥) e → IsOfStep schedule e
  one (inl s) = s
  one (inr n) = absurd n.1

-- each entry of an undisturbed list is of a step that was made
pub undisturbed-steps : (c : Config) → IsConfig c → (is : List ℕ) → IsUndisturbed (first_world c) is → (v : ℕ) → v < length (go_all (first_world c) is).paged_views
    → AllOfSteps (erased (first_world c) is) (paged_in (go_all (first_world c) is).paged_views v).log
undisturbed-steps c ok is u v h =
    let s : IsSound c (go_all (first_world c) is) (erased (first_world c) is) = sound_of_events c ok is in
    let calm : IsCalm (go_all (first_world c) is).lanes (go_all (first_world c) is).paged_views (go_all (first_world c) is).board.schedule (λ k. ⊥) =
    calm-all c ok (first_world c) is (first-kept c ok) u (first-calm c (λ k. StepsFirst (first_world c) k is)) in
    subst (λ z. AllOfSteps z (paged_in (go_all (first_world c) is).paged_views v).log) s.schedule
    (all-of-steps (go_all (first_world c) is).board.schedule (paged_in (go_all (first_world c) is).paged_views v).log (calm.due v h))

-- where every fetch is covered, no entry names missing code
covered-empty : (c : Config) (schedule : List ℕ) (log : List LogEntry) → IsCovered c schedule → AllJustified c schedule log → AllOfSteps schedule log → log ≡ []
covered-empty c schedule [] covered just steps = refl
covered-empty c schedule (e ∷ es) covered just steps =
    let j : IsJustified c schedule e = just.0 in
    let s : IsOfStep schedule e = steps.0 in
    let next : fetched_at c schedule e.at ≡ Some e.pc = subst (λ i. next_of (full_at c schedule e.at) i ≡ Some e.pc) s.vcpu j.next in
    let view : view_at c schedule e.at ≡ e.view = subst (λ i. view_in c (full_at c schedule e.at) i ≡ e.view) s.vcpu j.view in
    let here : is_base c (view_at c schedule e.at) (group_at (image_groups c) e.pc) ≡ true = covered e.at e.pc s.within next in
    let there : is_base c e.view e.group ≡ true = ap (λ u. is_base c u e.group) (sym view) ∙ ap (λ g. is_base c (view_at c schedule e.at) g) j.group ∙ here in
    let no : true ≡ false = sym there ∙ j.missing in absurd (cc)

pub covered_logs_nothing : CoveredLogsNothing
covered_logs_nothing c ok is u covered v h =
    let s : IsSound c (go_all (first_world c) is) (erased (first_world c) is) = sound_of_events c ok is in
    covered-empty c (erased (first_world c) is) (paged_in (go_all (first_world c) is).paged_views v).log covered (s.views v h).justified (undisturbed-steps c ok is u v h)
