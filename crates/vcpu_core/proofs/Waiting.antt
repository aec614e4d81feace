-- Each event without a step leaves fewer of them before the next step of its vCPU, and there are never ten.
use Rattle.std.proofs.Common.{◌≡◌, ◌≢◌, ℕ, zero, suc, ◌+◌, ◌<◌, ◌≤◌, true, false, Bool, List, [], ◌∷◌, take, length, refl, sym, ap, subst, ◌∙◌, arith, Option, Some, None}
use Rattle.std.specs.Prelude.{◌==◌, ◌||◌, cond, slice_index_or, slice_set, if◌then◌else◌}
use Rattle.std.proofs.lemmas.Grind.{common_steps}
use Rattle.std.proofs.lemmas.Bool.Decides.{nat_tests}
use Rattle.fc_numbers.specs.declared.places.Span.{Span}
use Rattle.fc_numbers.specs.declared.window.Window.{Window}
use Rattle.fc_numbers.specs.Spans.{holds}
use Rattle.function_table.specs.Groups.{Groups, IsGroups, IsRangeOf, group_at, in_groups_text, range_of}
use Rattle.function_table.proofs.GroupLemmas.{group-below, range_is}
use Rattle.guest_board.specs.declared.seen.Windows.{Windows}
use Rattle.guest_board.specs.declared.seen.Verdict.{Verdict}
use Rattle.guest_board.specs.declared.seen.Verdict.TheVariants.{Idle, Needs, Zeroes, Goes}
use Rattle.guest_board.specs.Step.{place_of}
use Rattle.guest_board.specs.Board.{Seat, made_of, may, name_of, next_of, next_start}
use Rattle.guest_board.specs.Seen.{after_verdict, by_start, is_cleared, line_no, window_at}
use Rattle.run_evidence.proofs.Steps.{may-left, may-slot, next-is}
use Rattle.view_file.specs.Named.{view_named}
use Rattle.view_store.specs.Paged.{PagedView, window_of}
use Rattle.vcpu_core.specs.declared.lane.Lane.{Lane}
use Rattle.vcpu_core.specs.declared.lane.Phase.{Phase}
use Rattle.vcpu_core.specs.declared.lane.Phase.TheVariants.{Running, Wants, Trapped, Looked}
use Rattle.vcpu_core.specs.declared.lane.Went.{Went}
use Rattle.vcpu_core.specs.declared.lane.Went.TheVariants.{Over, Stepped, Erased}
use Rattle.vcpu_core.specs.Lanes.{after_fill, after_look, after_mend, after_turn, seated, went_by, with_newest}
use Rattle.vcpu_core.specs.Truthful.{IsOfView}
use Rattle.vcpu_core.specs.Waits.{has_line, left_of, line_waits, lines_held, phase_waits, waits_of, window_waits}
use Rattle.vcpu_core.specs.World.{World, IsLaneReady, IsReady, after_event, blank_lane, go_of, gone, lane_of, paged_in, verdict_in, view_of, went_in, went_of, windows_of}
use Rattle.vcpu_core.proofs.Events.{IsLaneSet, IsTick, go-erased, go-sets, go-stepped, lane-apart, went-may}
use Rattle.vcpu_core.proofs.Ready.{next-in}
use Rattle.vcpu_core.proofs.Verdicts.{IsNeed, IsZero, start-needs, start-zeroes, verdict-may}

same-number : (n : ℕ) → (n == n) ≡ true
same-number n = grind (arith, nat_tests)

or-true : (a b : Bool) → b ≡ true → (a || b) ≡ true
or-true true b e = refl
or-true false b e = e

-- the lines of windows with one more
lines-take : (held : List Window) (n : ℕ) → lines_held (take n held) ≡ take n (lines_held held)
lines-take held zero = refl
lines-take [] (suc n) = refl
lines-take (w ∷ ws) (suc n) = ap (λ (lines : List ℕ). w.line ∷ lines) (lines-take ws n)

lines-newest : (held : List Window) (x : Window) → lines_held (with_newest held x) ≡ with_newest (lines_held held) x.line
lines-newest held x = ap (λ (lines : List ℕ). x.line ∷ lines) (lines-take held 3)

-- the newest is held
newest-line : (lines : List ℕ) (n : ℕ) → has_line (with_newest lines n) n ≡ true
newest-line lines n = rw (same-number n) refl

-- which lines are held, by the window that is found
unheld-line : (line : ℕ) (held : List Window) → window_at line held ≡ None → has_line (lines_held held) line ≡ false
unheld-line line [] e = refl
unheld-line line (w ∷ ws) e =
    elim (w.line == line) as (λ b. cond b (Some w) (window_at line ws) ≡ None → (b || has_line (lines_held ws) line) ≡ false) [
      | true ↦ λ h. absurd (cc)
      | false ↦ λ h. unheld-line line ws h
    ] e

held-line : (line : ℕ) (held : List Window) (x : Window) → window_at line held ≡ Some x → has_line (lines_held held) line ≡ true
held-line line [] x e = absurd (cc)
held-line line (w ∷ ws) x e =
    elim (w.line == line) as (λ b. cond b (Some w) (window_at line ws) ≡ Some x → (b || has_line (lines_held ws) line) ≡ true) [
      | true ↦ λ h. refl
      | false ↦ λ h. held-line line ws x h
    ] e

most-by : (held cleared : Bool) → (if held then (if cleared then 0 else 5) else (if cleared then 2 else 7)) ≤ 7
most-by true true = omega arith
most-by true false = omega arith
most-by false true = omega arith
most-by false false = omega arith

line-most : (text : List Span) (lines : List ℕ) (cleared : Option Span) (next : Option ℕ) → line_waits text lines cleared next ≤ 7
line-most text lines cleared None = omega arith
line-most text lines cleared (Some p) = most-by (has_line lines (line_no text p)) (is_cleared cleared p)

phase-most : (t : Groups) (l : Lane) (w : Windows) (next : Option ℕ) (phase : Phase) → phase_waits t l w next phase ≤ 9
phase-most t l w next Running = omega (arith, line-most t.text (lines_held w.held.items) w.cleared next)
phase-most t l w next (Wants n) = omega (arith, line-most t.text (with_newest (lines_held l.windows.held.items) n) l.windows.cleared next)
phase-most t l w next (Trapped trap) = omega (arith, line-most t.text [] (Some (range_of t (group_at t trap.pc))) next)
phase-most t l w next (Looked k) = omega (arith, line-most t.text [] (Some (range_of t k.group)) next)

pub waits-most : (w : World) (i : ℕ) (l : Lane) → waits_of w i l ≤ 9
unfolding waits_of
waits-most w i l = phase-most w.groups l (windows_of w i l) (next_of w.board.state i) l.phase

nearer-by : (held new cleared : Bool) → held ≡ false → new ≡ true
    → 1 + (if new then (if cleared then 0 else 5) else (if cleared then 2 else 7)) < (if held then (if cleared then 0 else 5) else (if cleared then 2 else 7))
nearer-by true new cleared h n = absurd (cc)
nearer-by false false cleared h n = absurd (cc)
nearer-by false true true h n = omega arith
nearer-by false true false h n = omega arith

-- a need: no window of the line of the place is held
line-nearer : (text : List Span) (cleared : Option Span) (p n : ℕ) (lines : List ℕ) → n ≡ line_no text p → has_line lines (line_no text p) ≡ false
    → 1 + line_waits text (with_newest lines n) cleared (Some p) < line_waits text lines cleared (Some p)
line-nearer text cleared p n lines e none =
    let new : has_line (with_newest lines n) (line_no text p) ≡ true = subst (λ m. has_line (with_newest lines n) m ≡ true) e (newest-line lines n) in
    nearer-by (has_line lines (line_no text p)) (has_line (with_newest lines n) (line_no text p)) (is_cleared cleared p) none new

-- what a group's own place waits for once the group was mended
covered-waits : (t : Groups) (p : ℕ) → IsGroups t → in_groups_text t p ≡ true → line_waits t.text [] (Some (range_of t (group_at t p))) (Some p) ≡ 2
covered-waits t p good inside =
    let range : IsRangeOf t (group_at t p) (range_of t (group_at t p)) = range_is t (group_at t p) good (group-below t p) in
    let here : holds (range_of t (group_at t p)) p ≡ (group_at t p == group_at t p) = range.each p inside in
    rw (here ∙ same-number (group_at t p)) refl

window-line : (p : PagedView) (n : ℕ) → (window_of p n).line ≡ n
unfolding window_of
window-line p n = refl

-- the line that was wanted is filled
filled-nearer : (text : List Span) (p : PagedView) (n : ℕ) (held : List Window) (cleared : Option Span) (next : Option ℕ)
    → line_waits text (lines_held (with_newest held (window_of p n))) cleared next < 1 + line_waits text (with_newest (lines_held held) n) cleared next
filled-nearer text p n held cleared next =
    let lines : lines_held (with_newest held (window_of p n)) ≡ with_newest (lines_held held) n = lines-newest held (window_of p n) ∙ ap (λ m. with_newest (lines_held held) m) (window-line p n) in
    let same : line_waits text (lines_held (with_newest held (window_of p n))) cleared next ≡ line_waits text (with_newest (lines_held held) n) cleared next =
    ap (λ (ls : List ℕ). line_waits text ls cleared next) lines in
    omega (arith, same)

-- windows of this view stay as they are
seated-again : (v : ℕ) (w : Windows) → w.view ≡ v → seated v w ≡ w
seated-again v w e = grind (arith, nat_tests, e)

module _ (w : World) (i : ℕ) (l : Lane) (m : may w.board.rules w.board.state i ≡ true) (r : IsReady w) where
  turned-nearer : (v : Verdict) → by_start w.board.state.ram.text (windows_of w i l) (next_start w.board.state i) ≡ v → l.phase ≡ Running → went_by v ≡ Erased
      → waits_of (after_event w i l (windows_of w i l) v) i (after_turn w.board.state i l (windows_of w i l) v) < waits_of w i l
  unfolding waits_of after_verdict
  turned-nearer Idle e running erased = absurd (cc)
  turned-nearer (Goes start) e running erased = absurd (cc)
  turned-nearer (Needs n) e running erased =
      let need : IsNeed w.board.state.ram.text (windows_of w i l) n (next_start w.board.state i) = start-needs w.board.state.ram.text (windows_of w i l) (next_start w.board.state i) n e in
      let next : next_of w.board.state i ≡ Some need.place = next-is w.board.state i ∙ need.next in
      let number : n ≡ line_no w.groups.text need.place = subst (λ t. n ≡ line_no t need.place) r.text need.number in
      let unheld : window_at (line_no w.groups.text need.place) (windows_of w i l).held.items ≡ None =
      subst (λ t. window_at (line_no t need.place) (windows_of w i l).held.items ≡ None) r.text need.unheld in
      rw (running, next) (line-nearer w.groups.text (windows_of w i l).cleared need.place n (lines_held (windows_of w i l).held.items) number
      (unheld-line (line_no w.groups.text need.place) (windows_of w i l).held.items unheld))
  turned-nearer (Zeroes p) e running erased =
      let zero : (place_of (next_start w.board.state i) ≡ Some p) × IsZero w.board.state.ram.text (windows_of w i l) p =
      start-zeroes w.board.state.ram.text (windows_of w i l) (next_start w.board.state i) p e in
      let next : next_of w.board.state i ≡ Some p = next-is w.board.state i ∙ zero.0 in
      let inside : in_groups_text w.groups p ≡ true = next-in w i r p next in
      let found : window_at (line_no w.groups.text p) (windows_of w i l).held.items ≡ Some zero.1.window =
      subst (λ t. window_at (line_no t p) (windows_of w i l).held.items ≡ Some zero.1.window) r.text zero.1.held in
      let held : has_line (lines_held (windows_of w i l).held.items) (line_no w.groups.text p) ≡ true =
      held-line (line_no w.groups.text p) (windows_of w i l).held.items zero.1.window found in
      let five : window_waits w.groups.text (windows_of w i l) (Some p) ≡ 5 = rw (held, zero.1.uncleared) refl in
      let two : line_waits w.groups.text [] (Some (range_of w.groups (group_at w.groups p))) (Some p) ≡ 2 = covered-waits w.groups p r.groups inside in
      rw (running, next, five, two) (omega arith)

  within : i < length w.lanes
  within = omega (arith, may-slot w.board.rules w.board.state i m, r.lanes)

  replaced : (y : Lane) → slice_index_or (slice_set w.lanes i y) i (blank_lane i) ≡ y
  replaced y = let h : i < length w.lanes = within in grind (arith, common_steps, h)

  -- an event without a step, by the lane's phase
  pub gone-nearer : (phase : Phase) → l.phase ≡ phase → IsLaneReady w i l → went_in w i l phase ≡ Erased
      → waits_of (gone w i l phase) i (lane_of (gone w i l phase) i) < waits_of w i l
  unfolding gone went_in waits_of
  gone-nearer Running e lane erased =
      let v : verdict_in w i (windows_of w i l) ≡ by_start w.board.state.ram.text (windows_of w i l) (next_start w.board.state i) = verdict-may w.board.rules w.board.state i (windows_of w i l) m in
      subst (λ y. waits_of (after_event w i l (windows_of w i l) (verdict_in w i (windows_of w i l))) i y < waits_of w i l)
      (sym (replaced (after_turn w.board.state i l (windows_of w i l) (verdict_in w i (windows_of w i l)))))
      (turned-nearer (verdict_in w i (windows_of w i l)) (sym v) e erased)
  gone-nearer (Wants n) e lane erased =
      let has : l.windows.view ≡ view_of w i = subst (λ p. IsOfView (view_of w i) l p) e lane.has_view in
      rw (replaced (after_fill (paged_in w.paged_views l.windows.view) n l), e, seated-again (view_of w i) (after_fill (paged_in w.paged_views l.windows.view) n l).windows has)
      (filled-nearer w.groups.text (paged_in w.paged_views l.windows.view) n l.windows.held.items l.windows.cleared (next_of w.board.state i))
  gone-nearer (Trapped trap) e lane erased = rw (replaced (after_look w.groups trap l), e) (omega arith)
  gone-nearer (Looked k) e lane erased =
      let has : l.windows.view ≡ view_of w i = subst (λ p. IsOfView (view_of w i) l p) e lane.has_view in
      rw (replaced (after_mend w.groups k.group l), e, seated-again (view_of w i) (after_mend w.groups k.group l).windows has) (omega arith)

pub go-nearer : (w : World) (i : ℕ) → IsReady w → went_of w i ≡ Erased → waits_of (go_of w i) i (lane_of (go_of w i) i) < waits_of w i (lane_of w i)
unfolding go_of went_of
go-nearer w i r erased =
    elim (may w.board.rules w.board.state i) as (λ b. may w.board.rules w.board.state i ≡ b → (if b then went_in w i (lane_of w i) (lane_of w i).phase else Over) ≡ Erased
    → waits_of (if b then gone w i (lane_of w i) (lane_of w i).phase else w) i (lane_of (if b then gone w i (lane_of w i) (lane_of w i).phase else w) i) < waits_of w i (lane_of w i)) [
      | true ↦ λ m h. gone-nearer w i (lane_of w i) m r (lane_of w i).phase refl (r.each i (omega (arith, may-slot w.board.rules w.board.state i m, r.lanes))) h
      | false ↦ λ m h. absurd (cc)
    ] refl erased

-- an event of another vCPU that is no step leaves what this one waits for
pub waits-apart : (w : World) (i j : ℕ) → j ≢ i → went_of w i ≡ Erased → waits_of (go_of w i) j (lane_of (go_of w i) j) ≡ waits_of w j (lane_of w j)
unfolding waits_of
waits-apart w i j other erased =
    let set : IsLaneSet w (go_of w i) i = go-sets w i in
    let board : (go_of w i).board ≡ w.board = go-erased w i erased in
    let lane : lane_of (go_of w i) j ≡ lane_of w j = lane-apart w i j other in
    λ k. phase_waits (set.groups k) (lane k) (seated (view_named (set.profile k) (name_of (board k).state j)) (lane k).windows) (next_of (board k).state j) (lane k).phase

-- each event but the last leaves less of the vCPU's run
nearer-went : (w : World) (i : ℕ) (went : Went) → IsReady w → went_of w i ≡ went → went ≢ Over → left_of (go_of w i) i < left_of w i
unfolding left_of
nearer-went w i Over r e on = absurd (on refl)
nearer-went w i Erased r e on =
    let less : waits_of (go_of w i) i (lane_of (go_of w i) i) < waits_of w i (lane_of w i) = go-nearer w i r e in
    let board : (go_of w i).board ≡ w.board = go-erased w i e in
    let steps : (go_of w i).board.rules.steps ≡ w.board.rules.steps = ap (λ (b : Seat). b.rules.steps) board in
    let made : made_of (go_of w i).board.state i ≡ made_of w.board.state i = ap (λ (b : Seat). made_of b.state i) board in
    omega (arith, less, steps, made)
nearer-went w i Stepped r e on =
    let most : waits_of (go_of w i) i (lane_of (go_of w i) i) ≤ 9 = waits-most (go_of w i) i (lane_of (go_of w i) i) in
    let tick : IsTick w.board (go_of w i).board i = go-stepped w i e in
    let m : may w.board.rules w.board.state i ≡ true = went-may w i (rw e on) in
    let below : made_of w.board.state i < w.board.rules.steps = may-left w.board.rules w.board.state i m in
    let made : made_of (go_of w i).board.state i ≡ made_of w.board.state i + 1 = tick.own (may-slot w.board.rules w.board.state i m) in
    let steps : (go_of w i).board.rules.steps ≡ w.board.rules.steps = ap (λ (x : Rattle.guest_board.specs.declared.rules.Rules.Rules). x.steps) tick.rules in
    omega (arith, most, below, made, steps)

pub go_left : (w : World) (i : ℕ) → IsReady w → went_of w i ≢ Over → left_of (go_of w i) i < left_of w i
go_left w i r on = nearer-went w i (went_of w i) r refl on
