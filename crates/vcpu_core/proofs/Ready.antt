-- An event keeps the parts together.
use Rattle.std.proofs.Common.{◌≡◌, ◌≢◌, ℕ, ◌+◌, ◌*◌, ◌<◌, true, false, Bool, List, [], length, refl, sym, ap, subst, ◌∙◌, arith, Option, Some, None, length-set}
use Rattle.std.specs.Prelude.{slice_index_or, slice_set, if◌then◌else◌}
use Rattle.std.proofs.lemmas.List.{get_or-set_other, get_or-set_same}
use Rattle.std.proofs.lemmas.List.Quantifiers.{position-Some}
use mathlib.Core.Logic.{dite}
use native.Mathlib.Decide.{ℕ_discrete}
use Rattle.fc_numbers.specs.declared.places.TheConstants.{RAM_START}
use Rattle.fc_numbers.specs.Spans.{offset_in, text_size}
use Rattle.fc_numbers.specs.Spans as spans
use Rattle.fc_numbers.proofs.TextLaws.{offset_below}
use Rattle.function_table.specs.Groups.{in_groups_text}
use Rattle.function_table.proofs.GroupLemmas.{group-below}
use Rattle.chain_log.specs.declared.entry.LogEntry.{LogEntry}
use Rattle.guest_ram.specs.Ram.{IsLaid, is_text}
use Rattle.rv_step.specs.Kept.{KeepsText}
use Rattle.view_file.specs.declared.views.Views.{Views}
use Rattle.view_file.specs.Named.{view_named}
use Rattle.view_store.specs.Paged.{PagedView, is_present, logged, patched}
use Rattle.guest_board.specs.declared.seen.Verdict.{Verdict}
use Rattle.guest_board.specs.declared.seen.Verdict.TheVariants.{Idle, Needs, Zeroes, Goes}
use Rattle.guest_board.specs.Step.{place_of}
use Rattle.guest_board.specs.Board.{Seat, may, moved, name_of, next_of, next_start, stepped_by}
use Rattle.guest_board.specs.Seen.{after_verdict, by_start, line_no, trapped_at}
use Rattle.guest_board.proofs.Stays.{stepped_keeps}
use Rattle.run_evidence.proofs.Steps.{next-is, next-text, other-name, stepped-slots}
use Rattle.vcpu_core.specs.declared.lane.Lane.{Lane}
use Rattle.vcpu_core.specs.declared.lane.Phase.{Phase}
use Rattle.vcpu_core.specs.declared.lane.Phase.TheVariants.{Running, Wants, Trapped, Looked}
use Rattle.vcpu_core.specs.Lanes.{after_fill, after_look, after_mend, in_phase}
use Rattle.vcpu_core.specs.Placed.{IsPlacedPhase}
use Rattle.vcpu_core.specs.Truthful.{IsOfView}
use Rattle.vcpu_core.specs.World.{World, IsReady, IsLaneReady, IsPagedReady, after_event, blank_lane, blank_paged, gone, lane_of, paged_in, view_of, windows_of, with_lane}
use Rattle.vcpu_core.proofs.Turned.{seated-view}
use Rattle.vcpu_core.proofs.Verdicts.{IsNeed, IsZero, start-busy, start-needs, start-zeroes, verdict-may}

-- what holds of each other member holds of each after one is replaced by one of which it holds
set-each : {X : Type 0} (d : ℕ → X) (P : ℕ → X → Type 0) (xs : List X) (i : ℕ) (x : X)
    → ((k : ℕ) → k < length xs → k ≢ i → P k (slice_index_or xs k (d k))) → P i x
    → (k : ℕ) → k < length (slice_set xs i x) → P k (slice_index_or (slice_set xs i x) k (d k))
set-each {X} d P xs i x all new k within =
    let here : k < length xs = simp length-set at within in
    dite (ℕ_discrete k i)
    (λ same. let low : i < length xs = omega (arith, here, same) in
    subst (λ j. P j (slice_index_or (slice_set xs i x) j (d j))) (sym same) (subst (λ y. P i y) (sym (get_or-set_same xs i x (d i) low)) new))
    (λ other. subst (λ y. P k y) (sym (get_or-set_other xs i k x (d k) other)) (all k here other))

pub set-lane : (P : ℕ → Lane → Type 0) (lanes : List Lane) (i : ℕ) (l : Lane)
    → ((k : ℕ) → k < length lanes → k ≢ i → P k (slice_index_or lanes k (blank_lane k))) → P i l
    → (k : ℕ) → k < length (slice_set lanes i l) → P k (slice_index_or (slice_set lanes i l) k (blank_lane k))
set-lane = set-each blank_lane

pub set-paged : (P : ℕ → PagedView → Type 0) (paged_views : List PagedView) (v : ℕ) (p : PagedView)
    → ((k : ℕ) → k < length paged_views → P k (paged_in paged_views k)) → P v p
    → (k : ℕ) → k < length (slice_set paged_views v p) → P k (paged_in (slice_set paged_views v p) k)
set-paged P paged_views v p all new = set-each (λ k. blank_paged) P paged_views v p (λ k within other. all k within) new

-- a lane is ready in any world with the same groups and as many views, in which its vCPU has the same view
pub lane-ready-in : (w w' : World) (k : ℕ) (l : Lane) → w'.groups ≡ w.groups → view_of w' k ≡ view_of w k
    → length w'.paged_views ≡ length w.paged_views → IsLaneReady w k l → IsLaneReady w' k l
lane-ready-in w w' k l g n s r = record {
  number = r.number;
  view = rw s r.view;
  placed = rw g r.placed;
  has_view = subst (λ v. IsOfView v l l.phase) (sym n) r.has_view;
}

-- a board after an event of vCPU i: of the same text and vCPUs, and the others have their names
pub record IsNextBoard (i : ℕ) (b b' : Seat) : Type 0 where
  pub text : b'.state.ram.text ≡ b.state.ram.text
  pub names : (k : ℕ) → k ≢ i → name_of b'.state k ≡ name_of b.state k
  pub slots : length b'.state.slots ≡ length b.state.slots

pub same-board : (i : ℕ) (b : Seat) → IsNextBoard i b b
same-board i b = record { text = refl; names = λ k other. refl; slots = refl }

-- the world with such a board and the vCPU's lane replaced
pub board-lane-ready : (w : World) (i : ℕ) (l : Lane) (b' : Seat) → IsReady w → IsNextBoard i w.board b' → IsLaneReady (record w { board = b'; lanes = slice_set w.lanes i l }) i l
    → IsReady (record w { board = b'; lanes = slice_set w.lanes i l })
board-lane-ready w i l b' r n new = record {
  groups = r.groups;
  text = n.text ∙ r.text;
  apps = r.apps;
  views = r.views;
  lanes = simp length-set (r.lanes ∙ sym n.slots);
  paged_views = λ v h. record { number = (r.paged_views v h).number; groups = (r.paged_views v h).groups };
  each = set-lane (λ k x. IsLaneReady (record w { board = b'; lanes = slice_set w.lanes i l }) k x) w.lanes i l
      (λ k h other. lane-ready-in w (record w { board = b'; lanes = slice_set w.lanes i l }) k (lane_of w k) refl (ap (λ n. view_named w.profile n) (n.names k other)) refl (r.each k h))
      new;
}

pub with_lane-ready : (w : World) (i : ℕ) (l : Lane) → IsReady w → IsLaneReady w i l → IsReady (with_lane w i l)
with_lane-ready w i l r new =
    board-lane-ready w i l w.board r (same-board i w.board) (lane-ready-in w (record w { lanes = slice_set w.lanes i l }) i l refl refl refl new)

-- the world with a view patched and one lane replaced
pub patched-ready : (w : World) (i v : ℕ) (l : Lane) (p : PagedView) → IsReady w → IsPagedReady w v p → IsLaneReady w i l
    → IsReady (record w { paged_views = slice_set w.paged_views v p; lanes = slice_set w.lanes i l })
patched-ready w i v l p r paged new = record {
  groups = r.groups;
  text = r.text;
  apps = r.apps;
  views = simp length-set r.views;
  lanes = simp length-set r.lanes;
  paged_views = set-paged (λ k x. IsPagedReady (record w { paged_views = slice_set w.paged_views v p; lanes = slice_set w.lanes i l }) k x) w.paged_views v p
      (λ k h. record { number = (r.paged_views k h).number; groups = (r.paged_views k h).groups }) (record { number = paged.number; groups = paged.groups });
  each = set-lane (λ k x. IsLaneReady (record w { paged_views = slice_set w.paged_views v p; lanes = slice_set w.lanes i l }) k x) w.lanes i l
      (λ k h other. lane-ready-in w (record w { paged_views = slice_set w.paged_views v p; lanes = slice_set w.lanes i l }) k (lane_of w k) refl refl (simp length-set) (r.each k h))
      (lane-ready-in w (record w { paged_views = slice_set w.paged_views v p; lanes = slice_set w.lanes i l }) i l refl refl (simp length-set) new);
}

-- a place of text, by the groups
pub text-in : (w : World) → IsReady w → (p : ℕ) → is_text w.board.state.ram p ≡ true → in_groups_text w.groups p ≡ true
text-in w r p e = subst (λ t. spans.in_text t p ≡ true) r.text e

pub next-in : (w : World) (i : ℕ) → IsReady w → (p : ℕ) → next_of w.board.state i ≡ Some p → in_groups_text w.groups p ≡ true
next-in w i r p e = text-in w r p (next-text w.board.state i p e)

-- the line of a place of text is one of text
pub line-in : (w : World) → IsReady w → (n p : ℕ) → n ≡ line_no w.board.state.ram.text p → in_groups_text w.groups p ≡ true → 64 * n < text_size w.groups.text
line-in w r n p number inside =
    let below : offset_in w.groups.text p < text_size w.groups.text = offset_below w.groups.text RAM_START p r.groups.text.ranges inside in
    let same : n ≡ line_no w.groups.text p = subst (λ t. n ≡ line_no t p) r.text number in
    omega (arith, below, same)

pub windows-view : (w : World) (i : ℕ) (l : Lane) → (windows_of w i l).view ≡ view_of w i
windows-view w i l = seated-view (view_of w i) l.windows

-- the view of a name is one of the views
view-below : (apps : List Rattle.view_file.specs.declared.views.App.App) (name : List ℕ) (o : Option ℕ) → Rattle.view_file.specs.Named.position_of name apps ≡ o → Rattle.view_file.specs.Named.view_of_position o < length apps + 1
view-below apps name None e = omega arith
view-below apps name (Some at) e = let h : at < length apps = (position-Some _ apps at (record { name = []; functions = [] }) e).0 in omega (arith, h)

pub named-below : (v : Rattle.view_file.specs.declared.views.Views.Views) (name : Option (List ℕ)) → view_named v name < length v.apps + 1
named-below v None = omega arith
named-below v (Some name) = view-below v.apps name (Rattle.view_file.specs.Named.position_of name v.apps) refl

view-inside : (w : World) (i : ℕ) → IsReady w → view_of w i < length w.paged_views
view-inside w i r = omega (arith, r.views, named-below w.profile (name_of w.board.state i))

-- a running lane after its event
turned-ready : (w : World) (i : ℕ) (l : Lane) (v : Verdict) → IsReady w → IsLaid w.board.state.ram → IsLaneReady w i l
    → by_start w.board.state.ram.text (windows_of w i l) (next_start w.board.state i) ≡ v → IsReady (after_event w i l (windows_of w i l) v)
unfolding after_verdict
turned-ready w i l Idle r laid lane e = absurd (start-busy w.board.state.ram.text (windows_of w i l) (next_start w.board.state i) e)
turned-ready w i l (Needs n) r laid lane e =
    let need : IsNeed w.board.state.ram.text (windows_of w i l) n (next_start w.board.state i) = start-needs w.board.state.ram.text (windows_of w i l) (next_start w.board.state i) n e in
    let inside : in_groups_text w.groups need.place ≡ true = next-in w i r need.place (next-is w.board.state i ∙ need.next) in
    with_lane-ready w i (in_phase l (windows_of w i l) (Wants n)) r (record {
      number = lane.number;
      view = rw (windows-view w i l) (view-inside w i r);
      placed = line-in w r n need.place need.number inside;
      has_view = windows-view w i l;
    })
turned-ready w i l (Zeroes p) r laid lane e =
    let zero : (place_of (next_start w.board.state i) ≡ Some p) × IsZero w.board.state.ram.text (windows_of w i l) p =
    start-zeroes w.board.state.ram.text (windows_of w i l) (next_start w.board.state i) p e in
    let inside : in_groups_text w.groups p ≡ true = next-in w i r p (next-is w.board.state i ∙ zero.0) in
    with_lane-ready w i (in_phase l (windows_of w i l) (Trapped (trapped_at w.board.state i (windows_of w i l).view p))) r (record {
      number = lane.number;
      view = rw (windows-view w i l) (view-inside w i r);
      placed = (refl, inside);
      has_view = windows-view w i l;
    })
turned-ready w i l (Goes start) r laid lane e =
    let k : KeepsText w.board.state.ram (stepped_by w.board.rules w.board.state i start).ram = stepped_keeps w.board.rules w.board.state i start laid in
    board-lane-ready w i (in_phase l (windows_of w i l) Running) (moved w.board i (stepped_by w.board.rules w.board.state i start)) r (record {
      text = k.text;
      names = λ n other. other-name w.board.rules w.board.state i n start other;
      slots = stepped-slots w.board.rules w.board.state i start;
    }) (record {
      number = lane.number;
      view = rw (windows-view w i l) (view-inside w i r);
      placed = tt;
      has_view = tt;
    })

patched-paged : (w : World) (v : ℕ) (p : PagedView) (e : LogEntry) (b : Bool) → IsPagedReady w v p → IsPagedReady w v (if b then p else logged p e)
patched-paged w v p e true k = k
patched-paged w v p e false k = record { number = k.number; groups = k.groups }

-- an event keeps the parts together
pub gone-ready : (w : World) (i : ℕ) (l : Lane) (phase : Phase) → may w.board.rules w.board.state i ≡ true → IsReady w → IsLaid w.board.state.ram → IsLaneReady w i l
    → l.phase ≡ phase → IsReady (gone w i l phase)
unfolding gone
gone-ready w i l Running m r laid lane e =
    subst (λ v. IsReady (after_event w i l (windows_of w i l) v)) (sym (verdict-may w.board.rules w.board.state i (windows_of w i l) m))
    (turned-ready w i l (by_start w.board.state.ram.text (windows_of w i l) (next_start w.board.state i)) r laid lane refl)
gone-ready w i l (Wants n) m r laid lane e =
    with_lane-ready w i (after_fill (paged_in w.paged_views l.windows.view) n l) r (record { number = lane.number; view = lane.view; placed = tt; has_view = tt })
gone-ready w i l (Trapped t) m r laid lane e =
    let placed : (t.view ≡ l.windows.view) × (in_groups_text w.groups t.pc ≡ true) = subst (λ x. IsPlacedPhase w.groups l x) e lane.placed in
    let has : l.windows.view ≡ view_of w i = subst (λ x. IsOfView (view_of w i) l x) e lane.has_view in
    with_lane-ready w i (after_look w.groups t l) r (record { number = lane.number; view = lane.view; placed = (placed.0, group-below w.groups t.pc, refl); has_view = has })
gone-ready w i l (Looked k) m r laid lane e =
    patched-ready w i l.windows.view (after_mend w.groups k.group l) (patched (paged_in w.paged_views l.windows.view) k.entry) r
    (patched-paged w l.windows.view (paged_in w.paged_views l.windows.view) k.entry (is_present (paged_in w.paged_views l.windows.view).base (paged_in w.paged_views l.windows.view).log k.entry.group) (r.paged_views l.windows.view lane.view))
    (record { number = lane.number; view = lane.view; placed = tt; has_view = tt })
