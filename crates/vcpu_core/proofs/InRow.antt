-- Several events of one vCPU, one after another.
use Rattle.std.proofs.Common.{◌≡◌, ◌≢◌, Bool, ℕ, zero, suc, ◌+◌, ◌*◌, ◌<◌, ◌≤◌, true, false, List, [], ◌∷◌, length, replicate, refl, sym, ap, subst, ◌∙◌, arith}
use Rattle.std.specs.Prelude.{slice_index_or, slice_set, if◌then◌else◌}
use Rattle.std.proofs.lemmas.Grind.{common_steps}
use Rattle.std.proofs.lemmas.List.{get_or-set_same}
use Rattle.fc_numbers.specs.declared.places.TheConstants.{RAM_START}
use Rattle.fc_numbers.specs.Spans.{offset_in, text_size}
use Rattle.fc_numbers.proofs.TextLaws.{offset_below}
use Rattle.guest_ram.specs.Ram.{Ram, IsLaid}
use Rattle.rv_step.specs.Kept.{KeepsText}
use Rattle.view_file.specs.Named.{view_named}
use Rattle.guest_board.specs.declared.rules.Rules.{Rules}
use Rattle.guest_board.specs.declared.seen.Windows.{Windows}
use Rattle.function_table.specs.Groups.{Groups}
use Rattle.view_file.specs.declared.views.Views.{Views}
use Rattle.view_store.specs.Paged.{PagedView}
use Rattle.guest_board.specs.declared.seen.Verdict.{Verdict}
use Rattle.guest_board.specs.declared.seen.Verdict.TheVariants.{Idle, Needs, Zeroes, Goes}
use Rattle.guest_board.specs.Board.{Seat, may, name_of, next_start, stepped_by}
use Rattle.guest_board.specs.Seen.{after_verdict, by_start, line_no}
use Rattle.guest_board.proofs.Stays.{laid_kept, stepped_keeps}
use Rattle.run_evidence.proofs.Steps.{may-slot, next-is, next-text}
use Rattle.vcpu_core.specs.declared.lane.Lane.{Lane}
use Rattle.vcpu_core.specs.declared.lane.Phase.{Phase}
use Rattle.vcpu_core.specs.declared.lane.Phase.TheVariants.{Running, Wants, Trapped, Looked}
use Rattle.vcpu_core.specs.declared.lane.Went.TheVariants.{Over, Erased}
use Rattle.vcpu_core.specs.declared.lane.Taken.TheVariants.{End, Step}
use Rattle.vcpu_core.specs.declared.lane.Then.TheVariants.{Need}
use Rattle.vcpu_core.specs.Lanes.{after_fill, after_turn, in_phase}
use Rattle.vcpu_core.specs.Turns.{board_after, lane_after, taken_by, verdict_for, windows_for}
use Rattle.vcpu_core.specs.Waits.{all_left}
use Rattle.vcpu_core.specs.World.{World, AreViewsOf, IsLaneReady, IsReady, blank_lane, go_all, go_of, gone, lane_of, paged_in, went_in, went_of}
use Rattle.vcpu_core.proofs.Events.{over-may, set-itself}
use Rattle.vcpu_core.proofs.LeftOver.{go_falls}
use Rattle.vcpu_core.proofs.Ready.{gone-ready}
use Rattle.vcpu_core.proofs.Turned.{event-running, seated-view}
use Rattle.vcpu_core.proofs.Turning.{IsRunningOn, running-on, taken-goes}
use Rattle.vcpu_core.proofs.Verdicts.{IsNeed, start-needs, verdict-may}

-- the lane at the number of a vCPU that may step
pub lane-at : (w : World) (i : ℕ) (l : Lane) → may w.board.rules w.board.state i ≡ true → IsReady w → l ≡ slice_index_or w.lanes i l → l ≡ lane_of w i
lane-at w i l m r e = let within : i < length w.lanes = omega (arith, may-slot w.board.rules w.board.state i m, r.lanes) in grind (arith, common_steps)

pub ready_lane : (w : World) (i : ℕ) (l : Lane) → may w.board.rules w.board.state i ≡ true → IsReady w → l ≡ slice_index_or w.lanes i l → IsLaneReady w i l
ready_lane w i l m r e =
    let within : i < length w.lanes = omega (arith, may-slot w.board.rules w.board.state i m, r.lanes) in
    subst (IsLaneReady w i) (sym (lane-at w i l m r e)) (r.each i within)

-- a vCPU that may step has an event, which is that of its lane's phase
pub go-gone : (w : World) (i : ℕ) → may w.board.rules w.board.state i ≡ true → go_of w i ≡ gone w i (lane_of w i) (lane_of w i).phase
unfolding go_of
go-gone w i m = rw m refl

pub went-gone : (w : World) (i : ℕ) → may w.board.rules w.board.state i ≡ true → went_of w i ≡ went_in w i (lane_of w i) (lane_of w i).phase
unfolding went_of
went-gone w i m = rw m refl

pub went-stuck : (w : World) (i : ℕ) → may w.board.rules w.board.state i ≡ false → went_of w i ≡ Over
unfolding went_of
went-stuck w i m = rw m refl

pub may-goes : (w : World) (i : ℕ) → may w.board.rules w.board.state i ≡ true → went_of w i ≢ Over
may-goes w i m over = let no : may w.board.rules w.board.state i ≡ false = over-may w i over in let x : true ≡ false = sym m ∙ no in absurd (cc)

-- the event of a lane that does not run is no step
pub went-rest : (w : World) (i : ℕ) (l : Lane) (phase : Phase) → phase ≢ Running → went_in w i l phase ≡ Erased
unfolding went_in
went-rest w i l Running other = absurd (other refl)
went-rest w i l (Wants n) other = refl
went-rest w i l (Trapped t) other = refl
went-rest w i l (Looked k) other = refl

pub rests-erased : (w : World) (i : ℕ) → may w.board.rules w.board.state i ≡ true → (lane_of w i).phase ≢ Running → went_of w i ≡ Erased
rests-erased w i m other = went-gone w i m ∙ went-rest w i (lane_of w i) (lane_of w i).phase other

-- an event leaves memory laid out
laid-by : (b : Seat) (i : ℕ) (v : Verdict) → IsLaid b.state.ram → IsLaid (after_verdict b i v).state.ram
unfolding after_verdict
laid-by b i Idle laid = laid
laid-by b i (Needs n) laid = laid
laid-by b i (Zeroes p) laid = laid
laid-by b i (Goes start) laid = laid_kept b.state.ram (stepped_by b.rules b.state i start).ram (stepped_keeps b.rules b.state i start laid) laid

laid-gone : (w : World) (i : ℕ) (l : Lane) (phase : Phase) → IsLaid w.board.state.ram → IsLaid (gone w i l phase).board.state.ram
unfolding gone
laid-gone w i l Running laid = laid-by w.board i _ laid
laid-gone w i l (Wants n) laid = laid
laid-gone w i l (Trapped t) laid = laid
laid-gone w i l (Looked k) laid = laid

-- a world that is ready, with its memory laid out
pub record IsSet (w : World) : Type 0 where
  pub ready : IsReady w
  pub laid : IsLaid w.board.state.ram

pub go-set : (w : World) (i : ℕ) → IsSet w → IsSet (go_of w i)
unfolding go_of
go-set w i s =
    elim (may w.board.rules w.board.state i) as (λ b. may w.board.rules w.board.state i ≡ b → IsSet (if b then gone w i (lane_of w i) (lane_of w i).phase else w)) [
      | true ↦ λ m.
          let within : i < length w.lanes = let slot = may-slot w.board.rules w.board.state i m in let lanes = s.ready.lanes in omega (arith, slot, lanes) in
          record {
            ready = gone-ready w i (lane_of w i) (lane_of w i).phase m s.ready s.laid (s.ready.each i within) refl;
            laid = laid-gone w i (lane_of w i) (lane_of w i).phase s.laid;
          }
      | false ↦ λ m. s
    ] refl

pub all-set : (w : World) (is : List ℕ) → IsSet w → IsSet (go_all w is)
all-set w [] s = s
all-set w (i ∷ is) s = all-set (go_of w i) is (go-set w i s)

-- where the vCPU may not step nothing changes
pub go-stuck : (w : World) (i : ℕ) → may w.board.rules w.board.state i ≡ false → go_of w i ≡ w
unfolding go_of
go-stuck w i m = rw m refl

-- no event leaves more of the run, and the first of a row less
go-most : (w : World) (i : ℕ) → IsSet w → all_left (go_of w i) ≤ all_left w
go-most w i s =
    elim (may w.board.rules w.board.state i) as (λ b. may w.board.rules w.board.state i ≡ b → all_left (go_of w i) ≤ all_left w) [
      | true ↦ λ m. let less : all_left (go_of w i) < all_left w = go_falls w i s.ready (may-goes w i m) in omega (arith, less)
      | false ↦ λ m. subst (λ (x : World). all_left x ≤ all_left w) (sym (go-stuck w i m)) (omega arith)
    ] refl

row-most : (w : World) (i n : ℕ) → IsSet w → all_left (go_all w (replicate n i)) ≤ all_left w
row-most w i zero s = omega arith
row-most w i (suc n) s =
    let later : all_left (go_all (go_of w i) (replicate n i)) ≤ all_left (go_of w i) = row-most (go_of w i) i n (go-set w i s) in
    let first : all_left (go_of w i) ≤ all_left w = go-most w i s in
    omega (arith, later, first)

pub row-falls : (w : World) (i n : ℕ) → IsSet w → may w.board.rules w.board.state i ≡ true → 1 ≤ n → all_left (go_all w (replicate n i)) < all_left w
row-falls w i zero s m some = absurd (omega (arith, some))
row-falls w i (suc n) s m some =
    let later : all_left (go_all (go_of w i) (replicate n i)) ≤ all_left (go_of w i) = row-most (go_of w i) i n (go-set w i s) in
    let first : all_left (go_of w i) < all_left w = go_falls w i s.ready (may-goes w i m) in
    omega (arith, later, first)

-- one more event behind a row
row-next : (w : World) (i n : ℕ) → go_all w (replicate (suc n) i) ≡ go_of (go_all w (replicate n i)) i
row-next w i zero = refl
row-next w i (suc n) = row-next (go_of w i) i n

set-again : (lanes : List Lane) (i : ℕ) (x y : Lane) → slice_set (slice_set lanes i x) i y ≡ slice_set lanes i y
set-again [] i x y = refl
set-again (l ∷ ls) zero x y = refl
set-again (l ∷ ls) (suc i) x y = ap (λ (lanes : List Lane). l ∷ lanes) (set-again ls i x y)

pub stays : (w : World) (i : ℕ) (l : Lane) → lane_of w i ≡ l → w ≡ record w { lanes = slice_set w.lanes i l }
stays w i l is =
    ap (λ (ls : List Lane). record w { lanes = ls }) (sym (set-itself w.lanes i (blank_lane i)) ∙ ap (λ (x : Lane). slice_set w.lanes i x) is)

abbrev pub world_with : Views → Groups → List PagedView → Seat → List Lane → World
world_with profile groups paged_views b lanes = record { profile = profile; groups = groups; board = b; paged_views = paged_views; lanes = lanes }

-- so many events of a vCPU lead from one board and lane to others, in each world of these parts
abbrev pub RowLeads : Views → List PagedView → Seat → Seat → Lane → Lane → ℕ → Type 0
RowLeads profile paged_views b b' l l' n = (groups : Groups) (lanes : List Lane)
    → l.vcpu < length lanes → lane_of (world_with profile groups paged_views b lanes) l.vcpu ≡ l
    → world_with profile groups paged_views b' (slice_set lanes l.vcpu l') ≡ go_all (world_with profile groups paged_views b lanes) (replicate n l.vcpu)

pub row-start : (profile : Views) (paged_views : List PagedView) (b : Seat) (l : Lane) → RowLeads profile paged_views b b l l 0
row-start profile paged_views b l groups lanes inside is = sym (stays (world_with profile groups paged_views b lanes) l.vcpu l is)

-- an event leads from one board and lane to others, in each world of these parts
abbrev pub EventLeads : Views → List PagedView → ℕ → Seat → Seat → Lane → Lane → Type 0
EventLeads profile paged_views i b b' l l' = (groups : Groups) (lanes : List Lane)
    → world_with profile groups paged_views b' (slice_set lanes i l') ≡ gone (world_with profile groups paged_views b lanes) i l l.phase

-- the event of a vCPU that may step, whose lane stands at its number
pub goes-next : (profile : Views) (paged_views : List PagedView) (b b' : Seat) (i : ℕ) (l l' : Lane) (groups : Groups) (lanes : List Lane) → i < length lanes
    → l.vcpu ≡ i → may b.rules b.state l.vcpu ≡ true → EventLeads profile paged_views l.vcpu b b' l l'
    → world_with profile groups paged_views b' (slice_set lanes i l') ≡ go_of (world_with profile groups paged_views b (slice_set lanes i l)) i
goes-next profile paged_views b b' i l l' groups lanes inside own m event =
    let here : World = world_with profile groups paged_views b (slice_set lanes i l) in
    let may-here : may b.rules b.state i ≡ true = subst (λ k. may b.rules b.state k ≡ true) own m in
    let at : lane_of here i ≡ l = get_or-set_same lanes i l (blank_lane i) inside in
    let made : world_with profile groups paged_views b' (slice_set (slice_set lanes i l) i l') ≡ gone here i l l.phase =
    subst (λ k. world_with profile groups paged_views b' (slice_set (slice_set lanes i l) k l') ≡ gone here k l l.phase) own (event groups (slice_set lanes i l)) in
    ap (λ (ls : List Lane). world_with profile groups paged_views b' ls) (sym (set-again lanes i l l'))
    ∙ made ∙ ap (λ (x : Lane). gone here i x x.phase) (sym at) ∙ sym (go-gone here i may-here)

pub row-more : (profile : Views) (paged_views : List PagedView) (first b b' : Seat) (l0 l l' : Lane) (n : ℕ) → RowLeads profile paged_views first b l0 l n
    → l.vcpu ≡ l0.vcpu → may b.rules b.state l.vcpu ≡ true → EventLeads profile paged_views l.vcpu b b' l l'
    → RowLeads profile paged_views first b' l0 l' (n + 1)
row-more profile paged_views first b b' l0 l l' n led own m event groups lanes inside is =
    let i : ℕ = l0.vcpu in
    let more : suc n ≡ n + 1 = omega arith in
    goes-next profile paged_views b b' i l l' groups lanes inside own m event
    ∙ ap (λ (w : World). go_of w i) (led groups lanes inside is)
    ∙ sym (row-next (world_with profile groups paged_views first lanes) i n)
    ∙ ap (λ k. go_all (world_with profile groups paged_views first lanes) (replicate k i)) more

-- the event of a step, a need or a zero
pub step-leads : (profile : Views) (paged_views : List PagedView) (b b' : Seat) (l l' : Lane) → l.phase ≡ Running → b' ≡ board_after profile b l → l' ≡ lane_after profile b l
    → EventLeads profile paged_views l.vcpu b b' l l'
step-leads profile paged_views b b' l l' runs board lane groups lanes =
    event-running profile groups paged_views lanes b b' l l' board lane ∙ ap (λ (q : Phase). gone (world_with profile groups paged_views b lanes) l.vcpu l q) (sym runs)

-- a step in a row
pub row-steps : (profile : Views) (paged_views : List PagedView) (first b b' : Seat) (l0 l l' : Lane) (n : ℕ) → RowLeads profile paged_views first b l0 l n
    → l.vcpu ≡ l0.vcpu → may b.rules b.state l.vcpu ≡ true → l.phase ≡ Running → b' ≡ board_after profile b l → l' ≡ lane_after profile b l
    → RowLeads profile paged_views first b' l0 l' (n + 1)
row-steps profile paged_views first b b' l0 l l' n led own m runs board lane =
    row-more profile paged_views first b b' l0 l l' n led own m (step-leads profile paged_views b b' l l' runs board lane)

pub step-runs : (profile : Views) (b b' : Seat) (l l' : Lane) (hooked : Bool) → b' ≡ board_after profile b l → l' ≡ lane_after profile b l
    → Step hooked ≡ taken_by b.rules (verdict_for profile b l) → IsRunningOn b b' l l'
step-runs profile b b' l l' hooked board lane answer =
    let none = taken-goes b.rules (verdict_for profile b l) hooked answer in
    subst (λ (x : Seat). IsRunningOn b x l l') (sym board)
    (subst (λ (y : Lane). IsRunningOn b (board_after profile b l) l y) (sym lane) (running-on profile b l (sym none)))

-- a fill in a row
filled : (w : World) (i n : ℕ) (l : Lane) → record w { lanes = slice_set w.lanes i (after_fill (paged_in w.paged_views l.windows.view) n l) } ≡ gone w i l (Wants n)
unfolding gone
filled w i n l = refl

pub fill-leads : (profile : Views) (paged_views : List PagedView) (b : Seat) (l l' : Lane) (line : ℕ) → l.phase ≡ Wants line → l' ≡ after_fill (paged_in paged_views l.windows.view) line l
    → EventLeads profile paged_views l.vcpu b b l l'
fill-leads profile paged_views b l l' line wants lane groups lanes =
    ap (λ (x : Lane). world_with profile groups paged_views b (slice_set lanes l.vcpu x)) lane
    ∙ filled (world_with profile groups paged_views b lanes) l.vcpu line l
    ∙ ap (λ (q : Phase). gone (world_with profile groups paged_views b lanes) l.vcpu l q) (sym wants)

pub row-fills : (profile : Views) (paged_views : List PagedView) (first b : Seat) (l0 l l' : Lane) (n line : ℕ) → RowLeads profile paged_views first b l0 l n
    → l.vcpu ≡ l0.vcpu → may b.rules b.state l.vcpu ≡ true → l.phase ≡ Wants line → l' ≡ after_fill (paged_in paged_views l.windows.view) line l
    → RowLeads profile paged_views first b l0 l' (n + 1)
row-fills profile paged_views first b l0 l l' n line led own m wants lane =
    row-more profile paged_views first b b l0 l l' n led own m (fill-leads profile paged_views b l l' line wants lane)

-- after a need the board is as it was, and the lane wants a line of text
pub record IsNeedMet (profile : Views) (b b' : Seat) (l l' : Lane) : Type 0 where
  pub line : ℕ
  pub board : b' ≡ b
  pub wants : l'.phase ≡ Wants line
  pub own : l'.vcpu ≡ l.vcpu
  pub view : l'.windows.view ≡ view_named profile (name_of b.state l.vcpu)
  pub below : 64 * line < text_size b.state.ram.text

need-of : (rules : Rules) (v : Verdict) → End Need ≡ taken_by rules v → (n : ℕ) × (v ≡ Needs n)
need-of rules Idle e = absurd (cc)
need-of rules (Needs n) e = (n, refl)
need-of rules (Zeroes p) e = absurd (cc)
need-of rules (Goes start) e = absurd (cc)

line-below : (b : Seat) (i n : ℕ) (w : Windows) → IsLaid b.state.ram → by_start b.state.ram.text w (next_start b.state i) ≡ Needs n → 64 * n < text_size b.state.ram.text
line-below b i n w laid e =
    let need : IsNeed b.state.ram.text w n (next_start b.state i) = start-needs b.state.ram.text w (next_start b.state i) n e in
    let below : offset_in b.state.ram.text need.place < text_size b.state.ram.text =
    offset_below b.state.ram.text RAM_START need.place laid.lawful.text.ranges (next-text b.state i need.place (next-is b.state i ∙ need.next)) in
    let number : n ≡ line_no b.state.ram.text need.place = need.number in
    omega (arith, below, number)

board-stays : (b : Seat) (i n : ℕ) → after_verdict b i (Needs n) ≡ b
unfolding after_verdict
board-stays b i n = refl

pub need-met : (profile : Views) (b b' : Seat) (l l' : Lane) → IsLaid b.state.ram → may b.rules b.state l.vcpu ≡ true
    → b' ≡ board_after profile b l → l' ≡ lane_after profile b l → End Need ≡ taken_by b.rules (verdict_for profile b l) → IsNeedMet profile b b' l l'
need-met profile b b' l l' laid m board lane answer =
    let w : Windows = windows_for profile b l in
    let found : (n : ℕ) × (verdict_for profile b l ≡ Needs n) = need-of b.rules (verdict_for profile b l) answer in
    let after : l' ≡ in_phase l w (Wants found.0) = lane ∙ ap (λ (v : Verdict). after_turn b.state l.vcpu l w v) found.1 in
    record {
      line = found.0;
      board = board ∙ ap (λ (v : Verdict). after_verdict b l.vcpu v) found.1 ∙ board-stays b l.vcpu found.0;
      wants = ap (λ (x : Lane). x.phase) after;
      own = ap (λ (x : Lane). x.vcpu) after;
      view = ap (λ (x : Lane). x.windows.view) after ∙ seated-view (view_named profile (name_of b.state l.vcpu)) l.windows;
      below = line-below b l.vcpu found.0 w laid (sym (verdict-may b.rules b.state l.vcpu w m) ∙ found.1);
    }

-- the views beside a memory are beside one of the same text
pub views-kept : (old new : Ram) (profile : Views) (views : List PagedView) → KeepsText old new → AreViewsOf old profile views → AreViewsOf new profile views
views-kept old new profile views kept all = record { count = all.count; number = all.number; text = λ v h. all.text v h ∙ sym kept.text }

-- the views of a world that is ready
pub views-ready : (w : World) → IsReady w → AreViewsOf w.board.state.ram w.profile w.paged_views
views-ready w r = record {
  count = r.views;
  number = λ v h. (r.paged_views v h).number;
  text = λ v h. ap (λ (g : Groups). g.text) (r.paged_views v h).groups ∙ sym r.text;
}

-- a row of the lane at a number of such a world
pub row-at : (w : World) (i n : ℕ) (l l' : Lane) (b : Seat) → may w.board.rules w.board.state i ≡ true → IsReady w → l ≡ slice_index_or w.lanes i l
    → RowLeads w.profile w.paged_views w.board b l l' n → world_with w.profile w.groups w.paged_views b (slice_set w.lanes i l') ≡ go_all w (replicate n i)
row-at w i n l l' b m r at leads =
    let within : i < length w.lanes = omega (arith, may-slot w.board.rules w.board.state i m, r.lanes) in
    let number : l.vcpu ≡ i = (ready_lane w i l m r at).number in
    let inside : l.vcpu < length w.lanes = subst (λ k. k < length w.lanes) (sym number) within in
    let is : lane_of w l.vcpu ≡ l = subst (λ k. lane_of w k ≡ l) (sym number) (sym (lane-at w i l m r at)) in
    subst (λ k. world_with w.profile w.groups w.paged_views b (slice_set w.lanes k l') ≡ go_all w (replicate n k)) number (leads w.groups w.lanes inside is)
