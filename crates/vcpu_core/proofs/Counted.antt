-- How many events a row of one vCPU has.
use Rattle.std.proofs.Common.{◌≡◌, ◌≢◌, ℕ, zero, suc, ◌+◌, ◌-◌, ◌<◌, ◌≤◌, true, false, List, length, refl, sym, ap, subst, ◌∙◌, arith}
use Rattle.std.specs.Prelude.{slice_index_or, slice_set}
use Rattle.std.proofs.lemmas.List.{get_or-set_same}
use Rattle.function_table.specs.Groups.{Groups}
use Rattle.view_file.specs.declared.views.Views.{Views}
use Rattle.view_store.specs.Paged.{PagedView}
use Rattle.guest_board.specs.declared.seen.Verdict.{Verdict}
use Rattle.guest_board.specs.declared.seen.Verdict.TheVariants.{Idle, Needs, Zeroes, Goes}
use Rattle.guest_board.specs.declared.seen.Windows.{Windows}
use Rattle.guest_board.specs.Board.{Seat, may, next_start}
use Rattle.run_evidence.proofs.Steps.{may-slot}
use Rattle.vcpu_core.specs.declared.lane.Lane.{Lane}
use Rattle.vcpu_core.specs.declared.lane.Phase.{Phase}
use Rattle.vcpu_core.specs.declared.lane.Phase.TheVariants.{Running, Wants, Trapped, Looked}
use Rattle.vcpu_core.specs.declared.lane.Taken.TheVariants.{End}
use Rattle.vcpu_core.specs.declared.lane.Then.{Then}
use Rattle.vcpu_core.specs.declared.lane.Then.TheVariants.{Need}
use Rattle.vcpu_core.specs.Lanes.{after_turn}
use Rattle.vcpu_core.specs.Turns.{lane_after, taken_by, verdict_for, windows_for}
use Rattle.vcpu_core.specs.World.{World, IsReady, blank_lane, go_of, lane_of, row_count, row_limit, row_past}
use Rattle.vcpu_core.proofs.InRow.{EventLeads, goes-next, lane-at, ready_lane, stays, world_with}
use Rattle.vcpu_core.proofs.Verdicts.{start-busy, verdict-may}

-- where the vCPU may not step the row has none
pub count-stuck : (w : World) (i n : ℕ) → may w.board.rules w.board.state i ≡ false → row_count w i n ≡ 0
unfolding row_count
count-stuck w i zero m = refl
count-stuck w i (suc n) m = rw m refl

count-zero : (w : World) (i : ℕ) → row_count w i 0 ≡ 0
unfolding row_count
count-zero w i = refl

count-next : (w : World) (i n : ℕ) → may w.board.rules w.board.state i ≡ true
    → row_count w i (suc n) ≡ 1 + row_past (lane_of (go_of w i) i).phase (row_count (go_of w i) i n)
unfolding row_count
count-next w i n m = rw m refl

past-none : (phase : Phase) → row_past phase 0 ≡ 0
past-none Running = refl
past-none (Wants n) = refl
past-none (Trapped t) = refl
past-none (Looked k) = refl

-- of one event at most it has one
pub count-one : (w : World) (i : ℕ) → may w.board.rules w.board.state i ≡ true → row_count w i 1 ≡ 1
count-one w i m =
    count-next w i 0 m
    ∙ ap (λ k. 1 + row_past (lane_of (go_of w i) i).phase k) (count-zero (go_of w i) i)
    ∙ ap (λ k. 1 + k) (past-none (lane_of (go_of w i) i).phase)

pub limit-rests : (phase : Phase) (limit : ℕ) → phase ≢ Running → row_limit phase limit ≡ 1
limit-rests Running limit other = absurd (other refl)
limit-rests (Wants n) limit other = refl
limit-rests (Trapped t) limit other = refl
limit-rests (Looked k) limit other = refl

-- a row has so many events from one board and lane to others, and then those that follow there
abbrev pub RowCounts : Views → List PagedView → Seat → Seat → Lane → Lane → ℕ → Type 0
RowCounts profile paged_views b b' l l' n = (groups : Groups) (lanes : List Lane) (rest : ℕ)
    → l.vcpu < length lanes → lane_of (world_with profile groups paged_views b lanes) l.vcpu ≡ l
    → row_count (world_with profile groups paged_views b lanes) l.vcpu (n + rest) ≡ n + row_count (world_with profile groups paged_views b' (slice_set lanes l.vcpu l')) l.vcpu rest

-- a row has so many events
abbrev pub RowHas : Views → List PagedView → Seat → Lane → ℕ → ℕ → Type 0
RowHas profile paged_views b l limit n = (groups : Groups) (lanes : List Lane)
    → l.vcpu < length lanes → lane_of (world_with profile groups paged_views b lanes) l.vcpu ≡ l
    → n ≡ row_count (world_with profile groups paged_views b lanes) l.vcpu limit

pub count-start : (profile : Views) (paged_views : List PagedView) (b : Seat) (l : Lane) → RowCounts profile paged_views b b l l 0
count-start profile paged_views b l groups lanes rest inside is =
    let w : World = world_with profile groups paged_views b lanes in
    let later : ℕ = row_count (world_with profile groups paged_views b (slice_set lanes l.vcpu l)) l.vcpu rest in
    let number : 0 + rest ≡ rest = omega arith in
    let sum : later ≡ 0 + later = omega arith in
    ap (λ k. row_count w l.vcpu k) number ∙ ap (λ (x : World). row_count x l.vcpu rest) (stays w l.vcpu l is) ∙ sum

module _ (profile : Views) (paged_views : List PagedView) (first b b' : Seat) (l0 l l' : Lane) (n : ℕ) (counts : RowCounts profile paged_views first b l0 l n) where
  -- one more event, and those that follow behind it
  count-event : l.vcpu ≡ l0.vcpu → may b.rules b.state l.vcpu ≡ true → EventLeads profile paged_views l.vcpu b b' l l'
      → (groups : Groups) (lanes : List Lane) (rest : ℕ) → l0.vcpu < length lanes → lane_of (world_with profile groups paged_views first lanes) l0.vcpu ≡ l0
      → row_count (world_with profile groups paged_views first lanes) l0.vcpu (n + suc rest)
      ≡ n + (1 + row_past l'.phase (row_count (world_with profile groups paged_views b' (slice_set lanes l0.vcpu l')) l0.vcpu rest))
  count-event own m event groups lanes rest inside is =
      let i : ℕ = l0.vcpu in
      let here : World = world_with profile groups paged_views b (slice_set lanes i l) in
      let next : World = world_with profile groups paged_views b' (slice_set lanes i l') in
      let goes : next ≡ go_of here i = goes-next profile paged_views b b' i l l' groups lanes inside own m event in
      let at : lane_of next i ≡ l' = get_or-set_same lanes i l' (blank_lane i) inside in
      counts groups lanes (suc rest) inside is
      ∙ ap (λ k. n + k) (count-next here i rest (subst (λ k. may b.rules b.state k ≡ true) own m)
      ∙ ap (λ (w : World). 1 + row_past (lane_of w i).phase (row_count w i rest)) (sym goes)
      ∙ ap (λ (x : Lane). 1 + row_past x.phase (row_count next i rest)) at)

  -- a row that goes on behind it
  pub count-more : l.vcpu ≡ l0.vcpu → may b.rules b.state l.vcpu ≡ true → EventLeads profile paged_views l.vcpu b b' l l'
      → ((later : ℕ) → row_past l'.phase later ≡ later) → RowCounts profile paged_views first b' l0 l' (n + 1)
  count-more own m event on groups lanes rest inside is =
      let later : ℕ = row_count (world_with profile groups paged_views b' (slice_set lanes l0.vcpu l')) l0.vcpu rest in
      let number : n + 1 + rest ≡ n + suc rest = omega arith in
      let sum : n + (1 + later) ≡ n + 1 + later = omega arith in
      ap (λ k. row_count (world_with profile groups paged_views first lanes) l0.vcpu k) number
      ∙ count-event own m event groups lanes rest inside is
      ∙ ap (λ k. n + (1 + k)) (on later) ∙ sum

  -- a row that ends with it
  pub count-last : l.vcpu ≡ l0.vcpu → may b.rules b.state l.vcpu ≡ true → EventLeads profile paged_views l.vcpu b b' l l'
      → ((later : ℕ) → row_past l'.phase later ≡ 0) → (limit : ℕ) → n < limit → RowHas profile paged_views first l0 limit (n + 1)
  count-last own m event none limit below groups lanes inside is =
      let rest : ℕ = limit - (n + 1) in
      let number : n + suc rest ≡ limit = omega (arith, below) in
      let later : ℕ = row_count (world_with profile groups paged_views b' (slice_set lanes l0.vcpu l')) l0.vcpu rest in
      sym (ap (λ k. row_count (world_with profile groups paged_views first lanes) l0.vcpu k) (sym number)
      ∙ count-event own m event groups lanes rest inside is
      ∙ ap (λ k. n + (1 + k)) (none later))

  -- a row that has as many as it may
  pub count-full : (limit : ℕ) → n ≡ limit → RowHas profile paged_views first l0 limit n
  count-full limit full groups lanes inside is =
      let here : World = world_with profile groups paged_views b (slice_set lanes l0.vcpu l) in
      let number : limit ≡ n + 0 = omega (arith, full) in
      let sum : n + 0 ≡ n = omega arith in
      sym (ap (λ k. row_count (world_with profile groups paged_views first lanes) l0.vcpu k) number
      ∙ counts groups lanes 0 inside is ∙ ap (λ k. n + k) (count-zero here l0.vcpu) ∙ sum)

  -- a row that ends since the vCPU may not step
  pub count-ended : (limit : ℕ) → n ≤ limit → l.vcpu ≡ l0.vcpu → may b.rules b.state l.vcpu ≡ false → RowHas profile paged_views first l0 limit n
  count-ended limit most own m groups lanes inside is =
      let here : World = world_with profile groups paged_views b (slice_set lanes l0.vcpu l) in
      let number : limit ≡ n + (limit - n) = omega (arith, most) in
      let sum : n + 0 ≡ n = omega arith in
      sym (ap (λ k. row_count (world_with profile groups paged_views first lanes) l0.vcpu k) number
      ∙ counts groups lanes (limit - n) inside is
      ∙ ap (λ k. n + k) (count-stuck here l0.vcpu (limit - n) (subst (λ k. may b.rules b.state k ≡ false) own m)) ∙ sum)

-- an event that is neither a step nor a need leaves the lane at a trap
zero-stops : (profile : Views) (b : Seat) (l : Lane) (w : Windows) (v : Verdict) (then : Then) → v ≢ Idle → End then ≡ taken_by b.rules v → then ≢ Need
    → (later : ℕ) → row_past (after_turn b.state l.vcpu l w v).phase later ≡ 0
zero-stops profile b l w Idle then busy is other later = absurd (busy refl)
zero-stops profile b l w (Needs n) then busy is other later = absurd (other (cc))
zero-stops profile b l w (Zeroes p) then busy is other later = refl
zero-stops profile b l w (Goes start) then busy is other later = absurd (cc)

pub stops : (profile : Views) (b : Seat) (l l' : Lane) (then : Then) → may b.rules b.state l.vcpu ≡ true → l' ≡ lane_after profile b l
    → End then ≡ taken_by b.rules (verdict_for profile b l) → then ≢ Need → (later : ℕ) → row_past l'.phase later ≡ 0
stops profile b l l' then m lane is other later =
    let w : Windows = windows_for profile b l in
    let busy : verdict_for profile b l ≢ Idle = λ idle. start-busy b.state.ram.text w (next_start b.state l.vcpu) (sym (verdict-may b.rules b.state l.vcpu w m) ∙ idle) in
    ap (λ (x : Lane). row_past x.phase later) lane ∙ zero-stops profile b l w (verdict_for profile b l) then busy is other later

-- a row of the lane at a number of a world that is ready
pub count-at : (w : World) (i n limit : ℕ) (l : Lane) → may w.board.rules w.board.state i ≡ true → IsReady w → l ≡ slice_index_or w.lanes i l
    → RowHas w.profile w.paged_views w.board l limit n → n ≡ row_count w i limit
count-at w i n limit l m r at has =
    let within : i < length w.lanes = omega (arith, may-slot w.board.rules w.board.state i m, r.lanes) in
    let number : l.vcpu ≡ i = (ready_lane w i l m r at).number in
    let inside : l.vcpu < length w.lanes = subst (λ k. k < length w.lanes) (sym number) within in
    let is : lane_of w l.vcpu ≡ l = subst (λ k. lane_of w k ≡ l) (sym number) (sym (lane-at w i l m r at)) in
    subst (λ k. n ≡ row_count w k limit) number (has w.groups w.lanes inside is)
