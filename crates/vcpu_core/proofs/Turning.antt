-- A turn as the events that it is made of.
use Rattle.std.proofs.Common.{◌≡◌, Bool, ℕ, zero, suc, ◌+◌, ◌-◌, ◌<◌, true, false, refl, sym, ap, subst, ◌∙◌, arith, Some, None, length}
use Rattle.view_file.specs.declared.views.Views.{Views}
use Rattle.guest_board.specs.declared.seen.Verdict.{Verdict}
use Rattle.guest_board.specs.declared.seen.Verdict.TheVariants.{Idle, Needs, Zeroes, Goes}
use Rattle.guest_board.specs.declared.seen.Windows.{Windows}
use Rattle.guest_board.specs.declared.seen.Seen.TheVariants as seen
use Rattle.guest_board.specs.declared.rules.Rules.{Rules}
use Rattle.guest_board.specs.Step.{place_of}
use Rattle.guest_board.specs.Board.{Seat, is_same_place, may, name_of, next_start}
use Rattle.guest_board.proofs.Steps.{names_stay}
use Rattle.view_file.specs.Named.{view_named}
use Rattle.guest_board.specs.Seen.{after_verdict, seen_by, trapped_at, verdict_of}
use Rattle.run_evidence.proofs.Steps.{stepped-slots}
use Rattle.vcpu_core.specs.declared.lane.Lane.{Lane}
use Rattle.vcpu_core.specs.declared.lane.Phase.TheVariants.{Running, Trapped}
use Rattle.vcpu_core.specs.declared.lane.Then.{Then}
use Rattle.vcpu_core.specs.declared.lane.Taken.TheVariants.{End, Step}
use Rattle.vcpu_core.specs.declared.lane.Then.TheVariants.{Limit, Need, Over, Zero}
use Rattle.vcpu_core.specs.declared.lane.Went.TheVariants.{Erased, Stepped}
use Rattle.vcpu_core.specs.Lanes.{after_turn, in_phase, went_by}
use Rattle.vcpu_core.specs.declared.lane.Turned.{Turned}
use Rattle.vcpu_core.specs.Turns.{AfterTurns, IsPhaseAfter, board_after, lane_after, taken_by, turn_end_at, turns_by, turns_from, verdict_for, windows_for}
use Rattle.vcpu_core.proofs.Verdicts.{start-busy, verdict-may, verdict-stuck}

-- a turn that goes on after an event
goes-on : (v : Verdict) (made : ℕ) (b : Seat) (l : Lane) (later : AfterTurns) → turn_end_at v ≡ None → turns_by v made b l later ≡ later
goes-on Idle made b l later e = absurd (cc)
goes-on (Needs n) made b l later e = absurd (cc)
goes-on (Zeroes p) made b l later e = absurd (cc)
goes-on (Goes start) made b l later e = refl

pub next-turn : (views : Views) (made k : ℕ) (b : Seat) (l : Lane) → turn_end_at (verdict_for views b l) ≡ None
    → turns_from views made (suc k) b l ≡ turns_from views (made + 1) k (board_after views b l) (lane_after views b l)
unfolding turns_from
next-turn views made k b l e = goes-on (verdict_for views b l) made (board_after views b l) (lane_after views b l) (turns_from views (made + 1) k (board_after views b l) (lane_after views b l)) e

-- a turn that ends with an event
ends-here : (v : Verdict) (made : ℕ) (b : Seat) (l : Lane) (later : AfterTurns) (then : Then) → turn_end_at v ≡ Some then → turns_by v made b l later ≡ record { board = b; lane = l; answer = record { steps = made; then = then } }
ends-here Idle made b l later then e = let z : Some Rattle.vcpu_core.specs.declared.lane.Then.TheVariants.Over ≡ Some then = e in cc
ends-here (Needs n) made b l later then e = let z : Some Rattle.vcpu_core.specs.declared.lane.Then.TheVariants.Need ≡ Some then = e in cc
ends-here (Zeroes p) made b l later then e = let z : Some Rattle.vcpu_core.specs.declared.lane.Then.TheVariants.Zero ≡ Some then = e in cc
ends-here (Goes start) made b l later then e = absurd (cc)

pub last-turn : (views : Views) (made k : ℕ) (b : Seat) (l : Lane) (then : Then) → turn_end_at (verdict_for views b l) ≡ Some then
    → turns_from views made (suc k) b l ≡ record { board = board_after views b l; lane = lane_after views b l; answer = record { steps = made; then = then } }
unfolding turns_from
last-turn views made k b l then e =
    ends-here (verdict_for views b l) made (board_after views b l) (lane_after views b l) (turns_from views (made + 1) k (board_after views b l) (lane_after views b l)) then e

pub no-turn : (views : Views) (made : ℕ) (b : Seat) (l : Lane) → turns_from views made 0 b l ≡ record { board = b; lane = l; answer = record { steps = made; then = Limit } }
unfolding turns_from
no-turn views made b l = refl

-- after a step the lane runs, and is of the same vCPU, of which there are as many
pub record IsRunningOn (b b' : Seat) (l l' : Lane) : Type 0 where
  pub running : l'.phase ≡ Running
  pub vcpu : l'.vcpu ≡ l.vcpu
  pub slots : length b'.state.slots ≡ length b.state.slots

running-by : (v : Verdict) (b : Seat) (l : Lane) (w : Windows) → turn_end_at v ≡ None → IsRunningOn b (after_verdict b l.vcpu v) l (after_turn b.state l.vcpu l w v)
unfolding after_verdict
running-by Idle b l w e = absurd (cc)
running-by (Needs n) b l w e = absurd (cc)
running-by (Zeroes p) b l w e = absurd (cc)
running-by (Goes start) b l w e = record { running = refl; vcpu = refl; slots = stepped-slots b.rules b.state l.vcpu start }

pub running-on : (views : Views) (b : Seat) (l : Lane) → turn_end_at (verdict_for views b l) ≡ None → IsRunningOn b (board_after views b l) l (lane_after views b l)
running-on views b l e = running-by (verdict_for views b l) b l (windows_for views b l) e

-- a step over windows answers that the vCPU may not step only where it may not
over-by : (rules : Rules) (v : Verdict) → seen_by rules v ≡ seen.Over → v ≡ Idle
over-by rules Idle e = refl
over-by rules (Needs n) e = absurd (cc)
over-by rules (Zeroes p) e = absurd (cc)
over-by rules (Goes start) e = absurd (cc)

pub not_over : (b : Seat) (i : ℕ) (w : Windows) → may b.rules b.state i ≡ true → seen.Over ≡ seen_by b.rules (verdict_of b.rules b.state i w) → ⊥
not_over b i w m is =
    start-busy b.state.ram.text w (next_start b.state i) (sym (verdict-may b.rules b.state i w m) ∙ over-by b.rules (verdict_of b.rules b.state i w) (sym is))

-- a step over windows answers a zero only where one traps, and then the board is as it was
pub zero-by : (rules : Rules) (v : Verdict) (p : ℕ) → seen.Zero p ≡ seen_by rules v → v ≡ Zeroes p
zero-by rules Idle p e = absurd (cc)
zero-by rules (Needs n) p e = absurd (cc)
zero-by rules (Zeroes q) p e = cc
zero-by rules (Goes start) p e = absurd (cc)

pub zero-board : (b b' : Seat) (i p : ℕ) (v : Verdict) → b' ≡ after_verdict b i v → v ≡ Zeroes p → b' ≡ b
unfolding after_verdict
zero-board b b' i p v after zeroes = after ∙ ap (λ (x : Verdict). after_verdict b i x) zeroes

-- the lane after it
pub zero-lane : (views : Views) (b b' : Seat) (l : Lane) (w : Windows) (p : ℕ) → w ≡ windows_for views b l → b' ≡ after_verdict b l.vcpu (verdict_of b.rules b.state l.vcpu w)
    → seen.Zero p ≡ seen_by b.rules (verdict_of b.rules b.state l.vcpu w) → in_phase l w (Trapped (trapped_at b'.state l.vcpu w.view p)) ≡ lane_after views b l
zero-lane views b b' l w p is after answer =
    let v : verdict_of b.rules b.state l.vcpu w ≡ Zeroes p = zero-by b.rules (verdict_of b.rules b.state l.vcpu w) p answer in
    let same : b' ≡ b = zero-board b b' l.vcpu p (verdict_of b.rules b.state l.vcpu w) after v in
    ap (λ (x : Seat). in_phase l w (Trapped (trapped_at x.state l.vcpu w.view p))) same
    ∙ ap (λ (x : Verdict). after_turn b.state l.vcpu l w x) (sym v)
    ∙ ap (λ (x : Windows). after_turn b.state l.vcpu l x (verdict_of b.rules b.state l.vcpu x)) is

-- an event of a vCPU that may not step
pub stuck-board : (views : Views) (b : Seat) (l : Lane) → may b.rules b.state l.vcpu ≡ false → b ≡ board_after views b l
unfolding after_verdict
stuck-board views b l m = ap (λ (v : Verdict). after_verdict b l.vcpu v) (sym (verdict-stuck b.rules b.state l.vcpu (windows_for views b l) m))

pub stuck-lane : (views : Views) (b : Seat) (l : Lane) → may b.rules b.state l.vcpu ≡ false → l ≡ lane_after views b l
stuck-lane views b l m = ap (λ (v : Verdict). after_turn b.state l.vcpu l (windows_for views b l) v) (sym (verdict-stuck b.rules b.state l.vcpu (windows_for views b l) m))

pub stuck-ends : (views : Views) (b : Seat) (l : Lane) → may b.rules b.state l.vcpu ≡ false → End Over ≡ taken_by b.rules (verdict_for views b l)
stuck-ends views b l m = ap (λ (v : Verdict). taken_by b.rules v) (sym (verdict-stuck b.rules b.state l.vcpu (windows_for views b l) m))

-- what an event is to its turn, and where the turn ends
pub taken-ends : (rules : Rules) (v : Verdict) (then : Then) → End then ≡ taken_by rules v → Some then ≡ turn_end_at v
taken-ends rules Idle then e = let t : then ≡ Over = cc in ap (λ (x : Then). Some x) t
taken-ends rules (Needs n) then e = let t : then ≡ Need = cc in ap (λ (x : Then). Some x) t
taken-ends rules (Zeroes p) then e = let t : then ≡ Zero = cc in ap (λ (x : Then). Some x) t
taken-ends rules (Goes start) then e = absurd (cc)

pub taken-goes : (rules : Rules) (v : Verdict) (hooked : Bool) → Step hooked ≡ taken_by rules v → None ≡ turn_end_at v
taken-goes rules Idle hooked e = absurd (cc)
taken-goes rules (Needs n) hooked e = absurd (cc)
taken-goes rules (Zeroes p) hooked e = absurd (cc)
taken-goes rules (Goes start) hooked e = refl

-- after a step away from the hook the vCPU has its name
name-by : (b : Seat) (i : ℕ) (v : Verdict) → i < length b.state.slots → Step false ≡ taken_by b.rules v → name_of (after_verdict b i v).state i ≡ name_of b.state i
unfolding after_verdict
name-by b i Idle inside e = absurd (cc)
name-by b i (Needs n) inside e = absurd (cc)
name-by b i (Zeroes p) inside e = absurd (cc)
name-by b i (Goes start) inside e = let away : is_same_place (place_of start) b.rules.hook ≡ false = cc in names_stay b.rules b.state i start inside away

pub name-stays : (views : Views) (b b' : Seat) (l : Lane) (view : ℕ) (hooked : Bool) → l.vcpu < length b.state.slots → view ≡ view_named views (name_of b.state l.vcpu)
    → b' ≡ board_after views b l → Step hooked ≡ taken_by b.rules (verdict_for views b l) → hooked ≡ false → view ≡ view_named views (name_of b'.state l.vcpu)
name-stays views b b' l view hooked inside is after taken away =
    let step : Step false ≡ taken_by b.rules (verdict_for views b l) = ap (λ (h : Bool). Step h) (sym away) ∙ taken in
    is ∙ ap (λ n. view_named views n) (sym (name-by b l.vcpu (verdict_for views b l) inside step) ∙ ap (λ (x : Seat). name_of x.state l.vcpu) (sym after))

-- a turn in its loop
module _ (views : Views) (limit steps : ℕ) (b0 b b' : Seat) (l0 l l' : Lane) (exact : turns_from views steps (limit - steps) b l ≡ turns_from views 0 limit b0 l0)
    (board : b' ≡ board_after views b l) (lane : l' ≡ lane_after views b l) where
  left : steps < limit → limit - steps ≡ suc (limit - (steps + 1))
  left more = omega (arith, more)

  pub loop-ends : (then : Then) → steps < limit → Some then ≡ turn_end_at (verdict_for views b l) → turns_from views 0 limit b0 l0 ≡ record { board = b'; lane = l'; answer = record { steps = steps; then = then } }
  loop-ends then more ends =
      let e : limit - steps ≡ suc (limit - (steps + 1)) = left more in
      sym exact ∙ ap (λ k. turns_from views steps k b l) e ∙ last-turn views steps (limit - (steps + 1)) b l then (sym ends)
      ∙ (λ x. record { board = sym board x; lane = sym lane x; answer = record { steps = steps; then = then } })

  pub loop-goes : steps < limit → None ≡ turn_end_at (verdict_for views b l) → turns_from views (steps + 1) (limit - (steps + 1)) b' l' ≡ turns_from views 0 limit b0 l0
  loop-goes more ends =
      let e : limit - steps ≡ suc (limit - (steps + 1)) = left more in
      (λ x. turns_from views (steps + 1) (limit - (steps + 1)) (board x) (lane x)) ∙ sym (next-turn views steps (limit - (steps + 1)) b l (sym ends))
      ∙ ap (λ k. turns_from views steps k b l) (sym e) ∙ exact

-- after its loop
pub loop-ended : (views : Views) (limit steps : ℕ) (b0 b : Seat) (l0 l : Lane) → turns_from views steps (limit - steps) b l ≡ turns_from views 0 limit b0 l0 → steps ≡ limit
    → turns_from views 0 limit b0 l0 ≡ record { board = b; lane = l; answer = record { steps = limit; then = Limit } }
loop-ended views limit steps b0 b l0 l exact same =
    let none : limit - steps ≡ 0 = omega (arith, same) in
    sym exact ∙ ap (λ k. turns_from views steps k b l) none ∙ ap (λ n. turns_from views n 0 b l) same ∙ no-turn views limit b l

-- the lane's phase after a turn
phase-by : (v : Verdict) (made : ℕ) (b b' : Seat) (l : Lane) (w : Windows) (later : AfterTurns) → l.phase ≡ Running → (turn_end_at v ≡ None → IsPhaseAfter later.answer.then later.lane.phase)
    → IsPhaseAfter (turns_by v made b' (after_turn b.state l.vcpu l w v) later).answer.then (turns_by v made b' (after_turn b.state l.vcpu l w v) later).lane.phase
phase-by Idle made b b' l w later running rest = running
phase-by (Needs n) made b b' l w later running rest = tt
phase-by (Zeroes p) made b b' l w later running rest = tt
phase-by (Goes start) made b b' l w later running rest = rest refl

phase-after : (views : Views) (k made : ℕ) (b : Seat) (l : Lane) → l.phase ≡ Running → IsPhaseAfter (turns_from views made k b l).answer.then (turns_from views made k b l).lane.phase
unfolding turns_from
phase-after views zero made b l running = running
phase-after views (suc k) made b l running =
    phase-by (verdict_for views b l) made b (board_after views b l) l (windows_for views b l) (turns_from views (made + 1) k (board_after views b l) (lane_after views b l)) running
    (λ goes. phase-after views k (made + 1) (board_after views b l) (lane_after views b l) (running-on views b l goes).running)

pub turned_phase : (views : Views) (limit : ℕ) (b b' : Seat) (l l' : Lane) (answer : Turned) → l.phase ≡ Running → turns_from views 0 limit b l ≡ record { board = b'; lane = l'; answer = answer }
    → IsPhaseAfter answer.then l'.phase
turned_phase views limit b b' l l' answer running exact = subst (λ (a : AfterTurns). IsPhaseAfter a.answer.then a.lane.phase) exact (phase-after views limit 0 b l running)

-- what one event of a vCPU that may step was
pub busy : (views : Views) (b : Seat) (l : Lane) → may b.rules b.state l.vcpu ≡ true → verdict_for views b l ≡ Idle → ⊥
busy views b l m idle =
    start-busy b.state.ram.text (windows_for views b l) (next_start b.state l.vcpu) (sym (verdict-may b.rules b.state l.vcpu (windows_for views b l) m) ∙ idle)

pub taken-steps : (rules : Rules) (v : Verdict) (hooked : Bool) → Step hooked ≡ taken_by rules v → Stepped ≡ went_by v
taken-steps rules Idle hooked e = absurd (cc)
taken-steps rules (Needs n) hooked e = absurd (cc)
taken-steps rules (Zeroes p) hooked e = absurd (cc)
taken-steps rules (Goes start) hooked e = refl

pub taken-erases : (rules : Rules) (v : Verdict) (then : Then) → End then ≡ taken_by rules v → (v ≡ Idle → ⊥) → Erased ≡ went_by v
taken-erases rules Idle then e busy = absurd (busy refl)
taken-erases rules (Needs n) then e busy = refl
taken-erases rules (Zeroes p) then e busy = refl
taken-erases rules (Goes start) then e busy = absurd (cc)
