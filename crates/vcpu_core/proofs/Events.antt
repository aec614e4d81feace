-- What an event is to the board and to the lanes of others.
use Rattle.std.proofs.Common.{◌≡◌, ◌≢◌, ℕ, zero, suc, ◌+◌, ◌<◌, true, false, List, [], ◌∷◌, length, refl, sym, ap, ◌∙◌, length-set}
use Rattle.std.specs.Prelude.{slice_index_or, slice_set, if◌then◌else◌}
use Rattle.std.proofs.lemmas.List.{get_or-set_other}
use Rattle.guest_board.specs.declared.seen.Verdict.{Verdict}
use Rattle.guest_board.specs.declared.seen.Verdict.TheVariants.{Idle, Needs, Zeroes, Goes}
use Rattle.guest_board.specs.Board.{Seat, may, made_of, next_start}
use Rattle.guest_board.specs.Seen.{after_verdict}
use Rattle.guest_board.proofs.Others.{leaves_others}
use Rattle.guest_board.proofs.Steps.{counts_one}
use Rattle.vcpu_core.specs.declared.lane.Lane.{Lane}
use Rattle.vcpu_core.specs.declared.lane.Phase.{Phase}
use Rattle.vcpu_core.specs.declared.lane.Phase.TheVariants.{Running, Wants, Trapped, Looked}
use Rattle.vcpu_core.specs.declared.lane.Went.TheVariants.{Over, Stepped, Erased}
use Rattle.vcpu_core.specs.Lanes.{after_turn, after_fill, after_look, after_mend, went_by}
use Rattle.vcpu_core.specs.World.{World, gone, went_in, go_of, went_of, lane_of, paged_in, windows_of, verdict_in, blank_lane}
use Rattle.vcpu_core.proofs.Verdicts.{verdict-may, start-busy}

verdict-erased : (b : Seat) (i : ℕ) (v : Verdict) → went_by v ≡ Erased → after_verdict b i v ≡ b
unfolding after_verdict
verdict-erased b i Idle e = refl
verdict-erased b i (Needs n) e = refl
verdict-erased b i (Zeroes p) e = refl
verdict-erased b i (Goes start) e = absurd (cc)

-- one step more of vCPU i, by the same rules
pub record IsTick (b b' : Seat) (i : ℕ) : Type 0 where
  pub rules : b'.rules ≡ b.rules
  pub own : i < length b.state.slots → made_of b'.state i ≡ made_of b.state i + 1
  pub others : (j : ℕ) → j ≢ i → made_of b'.state j ≡ made_of b.state j

verdict-stepped : (b : Seat) (i : ℕ) (v : Verdict) → went_by v ≡ Stepped → IsTick b (after_verdict b i v) i
unfolding after_verdict
verdict-stepped b i Idle e = absurd (cc)
verdict-stepped b i (Needs n) e = absurd (cc)
verdict-stepped b i (Zeroes p) e = absurd (cc)
verdict-stepped b i (Goes start) e = record {
  rules = refl;
  own = λ inside. counts_one b.rules b.state i start inside;
  others = λ j other. (leaves_others b.rules b.state i j start other).made;
}

gone-erased : (w : World) (i : ℕ) (l : Lane) (phase : Phase) → went_in w i l phase ≡ Erased → (gone w i l phase).board ≡ w.board
unfolding gone went_in
gone-erased w i l Running e = verdict-erased w.board i (verdict_in w i (windows_of w i l)) e
gone-erased w i l (Wants n) e = refl
gone-erased w i l (Trapped trap) e = refl
gone-erased w i l (Looked k) e = refl

gone-stepped : (w : World) (i : ℕ) (l : Lane) (phase : Phase) → went_in w i l phase ≡ Stepped → IsTick w.board (gone w i l phase).board i
unfolding gone went_in
gone-stepped w i l Running e = verdict-stepped w.board i (verdict_in w i (windows_of w i l)) e
gone-stepped w i l (Wants n) e = absurd (cc)
gone-stepped w i l (Trapped trap) e = absurd (cc)
gone-stepped w i l (Looked k) e = absurd (cc)

pub go-erased : (w : World) (i : ℕ) → went_of w i ≡ Erased → (go_of w i).board ≡ w.board
unfolding go_of went_of
go-erased w i e =
    elim (may w.board.rules w.board.state i) as (λ b. (if b then went_in w i (lane_of w i) (lane_of w i).phase else Over) ≡ Erased
    → (if b then gone w i (lane_of w i) (lane_of w i).phase else w).board ≡ w.board) [
      | true ↦ λ h. gone-erased w i (lane_of w i) (lane_of w i).phase h
      | false ↦ λ h. refl
    ] e

pub go-stepped : (w : World) (i : ℕ) → went_of w i ≡ Stepped → IsTick w.board (go_of w i).board i
unfolding go_of went_of
go-stepped w i e =
    elim (may w.board.rules w.board.state i) as (λ b. (if b then went_in w i (lane_of w i) (lane_of w i).phase else Over) ≡ Stepped
    → IsTick w.board (if b then gone w i (lane_of w i) (lane_of w i).phase else w).board i) [
      | true ↦ λ h. gone-stepped w i (lane_of w i) (lane_of w i).phase h
      | false ↦ λ h. absurd (cc)
    ] e

-- a vCPU that goes on may step
pub went-may : (w : World) (i : ℕ) → went_of w i ≢ Over → may w.board.rules w.board.state i ≡ true
unfolding went_of
went-may w i on =
    elim (may w.board.rules w.board.state i) as (λ b. ((if b then went_in w i (lane_of w i) (lane_of w i).phase else Over) ≢ Over) → b ≡ true) [
      | true ↦ λ h. refl
      | false ↦ λ h. absurd (h refl)
    ] on

busy-went : (v : Verdict) → v ≢ Idle → went_by v ≢ Over
busy-went Idle b = λ h. b refl
busy-went (Needs n) b = λ h. absurd (cc)
busy-went (Zeroes p) b = λ h. absurd (cc)
busy-went (Goes start) b = λ h. absurd (cc)

went_in-on : (w : World) (i : ℕ) (l : Lane) (phase : Phase) → may w.board.rules w.board.state i ≡ true → went_in w i l phase ≢ Over
unfolding went_in
went_in-on w i l Running m = busy-went (verdict_in w i (windows_of w i l))
    (λ h. start-busy w.board.state.ram.text (windows_of w i l) (next_start w.board.state i) (sym (verdict-may w.board.rules w.board.state i (windows_of w i l) m) ∙ h))
went_in-on w i l (Wants n) m = λ h. absurd (cc)
went_in-on w i l (Trapped trap) m = λ h. absurd (cc)
went_in-on w i l (Looked k) m = λ h. absurd (cc)

-- where the answer is Over the vCPU may not step, and nothing changes
pub over-may : (w : World) (i : ℕ) → went_of w i ≡ Over → may w.board.rules w.board.state i ≡ false
unfolding went_of
over-may w i e =
    elim (may w.board.rules w.board.state i) as (λ b. may w.board.rules w.board.state i ≡ b → (if b then went_in w i (lane_of w i) (lane_of w i).phase else Over) ≡ Over → b ≡ false) [
      | true ↦ λ m h. absurd (went_in-on w i (lane_of w i) (lane_of w i).phase m h)
      | false ↦ λ m h. refl
    ] refl e

pub over-still : (w : World) (i : ℕ) → went_of w i ≡ Over → go_of w i ≡ w
unfolding go_of
over-still w i e = rw (over-may w i e) refl

-- a world with the same groups and profile, and one lane replaced
pub record IsLaneSet (w w' : World) (i : ℕ) : Type 0 where
  pub groups : w'.groups ≡ w.groups
  pub profile : w'.profile ≡ w.profile
  pub lane : Lane
  pub lanes : w'.lanes ≡ slice_set w.lanes i lane

gone-sets : (w : World) (i : ℕ) (l : Lane) (phase : Phase) → IsLaneSet w (gone w i l phase) i
unfolding gone
gone-sets w i l Running = record {
  groups = refl;
  profile = refl;
  lane = after_turn w.board.state i l (windows_of w i l) (verdict_in w i (windows_of w i l));
  lanes = refl;
}
gone-sets w i l (Wants n) = record { groups = refl; profile = refl; lane = after_fill (paged_in w.paged_views l.windows.view) n l; lanes = refl }
gone-sets w i l (Trapped trap) = record { groups = refl; profile = refl; lane = after_look w.groups trap l; lanes = refl }
gone-sets w i l (Looked k) = record { groups = refl; profile = refl; lane = after_mend w.groups k.group l; lanes = refl }

pub set-itself : (lanes : List Lane) (i : ℕ) (d : Lane) → slice_set lanes i (slice_index_or lanes i d) ≡ lanes
set-itself [] i d = refl
set-itself (x ∷ xs) zero d = refl
set-itself (x ∷ xs) (suc i) d = ap (λ (ls : List Lane). x ∷ ls) (set-itself xs i d)

pub go-sets : (w : World) (i : ℕ) → IsLaneSet w (go_of w i) i
unfolding go_of
go-sets w i =
    elim (may w.board.rules w.board.state i) as (λ b. IsLaneSet w (if b then gone w i (lane_of w i) (lane_of w i).phase else w) i) [
      | true ↦ gone-sets w i (lane_of w i) (lane_of w i).phase
      | false ↦ record { groups = refl; profile = refl; lane = lane_of w i; lanes = sym (set-itself w.lanes i (blank_lane i)) }
    ]

pub lanes-stay : (w : World) (i : ℕ) → length (go_of w i).lanes ≡ length w.lanes
lanes-stay w i = let e : IsLaneSet w (go_of w i) i = go-sets w i in ap (λ (ls : List Lane). length ls) e.lanes ∙ length-set w.lanes i e.lane

-- the lane of another vCPU
pub lane-apart : (w : World) (i j : ℕ) → j ≢ i → lane_of (go_of w i) j ≡ lane_of w j
lane-apart w i j other =
    let e : IsLaneSet w (go_of w i) i = go-sets w i in
    ap (λ (ls : List Lane). slice_index_or ls j (blank_lane j)) e.lanes ∙ get_or-set_other w.lanes i j e.lane (blank_lane j) other
