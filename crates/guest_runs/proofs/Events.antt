-- Lists of events, and what an event of a vCPU that may not step leaves.
use Rattle.std.proofs.Common.{◌≡◌, ℕ, zero, suc, ◌+◌, ◌<◌, true, false, arith, refl, ◌∙◌, sym, ap, List, [], ◌∷◌, ◌++◌, length, take, get_or, add-one}
use Rattle.std.specs.Prelude.{slice_index_or, slice_set, if◌then◌else◌}
use Rattle.std.specs.List.{range_with_len}
use Rattle.guest_board.specs.Board.{may}
use Rattle.guest_board.specs.Seen.{after_verdict}
use Rattle.guest_board.specs.declared.seen.Verdict.{Verdict}
use Rattle.guest_board.specs.declared.seen.Verdict.TheVariants.{Idle, Needs, Zeroes, Goes}
use Rattle.guest_board.specs.declared.seen.Windows.{Windows}
use Rattle.vcpu_core.specs.World.{World, go_all, go_of, went_of, gone, went_in, lane_of, blank_lane, after_event, windows_of, verdict_in}
use Rattle.vcpu_core.specs.Lanes.{went_by}
use Rattle.vcpu_core.specs.declared.lane.Lane.{Lane}
use Rattle.vcpu_core.specs.declared.lane.Phase.{Phase}
use Rattle.vcpu_core.specs.declared.lane.Phase.TheVariants.{Running, Wants, Trapped, Looked}
use Rattle.vcpu_core.specs.declared.lane.Went.TheVariants.{Over}

pub go_all-append : (w : World) (is js : List ℕ) → go_all w (is ++ js) ≡ go_all (go_all w is) js
go_all-append w [] js = refl
go_all-append w (i ∷ is) js = go_all-append (go_of w i) is js

-- one more event
pub go_all-more : (w : World) (is : List ℕ) (i : ℕ) → go_all w (is ++ i ∷ []) ≡ go_of (go_all w is) i
go_all-more w is i = go_all-append w is (i ∷ [])

pub range-more : (a n : ℕ) → range_with_len a (n + 1) ≡ range_with_len a n ++ (a + n) ∷ []
range-more a n = rw (add-one n) (more a n)
  where
    more : (a n : ℕ) → range_with_len a (suc n) ≡ range_with_len a n ++ (a + n) ∷ []
    more a zero = let e : a ≡ a + 0 = omega arith in ap (λ x. x ∷ []) e
    more a (suc n) = let e : a + 1 + n ≡ a + suc n = omega arith in ap (λ xs. a ∷ xs) (more (a + 1) n ∙ ap (λ x. range_with_len (a + 1) n ++ x ∷ []) e)

same-lanes : (xs : List Lane) (i : ℕ) (d : Lane) → slice_set xs i (slice_index_or xs i d) ≡ xs
same-lanes [] zero d = refl
same-lanes [] (suc i) d = refl
same-lanes (x ∷ xs) zero d = refl
same-lanes (x ∷ xs) (suc i) d = ap (λ l. x ∷ l) (same-lanes xs i d)

over-event : (w : World) (i : ℕ) (windows : Windows) (v : Verdict) → went_by v ≡ Over → after_event w i (lane_of w i) windows v ≡ w
unfolding after_verdict
over-event w i windows Idle e = ap (λ (lanes : List Lane). record w { lanes = lanes }) (same-lanes w.lanes i (blank_lane i))
over-event w i windows (Needs n) e = absurd (cc e)
over-event w i windows (Zeroes place) e = absurd (cc e)
over-event w i windows (Goes start) e = absurd (cc e)

over-phase : (w : World) (i : ℕ) (p : Phase) → went_in w i (lane_of w i) p ≡ Over → gone w i (lane_of w i) p ≡ w
unfolding gone went_in
over-phase w i Running e = over-event w i (windows_of w i (lane_of w i)) (verdict_in w i (windows_of w i (lane_of w i))) e
over-phase w i (Wants n) e = absurd (cc e)
over-phase w i (Trapped t) e = absurd (cc e)
over-phase w i (Looked k) e = absurd (cc e)

-- where a vCPU may not step, its event changes nothing
pub over_stays : (w : World) (i : ℕ) → went_of w i ≡ Over → go_of w i ≡ w
unfolding go_of went_of
over_stays w i e = elim (may w.board.rules w.board.state i) as (λ b. may w.board.rules w.board.state i ≡ b → (if b then went_in w i (lane_of w i) (lane_of w i).phase else Over) ≡ Over → (if b then gone w i (lane_of w i) (lane_of w i).phase else w) ≡ w) [
  | true ↦ λ is o. over-phase w i (lane_of w i).phase o
  | false ↦ λ is o. refl
] refl e

-- one more event of a list
pub go_all-take : (w : World) (is : List ℕ) (k i : ℕ) → k < length is → i ≡ get_or is k i → go_all w (take (k + 1) is) ≡ go_of (go_all w (take k is)) i
go_all-take w is k i within there = rw (add-one k) (more w is k i within there)
  where
    more : (w : World) (is : List ℕ) (k i : ℕ) → k < length is → i ≡ get_or is k i → go_all w (take (suc k) is) ≡ go_of (go_all w (take k is)) i
    more w [] k i within there = absurd (omega (arith, within))
    more w (j ∷ js) zero i within there = ap (go_of w) (sym there)
    more w (j ∷ js) (suc k) i within there = more (go_of w j) js k i (omega (arith, within)) there
