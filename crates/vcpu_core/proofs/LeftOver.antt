-- Each event but the last leaves less of the run of all vCPUs.
use Rattle.std.proofs.Common.{◌≡◌, ◌≢◌, ℕ, zero, suc, ◌+◌, ◌-◌, ◌*◌, ◌<◌, ◌≤◌, true, List, [], ◌∷◌, length, refl, sym, ap, subst, arith}
use Rattle.std.specs.List.{range_with_len, sum_by}
use Rattle.std.proofs.Math.Nat.{mul-le-mul_left}
use Rattle.std.proofs.lemmas.List.Sums.{sum_by-cons}
use mathlib.Core.Logic.{dite}
use native.Mathlib.Decide.{ℕ_discrete}
use Rattle.guest_board.specs.declared.rules.Rules.{Rules}
use Rattle.guest_board.specs.Board.{Seat, made_of, may}
use Rattle.run_evidence.proofs.Steps.{may-left, may-slot}
use Rattle.vcpu_core.specs.declared.lane.Went.{Went}
use Rattle.vcpu_core.specs.declared.lane.Went.TheVariants.{Over, Stepped, Erased}
use Rattle.vcpu_core.specs.Waits.{all_left, waits_of}
use Rattle.vcpu_core.specs.World.{World, IsReady, go_of, lane_of, went_of}
use Rattle.vcpu_core.proofs.Events.{IsTick, go-erased, go-stepped, lanes-stay, went-may}
use Rattle.vcpu_core.proofs.Waiting.{go-nearer, waits-apart, waits-most}

sum-le : (f g : ℕ → ℕ) → ((j : ℕ) → g j ≤ f j) → (xs : List ℕ) → sum_by g xs ≤ sum_by f xs
sum-le f g all [] = omega arith
sum-le f g all (x ∷ xs) = omega (arith, all x, sum-le f g all xs, sum_by-cons f x xs, sum_by-cons g x xs)

-- a sum is smaller where one of its terms is, and none is greater
sum-less : (f g : ℕ → ℕ) → ((j : ℕ) → g j ≤ f j) → (i : ℕ) → g i < f i → (a n : ℕ) → a ≤ i → i < a + n → sum_by g (range_with_len a n) < sum_by f (range_with_len a n)
sum-less f g all i less a zero low high = absurd (omega (arith, low, high))
sum-less f g all i less a (suc n) low high =
    dite (ℕ_discrete a i)
    (λ same.
    let here : g a < f a = subst (λ k. g k < f k) (sym same) less in
    omega (arith, here, sum-le f g all (range_with_len (a + 1) n), sum_by-cons f a (range_with_len (a + 1) n), sum_by-cons g a (range_with_len (a + 1) n)))
    (λ other.
    let rest : sum_by g (range_with_len (a + 1) n) < sum_by f (range_with_len (a + 1) n) = sum-less f g all i less (a + 1) n (omega (arith, low, other)) (omega (arith, high)) in
    omega (arith, all a, rest, sum_by-cons f a (range_with_len (a + 1) n), sum_by-cons g a (range_with_len (a + 1) n)))

sum-most : (f : ℕ → ℕ) → ((j : ℕ) → f j ≤ 9) → (a n : ℕ) → sum_by f (range_with_len a n) ≤ n * 9
sum-most f all a zero = omega arith
sum-most f all a (suc n) = omega (arith, all a, sum-most f all (a + 1) n, sum_by-cons f a (range_with_len (a + 1) n))

-- one step less to all, whatever each waits for
less-steps : (n left left' waits waits' : ℕ) → 0 < n → left' < left → waits' ≤ n * 9 → 10 * n * left' + waits' < 10 * n * left + waits
less-steps n left left' waits waits' some fewer most =
    let more : left' + 1 ≤ left = omega (arith, fewer) in
    let times : n * (left' + 1) ≤ n * left = mul-le-mul_left n more in
    omega (arith, times, some, most)

less-waits : (n left left' waits waits' : ℕ) → left' ≡ left → waits' < waits → 10 * n * left' + waits' < 10 * n * left + waits
less-waits n left left' waits waits' same fewer = rw same (omega (arith, fewer))

abbrev steps_in : World → ℕ → ℕ
steps_in w n = sum_by (λ j. w.board.rules.steps - made_of w.board.state j) (range_with_len 0 n)

abbrev waits_in : World → ℕ → ℕ
waits_in w n = sum_by (λ j. waits_of w j (lane_of w j)) (range_with_len 0 n)

erased-falls : (w : World) (i n : ℕ) → IsReady w → i < n → went_of w i ≡ Erased → 10 * n * steps_in (go_of w i) n + waits_in (go_of w i) n < 10 * n * steps_in w n + waits_in w n
erased-falls w i n r inside e =
    let own : waits_of (go_of w i) i (lane_of (go_of w i) i) < waits_of w i (lane_of w i) = go-nearer w i r e in
    let all : (j : ℕ) → waits_of (go_of w i) j (lane_of (go_of w i) j) ≤ waits_of w j (lane_of w j) = λ j.
    dite (ℕ_discrete j i)
    (λ same. subst (λ k. waits_of (go_of w i) k (lane_of (go_of w i) k) ≤ waits_of w k (lane_of w k)) (sym same) (omega (arith, own)))
    (λ other. omega (arith, waits-apart w i j other e)) in
    let steps : steps_in (go_of w i) n ≡ steps_in w n =
    ap (λ (b : Seat). sum_by (λ j. b.rules.steps - made_of b.state j) (range_with_len 0 n)) (go-erased w i e) in
    less-waits n (steps_in w n) (steps_in (go_of w i) n) (waits_in w n) (waits_in (go_of w i) n) steps
    (sum-less (λ j. waits_of w j (lane_of w j)) (λ j. waits_of (go_of w i) j (lane_of (go_of w i) j)) all i own 0 n (omega arith) (omega (arith, inside)))

stepped-falls : (w : World) (i n : ℕ) → IsReady w → i < n → may w.board.rules w.board.state i ≡ true → went_of w i ≡ Stepped
    → 10 * n * steps_in (go_of w i) n + waits_in (go_of w i) n < 10 * n * steps_in w n + waits_in w n
stepped-falls w i n r inside m e =
    let tick : IsTick w.board (go_of w i).board i = go-stepped w i e in
    let below : made_of w.board.state i < w.board.rules.steps = may-left w.board.rules w.board.state i m in
    let steps : (go_of w i).board.rules.steps ≡ w.board.rules.steps = ap (λ (x : Rules). x.steps) tick.rules in
    let made : made_of (go_of w i).board.state i ≡ made_of w.board.state i + 1 = tick.own (may-slot w.board.rules w.board.state i m) in
    let own : (go_of w i).board.rules.steps - made_of (go_of w i).board.state i < w.board.rules.steps - made_of w.board.state i = omega (arith, below, steps, made) in
    let all : (j : ℕ) → (go_of w i).board.rules.steps - made_of (go_of w i).board.state j ≤ w.board.rules.steps - made_of w.board.state j = λ j.
    dite (ℕ_discrete j i)
    (λ same. subst (λ k. (go_of w i).board.rules.steps - made_of (go_of w i).board.state k ≤ w.board.rules.steps - made_of w.board.state k) (sym same) (omega (arith, own)))
    (λ other. omega (arith, steps, tick.others j other)) in
    less-steps n (steps_in w n) (steps_in (go_of w i) n) (waits_in w n) (waits_in (go_of w i) n) (omega (arith, inside))
    (sum-less (λ j. w.board.rules.steps - made_of w.board.state j) (λ j. (go_of w i).board.rules.steps - made_of (go_of w i).board.state j) all i own 0 n (omega arith) (omega (arith, inside)))
    (sum-most (λ j. waits_of (go_of w i) j (lane_of (go_of w i) j)) (λ j. waits-most (go_of w i) j (lane_of (go_of w i) j)) 0 n)

falls-went : (w : World) (i n : ℕ) (went : Went) → IsReady w → i < n → may w.board.rules w.board.state i ≡ true → went_of w i ≡ went → went ≢ Over
    → 10 * n * steps_in (go_of w i) n + waits_in (go_of w i) n < 10 * n * steps_in w n + waits_in w n
falls-went w i n Over r inside m e on = absurd (on refl)
falls-went w i n Erased r inside m e on = erased-falls w i n r inside e
falls-went w i n Stepped r inside m e on = stepped-falls w i n r inside m e

pub go_falls : (w : World) (i : ℕ) → IsReady w → went_of w i ≢ Over → all_left (go_of w i) < all_left w
unfolding all_left
go_falls w i r on =
    let m : may w.board.rules w.board.state i ≡ true = went-may w i on in
    let inside : i < length w.lanes = omega (arith, may-slot w.board.rules w.board.state i m, r.lanes) in
    subst (λ n. 10 * n * steps_in (go_of w i) n + waits_in (go_of w i) n < 10 * length w.lanes * steps_in w (length w.lanes) + waits_in w (length w.lanes)) (sym (lanes-stay w i))
    (falls-went w i (length w.lanes) (went_of w i) r inside m refl on)
