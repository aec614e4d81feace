-- States and their 44 values.
use Rattle.std.proofs.Common.{◌≡◌, ℕ, zero, suc, ◌+◌, ◌^◌, ◌<◌, ◌≤◌, eqb, ltb, true, false, Bool, cond, List, [], ◌∷◌, length, None, refl, sym, ap, ◌∙◌, arith}
use Rattle.std.specs.Prelude.{slice_index}
use Rattle.std.specs.List.{AllByRecursion}
use Rattle.std.specs.Int.{w8, w64}
use Rattle.std.proofs.lemmas.Bool.{eqb-true, eq-eqb, ltb-false, le-ltb}
use Rattle.fc_numbers.specs.declared.machine.Mode.{Mode}
use Rattle.fc_numbers.specs.declared.machine.Mode.TheVariants.{Vu, Vs}
use Rattle.trace_file.specs.declared.fault.TraceFault.TheVariants.{BadTail}
use Rattle.trace_file.specs.declared.state.State.{State}
use Rattle.trace_file.specs.Form.{number, checked}
use Rattle.trace_file.proofs.IsForm.{IsForm}
use Rattle.trace_file.specs.Values.{mode_number, mode_of, values_of, state_of}
use Rattle.trace_file.specs.States.{mode_fault, value_form, values_form, state_form, states_form}
use Rattle.trace_file.specs.Lawful.{IsState}
use Rattle.trace_file.proofs.Forms.{checked_is, seen_is, AllFit, ItemsFit, items_form, TimesFit, times_form, all_from_each, each_from_all}
use Rattle.trace_file.proofs.Numbers.{n8, n64}
use Rattle.trace_file.proofs.NoFault.{none_if, none_from}

-- ---- one value

abbrev pub ByTest : Bool → ℕ → Type 0
ByTest true n = (n < 2 ^ 8) × (mode_fault n ≡ None)
ByTest false n = n < 2 ^ 64

by_test : (b : Bool) → IsForm (ByTest b) (cond b (checked mode_fault (number w8)) (number w64))
by_test true = checked_is mode_fault n8
by_test false = n64

abbrev pub ValueFit : ℕ → Unit {0} → ℕ → Type 0
ValueFit k s n = ByTest (eqb k 32) n

pub value_is : (k : ℕ) (s : Unit {0}) → IsForm (ValueFit k s) (value_form k s)
value_is k s = by_test (eqb k 32)

abbrev pub ValuesFrom : ℕ → List ℕ → Type 0
ValuesFrom k vs = AllFit {S = Unit {0}} ValueFit value_form (λ s _. s) value_is k tt vs

wide_from : (b : Bool) (n : ℕ) → ByTest b n → n < 2 ^ 64
wide_from true n h = omega (arith, h.0)
wide_from false n h = h

pub all_wide : (k : ℕ) (vs : List ℕ) → ValuesFrom k vs → AllByRecursion (λ n. n < 2 ^ 64) vs
all_wide k [] h = tt
all_wide k (v ∷ vs) h = (wide_from (eqb k 32) v h.0, all_wide (suc k) vs h.1)

at_true : (b : Bool) (n : ℕ) → b ≡ true → ByTest b n → n ≤ 1
at_true true n e h = ltb-false 1 n (none_if (ltb 1 n) BadTail None h.1).0
at_true false n e h = absurd cc

pub mode_low : (k j : ℕ) (vs : List ℕ) → k + j ≡ 32 → j < length vs → ValuesFrom k vs → slice_index vs j ≤ 1
mode_low k j [] e lt h = absurd (omega arith)
mode_low k zero (v ∷ vs) e lt h = at_true (eqb k 32) v (eq-eqb k 32 (omega arith)) h.0
mode_low k (suc j) (v ∷ vs) e lt h = mode_low (suc k) j vs (omega arith) (omega arith) h.1

test_from : (b : Bool) (n : ℕ) → (b ≡ true → n ≤ 1) → n < 2 ^ 64 → ByTest b n
test_from true n low lt = let l = low refl in (omega arith, none_from (ltb 1 n) BadTail None (le-ltb 1 n l) refl)
test_from false n low lt = lt

pub values_fit : (k : ℕ) (vs : List ℕ) → ((j : ℕ) → k + j ≡ 32 → slice_index vs j ≤ 1) → AllByRecursion (λ n. n < 2 ^ 64) vs → ValuesFrom k vs
values_fit k [] low h = tt
values_fit k (v ∷ vs) low h =
    (test_from (eqb k 32) v (λ e. let same = eqb-true k 32 e in low 0 (omega arith)) h.0, values_fit (suc k) vs (λ j e. low (suc j) (omega arith)) h.1)

-- ---- a state is its values

tab : ℕ → ℕ → (ℕ → ℕ) → List ℕ
tab zero k f = []
tab (suc n) k f = f k ∷ tab n (suc k) f

shift : (n k : ℕ) (v : ℕ) (vs : List ℕ) → tab n (suc k) (λ i. slice_index (v ∷ vs) i) ≡ tab n k (λ i. slice_index vs i)
unfolding tab
shift zero k v vs = refl
shift (suc n) k v vs = ap (λ z. slice_index vs k ∷ z) (shift n (suc k) v vs)

listed : (vs : List ℕ) → tab (length vs) 0 (λ i. slice_index vs i) ≡ vs
unfolding tab
listed [] = refl
listed (v ∷ vs) = ap (λ z. v ∷ z) (shift (length vs) 0 v vs ∙ listed vs)

mode_back : (m : Mode) → mode_of (mode_number m) ≡ m
mode_back Vu = refl
mode_back Vs = refl

mode_bit : (m : Mode) → mode_number m ≤ 1
mode_bit Vu = omega arith
mode_bit Vs = omega arith

mode_forth : (n : ℕ) → n ≤ 1 → mode_number (mode_of n) ≡ n
mode_forth zero h = refl
mode_forth (suc zero) h = refl
mode_forth (suc (suc n)) h = absurd (omega arith)

pub state-values : (s : State) → state_of (values_of s) ≡ s
unfolding values_of state_of
state-values s = ap (λ (m : Mode). record s { mode = m }) (mode_back s.mode)

pub values-state : (vs : List ℕ) → length vs ≡ 44 → slice_index vs 32 ≤ 1 → values_of (state_of vs) ≡ vs
unfolding values_of state_of tab
values-state vs len low =
    let e : mode_number (mode_of (slice_index vs 32)) ≡ slice_index vs 32 = mode_forth (slice_index vs 32) low in
    let whole : tab 44 0 (λ i. slice_index vs i) ≡ vs = ap (λ n. tab n 0 (λ i. slice_index vs i)) (sym len) ∙ listed vs in
    rw e whole

pub mode_of_state : (s : State) (j : ℕ) → j ≡ 32 → slice_index (values_of s) j ≤ 1
unfolding values_of
mode_of_state s j e = rw e (mode_bit s.mode)

-- ---- the forms

abbrev pub ValuesFit : List ℕ → Type 0
ValuesFit vs = ItemsFit {S = Unit {0}} ValueFit value_form (λ s _. s) value_is 44 0 tt vs

pub values_is : IsForm ValuesFit values_form
unfolding values_form
values_is = items_form {S = Unit {0}} ValueFit value_form (λ s _. s) value_is 44 0 tt

abbrev pub StateFit : State → Type 0
StateFit s = ValuesFit (values_of s)

pub state_is : IsForm StateFit state_form
unfolding state_form
state_is = seen_is state_of values_of values_is state-values (λ vs h. values-state vs h.0 (mode_low 0 32 vs refl (omega (arith, h.0)) h.1))

pub len_values : (s : State) → length (values_of s) ≡ 44
unfolding values_of
len_values s = refl

pub state_lawful : (s : State) → StateFit s → IsState s
state_lawful s h = all_wide 0 (values_of s) h.1

pub lawful_state : (s : State) → IsState s → StateFit s
lawful_state s h = (len_values s, values_fit 0 (values_of s) (λ j e. mode_of_state s j (omega arith)) h)

abbrev pub StatesFit : ℕ → List State → Type 0
StatesFit n ss = TimesFit StateFit state_form state_is n ss

pub states_is : (n : ℕ) → IsForm (StatesFit n) (states_form n)
unfolding states_form
states_is n = times_form StateFit state_form state_is n

pub map_all : {A : Type 0} (p q : A → Type 0) → ((a : A) → p a → q a) → (xs : List A) → AllByRecursion p xs → AllByRecursion q xs
map_all p q f [] h = tt
map_all p q f (x ∷ xs) h = (f x h.0, map_all p q f xs h.1)

pub states_lawful : (n : ℕ) (ss : List State) → StatesFit n ss → (length ss ≡ n) × AllByRecursion IsState ss
states_lawful n ss h = (h.0, map_all StateFit IsState state_lawful ss (all_from_each {S = Unit {0}} StateFit state_form state_is (λ _ _. tt) 0 tt ss h.1))

pub lawful_states : (n : ℕ) (ss : List State) → length ss ≡ n → AllByRecursion IsState ss → StatesFit n ss
lawful_states n ss e h = (e, each_from_all {S = Unit {0}} StateFit state_form state_is (λ _ _. tt) 0 tt ss (map_all IsState StateFit lawful_state ss h))
