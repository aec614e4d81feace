-- The first difference among the values of several vCPUs.
use Rattle.std.proofs.Common.{◌≡◌, ℕ, zero, suc, ◌+◌, ◌-◌, ◌<◌, List, [], ◌∷◌, ◌++◌, Some, None, arith, ◌∙◌, sym, ap, add-one}
use Rattle.std.specs.List.{flat_map, range_with_len}
use Rattle.std.specs.Option.{option_or}
use Rattle.std.proofs.lemmas.Grind.{flat_map-append}
use Rattle.std.proofs.lemmas.List.{append-nil}
use Rattle.std.proofs.lemmas.List.Folds.{find-append}
use Rattle.replay_command.specs.declared.comparison.Comparison.{Comparison}
use Rattle.std.specs.Prelude.{length, slice_index_or}
use Rattle.std.proofs.lemmas.List.{get_or_default}
use Rattle.trace_file.specs.declared.state.State.{State as VcpuState}
use Rattle.trace_file.specs.Values.{state_of}
use Rattle.guest_board.specs.Board.{State}
use Rattle.run_trace.specs.Told.{vcpu_state}
use Rattle.replay_command.specs.Comparisons.{differs, first_difference, vcpu_state_at, values_compared, vcpus_compared}

range-more : (a n : ℕ) → range_with_len a (n + 1) ≡ range_with_len a n ++ (a + n) ∷ []
range-more a n = rw (add-one n) (more a n)
  where
    more : (a n : ℕ) → range_with_len a (suc n) ≡ range_with_len a n ++ (a + n) ∷ []
    more a zero = let e : a ≡ a + 0 = omega arith in ap (λ x. x ∷ []) e
    more a (suc n) = let e : a + 1 + n ≡ a + suc n = omega arith in ap (λ xs. a ∷ xs) (more (a + 1) n ∙ ap (λ x. range_with_len (a + 1) n ++ x ∷ []) e)

-- what is found in the first list is found in both, and what is found in the second where the first has none
pub front : (xs ys : List Comparison) (x : Comparison) → first_difference xs ≡ Some x → first_difference (xs ++ ys) ≡ Some x
front xs ys x e = find-append differs xs ys ∙ ap (λ o. option_or o (first_difference ys)) e

pub behind : (xs ys : List Comparison) → first_difference xs ≡ None → first_difference (xs ++ ys) ≡ first_difference ys
behind xs ys e = find-append differs xs ys ∙ ap (λ o. option_or o (first_difference ys)) e

module _ (of : ℕ → List Comparison) where
  -- the comparisons of the first n
  abbrev pub all_of : ℕ → List Comparison
  all_of n = flat_map of (range_with_len 0 n)

  all-more : (n : ℕ) → all_of (n + 1) ≡ all_of n ++ of n
  all-more n =
      let e : 0 + n ≡ n = omega arith in
      ap (flat_map of) (range-more 0 n ∙ ap (λ x. range_with_len 0 n ++ x ∷ []) e) ∙ flat_map-append of (range_with_len 0 n) (n ∷ []) ∙ ap (λ xs. all_of n ++ xs) (append-nil (of n))

  pub none-more : (n : ℕ) → first_difference (all_of n) ≡ None → first_difference (of n) ≡ None → first_difference (all_of (n + 1)) ≡ None
  none-more n before here = ap first_difference (all-more n) ∙ behind (all_of n) (of n) before ∙ here

  stays : (n later : ℕ) (x : Comparison) → first_difference (all_of n) ≡ Some x → first_difference (all_of (n + later)) ≡ Some x
  stays n zero x e = let same : n + 0 ≡ n = omega arith in ap (λ m. first_difference (all_of m)) same ∙ e
  stays n (suc later) x e =
      let same : n + suc later ≡ n + later + 1 = omega arith in
      ap (λ m. first_difference (all_of m)) same ∙ ap first_difference (all-more (n + later)) ∙ front (all_of (n + later)) (of (n + later)) x (stays n later x e)

  pub found-at : (i n : ℕ) (x : Comparison) → first_difference (all_of i) ≡ None → first_difference (of i) ≡ Some x → i < n → first_difference (all_of n) ≡ Some x
  found-at i n x before here within =
      let now : first_difference (all_of (i + 1)) ≡ Some x = ap first_difference (all-more i) ∙ behind (all_of i) (of i) before ∙ here in
      let same : i + 1 + (n - (i + 1)) ≡ n = omega (arith, within) in
      ap (λ m. first_difference (all_of m)) (sym same) ∙ stays (i + 1) (n - (i + 1)) x now

module _ (s : State) (states : List VcpuState) where
  abbrev own : ℕ → List Comparison
  own i = values_compared i (vcpu_state s i) (vcpu_state_at states i)

  -- what was compared at a vCPU
  here : (i : ℕ) (left d : VcpuState) → left ≡ vcpu_state s i → i < length states → first_difference (values_compared i left (slice_index_or states i d)) ≡ first_difference (own i)
  here i left d is within =
      ap (λ x. first_difference (values_compared i x (slice_index_or states i d))) is
      ∙ ap (λ x. first_difference (values_compared i (vcpu_state s i) x)) (get_or_default states i d (state_of []) within)

  pub vcpu-found : (i : ℕ) (left d : VcpuState) (x : Comparison) → first_difference (vcpus_compared s states i) ≡ None → left ≡ vcpu_state s i → i < length states
      → Some x ≡ first_difference (values_compared i left (slice_index_or states i d)) → Some x ≡ first_difference (vcpus_compared s states (length states))
  vcpu-found i left d x before is within e = sym (found-at own i (length states) x before (sym (e ∙ here i left d is within)) within)

  pub vcpu-none : (i : ℕ) (left d : VcpuState) → first_difference (vcpus_compared s states i) ≡ None → left ≡ vcpu_state s i → i < length states
      → None ≡ first_difference (values_compared i left (slice_index_or states i d)) → first_difference (vcpus_compared s states (i + 1)) ≡ None
  vcpu-none i left d before is within e = none-more own i before (sym (e ∙ here i left d is within))
