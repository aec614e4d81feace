-- Reading parts one after the other, as a loop does.
use Rattle.std.proofs.Common.{◌≡◌, ℕ, suc, ◌-◌, ◌+◌, ◌≤◌, ◌<◌, List, [], ◌∷◌, ◌++◌, Result, Ok, Err, refl, sym, ap, ◌∙◌, append_assoc, append-nil, arith}
use Rattle.trace_file.specs.declared.halt.Halt.{Halt}
use Rattle.trace_file.specs.declared.halt.Halt.TheVariants.{Memory, Short, Fault}
use Rattle.trace_file.specs.Form.{Form, ◌>>=◌, read_items}
use Rattle.trace_file.specs.Gives.{Halts}

-- what was gathered before, and what is still read
abbrev pub with_front : {A B : Type 0} → (List A → List B) → List B → Result (List A × List ℕ) Halt → Result (List B × List ℕ) Halt
with_front gather front read = read >>= λ x. Ok (front ++ gather x.0, x.1)

module _ {A B S : Type 0} (item : ℕ → S → Form A) (next : S → A → S) (gather : List A → List B) (one : A → List B) (nil : gather [] ≡ []) (more : (a : A) (xs : List A) → gather (a ∷ xs) ≡ one a ++ gather xs) where
  regroup : (front : List B) (a : A) (read : Result (List A × List ℕ) Halt) → with_front gather front (read >>= λ x. Ok (a ∷ x.0, x.1)) ≡ with_front gather (front ++ one a) read
  regroup front a (Ok x) = ap (λ (ys : List B). Ok (ys, x.1)) (ap (λ ys. front ++ ys) (more a x.0) ∙ sym (append_assoc front (one a) (gather x.0)))
  regroup front a (Err h) = refl

  pub goes_on : (front : List B) (count i : ℕ) (s : S) (bytes : List ℕ) (a : A) (after : List ℕ) (total : Result (List B × List ℕ) Halt) → i < count → (item i s).read bytes ≡ Ok (a, after)
      → with_front gather front (read_items item next (count - i) i s bytes) ≡ total → with_front gather (front ++ one a) (read_items item next (count - (i + 1)) (i + 1) (next s a) after) ≡ total
  unfolding read_items
  goes_on front count i s bytes a after total lt h so_far =
      let k : count - i ≡ suc (count - (i + 1)) = omega arith in
      let j : i + 1 ≡ suc i = omega arith in
      let step : read_items item next (suc (count - (i + 1))) i s bytes ≡ (read_items item next (count - (i + 1)) (suc i) (next s a) after >>= λ x. Ok (a ∷ x.0, x.1)) =
      ap (λ r. r >>= λ x. read_items item next (count - (i + 1)) (suc i) (next s x.0) x.1 >>= λ y. Ok (x.0 ∷ y.0, y.1)) h in
      let one_step : with_front gather front (read_items item next (count - i) i s bytes) ≡ with_front gather (front ++ one a) (read_items item next (count - (i + 1)) (suc i) (next s a) after) =
      ap (λ n. with_front gather front (read_items item next n i s bytes)) k ∙ ap (λ r. with_front gather front r) step ∙ regroup front a (read_items item next (count - (i + 1)) (suc i) (next s a) after) in
      ap (λ n. with_front gather (front ++ one a) (read_items item next (count - (i + 1)) n (next s a) after)) j ∙ sym one_step ∙ so_far

  stopped : (e : Halt) (front : List B) (count i : ℕ) (s : S) (bytes : List ℕ) → i < count → (item i s).read bytes ≡ Err e → with_front gather front (read_items item next (count - i) i s bytes) ≡ Err e
  unfolding read_items
  stopped e front count i s bytes lt h =
      let k : count - i ≡ suc (count - (i + 1)) = omega arith in
      ap (λ n. with_front gather front (read_items item next n i s bytes)) k
      ∙ ap (λ r. with_front gather front (r >>= λ x. read_items item next (count - (i + 1)) (suc i) (next s x.0) x.1 >>= λ y. Ok (x.0 ∷ y.0, y.1))) h

  pub ends : (e : Halt) (front : List B) (count i : ℕ) (s : S) (bytes : List ℕ) (total : Result (List B × List ℕ) Halt) → i < count → Halts e ((item i s).read bytes)
      → with_front gather front (read_items item next (count - i) i s bytes) ≡ total → Halts e total
  ends Memory front count i s bytes total lt h so_far = tt
  ends Short front count i s bytes total lt h so_far = sym so_far ∙ stopped Short front count i s bytes lt h
  ends (Fault f) front count i s bytes total lt h so_far = sym so_far ∙ stopped (Fault f) front count i s bytes lt h

  pub is_done : (front : List B) (count i : ℕ) (s : S) (bytes : List ℕ) (total : Result (List B × List ℕ) Halt) → count ≤ i → with_front gather front (read_items item next (count - i) i s bytes) ≡ total → total ≡ Ok (front, bytes)
  unfolding read_items
  is_done front count i s bytes total le so_far =
      let k : count - i ≡ 0 = omega arith in
      sym so_far ∙ ap (λ n. with_front gather front (read_items item next n i s bytes)) k ∙ ap (λ (ys : List B). Ok (ys, bytes)) (ap (λ ys. front ++ ys) nil ∙ append-nil front)

-- ---- the same where the parts themselves are gathered

module _ {A S : Type 0} (item : ℕ → S → Form A) (next : S → A → S) where
  pub list_on : (front : List A) (count i : ℕ) (s : S) (bytes : List ℕ) (a : A) (after : List ℕ) (total : Result (List A × List ℕ) Halt) → i < count → (item i s).read bytes ≡ Ok (a, after)
      → with_front (λ xs. xs) front (read_items item next (count - i) i s bytes) ≡ total → with_front (λ xs. xs) (front ++ a ∷ []) (read_items item next (count - (i + 1)) (i + 1) (next s a) after) ≡ total
  list_on = goes_on item next (λ xs. xs) (λ a. a ∷ []) refl (λ a xs. refl)

  pub list_ends : (e : Halt) (front : List A) (count i : ℕ) (s : S) (bytes : List ℕ) (total : Result (List A × List ℕ) Halt) → i < count → Halts e ((item i s).read bytes)
      → with_front (λ xs. xs) front (read_items item next (count - i) i s bytes) ≡ total → Halts e total
  list_ends = ends item next (λ xs. xs) (λ a. a ∷ []) refl (λ a xs. refl)

  pub list_done : (front : List A) (count i : ℕ) (s : S) (bytes : List ℕ) (total : Result (List A × List ℕ) Halt) → count ≤ i → with_front (λ xs. xs) front (read_items item next (count - i) i s bytes) ≡ total → total ≡ Ok (front, bytes)
  list_done = is_done item next (λ xs. xs) (λ a. a ∷ []) refl (λ a xs. refl)

pub front_none : {A : Type 0} (r : Result (List A × List ℕ) Halt) → with_front (λ xs. xs) [] r ≡ r
front_none (Ok x) = refl
front_none (Err h) = refl
