-- Lists over the numbers from 0 on, one more at a time.
use Rattle.std.proofs.Common.{◌≡◌, ℕ, ◌+◌, ◌<◌, List, [], ◌∷◌, ◌++◌, ap, sym, refl, ◌∙◌, length, map, zero-add}
use Rattle.std.specs.Prelude.{slice_index_or}
use Rattle.std.specs.List.{flat_map, range_with_len, sum_by}
use Rattle.std.proofs.lemmas.List.Sums.{sum_by-append}
use Rattle.std.proofs.lemmas.Grind.{flat_map-append}
use Rattle.std.proofs.lemmas.List.{append-nil, get_or_default}
use Rattle.std.proofs.lemmas.List.FromFn.{length-map-range_with_len, map-range_with_len_more}
use Rattle.function_table.specs.Groups.{Groups, groups_count}
use Rattle.view_file.specs.declared.views.Views.{Views}
use Rattle.view_file.specs.Base.{base_of, is_based}

map-same : (xs : List ℕ) → map (λ n. n) xs ≡ xs
map-same [] = refl
map-same (x ∷ xs) = ap (λ l. x ∷ l) (map-same xs)

range-more : (n : ℕ) → range_with_len 0 (n + 1) ≡ range_with_len 0 n ++ n ∷ []
range-more n = sym (map-same (range_with_len 0 (n + 1))) ∙ map-range_with_len_more (λ k. k) 0 n n (zero-add n) ∙ ap (λ l. l ++ n ∷ []) (map-same (range_with_len 0 n))

pub flat-more : (f : ℕ → List ℕ) (n : ℕ) → flat_map f (range_with_len 0 (n + 1)) ≡ flat_map f (range_with_len 0 n) ++ f n
flat-more f n = ap (flat_map f) (range-more n) ∙ flat_map-append f (range_with_len 0 n) (n ∷ []) ∙ ap (λ l. flat_map f (range_with_len 0 n) ++ l) (append-nil (f n))

-- a base has a truth for each group
pub base-long : (v : Views) (t : Groups) (number : ℕ) → length (base_of v t number) ≡ groups_count t
base-long v t number = length-map-range_with_len (is_based v t number) 0 (groups_count t)

pub sum-more : (f : ℕ → ℕ) (n : ℕ) → sum_by f (range_with_len 0 (n + 1)) ≡ sum_by f (range_with_len 0 n) + f n
sum-more f n = ap (sum_by f) (range-more n) ∙ sum_by-append f (range_with_len 0 n) (n ∷ []) ∙ ap (λ k. sum_by f (range_with_len 0 n) + k) (zero-add (f n))
