-- A base has a truth for each group.
use Rattle.std.proofs.Common.{◌≡◌, ℕ, ◌+◌, [], ◌∷◌, ◌++◌, length, arith, map}
use Rattle.std.specs.List.{range_with_len}
use Rattle.std.proofs.lemmas.List.FromFn.{length-map-range_with_len, map-range_with_len_more}
use Rattle.function_table.specs.Groups.{Groups, groups_count}
use Rattle.view_file.specs.declared.views.Views.{Views}
use Rattle.view_file.specs.Base.{is_based, base_of}

pub base_of_long : (v : Views) (t : Groups) (number : ℕ) → length (base_of v t number) ≡ groups_count t
base_of_long v t number = length-map-range_with_len (is_based v t number) 0 (groups_count t)

-- one for each of the numbers from 0 on, and one more
pub one_more : {X : Type 0} (f : ℕ → X) (n : ℕ) → map f (range_with_len 0 (n + 1)) ≡ map f (range_with_len 0 n) ++ f n ∷ []
one_more f n = map-range_with_len_more f 0 n n (omega arith)
