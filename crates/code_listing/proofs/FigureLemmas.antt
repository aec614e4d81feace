-- What is counted of a view, one more group or page at a time, and the halfwords of the full view.
use Rattle.std.proofs.Common.{◌≡◌, ◌≢◌, ℕ, ◌+◌, ◌*◌, ◌/◌, ◌<◌, Bool, true, false, cond, List, [], ◌∷◌, length, map, refl, arith, sym, ap, ◌∙◌}
use Rattle.std.specs.Prelude.{MatchBool, nat_eq, nat_le, sum_by, count_by}
use Rattle.std.specs.List.{range_with_len}
use Rattle.std.specs.Cmp.Lexicographic.{pointwise}
use Rattle.std.proofs.lemmas.List.Sums.{count_by-le-length, sum_by-append}
use Rattle.std.proofs.lemmas.List.FromFn.{get_or-map-range_with_len}
use Rattle.std.proofs.lemmas.Slice.Eq.{bytes_eq-Decides}
use Rattle.code_listing.proofs.LineLemmas.{range-next}
use Rattle.guest_input.specs.declared.image.Image.{Image}
use Rattle.guest_input.specs.Text.{bytes_of}
use Rattle.function_table.specs.Groups.{groups_of, group_in, half_of}
use Rattle.view_file.specs.declared.views.Views.{Views}
use Rattle.view_file.specs.Base.{is_based}
use Rattle.view_store.specs.Paged.{is_present, mask_of, masked}
use Rattle.code_listing.specs.Surface.{built_view, text_halves}

pub sum-next : (f : ℕ → ℕ) (n : ℕ) → sum_by f (range_with_len 0 (n + 1)) ≡ sum_by f (range_with_len 0 n) + f n
sum-next f n = ap (λ xs. sum_by f xs) (range-next n) ∙ sum_by-append f (range_with_len 0 n) (n ∷ []) ∙ omega arith

pub count-next : (p : ℕ → Bool) (n : ℕ) → count_by p (range_with_len 0 (n + 1)) ≡ count_by p (range_with_len 0 n) + cond (p n) 1 0
count-next p n = sum-next (λ x. cond (p x) 1 0) n

-- one more number is counted
pub count-more : (p : ℕ → Bool) (n total new : ℕ) (r : Bool) → total ≡ count_by p (range_with_len 0 n) → r ≡ p n → new ≡ total + cond r 1 0
    → new ≡ count_by p (range_with_len 0 (n + 1))
count-more p n total new r so_far here is =
    is ∙ ap (λ k. k + cond r 1 0) so_far ∙ ap (λ b. count_by p (range_with_len 0 n) + cond b 1 0) here ∙ sym (count-next p n)

-- one more number is added
pub sum-more : (f : ℕ → ℕ) (n total new value : ℕ) → total ≡ sum_by f (range_with_len 0 n) → value ≡ f n → new ≡ total + value
    → new ≡ sum_by f (range_with_len 0 (n + 1))
sum-more f n total new value so_far here is = is ∙ ap (λ k. k + value) so_far ∙ ap (λ k. sum_by f (range_with_len 0 n) + k) here ∙ sym (sum-next f n)

-- what the kernel says of two lists is whether they are pointwise the same
pub same-pointwise : (r : Bool) (a b : List ℕ) → MatchBool r (a ≡ b) (a ≢ b) → r ≡ pointwise nat_eq a b
same-pointwise true a b same = sym ((bytes_eq-Decides a b).1 same)
same-pointwise false a b other =
    elim (pointwise nat_eq a b) as (λ t. pointwise nat_eq a b ≡ t → false ≡ t) [
      | true ↦ λ e. absurd (other ((bytes_eq-Decides a b).0 e))
      | false ↦ λ e. refl
    ] refl

map-same : (f g : ℕ → ℕ) (xs : List ℕ) → ((x : ℕ) → f x ≡ g x) → map f xs ≡ map g xs
map-same f g [] each = refl
map-same f g (x ∷ xs) each = rw (each x, map-same f g xs each) refl

-- every group is in the base of the full view
full-present : (i : Image) (v : Views) (g : ℕ) → g < length (groups_of i).starts + 1 → is_present (built_view i v 0).base [] g ≡ true
full-present i v g within = rw (get_or-map-range_with_len (is_based v (groups_of i) 0) 0 (length (groups_of i).starts + 1) g g false within (omega arith)) refl

-- the full view has the halfwords of the text
pub full-mask : (i : Image) (v : Views) → mask_of (built_view i v 0) ≡ text_halves (bytes_of i.ranges)
full-mask i v =
    map-same (masked (built_view i v 0)) (half_of (bytes_of i.ranges)) (range_with_len 0 (length (bytes_of i.ranges) / 2))
    (λ n. rw (full-present i v (group_in (groups_of i).starts (2 * n)) (omega (arith, count_by-le-length (λ start. nat_le start (2 * n)) (groups_of i).starts))) refl)
