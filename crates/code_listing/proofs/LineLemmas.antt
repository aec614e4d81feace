-- One more item of a listing, and one more group.
use Rattle.std.proofs.Common.{◌≡◌, ℕ, zero, suc, ◌+◌, ◌*◌, List, [], ◌∷◌, ◌++◌, drop, refl, arith, sym, ap, ◌∙◌, drop-drop, append_assoc, add-zero}
use Rattle.std.specs.List.{flat_map, range_with_len}
use Rattle.std.proofs.lemmas.List.Concat.{flat_map-append}
use Rattle.code_listing.specs.declared.items.Item.{Item}
use Rattle.code_listing.specs.Items.{items_of, size_of_item}
use Rattle.code_listing.specs.Lines.{item_line, item_lines}

-- one more number at the end
pub range-more : (a n : ℕ) → range_with_len a (suc n) ≡ range_with_len a n ++ (a + n) ∷ []
range-more a zero = rw add-zero refl
range-more a (suc n) =
    let next : a + 1 + n ≡ a + suc n = omega arith in
    ap (λ xs. a ∷ xs) (range-more (a + 1) n ∙ ap (λ x. range_with_len (a + 1) n ++ x ∷ []) next)

pub range-next : (n : ℕ) → range_with_len 0 (n + 1) ≡ range_with_len 0 n ++ n ∷ []
range-next n =
    let one : n + 1 ≡ suc n = omega arith in
    let none : 0 + n ≡ n = omega arith in
    ap (λ m. range_with_len 0 m) one ∙ range-more 0 n ∙ ap (λ x. range_with_len 0 n ++ x ∷ []) none

append_nil : (xs : List ℕ) → xs ++ [] ≡ xs
append_nil [] = refl
append_nil (x ∷ xs) = ap (λ ys. x ∷ ys) (append_nil xs)

-- the text of one more group
pub flat-more : (f : ℕ → List ℕ) (n : ℕ) → flat_map f (range_with_len 0 (n + 1)) ≡ flat_map f (range_with_len 0 n) ++ f n
flat-more f n =
    ap (λ xs. flat_map f xs) (range-next n) ∙ flat_map-append f (range_with_len 0 n) (n ∷ []) ∙ ap (λ xs. flat_map f (range_with_len 0 n) ++ xs) (append_nil (f n))

-- the line of one more item
pub line-more : (place at : ℕ) (halves out more whole : List ℕ) (item : Item) → items_of (drop at halves) ≡ item ∷ items_of (drop (size_of_item item) (drop at halves))
    → more ≡ out ++ item_line (place + 2 * at) item → out ++ item_lines (place + 2 * at) (items_of (drop at halves)) ≡ whole
    → more ++ item_lines (place + 2 * (at + size_of_item item)) (items_of (drop (at + size_of_item item) halves)) ≡ whole
line-more place at halves out more whole item first is_more before =
    let rest : drop (size_of_item item) (drop at halves) ≡ drop (at + size_of_item item) halves = drop-drop (size_of_item item) at halves in
    let next : place + 2 * (at + size_of_item item) ≡ place + 2 * at + 2 * size_of_item item = omega arith in
    rw (is_more, next, ← rest)
    (append_assoc out (item_line (place + 2 * at) item) (item_lines (place + 2 * at + 2 * size_of_item item) (items_of (drop (size_of_item item) (drop at halves))))
    ∙ (ap (λ items. out ++ item_lines (place + 2 * at) items) (sym first) ∙ before))
