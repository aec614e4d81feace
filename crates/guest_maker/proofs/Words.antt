-- The words of text, read back.
use Rattle.std.proofs.Common.{◌≡◌, ℕ, zero, suc, ◌+◌, ◌-◌, ◌*◌, ◌^◌, ◌<◌, ◌≤◌, List, [], ◌∷◌, ◌++◌, length, take, drop, map, get_or, Option, Some, refl, sym, ap, ◌∙◌, arith, append_assoc}
use Rattle.std.specs.Prelude.{flat_map, slice_get, All}
use Rattle.std.specs.Int.{w32, to_le_bytes, from_le_bytes}
use Rattle.std.proofs.lemmas.Nat.{from_le_bytes-to_le_bytes_4}
use Rattle.std.proofs.lemmas.List.{append-nil, length-map}
use Rattle.guest_maker.specs.Text.{word_in_text, word_bytes}

head_same : {A : Type 0} (x y : A) (xs ys : List A) → x ∷ xs ≡ y ∷ ys → (x ≡ y) × (xs ≡ ys)
head_same x y xs ys e = (cc, cc)

pub meaning : {A : Type 0} (f : ℕ → Option A) (ws : List ℕ) (code : List A) (k : ℕ) → map f ws ≡ map Some code → k < length code → f (get_or ws k 0) ≡ slice_get code k
meaning f [] [] k e less = absurd (omega (arith, less))
meaning f [] (c ∷ cs) k e less = absurd cc
meaning f (w ∷ ws) [] k e less = absurd (omega (arith, less))
meaning f (w ∷ ws) (c ∷ cs) zero e less = (head_same (f w) (Some c) (map f ws) (map Some cs) e).0
meaning f (w ∷ ws) (c ∷ cs) (suc k) e less =
    meaning f ws cs k (head_same (f w) (Some c) (map f ws) (map Some cs) e).1 (omega (arith, less))

pub same_length : {A : Type 0} (f : ℕ → Option A) (ws : List ℕ) (code : List A) → map f ws ≡ map Some code → length ws ≡ length code
same_length f ws code e = sym (length-map ws f) ∙ ap length e ∙ length-map code Some

-- four bytes of the words are those of the word there
word_there : (ws : List ℕ) (rest : List ℕ) (k : ℕ) → k < length ws → take 4 (drop (4 * k) (word_bytes ws ++ rest)) ≡ to_le_bytes w32 (get_or ws k 0)
word_there [] rest k less = absurd (omega (arith, less))
word_there (w ∷ ws) rest zero less = refl
word_there (w ∷ ws) rest (suc k) less =
    let more : 4 * suc k ≡ suc (suc (suc (suc (4 * k)))) = omega arith in
    ap (λ n. take 4 (drop n (word_bytes (w ∷ ws) ++ rest))) more ∙ word_there ws rest k (omega (arith, less))

pub word_read : (ws : List ℕ) (rest : List ℕ) (k : ℕ) → All (λ w. w < 2 ^ 32) ws → k < length ws → word_in_text (word_bytes ws ++ rest) (4 * k) ≡ get_or ws k 0
word_read ws rest k small less =
    let four : 4 * k + 4 - 4 * k ≡ 4 = omega arith in
    ap (λ n. from_le_bytes w32 (take n (drop (4 * k) (word_bytes ws ++ rest)))) four
    ∙ ap (from_le_bytes w32) (word_there ws rest k less)
    ∙ from_le_bytes-to_le_bytes_4 (get_or ws k 0) (small k 0 less)

-- words that decode to instructions, read back from text that begins with their bytes
pub read_back : {A : Type 0} (f : ℕ → Option A) (ws : List ℕ) (code : List A) (rest : List ℕ) → map f ws ≡ map Some code → All (λ w. w < 2 ^ 32) ws
    → (k : ℕ) → k < length code → f (word_in_text (word_bytes ws ++ rest) (4 * k)) ≡ slice_get code k
read_back f ws code rest means small k less =
    ap f (word_read ws rest k small (omega (arith, less, same_length f ws code means))) ∙ meaning f ws code k means less
