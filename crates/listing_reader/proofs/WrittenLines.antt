-- Lines as a listing has them are read as what they were written for.
use Rattle.std.proofs.Common.{◌≡◌, ℕ, zero, suc, ◌+◌, ◌-◌, ◌*◌, ◌/◌, ◌%◌, ◌^◌, ◌<◌, ◌≤◌, true, false, cond, List, [], ◌∷◌, ◌++◌, length, take, Some, None, refl, ap, sym, ◌∙◌, subst, arith, ltb}
use Rattle.std.specs.Prelude.{◌==◌, codes, bytes_eq, option_map}
use Rattle.std.specs.Fmt.{decimal, digits}
use Rattle.std.proofs.lemmas.Bool.{false≢true, both_ways, lt-ltb, le-leb, le-ltb, eq-eqb, ne_eqb}
use Rattle.std.proofs.lemmas.Slice.Eq.{bytes_eq-Decides}
use Rattle.listing_reader.specs.declared.line.Line.{Line}
use Rattle.listing_reader.specs.declared.line.Line.TheVariants.{Head, Zeros, Wide, Short}
use Rattle.listing_reader.specs.declared.line.TheConstants.{HALVES_MOST, COUNT_DIGITS}
use Rattle.listing_reader.specs.Lines.{cut_at, digit_value, digits_of, line_by_form, is_name, is_place, is_within_addresses, line_of_text, number_behind, number_in, place_of_word, printed_number}
use Rattle.listing_reader.specs.Reading.{lines_of_listing, read_after, read_from}
use Rattle.listing_reader.specs.Written.{IsLineOf, IsOneLine, written_place}
use Rattle.listing_reader.proofs.Cuts.{is_free, cut-free, cut-none, free-none, free-append}
use Rattle.listing_reader.proofs.Digits.{printed-digits, printed-free}
use Rattle.listing_reader.proofs.ReadLemmas.{read-free}

some-none : (m : ℕ) → None ≡ Some m → ⊥
some-none m e = cc

-- a byte that is no digit is not among digits
number-free : (b base n m : ℕ) (ds : List ℕ) → base ≤ digit_value b → number_behind base n ds ≡ Some m → is_free b ds ≡ true
number-free b base n m [] none e = refl
number-free b base n m (x ∷ xs) none e =
    elim (ltb (digit_value x) base) as (λ t. ltb (digit_value x) base ≡ t → cond t (number_behind base (n * base + digit_value x) xs) None ≡ Some m → is_free b (x ∷ xs) ≡ true) [
      | true ↦ λ is e.
          let other : (x == b) ≡ false = ne_eqb x b (λ same. both_ways (ltb (digit_value x) base) (le-ltb (digit_value x) base (subst (λ y. base ≤ digit_value y) (sym same) none)) is) in
          ap (λ t. cond t false (is_free b xs)) other ∙ number-free b base (n * base + digit_value x) m xs none e
      | false ↦ λ is e. absurd (some-none m e)
    ] refl e

free-take : (b n : ℕ) (xs : List ℕ) → is_free b xs ≡ true → is_free b (take n xs) ≡ true
free-take b zero xs f = refl
free-take b (suc n) [] f = refl
free-take b (suc n) (x ∷ xs) f =
    elim (x == b) as (λ t. cond t false (is_free b xs) ≡ true → cond t false (is_free b (take n xs)) ≡ true) [
      | true ↦ λ f. absurd (false≢true f)
      | false ↦ λ f. free-take b n xs f
    ] f

-- bytes without a byte that other bytes have are not those
free-other : (b : ℕ) (xs ys : List ℕ) → is_free b xs ≡ true → is_free b ys ≡ false → bytes_eq xs ys ≡ false
free-other b xs ys f has =
    elim (bytes_eq xs ys) as (λ t. bytes_eq xs ys ≡ t → t ≡ false) [
      | true ↦ λ e. absurd (both_ways (is_free b xs) (ap (is_free b) ((bytes_eq-Decides xs ys).0 e) ∙ has) f)
      | false ↦ λ e. refl
    ] refl

-- digits are no place, and not the word of zeros
no-place : (word : List ℕ) (n : ℕ) → number_in 16 word ≡ Some n → is_place word ≡ false
no-place word n e = free-other 0x78 (take 2 word) (codes "0x") (free-take 0x78 2 word (number-free 0x78 16 0 n word (omega arith) e)) refl

no-zeros : (word : List ℕ) (n : ℕ) → number_in 16 word ≡ Some n → bytes_eq word (codes "zero") ≡ false
no-zeros word n e = free-other 0x7a word (codes "zero") (number-free 0x7a 16 0 n word (omega arith) e) refl

-- a place is read as it is written
place-read : (at : ℕ) → at < 2 ^ 64 → place_of_word (written_place at) ≡ Some at
place-read at small = printed-digits 16 15 at (omega arith) (omega arith) (omega (arith, small)) (omega (arith, small))

place-word : (at : ℕ) → is_free 0x20 (written_place at) ≡ true
place-word at = printed-free 0x20 16 at (omega arith)

place-line : (at : ℕ) → is_free 0x0a (written_place at) ≡ true
place-line at = printed-free 0x0a 16 at (omega arith)

-- a line of a place, a word and what stands behind it
line-says : (at : ℕ) (rest word behind : List ℕ) (line : Line) → at < 2 ^ 64 → cut_at 0x20 rest ≡ Some (word, behind) → line_by_form at word behind ≡ Some line → is_within_addresses line ≡ true
    → line_of_text (written_place at ++ 0x20 ∷ rest) ≡ Some line
unfolding line_of_text
line-says at rest word behind line small cut form within =
    rw (cut-free 0x20 (written_place at) rest (place-word at), place-read at small, cut, form, within) refl

pub heads_read : (start end : ℕ) (name : List ℕ) → start < 2 ^ 64 → end < 2 ^ 64 → is_name name ≡ true → IsOneLine name
    → IsLineOf Head (written_place start ++ 0x20 ∷ (written_place end ++ 0x20 ∷ name))
heads_read start end name low high named one =
    let form : line_by_form start (written_place end) name ≡ Some Head = rw (place-read end high, named) refl in (
      free-none 0x0a (written_place start ++ 0x20 ∷ (written_place end ++ 0x20 ∷ name))
          (free-append 0x0a (written_place start) (0x20 ∷ (written_place end ++ 0x20 ∷ name)) (place-line start) (free-append 0x0a (written_place end) (0x20 ∷ name) (place-line end) (cut-none 0x0a name one))),
      line-says start (written_place end ++ 0x20 ∷ name) (written_place end) name Head low (cut-free 0x20 (written_place end) name (place-word end)) form refl,
    )

pub zeros_read : (at count : ℕ) → 1 ≤ count → count ≤ HALVES_MOST → at + 2 * (count - 1) < 2 ^ 64
    → IsLineOf (Zeros at count) (written_place at ++ 0x20 ∷ (codes "zero" ++ 0x20 ∷ decimal count))
zeros_read at count some few within =
    let number : printed_number 10 COUNT_DIGITS (decimal count) ≡ Some count = printed-digits 10 6 count (omega arith) (omega arith) (omega (arith, few)) (omega (arith, few)) in
    let least = le-leb 1 count some in
    let most = le-leb count HALVES_MOST few in
    let form : line_by_form at (codes "zero") (decimal count) ≡ Some (Zeros at count) = rw (number, least, most) refl in (
      free-none 0x0a (written_place at ++ 0x20 ∷ (codes "zero" ++ 0x20 ∷ decimal count))
          (free-append 0x0a (written_place at) (0x20 ∷ (codes "zero" ++ 0x20 ∷ decimal count)) (place-line at) (printed-free 0x0a 10 count (omega arith))),
      line-says at (codes "zero" ++ 0x20 ∷ decimal count) (codes "zero") (decimal count) (Zeros at count) (omega (arith, within)) refl form (lt-ltb (at + 2 * (count - 1)) (2 ^ 64) within),
    )

-- a line of digits
word-line : (at n : ℕ) (word behind : List ℕ) (line : Line) → at < 2 ^ 64 → number_in 16 word ≡ Some n → IsOneLine behind → digits_of at word ≡ Some line → is_within_addresses line ≡ true
    → IsLineOf line (written_place at ++ 0x20 ∷ (word ++ 0x20 ∷ behind))
word-line at n word behind line small number one made within =
    let form : line_by_form at word behind ≡ Some line = rw (no-place word n number, no-zeros word n number) made in (
      free-none 0x0a (written_place at ++ 0x20 ∷ (word ++ 0x20 ∷ behind))
          (free-append 0x0a (written_place at) (0x20 ∷ (word ++ 0x20 ∷ behind)) (place-line at) (free-append 0x0a word (0x20 ∷ behind) (number-free 0x0a 16 0 n word (omega arith) number) (cut-none 0x0a behind one))),
      line-says at (word ++ 0x20 ∷ behind) word behind line small (cut-free 0x20 word behind (number-free 0x20 16 0 n word (omega arith) number)) form within,
    )

pub shorts_read : (at half : ℕ) (word behind : List ℕ) → at < 2 ^ 64 → length word ≡ 4 → number_in 16 word ≡ Some half → IsOneLine behind
    → IsLineOf (Short at half) (written_place at ++ 0x20 ∷ (word ++ 0x20 ∷ behind))
shorts_read at half word behind small long number one =
    let four = eq-eqb (length word) 4 long in
    word-line at half word behind (Short at half) small number one (rw (four, number) refl) (lt-ltb (at + 2 * (1 - 1)) (2 ^ 64) (omega (arith, small)))

pub wides_read : (at low high : ℕ) (word behind : List ℕ) → at + 2 < 2 ^ 64 → low < 65536 → length word ≡ 8 → number_in 16 word ≡ Some (low + 65536 * high) → IsOneLine behind
    → IsLineOf (Wide at low high) (written_place at ++ 0x20 ∷ (word ++ 0x20 ∷ behind))
wides_read at low high word behind small half long number one =
    let not_four : (length word == 4) ≡ false = ne_eqb (length word) 4 (λ e. omega (arith, long, e)) in
    let eight = eq-eqb (length word) 8 long in
    let rest : (low + 65536 * high) % 65536 ≡ low = omega (arith, half) in
    let whole : (low + 65536 * high) / 65536 ≡ high = omega (arith, half) in
    word-line at (low + 65536 * high) word behind (Wide at low high) (omega (arith, small)) number one (rw (not_four, eight, number, rest, whole) refl) (lt-ltb (at + 2 * (2 - 1)) (2 ^ 64) (omega (arith, small)))

pub lines_read : (n before : ℕ) (line : Line) (text more : List ℕ) → IsLineOf line text
    → read_from n before (lines_of_listing (text ++ 0x0a ∷ more)) ≡ read_after n before (Some (line, more))
lines_read n before line text more is =
    read-free text more n before (cut-none 0x0a text is.0) ∙ ap (λ o. read_after n before (option_map (λ l. (l, more)) o)) is.1

pub numbers_lines : (base n : ℕ) → IsOneLine (digits base false n)
numbers_lines base n = free-none 0x0a (digits base false n) (printed-free 0x0a base n (omega arith))
