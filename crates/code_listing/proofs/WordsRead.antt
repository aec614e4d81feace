-- The digits of halfwords are read as these.
use Rattle.std.proofs.Common.{◌≡◌, ℕ, zero, suc, ◌+◌, ◌*◌, ◌/◌, ◌%◌, ◌<◌, cond, List, [], ◌∷◌, ◌++◌, length, Some, None, refl, ap, ◌∙◌, arith, ltb}
use Rattle.std.specs.Prelude.{slice_index}
use Rattle.std.proofs.lemmas.Bool.{lt-ltb, cond-true}
use Rattle.hex.specs.Hex.{encode_with, lower_digits}
use Rattle.listing_reader.specs.Lines.{digit_value, number_behind, number_in}
use Rattle.code_listing.specs.Lines.{half_digits}

digit-read : (d : ℕ) → d < 16 → digit_value (slice_index lower_digits d) ≡ d
digit-read zero small = refl
digit-read (suc zero) small = refl
digit-read (suc (suc zero)) small = refl
digit-read (suc (suc (suc zero))) small = refl
digit-read (suc (suc (suc (suc zero)))) small = refl
digit-read (suc (suc (suc (suc (suc zero))))) small = refl
digit-read (suc (suc (suc (suc (suc (suc zero)))))) small = refl
digit-read (suc (suc (suc (suc (suc (suc (suc zero))))))) small = refl
digit-read (suc (suc (suc (suc (suc (suc (suc (suc zero)))))))) small = refl
digit-read (suc (suc (suc (suc (suc (suc (suc (suc (suc zero))))))))) small = refl
digit-read (suc (suc (suc (suc (suc (suc (suc (suc (suc (suc zero)))))))))) small = refl
digit-read (suc (suc (suc (suc (suc (suc (suc (suc (suc (suc (suc zero))))))))))) small = refl
digit-read (suc (suc (suc (suc (suc (suc (suc (suc (suc (suc (suc (suc zero)))))))))))) small = refl
digit-read (suc (suc (suc (suc (suc (suc (suc (suc (suc (suc (suc (suc (suc zero))))))))))))) small = refl
digit-read (suc (suc (suc (suc (suc (suc (suc (suc (suc (suc (suc (suc (suc (suc zero)))))))))))))) small = refl
digit-read (suc (suc (suc (suc (suc (suc (suc (suc (suc (suc (suc (suc (suc (suc (suc zero))))))))))))))) small = refl
digit-read (suc (suc (suc (suc (suc (suc (suc (suc (suc (suc (suc (suc (suc (suc (suc (suc n)))))))))))))))) small = absurd (omega (arith, small))

-- one more digit
next-digit : (m d : ℕ) (more : List ℕ) → d < 16 → number_behind 16 m (slice_index lower_digits d ∷ more) ≡ number_behind 16 (m * 16 + d) more
next-digit m d more small =
    ap (λ v. cond (ltb v 16) (number_behind 16 (m * 16 + v) more) None) (digit-read d small)
    ∙ cond-true (ltb d 16) (number_behind 16 (m * 16 + d) more) None (lt-ltb d 16 small)

-- the two of a byte
next-byte : (m b : ℕ) (more : List ℕ) → b < 256 → number_behind 16 m (slice_index lower_digits (b / 16) ∷ slice_index lower_digits (b % 16) ∷ more) ≡ number_behind 16 (m * 256 + b) more
next-byte m b more small =
    let whole : (m * 16 + b / 16) * 16 + b % 16 ≡ m * 256 + b = omega arith in
    next-digit m (b / 16) (slice_index lower_digits (b % 16) ∷ more) (omega (arith, small)) ∙ next-digit (m * 16 + b / 16) (b % 16) more (omega arith)
    ∙ ap (λ k. number_behind 16 k more) whole

-- the four of a halfword
next-half : (m half : ℕ) (more : List ℕ) → half < 65536 → number_behind 16 m (half_digits half ++ more) ≡ number_behind 16 (m * 65536 + half) more
unfolding half_digits encode_with
next-half m half more small =
    let rest : List ℕ = slice_index lower_digits (half % 256 / 16) ∷ slice_index lower_digits (half % 256 % 16) ∷ more in
    let whole : (m * 256 + half / 256) * 256 + half % 256 ≡ m * 65536 + half = omega arith in
    next-byte m (half / 256) rest (omega (arith, small)) ∙ next-byte (m * 256 + half / 256) (half % 256) more (omega arith) ∙ ap (λ k. number_behind 16 k more) whole

pub half-read : (half : ℕ) → half < 65536 → number_in 16 (half_digits half) ≡ Some half
unfolding half_digits encode_with
half-read half small = next-half 0 half [] small ∙ ap Some (omega arith)

pub word-read : (low high : ℕ) → low < 65536 → high < 65536 → number_in 16 (half_digits high ++ half_digits low) ≡ Some (low + 65536 * high)
unfolding half_digits encode_with
word-read low high small_low small_high =
    let whole : (0 * 65536 + high) * 65536 + low ≡ low + 65536 * high = omega arith in
    next-half 0 high (half_digits low) small_high ∙ next-half (0 * 65536 + high) low [] small_low ∙ ap Some whole

pub half-long : (half : ℕ) → length (half_digits half) ≡ 4
unfolding half_digits encode_with
half-long half = refl

pub word-long : (low high : ℕ) → length (half_digits high ++ half_digits low) ≡ 8
unfolding half_digits encode_with
word-long low high = refl
