-- The decimal text of a number, and what parsing it gives.
use Rattle.std.proofs.Common.{◌≡◌, ◌≢◌, ℕ, zero, suc, ◌^◌, ◌<◌, ◌≤◌, true, List, [], ◌∷◌, length, arith, refl, ◌∙◌, sym, ap, subst, Ok, decimal}
use Rattle.std.specs.Prelude.{codes, get_or, Result}
use Rattle.std.specs.Str.Parse.{AllDigits, IsNumeral, digits_value, without_leading_plus, ParsesUnsigned}
use Rattle.std.proofs.lemmas.Bool.Decides.{nat_tests}
use Rattle.std.proofs.lemmas.Fmt.{decimal_is_IsNumeral, decimal_nonempty, first_decimal, decimal_digit, decimal-digits_value}
use Rattle.std.proofs.lemmas.Str.Parse.{IsNumeralModel, digit_from_value}
use Rattle.command_frame.specs.Numbers.{is_plain}

own : IsNumeralModel (AllDigits 10) (digits_value 10)
own = record { to = λ ds p. p; from = λ ds p. p; same = λ ds p. refl }

plain-from : (bs : List ℕ) → 0 < length bs → 48 < get_or bs 0 0 → AllDigits 10 bs → is_plain bs ≡ true
plain-from [] some low digits = absurd (omega (arith, some))
plain-from (c ∷ cs) some low digits = let range = digit_from_value c digits.0 in grind (arith, nat_tests, low, range)

pub decimal-zero : decimal 0 ≡ codes "0"
decimal-zero = decimal_digit 0 (omega arith)

-- the text of a number is `0`, or begins with another digit
pub zero-or-plain : (n : ℕ) → n < 2 ^ 64 → decimal n ≢ codes "0" → is_plain (decimal n) ≡ true
zero-or-plain zero fits other = absurd (other decimal-zero)
zero-or-plain (suc n) fits other = plain-from (decimal (suc n)) (decimal_nonempty (suc n) fits) (first_decimal (suc n) (omega arith) fits) (decimal_is_IsNumeral (suc n) fits).0.1

unsigned : (bs : List ℕ) → is_plain bs ≡ true → without_leading_plus bs ≡ bs
unsigned [] e = absurd (cc)
unsigned (c ∷ cs) e = grind (arith, nat_tests, e)

first-plain : (bs : List ℕ) → is_plain bs ≡ true → get_or bs 0 0 ≢ 48
first-plain [] e same = absurd (cc)
first-plain (c ∷ cs) e same = grind (arith, nat_tests, e, same)

pub parsed-plain : {E : Type 0} (bs : List ℕ) (n : ℕ) (r : Result ℕ E) → is_plain bs ≡ true → ParsesUnsigned 64 10 bs r → r ≡ Ok n → (bs ≡ decimal n) × (n < 2 ^ 64)
parsed-plain bs n r e parses ok =
    let told = subst (λ x. ParsesUnsigned 64 10 bs x) ok parses in
    let same : without_leading_plus bs ≡ bs = unsigned bs e in
    let numeral : IsNumeral 10 bs = subst (IsNumeral 10) same told.0.0 in
    let small : digits_value 10 bs < 2 ^ 64 = subst (λ x. digits_value 10 x < 2 ^ 64) same told.0.1 in
    let value : n ≡ digits_value 10 bs = told.1 ∙ ap (digits_value 10) same in
    let text : decimal (digits_value 10 bs) ≡ bs = decimal-digits_value own bs numeral.1 numeral.0 (λ h. absurd (first-plain bs e h)) small in
    (sym text ∙ ap decimal (sym value), omega (arith, small, value))
