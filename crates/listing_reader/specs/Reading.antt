-- What a listing holds: the halfwords of its lines, or the first line that is refused.
use Rattle.std.specs.Prelude.{◌≡◌, ℕ, ◌+◌, ◌==◌, Bool, nat_le, if◌then◌else◌, List, [], ◌∷◌, ◌++◌, Option, Some, None, Result, Ok, Err}
use Rattle.listing_reader.specs.declared.fault.ListFault.{ListFault}
use Rattle.listing_reader.specs.declared.fault.ListFault.TheVariants.{NotListing, TooMany, NoMemory}
use Rattle.listing_reader.specs.declared.line.Line.{Line}
use Rattle.listing_reader.specs.declared.line.TheConstants.{HALVES_MOST}
use Rattle.listing_reader.specs.declared.reading.Held.{Held}
use Rattle.listing_reader.specs.Lines.{cut_at, line_halves, line_of_text, line_place, line_size}
use Rattle.listing_reader.specs.Lines as lines

abbrev pub before_first_line : ℕ → List (List ℕ) → List (List ℕ)
before_first_line byte [] = (byte ∷ []) ∷ []
before_first_line byte (line ∷ lines) = (byte ∷ line) ∷ lines

-- the lines of bytes, each with the newline that ends it; what stands behind the last newline is a line without one
abbrev pub lines_of_listing : List ℕ → List (List ℕ)
lines_of_listing [] = []
lines_of_listing (byte ∷ bytes) = if byte == 0x0a then (byte ∷ []) ∷ lines_of_listing bytes else before_first_line byte (lines_of_listing bytes)

-- what a line with its newline says; one without has no form
abbrev pub line_in : List ℕ → Option Line
line_in bytes = lines.◌>>=◌ (cut_at 0x0a bytes) (λ cut. line_of_text cut.0)

-- halfwords with their places, which go on by twos
abbrev pub held_from : ℕ → List ℕ → List Held
held_from at [] = []
held_from at (half ∷ halves) = record { at = at; half = half } ∷ held_from (at + 2) halves

-- a step that is taken where the step before gave something
infixl 10 ◌>>=◌
abbrev pub ◌>>=◌ : {A B : Type 0} → Result A ListFault → (A → Result B ListFault) → Result B ListFault
(Ok x) >>= f = f x
(Err fault) >>= f = Err fault

abbrev pub or_list_fault : {A : Type 0} → ListFault → Option A → Result A ListFault
or_list_fault fault (Some x) = Ok x
or_list_fault fault None = Err fault

abbrev pub must_hold : ListFault → Bool → Result (Unit {0}) ListFault
must_hold fault test = if test then Ok tt else Err fault

-- what the lines from number n on hold, behind lines that hold so many halfwords
abbrev pub read_from : ℕ → ℕ → List (List ℕ) → Result (List Held) ListFault
read_from n before [] = Ok []
read_from n before (bytes ∷ more) = do
  line ← or_list_fault (NotListing n) (line_in bytes)
  few ← must_hold (TooMany n) (nat_le (before + line_size line) HALVES_MOST)
  rest ← read_from (n + 1) (before + line_size line) more
  Ok (held_from (line_place line) (line_halves line) ++ rest)

-- the same where the first line is this, with what stands behind it; None is one without a form
abbrev pub read_after : ℕ → ℕ → Option (Line × List ℕ) → Result (List Held) ListFault
read_after n before None = Err (NotListing n)
read_after n before (Some next) = do
  few ← must_hold (TooMany n) (nat_le (before + line_size next.0) HALVES_MOST)
  rest ← read_from (n + 1) (before + line_size next.0) (lines_of_listing next.1)
  Ok (held_from (line_place next.0) (line_halves next.0) ++ rest)

-- what a listing holds
unfoldable pub halves_read : List ℕ → Result (List Held) ListFault
halves_read bytes = read_from 0 0 (lines_of_listing bytes)

-- what a reader returned, seen by a view, against what the listing holds; want of memory alone is free
abbrev pub AnswersListing : {X : Type 0} → (X → List Held) → Result X ListFault → Result (List Held) ListFault → Type 0
AnswersListing view (Ok x) read = read ≡ Ok (view x)
AnswersListing view (Err NoMemory) read = Unit {0}
AnswersListing view (Err fault) read = read ≡ Err fault
