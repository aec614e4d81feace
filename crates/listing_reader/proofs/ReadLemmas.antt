-- One more line read.
use Rattle.std.proofs.Common.{◌≡◌, ℕ, zero, suc, ◌+◌, ◌<◌, Bool, true, false, List, [], ◌∷◌, ◌++◌, length, Option, Some, None, Result, Ok, Err, refl, ap, sym, ◌∙◌, subst, arith, append_assoc, append-nil, length-append, ◌≤◌, ◌*◌, replicate}
use Rattle.std.proofs.lemmas.Bool.{le-leb, lt-leb}
use Rattle.std.proofs.lemmas.List.{length-replicate}
use Rattle.listing_reader.specs.declared.fault.ListFault.{ListFault}
use Rattle.listing_reader.specs.declared.reading.Held.{Held}
use Rattle.listing_reader.specs.declared.line.Line.TheVariants.{Head, Zeros, Wide, Short}
use Rattle.std.specs.Prelude.{option_map, nat_le}
use Rattle.listing_reader.specs.declared.fault.ListFault.TheVariants.{NotListing, TooMany}
use Rattle.listing_reader.specs.declared.line.Line.{Line}
use Rattle.listing_reader.specs.declared.line.TheConstants.{HALVES_MOST}
use Rattle.listing_reader.specs.Lines.{cut_at, line_halves, line_of_text, line_place, line_size}
use Rattle.listing_reader.specs.Reading.{◌>>=◌, halves_read, held_from, line_in, lines_of_listing, must_hold, or_list_fault, read_after, read_from}
use Rattle.listing_reader.proofs.Cuts.{is_free, cut-free, cut-is, cut-none, lines-free, lines-alone}

-- a line with its newline says what it says without
pub line-ended : (text : List ℕ) → is_free 0x0a text ≡ true → line_in (text ++ 0x0a ∷ []) ≡ line_of_text text
line-ended text f = rw (cut-free 0x0a text [] f) refl

-- bytes without a newline are refused
pub read-none : (bytes : List ℕ) (n before : ℕ) → 0 < length bytes → cut_at 0x0a bytes ≡ None → read_from n before (lines_of_listing bytes) ≡ Err (NotListing n)
read-none [] n before some e = absurd (omega (arith, some))
read-none (x ∷ xs) n before some e = rw (lines-alone x xs (cut-none 0x0a (x ∷ xs) e), e) refl

-- bytes whose first line is this
pub read-free : (text more : List ℕ) (n before : ℕ) → is_free 0x0a text ≡ true
    → read_from n before (lines_of_listing (text ++ 0x0a ∷ more)) ≡ read_after n before (option_map (λ line. (line, more)) (line_of_text text))
read-free text more n before f =
    ap (read_from n before) (lines-free text more f)
    ∙ (rw (line-ended text f) (elim (line_of_text text) as (λ (o : Option Line). or_list_fault (NotListing n) o >>= (λ line. must_hold (TooMany n) (nat_le (before + line_size line) HALVES_MOST) >>= (λ few. read_from (n + 1) (before + line_size line) (lines_of_listing more) >>= (λ rest. Ok (held_from (line_place line) (line_halves line) ++ rest))))
    ≡ read_after n before (option_map (λ line. (line, more)) o)) [ None ↦ refl | Some line ↦ refl ]))

-- bytes that are cut at their first newline
pub read-cut : (bytes : List ℕ) (cut : List ℕ × List ℕ) (n before : ℕ) → cut_at 0x0a bytes ≡ Some cut
    → read_from n before (lines_of_listing bytes) ≡ read_after n before (option_map (λ line. (line, cut.1)) (line_of_text cut.0))
read-cut bytes cut n before e =
    let is = cut-is 0x0a bytes cut e in
    ap (λ b. read_from n before (lines_of_listing b)) is.0 ∙ read-free cut.0 cut.1 n before is.1

-- what is made of a first line, with what stands behind it
abbrev pub with_behind : List ℕ → Option Line → Option (Line × List ℕ)
with_behind behind None = None
with_behind behind (Some line) = Some (line, behind)

made-behind : (behind : List ℕ) (o : Option Line) → option_map (λ line. (line, behind)) o ≡ with_behind behind o
made-behind behind None = refl
made-behind behind (Some line) = refl

pub read-first : (bytes text behind : List ℕ) (o : Option Line) (n before : ℕ) → Some (text, behind) ≡ cut_at 0x0a bytes → o ≡ line_of_text text
    → read_from n before (lines_of_listing bytes) ≡ read_after n before (with_behind behind o)
read-first bytes text behind o n before cut line =
    read-cut bytes (text, behind) n before (sym cut) ∙ ap (read_after n before) (made-behind behind (line_of_text text) ∙ ap (with_behind behind) (sym line))

abbrev pub joined : List Held → Result (List Held) ListFault → Result (List Held) ListFault
joined held (Ok more) = Ok (held ++ more)
joined held (Err fault) = Err fault

pub held-length : (at : ℕ) (halves : List ℕ) → length (held_from at halves) ≡ length halves
held-length at [] = refl
held-length at (half ∷ halves) = ap suc (held-length (at + 2) halves)

pub line-length : (line : Line) → length (held_from (line_place line) (line_halves line)) ≡ line_size line
line-length Head = refl
line-length (Zeros at count) = held-length at (replicate count 0) ∙ length-replicate count 0
line-length (Wide at low high) = refl
line-length (Short at half) = refl

-- one more line
pub read-more : (n : ℕ) (held : List Held) (line : Line) (rest : List ℕ) → length held + line_size line ≤ HALVES_MOST
    → joined held (read_after n (length held) (Some (line, rest)))
    ≡ joined (held ++ held_from (line_place line) (line_halves line)) (read_from (n + 1) (length (held ++ held_from (line_place line) (line_halves line))) (lines_of_listing rest))
read-more n held line rest few =
    let new = held_from (line_place line) (line_halves line) in
    let long : length (held ++ new) ≡ length held + line_size line = length-append held new ∙ ap (λ k. length held + k) (line-length line) in
    let test = le-leb (length held + line_size line) HALVES_MOST few in
    rw (test, long) (elim (read_from (n + 1) (length held + line_size line) (lines_of_listing rest)) as (λ (r : Result (List Held) ListFault). joined held (r >>= (λ more. Ok (new ++ more))) ≡ joined (held ++ new) r) [
      | Ok more ↦ ap (λ xs. Ok xs) (sym (append_assoc held new more))
      | Err fault ↦ refl
    ])

-- a line with which there are too many halfwords
pub read-many : (n before : ℕ) (line : Line) (rest : List ℕ) → HALVES_MOST < before + line_size line → read_after n before (Some (line, rest)) ≡ Err (TooMany n)
read-many n before line rest many = rw (lt-leb (before + line_size line) HALVES_MOST many) refl

-- one more zero
pub zeros-more : (at k : ℕ) → held_from at (replicate (k + 1) 0) ≡ held_from at (replicate k 0) ++ held_from (at + 2 * k) (0 ∷ [])
zeros-more at zero = let none : at + 2 * 0 ≡ at = omega arith in rw none refl
zeros-more at (suc k) =
    let next : suc k + 1 ≡ suc (k + 1) = omega arith in
    let place : at + 2 + 2 * k ≡ at + 2 * suc k = omega arith in
    rw next (ap (λ xs. record { at = at; half = 0 } ∷ xs) (rw (← place) (zeros-more (at + 2) k)))

pub zeros-next : (start before after : List Held) (at k : ℕ) → after ≡ before ++ held_from (at + 2 * k) (0 ∷ []) → before ≡ start ++ held_from at (replicate k 0)
    → after ≡ start ++ held_from at (replicate (k + 1) 0)
zeros-next start before after at k last so_far =
    last ∙ ap (λ xs. xs ++ held_from (at + 2 * k) (0 ∷ [])) so_far
    ∙ append_assoc start (held_from at (replicate k 0)) (held_from (at + 2 * k) (0 ∷ []))
    ∙ ap (λ xs. start ++ xs) (sym (zeros-more at k))

pub read-start : (held : List Held) (bytes : List ℕ) → held ≡ [] → joined held (read_from 0 (length held) (lines_of_listing bytes)) ≡ halves_read bytes
unfolding halves_read
read-start held bytes e =
    ap (λ xs. joined xs (read_from 0 (length xs) (lines_of_listing bytes))) e
    ∙ elim (read_from 0 0 (lines_of_listing bytes)) as (λ (r : Result (List Held) ListFault). joined [] r ≡ r) [ Ok more ↦ refl | Err fault ↦ refl ]

-- the step of the loop: one more line is read
pub read-next : (n : ℕ) (held new : List Held) (line : Line) (rest behind : List ℕ) (total : Result (List Held) ListFault)
    → new ≡ held ++ held_from (line_place line) (line_halves line) → length held + line_size line ≤ HALVES_MOST
    → read_from n (length held) (lines_of_listing rest) ≡ read_after n (length held) (Some (line, behind))
    → joined held (read_from n (length held) (lines_of_listing rest)) ≡ total → joined new (read_from (n + 1) (length new) (lines_of_listing behind)) ≡ total
read-next n held new line rest behind total is few read before =
    ap (λ xs. joined xs (read_from (n + 1) (length xs) (lines_of_listing behind))) is ∙ sym (read-more n held line behind few) ∙ ap (joined held) (sym read) ∙ before

-- the ends of the loop: nothing is left, or a line is refused
pub read-end : (n : ℕ) (held : List Held) (rest : List ℕ) (total : Result (List Held) ListFault) → length rest ≡ 0
    → joined held (read_from n (length held) (lines_of_listing rest)) ≡ total → total ≡ Ok held
read-end n held [] total none before = sym before ∙ ap (λ xs. Ok xs) (append-nil held)
read-end n held (x ∷ xs) total none before = absurd (omega (arith, none))

pub read-refused : (n : ℕ) (held : List Held) (rest : List ℕ) (fault : ListFault) (total : Result (List Held) ListFault)
    → read_from n (length held) (lines_of_listing rest) ≡ Err fault → joined held (read_from n (length held) (lines_of_listing rest)) ≡ total → total ≡ Err fault
read-refused n held rest fault total read before = sym before ∙ ap (joined held) read
