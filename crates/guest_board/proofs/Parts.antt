-- What is placed before the run: ranges of text cut from their bytes, a part in two pieces, and the parts from a number on.
use Rattle.std.proofs.Common.{◌≡◌, ℕ, zero, suc, ◌+◌, ◌-◌, ◌<◌, ◌≤◌, Bool, true, false, List, [], ◌∷◌, ◌++◌, length, take, drop, get_or, replicate, refl, sym, ap, subst, ◌∙◌, arith, append_assoc, length-append}
use Rattle.std.specs.Prelude.{◌||◌, nat_lt}
use Rattle.std.proofs.lemmas.Bool.Decides.{nat_tests}
use Rattle.std.proofs.lemmas.Grind.{common_steps}
use Rattle.fc_numbers.specs.declared.places.Span.{Span}
use Rattle.fc_numbers.specs.declared.places.TheConstants.{RAM_START}
use Rattle.fc_numbers.specs.declared.spans.TheConstants.{TEXT_MOST}
use Rattle.fc_numbers.specs.Spans.{AreRangesFrom, holds, in_text, offset_in, place_in, size_of, text_size}
use Rattle.fc_numbers.proofs.TextLaws.{offset_below}
use Rattle.guest_input.specs.declared.image.Image.{Image}
use Rattle.guest_input.specs.Accepted.{IsPartOf, AllParts, PartsEndBy}
use Rattle.guest_input.specs.Text.{Range, bytes_of, spans_of}
use Rattle.guest_input.specs.TextIn.{cut}
use Rattle.guest_ram.specs.Ram.{Ram, placed, zero_ram}
use Rattle.guest_ram.specs.Value.{overwritten}
use Rattle.guest_ram.proofs.Laws.{length-placed}
use Rattle.guest_board.specs.First.{first_ram, text_of, text_parts, with_parts}
use Rattle.guest_board.specs.OpenFacts.{LieBelow}

pub part-at : (spans : List Span) (parts : List (ℕ × List ℕ)) (i : ℕ) (d : ℕ × List ℕ) → AllParts spans parts → i < length parts → IsPartOf spans (get_or parts i d)
part-at spans [] i d all h = absurd (omega (arith, h))
part-at spans (p ∷ ps) zero d all h = all.0
part-at spans (p ∷ ps) (suc i) d all h = part-at spans ps i d all.1 (omega (arith, h))

pub part-here : (spans : List Span) (i : ℕ) (items parts : List (ℕ × List ℕ)) (p : ℕ × List ℕ) → items ≡ parts → p ≡ get_or items i p → i < length items → AllParts spans parts → IsPartOf spans p
part-here spans i items parts p same is within all =
    subst (λ x. IsPartOf spans x) (sym is) (part-at spans items i p (subst (λ (ps : List (ℕ × List ℕ)). AllParts spans ps) (sym same) all) within)

pub ends-at : (end : ℕ) (parts : List (ℕ × List ℕ)) (i : ℕ) (d : ℕ × List ℕ) → PartsEndBy end parts → i < length parts → (get_or parts i d).0 + length (get_or parts i d).1 ≤ end
ends-at end [] i d all h = absurd (omega (arith, h))
ends-at end (p ∷ ps) zero d all h = all.0
ends-at end (p ∷ ps) (suc i) d all h = ends-at end ps i d all.1 (omega (arith, h))

pub ends-here : (end i : ℕ) (items parts : List (ℕ × List ℕ)) (p : ℕ × List ℕ) → items ≡ parts → p ≡ get_or items i p → i < length items → PartsEndBy end parts → p.0 + length p.1 ≤ end
ends-here end i items parts p same is within all =
    subst (λ (x : ℕ × List ℕ). x.0 + length x.1 ≤ end) (sym is) (ends-at end items i p (subst (λ (ps : List (ℕ × List ℕ)). PartsEndBy end ps) (sym same) all) within)

pub parts-from : (ram : Ram) (parts : List (ℕ × List ℕ)) (i : ℕ) (d : ℕ × List ℕ) → i < length parts
    → with_parts ram (drop i parts) ≡ with_parts (placed ram (get_or parts i d).0 (get_or parts i d).1) (drop (suc i) parts)
parts-from ram [] i d h = absurd (omega (arith, h))
parts-from ram (p ∷ ps) zero d h = refl
parts-from ram (p ∷ ps) (suc i) d h = parts-from ram ps i d (omega (arith, h))

-- ranges that are cut from their bytes again
pub cut_again : (rs : List Range) → cut (spans_of rs) (bytes_of rs) ≡ rs
cut_again [] = refl
cut_again (r ∷ rs) =
    let size : r.base + length r.bytes - r.base ≡ length r.bytes = omega arith in
    let here : take (length r.bytes) (r.bytes ++ bytes_of rs) ≡ r.bytes = take_front r.bytes (bytes_of rs) in
    let behind : drop (length r.bytes) (r.bytes ++ bytes_of rs) ≡ bytes_of rs = drop_front r.bytes (bytes_of rs) in
    rw (size, here, behind, cut_again rs) refl
  where
    take_front : (xs ys : List ℕ) → take (length xs) (xs ++ ys) ≡ xs
    take_front xs ys = grind (arith, common_steps)

    drop_front : (xs ys : List ℕ) → drop (length xs) (xs ++ ys) ≡ ys
    drop_front xs ys = grind (arith, common_steps)

-- a part that is put down in two pieces

front : (xs ys : List ℕ) → take (length xs) (xs ++ ys) ≡ xs
front xs ys = grind (arith, common_steps)

behind : (xs ys : List ℕ) (n : ℕ) → drop (length xs + n) (xs ++ ys) ≡ drop n ys
behind [] ys n = ap (λ k. drop k ys) (omega arith)
behind (x ∷ xs) ys n = let more : suc (length xs) + n ≡ suc (length xs + n) = omega arith in rw more (behind xs ys n)

overwritten_twice : (bytes : List ℕ) (at : ℕ) (part more : List ℕ) → at + (length part + length more) ≤ length bytes → overwritten (overwritten bytes at part) (at + length part) more ≡ overwritten bytes at (part ++ more)
unfolding overwritten
overwritten_twice bytes at part more room =
    let pre = take at bytes ++ part in
    let rest = drop (at + length part) bytes in
    let size : length pre ≡ at + length part = grind (arith, common_steps, room) in
    let joined : take at bytes ++ (part ++ rest) ≡ pre ++ rest = sym (append_assoc (take at bytes) part rest) in
    let kept : take (at + length part) (pre ++ rest) ≡ pre = ap (λ n. take n (pre ++ rest)) (sym size) ∙ front pre rest in
    let left : drop (at + length part + length more) (pre ++ rest) ≡ drop (length more) rest = ap (λ n. drop (n + length more) (pre ++ rest)) (sym size) ∙ behind pre rest (length more) in
    let after : drop (length more) rest ≡ drop (at + length (part ++ more)) bytes = grind (arith, common_steps) in
    rw (joined, kept, left, after) (append_assoc (take at bytes) part (more ++ drop (at + length (part ++ more)) bytes) ∙ ap (λ (xs : List ℕ). take at bytes ++ xs) (sym (append_assoc part more (drop (at + length (part ++ more)) bytes))))

pub placed_twice : (ram : Ram) (at : ℕ) (part more : List ℕ) → RAM_START ≤ at → at + (length part + length more) ≤ RAM_START + length ram.bytes → placed (placed ram at part) (at + length part) more ≡ placed ram at (part ++ more)
unfolding placed
placed_twice ram at part more low high =
    let next : at + length part - RAM_START ≡ at - RAM_START + length part = omega (arith, low) in
    let bytes = overwritten_twice ram.bytes (at - RAM_START) part more (omega (arith, low, high)) in
    rw (next, bytes) refl

pub put_down : (old mid new : Ram) (at count : ℕ) (written bytes : List ℕ) → mid ≡ placed old at written → new ≡ placed mid (at + length written) (replicate count 0) → written ++ replicate count 0 ≡ bytes → RAM_START ≤ at → at + length bytes ≤ RAM_START + length old.bytes → new ≡ placed old at bytes
put_down old mid new at count written bytes first second whole low high =
    let size : length written + length (replicate count 0) ≡ length bytes = sym (length-append written (replicate count 0)) ∙ ap length whole in
    second
    ∙ ap (λ (r : Ram). placed r (at + length written) (replicate count 0)) first
    ∙ placed_twice old at written (replicate count 0) low (omega (arith, size, high))
    ∙ ap (λ (xs : List ℕ). placed old at xs) whole

-- the ranges of lawful text lie in the memory that they are lawful for
last_byte : (s : Span) → s.start < s.end → holds s (s.end - 1) ≡ true
last_byte s some = grind (arith, nat_tests, some)

pub lie_below : (low end : ℕ) (ss : List Span) → RAM_START ≤ low → AreRangesFrom low ss → ((place : ℕ) → in_text ss place ≡ true → place < end) → LieBelow end ss
lie_below low end [] above ranges high = tt
lie_below low end (s ∷ ss) above ranges high =
    let here : in_text (s ∷ ss) (s.end - 1) ≡ true = rw (last_byte s ranges.1) refl in
    let last : s.end - 1 < end = high (s.end - 1) here in (
      omega (arith, above, ranges.0),
      omega (arith, ranges.1),
      omega (arith, last),
      lie_below (s.end + 4096) end ss (omega (arith, above, ranges.0, ranges.1)) ranges.4 (λ place inside. high place (or_true (holds s place) (in_text ss place) inside)),
    )
  where
    or_true : (a b : Bool) → b ≡ true → (a || b) ≡ true
    or_true true b e = refl
    or_true false b e = e

-- what is placed leaves the size of memory
pub placed_size : (ram : Ram) (at : ℕ) (part : List ℕ) → RAM_START ≤ at → at + length part ≤ RAM_START + length ram.bytes → length (placed ram at part).bytes ≡ length ram.bytes
placed_size ram at part low high = length-placed ram at part low high

-- a byte of text has its offset below the most bytes of text
pub few_bytes : (text : List Span) (place : ℕ) → AreRangesFrom RAM_START text → text_size text ≤ TEXT_MOST → in_text text place ≡ true → offset_in text place < TEXT_MOST
few_bytes text place ranges few inside =
    let below = offset_below text RAM_START place ranges inside in
    omega (arith, below, few)

-- the first memory by the steps in which it is made
pub first_is : (image : Image) (bytes : ℕ) (blank text whole : Ram) (copy spans : List Span) (flat : List ℕ) → blank ≡ zero_ram bytes copy → copy ≡ spans_of image.ranges → spans ≡ spans_of image.ranges → flat ≡ bytes_of image.ranges
    → text ≡ with_parts blank (text_parts (cut spans flat)) → whole ≡ with_parts text image.parts → whole ≡ first_ram image bytes
unfolding first_ram
first_is image bytes blank text whole copy spans flat zeros copied places content ranges parts =
    let again : cut spans flat ≡ image.ranges = rw (places, content) (cut_again image.ranges) in
    let start : blank ≡ zero_ram bytes (text_of image) = zeros ∙ ap (λ (ss : List Span). zero_ram bytes ss) copied in
    parts
    ∙ ap (λ (r : Ram). with_parts r image.parts) (ranges ∙ ap (λ (r : Ram). with_parts r (text_parts (cut spans flat))) start ∙ ap (λ (rs : List Range). with_parts (zero_ram bytes (text_of image)) (text_parts rs)) again)

-- past the end of text the place is 0
pub place_past : (text : List Span) (offset : ℕ) → text_size text ≤ offset → place_in text offset ≡ 0
place_past [] offset past = refl
place_past (s ∷ ss) offset past =
    let here : nat_lt offset (size_of s) ≡ false = grind (arith, nat_tests, past) in
    let rest : text_size ss ≤ offset - size_of s = omega (arith, past) in
    rw here (place_past ss (offset - size_of s) rest)

-- the first of the ranges have no more bytes than all
pub front_size : (n : ℕ) (text : List Span) → text_size (take n text) ≤ text_size text
front_size zero text = omega arith
front_size (suc n) [] = omega arith
front_size (suc n) (s ∷ ss) = omega (arith, front_size n ss)
