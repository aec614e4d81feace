-- What a store leaves as it was, and what it leaves as a store may find it.
use Rattle.std.proofs.Common.{List, [], ◌∷◌, ◌^◌, ◌≡◌, ◌≢◌, ℕ, ◌+◌, ◌-◌, ◌%◌, ◌<◌, ◌≤◌, ◌⊎◌, inl, inr, true, false, length, get_or, arith, refl, get_or-set_other, length-set}
use Rattle.std.proofs.lemmas.Grind.{common_steps}
use Rattle.std.proofs.lemmas.Bool.Decides.{nat_tests}
use Rattle.fc_numbers.specs.declared.machine.Width.{Width}
use Rattle.fc_numbers.specs.declared.places.TheConstants.{RAM_START}
use Rattle.guest_ram.specs.Value.{count_of}
use Rattle.guest_ram.specs.Ram.{Ram, is_inside, is_text, frame_of, stamp_of, value, with_value, placed, zero_ram, IsLawful, IsLaid, AreStampsBelow}
use Rattle.fc_numbers.specs.declared.places.Span.{Span}
use Rattle.guest_ram.proofs.Parts.{length-bytes_low_first, length_overwritten, overwritten-before, overwritten-within, overwritten-after, value_at-same, value_at-replaced}
use Rattle.fc_numbers.specs.Spans.{AreRangesFrom, in_text}
use Rattle.fc_numbers.proofs.TextLaws.{places_above}
use Rattle.guest_ram.proofs.Room.{room, before_edge}

-- an aligned place of memory has its bytes in memory
pub fits : (ram : Ram) (at : ℕ) (width : Width) → IsLaid ram → is_inside ram at ≡ true → at % count_of width ≡ 0 → at - RAM_START + count_of width ≤ length ram.bytes
fits ram at width laid inside aligned = grind (arith, nat_tests, room, laid.lawful.pages)

pub with_value-text : (ram : Ram) (at : ℕ) (width : Width) (v : ℕ) → (with_value ram at width v).text ≡ ram.text
unfolding with_value
with_value-text ram at width v = refl

pub length-with_value : (ram : Ram) (at : ℕ) (width : Width) (v : ℕ) → IsLaid ram → is_inside ram at ≡ true → at % count_of width ≡ 0 → length (with_value ram at width v).bytes ≡ length ram.bytes
unfolding with_value
length-with_value ram at width v laid inside aligned =
    let size = length-bytes_low_first 0 (count_of width) v in
    let room = fits ram at width laid inside aligned in
    grind (arith, length_overwritten, size, room)

pub length-with_value_stamps : (ram : Ram) (at : ℕ) (width : Width) (v : ℕ) → length (with_value ram at width v).stamps ≡ length ram.stamps
unfolding with_value
length-with_value_stamps ram at width v = grind (arith, length-set)

pub with_value_is_laid : (ram : Ram) (at : ℕ) (width : Width) (v : ℕ) → IsLaid ram → is_inside ram at ≡ true → at % count_of width ≡ 0 → IsLaid (with_value ram at width v)
with_value_is_laid ram at width v laid inside aligned =
    let bytes = length-with_value ram at width v laid inside aligned in
    let stamps = length-with_value_stamps ram at width v in
    let text = with_value-text ram at width v in
    record { lawful = rw (bytes, text) laid.lawful; frames = rw (bytes, stamps) laid.frames }

-- a byte before the stored ones, or after them
pub with_value-other : (ram : Ram) (at : ℕ) (width : Width) (v k : ℕ) → IsLaid ram → is_inside ram at ≡ true → at % count_of width ≡ 0 → (k < at - RAM_START) ⊎ (at - RAM_START + count_of width ≤ k) → get_or (with_value ram at width v).bytes k 0 ≡ get_or ram.bytes k 0
unfolding with_value
with_value-other ram at width v k laid inside aligned other =
    let size = length-bytes_low_first 0 (count_of width) v in
    let room = fits ram at width laid inside aligned in
    elim other [
      | inl before ↦ grind (arith, overwritten-before, size, room, before)
      | inr after ↦ grind (arith, overwritten-after, size, room, after)
    ]

-- the place p stands in one of these ranges, and the bytes of an aligned place outside them do not
apart : (ss : List Span) (n at : ℕ) (width : Width) (p : ℕ) → AreRangesFrom n ss → at % count_of width ≡ 0 → in_text ss at ≡ false → in_text ss p ≡ true → (p < at) ⊎ (at + count_of width ≤ p)
apart [] n at width p ranges aligned free text = absurd (cc)
apart (s ∷ ss) n at width p ranges aligned free text =
    let edge = before_edge width at s.start aligned ranges.2 in
    let others = apart ss (s.end + 4096) at width p ranges.4 aligned in
    grind (arith, nat_tests, edge, others)

-- the place p stands in text, and the bytes of an aligned place outside text do not
outside_text : (ram : Ram) (at : ℕ) (width : Width) (p : ℕ) → IsLaid ram → is_inside ram at ≡ true → at % count_of width ≡ 0 → is_text ram at ≡ false → is_text ram p ≡ true → (p - RAM_START < at - RAM_START) ⊎ (at - RAM_START + count_of width ≤ p - RAM_START)
outside_text ram at width p laid inside aligned free text =
    let apart = apart ram.text RAM_START at width p laid.lawful.text.ranges aligned free text in
    let low = places_above ram.text RAM_START p laid.lawful.text.ranges text in
    grind (arith, nat_tests, apart, low)

-- a byte of the kernel's text
pub with_value-text_byte : (ram : Ram) (at : ℕ) (width : Width) (v p : ℕ) → IsLaid ram → is_inside ram at ≡ true → at % count_of width ≡ 0 → is_text ram at ≡ false → is_text ram p ≡ true → get_or (with_value ram at width v).bytes (p - RAM_START) 0 ≡ get_or ram.bytes (p - RAM_START) 0
with_value-text_byte ram at width v p laid inside aligned free text =
    with_value-other ram at width v (p - RAM_START) laid inside aligned (outside_text ram at width p laid inside aligned free text)

frame_inside : (ram : Ram) (at : ℕ) → IsLaid ram → is_inside ram at ≡ true → frame_of at < length ram.stamps
frame_inside ram at laid inside = grind (arith, nat_tests, laid.frames)

-- the stamp of the page is one more
pub with_value-stamp : (ram : Ram) (at : ℕ) (width : Width) (v : ℕ) → IsLaid ram → is_inside ram at ≡ true → stamp_of (with_value ram at width v) (frame_of at) ≡ stamp_of ram (frame_of at) + 1
unfolding with_value
with_value-stamp ram at width v laid inside =
    let within = frame_inside ram at laid inside in
    grind (arith, common_steps, within)

-- every other stamp is as it was
pub with_value-other_stamp : (ram : Ram) (at : ℕ) (width : Width) (v frame : ℕ) → frame ≢ frame_of at → stamp_of (with_value ram at width v) frame ≡ stamp_of ram frame
unfolding with_value
with_value-other_stamp ram at width v frame other = get_or-set_other ram.stamps (frame_of at) frame (stamp_of ram (frame_of at) + 1) 0 other

-- the stamps stay below a bound that is one more
pub with_value_stamps : (ram : Ram) (at : ℕ) (width : Width) (v n : ℕ) → AreStampsBelow ram n → AreStampsBelow (with_value ram at width v) (n + 1)
unfolding with_value
with_value_stamps ram at width v n below frame = grind (arith, common_steps, below frame, below (frame_of at))

-- the value of the stored bytes is what was stored of v
pub value-with_value : (ram : Ram) (at : ℕ) (width : Width) (v : ℕ) → IsLaid ram → is_inside ram at ≡ true → at % count_of width ≡ 0 → value (with_value ram at width v) at width ≡ v % 256 ^ count_of width
unfolding with_value
value-with_value ram at width v laid inside aligned =
    value_at-replaced ram.bytes (at - RAM_START) (count_of width) v (fits ram at width laid inside aligned)

-- the value of bytes that lie apart from the stored ones
pub value-with_value_other : (ram : Ram) (at : ℕ) (width : Width) (v p : ℕ) (other : Width) → IsLaid ram → is_inside ram at ≡ true → at % count_of width ≡ 0 → (p - RAM_START + count_of other ≤ at - RAM_START) ⊎ (at - RAM_START + count_of width ≤ p - RAM_START) → value (with_value ram at width v) p other ≡ value ram p other
value-with_value_other ram at width v p other laid inside aligned apart =
    value_at-same ram.bytes (with_value ram at width v).bytes (p - RAM_START) (count_of other)
    (λ k h. with_value-other ram at width v (p - RAM_START + k) laid inside aligned (elim apart [ inl before ↦ inl (omega arith) | inr after ↦ inr (omega arith) ]))

-- what is put down before the run

pub placed-text : (ram : Ram) (at : ℕ) (part : List ℕ) → (placed ram at part).text ≡ ram.text
unfolding placed
placed-text ram at part = refl

pub placed-stamps : (ram : Ram) (at : ℕ) (part : List ℕ) → (placed ram at part).stamps ≡ ram.stamps
unfolding placed
placed-stamps ram at part = refl

pub length-placed : (ram : Ram) (at : ℕ) (part : List ℕ) → RAM_START ≤ at → at + length part ≤ RAM_START + length ram.bytes → length (placed ram at part).bytes ≡ length ram.bytes
unfolding placed
length-placed ram at part low high = length_overwritten ram.bytes (at - RAM_START) part (omega arith)

pub placed_is_laid : (ram : Ram) (at : ℕ) (part : List ℕ) → RAM_START ≤ at → at + length part ≤ RAM_START + length ram.bytes → IsLaid ram → IsLaid (placed ram at part)
placed_is_laid ram at part low high laid =
    let bytes = length-placed ram at part low high in
    let stamps = placed-stamps ram at part in
    let text = placed-text ram at part in
    record { lawful = rw (bytes, text) laid.lawful; frames = rw (bytes, stamps) laid.frames }

pub placed-within : (ram : Ram) (at : ℕ) (part : List ℕ) (k : ℕ) → RAM_START ≤ at → at + length part ≤ RAM_START + length ram.bytes → k < length part → get_or (placed ram at part).bytes (at - RAM_START + k) 0 ≡ get_or part k 0
unfolding placed
placed-within ram at part k low high within = overwritten-within ram.bytes (at - RAM_START) part k (omega arith) within

pub placed-other : (ram : Ram) (at : ℕ) (part : List ℕ) (k : ℕ) → RAM_START ≤ at → at + length part ≤ RAM_START + length ram.bytes → (k < at - RAM_START) ⊎ (at - RAM_START + length part ≤ k) → get_or (placed ram at part).bytes k 0 ≡ get_or ram.bytes k 0
unfolding placed
placed-other ram at part k low high other =
    elim other [
      | inl before ↦ overwritten-before ram.bytes (at - RAM_START) part k (omega arith) before
      | inr after ↦ overwritten-after ram.bytes (at - RAM_START) part k (omega arith) after
    ]

pub zero_ram_is_laid : (size : ℕ) (text : List Span) → IsLawful size text → IsLaid (zero_ram size text)
zero_ram_is_laid size text lawful = record { lawful = grind (arith, common_steps, lawful); frames = grind (arith, common_steps, lawful.pages) }

pub zero_ram_stamps : (size : ℕ) (text : List Span) → AreStampsBelow (zero_ram size text) 1
zero_ram_stamps size text frame = grind (arith, common_steps)
