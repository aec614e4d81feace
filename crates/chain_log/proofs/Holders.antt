-- The function that holds a place is one of the image's, and starts at it or below.
use Rattle.std.proofs.Common.{◌≡◌, ℕ, zero, suc, ◌<◌, ◌≤◌, true, false, List, [], ◌∷◌, length, arith, refl}
use Rattle.std.specs.Prelude.{nat_lt, slice_index, slice_index_or}
use Rattle.std.proofs.lemmas.Grind.{common_steps}
use Rattle.std.proofs.lemmas.Bool.Decides.{nat_tests}
use Rattle.fc_numbers.specs.declared.places.Span.{Span}
use Rattle.fc_numbers.specs.declared.places.TheConstants.{RAM_START}
use Rattle.fc_numbers.specs.Spans.{AreRangesFrom, offset_in, place_in, text_size}
use Rattle.fc_numbers.specs.Spans as spans
use Rattle.fc_numbers.proofs.TextLaws.{offset_place, offset_rises, place_inside}
use Rattle.guest_input.specs.declared.image.Function.{Function}
use Rattle.guest_input.specs.declared.image.Image.{Image}
use Rattle.guest_input.specs.Text.{flat_of, spans_of, start_place}
use Rattle.guest_input.specs.Accepted.{IsImage, offsets_of, starts_of}
use Rattle.function_table.specs.Groups.{function_at, groups_of, has_start, in_groups_text}
use Rattle.function_table.proofs.GroupLemmas.{function-below, function-inside, function-starts, start-below}
use Rattle.chain_log.specs.Line.{holder_of, no_function}

offset-at : (text : List Span) (functions : List Function) (n : ℕ) → n < length functions
    → slice_index (offsets_of text (starts_of functions)) n ≡ flat_of text (slice_index_or functions n no_function).at
offset-at text [] n within = absurd (omega arith)
offset-at text (f ∷ fs) zero within = refl
offset-at text (f ∷ fs) (suc n) within = offset-at text fs n (omega arith)

-- the place of an offset at or below that of a place is at or below that place
place-below : (text : List Span) (offset place : ℕ) → AreRangesFrom RAM_START text → offset < text_size text → spans.in_text text place ≡ true
    → offset ≤ offset_in text place → place_in text offset ≤ place
place-below text offset place ranges within inside below =
    elim (nat_lt place (place_in text offset)) as (λ b. nat_lt place (place_in text offset) ≡ b → place_in text offset ≤ place) [
      | true ↦ λ e.
          let above : place < place_in text offset = grind (arith, nat_tests, e) in
          let rises : offset_in text place < offset_in text (place_in text offset) = offset_rises text RAM_START place (place_in text offset) ranges above inside (place_inside text RAM_START offset ranges within) in
          absurd (omega (arith, rises, offset_place text RAM_START offset ranges within, below))
      | false ↦ λ e. grind (arith, nat_tests, e)
    ] refl

holder-one : (i : Image) (place : ℕ) → IsImage i → function_at (groups_of i) place < length i.functions
holder-one i place image =
    let count : length (groups_of i).functions ≡ length i.functions = grind (arith, common_steps) in
    omega (arith, count, function-below (groups_of i).functions (text_size (spans_of i.ranges)) (offset_in (spans_of i.ranges) place) image.starts)

-- the function that holds a place starts in a range
pub holder-inside : (i : Image) (place : ℕ) → IsImage i → has_start (spans_of i.ranges) (holder_of i place).at ≡ true
holder-inside i place image = function-inside (spans_of i.ranges) i.functions (function_at (groups_of i) place) no_function image.inside (holder-one i place image)

pub holder-starts : (i : Image) (place : ℕ) → IsImage i → in_groups_text (groups_of i) place ≡ true → start_place (spans_of i.ranges) (holder_of i place).at ≤ place
holder-starts i place image inside =
    let starts : slice_index (groups_of i).functions (function_at (groups_of i) place) ≤ offset_in (spans_of i.ranges) place = function-starts (groups_of i).functions (text_size (spans_of i.ranges)) (offset_in (spans_of i.ranges) place) image.starts in
    let same : slice_index (groups_of i).functions (function_at (groups_of i) place) ≡ flat_of (spans_of i.ranges) (holder_of i place).at = offset-at (spans_of i.ranges) i.functions (function_at (groups_of i) place) (holder-one i place image) in
    place-below (spans_of i.ranges) (flat_of (spans_of i.ranges) (holder_of i place).at) place image.text.below.ranges
    (start-below (spans_of i.ranges) (holder_of i place).at (holder-inside i place image)) inside (omega (arith, starts, same))
