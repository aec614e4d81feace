-- A function of a table starts in text, and its group is that of its place.
use Rattle.std.proofs.Common.{◌≡◌, ℕ, ◌<◌, ◌&&◌, Bool, true, false, List, [], ◌∷◌, arith, refl, ◌∙◌, ap}
use Rattle.std.specs.Prelude.{◌==◌, if◌then◌else◌, Option, Some, None}
use Rattle.std.proofs.lemmas.Option.{same_Some}
use Rattle.fc_numbers.specs.declared.places.Span.{Span}
use Rattle.std.specs.List.{list_any}
use Rattle.std.proofs.lemmas.Bool.Decides.{nat_tests}
use Rattle.fc_numbers.specs.declared.places.TheConstants.{RAM_START}
use Rattle.fc_numbers.specs.Spans.{place_in, text_size}
use Rattle.fc_numbers.proofs.TextLaws.{offset_place, place_inside}
use Rattle.guest_input.specs.declared.image.Start.{Start}
use Rattle.guest_input.specs.Accepted.{IsAscendingFrom, IsStarts}
use Rattle.guest_input.specs.Text.{flat_of}
use Rattle.function_table.specs.Groups.{Groups, IsGroups, group_at, group_in, has_start, in_groups_text, is_function}
use Rattle.view_file.specs.Base.{group_of_start}

-- what stands for an item of a list where there is none
abbrev pub no_start : Start
no_start = record { range = 0; offset = 0 }

abbrev is_one : List ℕ → ℕ → Bool
is_one functions offset = list_any (λ start. start == offset) functions

low_below : (low size : ℕ) (xs : List ℕ) → IsAscendingFrom low xs size → low < size
low_below low size [] up = up
low_below low size (x ∷ xs) up = let rest : x < size = low_below x size xs up.2 in omega arith

ascending_below : (low size offset : ℕ) (xs : List ℕ) → IsAscendingFrom low xs size → is_one xs offset ≡ true → offset < size
ascending_below low size offset [] up one = cc
ascending_below low size offset (x ∷ xs) up one =
    let here : x < size = low_below x size xs up.2 in
    let later : is_one xs offset ≡ true → offset < size = ascending_below x size offset xs up.2 in
    grind (arith, nat_tests, here, later)

starts_below : (size offset : ℕ) (xs : List ℕ) → IsStarts xs size → is_one xs offset ≡ true → offset < size
starts_below size offset [] starts one = absurd starts
starts_below size offset (x ∷ xs) starts one =
    let here : 0 < size = low_below 0 size xs starts.1 in
    let first : x ≡ 0 = starts.0 in
    let later : is_one xs offset ≡ true → offset < size = ascending_below 0 size offset xs starts.1 in
    grind (arith, nat_tests, here, first, later)

pub both-left : (a b : Bool) → (a && b) ≡ true → a ≡ true
both-left true b h = refl
both-left false b h = h

pub both-right : (a b : Bool) → (a && b) ≡ true → b ≡ true
both-right true b h = h
both-right false b h = cc

-- a function starts in a range
pub function_has_start : (t : Groups) (at : Start) → is_function t at ≡ true → has_start t.text at ≡ true
function_has_start t at one = both-left (has_start t.text at) (is_one t.functions (flat_of t.text at)) one

-- its offset is one of text
pub function_below : (t : Groups) (at : Start) → IsGroups t → is_function t at ≡ true → flat_of t.text at < text_size t.text
function_below t at good one = starts_below (text_size t.text) (flat_of t.text at) t.functions good.functions (both-right (has_start t.text at) (is_one t.functions (flat_of t.text at)) one)

-- it has a place
pub function_in_text : (t : Groups) (at : Start) → IsGroups t → is_function t at ≡ true → in_groups_text t (place_in t.text (flat_of t.text at)) ≡ true
function_in_text t at good one = place_inside t.text RAM_START (flat_of t.text at) good.text.ranges (function_below t at good one)

-- whose group is its own
pub group_of_place : (t : Groups) (at : Start) → IsGroups t → is_function t at ≡ true → group_at t (place_in t.text (flat_of t.text at)) ≡ group_of_start t at
group_of_place t at good one =
    ap (λ offset. group_in t.starts offset) (offset_place t.text RAM_START (flat_of t.text at) good.text.ranges (function_below t at good one))

-- the offset that a table answers for a function's start
pub answered_offset : (t : Groups) (at : Start) (offset : ℕ) → is_function t at ≡ true → Some offset ≡ (if has_start t.text at then Some (flat_of t.text at) else None)
    → offset ≡ flat_of t.text at
answered_offset t at offset one found = same_Some _ _ (found ∙ ap (λ b. if b then Some (flat_of t.text at) else None) (function_has_start t at one))

-- and the group that it answers for the place of that offset
pub answered_group : (t : Groups) (at : Start) (offset : ℕ) (spans : List Span) (place : ℕ) (answer : Option ℕ) → IsGroups t → is_function t at ≡ true
    → offset ≡ flat_of t.text at → spans ≡ t.text → place ≡ place_in spans offset → answer ≡ (if in_groups_text t place then Some (group_at t place) else None)
    → answer ≡ Some (group_of_start t at)
answered_group t at offset spans place answer good one is text there found =
    let here : place ≡ place_in t.text (flat_of t.text at) = there ∙ ap (λ l. place_in l offset) text ∙ ap (place_in t.text) is in
    found ∙ ap (λ p. if in_groups_text t p then Some (group_at t p) else None) here
    ∙ ap (λ b. if b then Some (group_at t (place_in t.text (flat_of t.text at))) else None) (function_in_text t at good one)
    ∙ ap Some (group_of_place t at good one)
