-- A function of a table starts in text, and its group is that of its place.
use Rattle.std.proofs.Common.{◌≡◌, ℕ, zero, suc, length, ◌≤◌, ◌<◌, ◌&&◌, Bool, true, false, List, [], ◌∷◌, arith, refl, sym, subst, ◌∙◌, ap}
use Rattle.std.specs.Prelude.{All, ◌||◌, map, slice_index_or, ◌==◌, if◌then◌else◌, Option, Some, None}
use Rattle.std.specs.List.{list_any}
use Rattle.std.proofs.lemmas.Option.{same_Some}
use Rattle.std.proofs.lemmas.Bool.Decides.{nat_tests}
use Rattle.fc_numbers.specs.declared.places.Span.{Span}
use Rattle.fc_numbers.specs.declared.places.TheConstants.{RAM_START}
use Rattle.fc_numbers.specs.Spans.{place_in, size_of, text_size}
use Rattle.fc_numbers.specs.declared.spans.TheConstants.{TEXT_MOST}
use Rattle.fc_numbers.specs.SpanLaws.{OffsetOfPlace, PlacesAreInText}
use Rattle.guest_input.specs.declared.image.Function.{Function}
use Rattle.guest_input.specs.declared.image.Image.{Image}
use Rattle.guest_input.specs.declared.image.Start.{Start}
use Rattle.guest_input.specs.Accepted.{IsAscendingFrom, IsImage, IsStarts, starts_of}
use Rattle.guest_input.specs.Text.{IsStartIn, flat_of, spans_of}
use Rattle.function_table.specs.Groups.{Groups, IsGroups, group_at, group_in, groups_of, last_of, range_of, has_start, in_groups_text, is_function}
use Rattle.view_file.specs.Base.{group_of_start}

abbrev is_one : List ℕ → ℕ → Bool
is_one functions offset = list_any (λ start. start == offset) functions

low_below : (low size : ℕ) (xs : List ℕ) → IsAscendingFrom low xs size → low < size
low_below low size [] up = up
low_below low size (x ∷ xs) up = let rest : x < size = low_below x size xs up.2 in omega arith

ascending_below : (low size offset : ℕ) (xs : List ℕ) → IsAscendingFrom low xs size → is_one xs offset ≡ true → offset < size
ascending_below low size offset [] up one = cc
ascending_below low size offset (x ∷ xs) up one =
    let here : x < size = low_below x size xs up.2 in
    let later : is_one xs offset ≡ true → offset < size = ascending_below x size offset xs up.2 in
    grind (arith, nat_tests, here, later)

starts_below : (size offset : ℕ) (xs : List ℕ) → IsStarts xs size → is_one xs offset ≡ true → offset < size
starts_below size offset [] starts one = absurd starts
starts_below size offset (x ∷ xs) starts one =
    let here : 0 < size = low_below 0 size xs starts.1 in
    let first : x ≡ 0 = starts.0 in
    let later : is_one xs offset ≡ true → offset < size = ascending_below 0 size offset xs starts.1 in
    grind (arith, nat_tests, here, first, later)

both-left : (a b : Bool) → (a && b) ≡ true → a ≡ true
both-left true b h = refl
both-left false b h = h

both-right : (a b : Bool) → (a && b) ≡ true → b ≡ true
both-right true b h = h
both-right false b h = cc

-- a function starts in a range
pub function_has_start : (t : Groups) (at : Start) → is_function t at ≡ true → has_start t.text at ≡ true
function_has_start t at one = both-left (has_start t.text at) (is_one t.functions (flat_of t.text at)) one

-- its offset is one of text
pub function_below : (t : Groups) (at : Start) → IsGroups t → is_function t at ≡ true → flat_of t.text at < text_size t.text
function_below t at good one = starts_below (text_size t.text) (flat_of t.text at) t.functions good.functions (both-right (has_start t.text at) (is_one t.functions (flat_of t.text at)) one)

-- the offset that a table answers for a function's start
pub answered_offset : (t : Groups) (at : Start) (offset : ℕ) → is_function t at ≡ true → Some offset ≡ (if has_start t.text at then Some (flat_of t.text at) else None)
    → offset ≡ flat_of t.text at
answered_offset t at offset one found = same_Some _ _ (found ∙ ap (λ b. if b then Some (flat_of t.text at) else None) (function_has_start t at one))

-- and the group that it answers for the place of that offset
pub answered_group : OffsetOfPlace → PlacesAreInText → (t : Groups) (at : Start) (offset : ℕ) (spans : List Span) (place : ℕ) (answer : Option ℕ) → IsGroups t → is_function t at ≡ true
    → offset ≡ flat_of t.text at → spans ≡ t.text → place ≡ place_in spans offset → answer ≡ (if in_groups_text t place then Some (group_at t place) else None)
    → answer ≡ Some (group_of_start t at)
answered_group offsets inside t at offset spans place answer good one is text there found =
    let below : flat_of t.text at < text_size t.text = function_below t at good one in
    let here : place ≡ place_in t.text (flat_of t.text at) = there ∙ ap (λ l. place_in l offset) text ∙ ap (place_in t.text) is in
    let within : in_groups_text t (place_in t.text (flat_of t.text at)) ≡ true = inside t.text RAM_START (flat_of t.text at) good.text.ranges below in
    let group : group_at t (place_in t.text (flat_of t.text at)) ≡ group_of_start t at = ap (λ o. group_in t.starts o) (offsets t.text RAM_START (flat_of t.text at) good.text.ranges below) in
    found ∙ ap (λ p. if in_groups_text t p then Some (group_at t p) else None) here
    ∙ ap (λ b. if b then Some (group_at t (place_in t.text (flat_of t.text at))) else None) within ∙ ap (λ g. Some g) group

last-high : (low size g : ℕ) (bs : List ℕ) → IsAscendingFrom low bs size → slice_index_or bs g size ≤ size
last-high low size g [] up = omega arith
last-high low size zero (b ∷ bs) up = let rest : b < size = low_below b size bs up.2 in omega (arith, rest)
last-high low size (suc g) (b ∷ bs) up = last-high b size g bs up.2

-- a group has no more bytes than text may have
pub group-size : (t : Groups) (g : ℕ) → IsGroups t → size_of (range_of t g) ≤ TEXT_MOST
group-size t g good =
    let high : last_of t g ≤ text_size t.text = last-high 0 (text_size t.text) g t.starts good.starts in
    let most = good.text.size in
    omega (arith, high, most)

any-at : (text : List Span) (fs : List Function) (k : ℕ) (d : Function) → k < length fs → list_any (λ start. start == flat_of text (slice_index_or fs k d).at) (map (flat_of text) (starts_of fs)) ≡ true
any-at text [] k d within = absurd (omega (arith, within))
any-at text (f ∷ fs) zero d within = let same : (flat_of text f.at == flat_of text f.at) ≡ true = grind (arith, nat_tests) in rw same refl
any-at text (f ∷ fs) (suc k) d within = or-right (flat_of text f.at == flat_of text (slice_index_or fs k d).at) _ (any-at text fs k d (omega (arith, within)))
  where
    or-right : (a b : Bool) → b ≡ true → (a || b) ≡ true
    or-right true b e = refl
    or-right false b e = e

start-at : (text : List Span) (fs : List Function) (k : ℕ) (d : Function) → All (IsStartIn text) (starts_of fs) → k < length fs → IsStartIn text (slice_index_or fs k d).at
start-at text [] k d all within = absurd (omega (arith, within))
start-at text (f ∷ fs) zero d all within = all 0 f.at (omega arith)
start-at text (f ∷ fs) (suc k) d all within = start-at text fs k d (λ j e low. all (suc j) e (omega (arith, low))) (omega (arith, within))

-- each function of an image starts where one does
pub image-known : (i : Image) → IsImage i → (k : ℕ) (d : Function) → k < length i.functions → is_function (groups_of i) (slice_index_or i.functions k d).at ≡ true
image-known i image k d within =
    let inside : IsStartIn (spans_of i.ranges) (slice_index_or i.functions k d).at = start-at (spans_of i.ranges) i.functions k d image.inside within in
    let low = inside.inside in
    let has : has_start (spans_of i.ranges) (slice_index_or i.functions k d).at ≡ true = grind (arith, nat_tests, low) in
    rw (has, any-at (spans_of i.ranges) i.functions k d within) refl

pub group-few : (t : Groups) (g bytes : ℕ) (b : Bool) → IsGroups t → bytes ≡ (if b then size_of (range_of t g) else 0) → bytes ≤ TEXT_MOST
group-few t g bytes true good is = subst (λ n. n ≤ TEXT_MOST) (sym is) (group-size t g good)
group-few t g bytes false good is = omega (arith, is)
