-- The lines of groups, read back, give the halfwords of those that are present.
use Rattle.std.proofs.Common.{◌≡◌, ℕ, zero, suc, ◌+◌, ◌-◌, ◌*◌, ◌/◌, ◌^◌, ◌<◌, ◌≤◌, true, false, cond, List, [], ◌∷◌, ◌++◌, length, take, drop, Ok, refl, ap, sym, ◌∙◌, subst, arith, add-one, append_assoc}
use Rattle.std.specs.Prelude.{◌==◌, if◌then◌else◌, codes, None, All, nat_lt, nat_le, slice_index, slice_index_or, map}
use Rattle.std.specs.List.{flat_map, list_all, range_with_len}
use Rattle.std.proofs.lemmas.Bool.{both_ways, and_parts, eqb-true}
use Rattle.std.proofs.lemmas.List.{length-map}
use Rattle.std.proofs.lemmas.List.Sums.{count_by-le-length}
use Rattle.hex.specs.Hex.{IsBytes}
use Rattle.fc_numbers.specs.Names.{is_printed}
use Rattle.fc_numbers.specs.declared.places.Span.{Span}
use Rattle.fc_numbers.specs.declared.places.TheConstants.{RAM_START, RAM_MOST}
use Rattle.fc_numbers.specs.declared.spans.TheConstants.{TEXT_MOST}
use Rattle.fc_numbers.specs.Spans.{offset_in, text_size}
use Rattle.fc_numbers.specs.Spans as spans
use Rattle.fc_numbers.specs.SpanLaws.{PlacesAreInText}
use Rattle.guest_input.specs.declared.image.Function.{Function}
use Rattle.guest_input.specs.declared.image.Image.{Image}
use Rattle.guest_input.specs.Accepted.{IsAscendingFrom, IsImage, IsStarts, offsets_of, starts_of}
use Rattle.guest_input.specs.Text.{flat_of, spans_of}
use Rattle.function_table.specs.Groups.{Groups, IsGroups, first_of, function_at, groups_count, group_in, groups_of, half_of, last_of, range_of}
use Rattle.function_table.proofs.GroupLemmas.{groups-good}
use Rattle.chain_log.specs.Line.{hex, holder_of, no_function}
use Rattle.view_store.specs.Paged.{PagedView, is_present, mask_of, masked}
use Rattle.listing_reader.specs.declared.line.Line.TheVariants as line
use Rattle.listing_reader.specs.declared.line.TheConstants.{HALVES_MOST}
use Rattle.listing_reader.specs.declared.reading.Held.{Held}
use Rattle.listing_reader.specs.Lines.{cut_at, is_name}
use Rattle.listing_reader.specs.Reading.{halves_read, held_from, lines_of_listing, read_from}
use Rattle.listing_reader.specs.Written.{IsOneLine}
use Rattle.code_listing.specs.Items.{items_of}
use Rattle.code_listing.specs.Lines.{item_lines}
use Rattle.code_listing.specs.Listing.{group_text, halves_at, head_line, text_of_group}
use Rattle.code_listing.specs.ReadBack.{HasPrintedNames, ListingsAreReadBack, held_of_group, is_printed_name}
use Rattle.code_listing.proofs.OneLine.{first_cut, later_cut}
use Rattle.code_listing.proofs.ItemsRead.{AreHalves, LinesRead, halves-read, held-none, line-read, with_held}

-- a byte that is not printed is not in a printed name
printed-cut : (b : ℕ) (name : List ℕ) → is_printed b ≡ false → list_all is_printed name ≡ true → cut_at b name ≡ None
printed-cut b [] other all = refl
printed-cut b (x ∷ xs) other all =
    let parts = and_parts (is_printed x) (list_all is_printed xs) all in
    elim (x == b) as (λ t. (x == b) ≡ t → cond t (first_cut xs) (later_cut x (cut_at b xs)) ≡ None) [
      | true ↦ λ same. absurd (both_ways (is_printed x) (subst (λ y. is_printed y ≡ false) (sym (eqb-true x b same)) other) parts.0)
      | false ↦ λ same. ap (later_cut x) (printed-cut b xs other parts.1)
    ] refl

-- a printed name is one of a line
name-good : (name : List ℕ) → is_printed_name name ≡ true → (is_name name ≡ true) × IsOneLine name
name-good name printed =
    let parts = and_parts (nat_lt 0 (length name)) (list_all is_printed name) printed in
    let space : cut_at 0x20 name ≡ None = printed-cut 0x20 name refl parts.1 in
    (rw (parts.0, space) refl, printed-cut 0x0a name refl parts.1)

-- the function that holds a place is one of the image's, and so its name is printed
member-named : (fs : List Function) (n : ℕ) → All (λ f. is_printed_name f.name ≡ true) fs → n < length fs → is_printed_name (slice_index_or fs n no_function).name ≡ true
member-named fs n all within = all n no_function within

some-starts : (xs : List ℕ) (size : ℕ) → IsStarts xs size → 0 < length xs
some-starts [] size is = absurd is
some-starts (x ∷ xs) size is = omega arith

holder-named : (i : Image) (place : ℕ) → IsImage i → HasPrintedNames i → is_printed_name (holder_of i place).name ≡ true
holder-named i place good printed =
    let offset = offset_in (spans_of i.ranges) place in
    let offsets = offsets_of (spans_of i.ranges) (starts_of i.functions) in
    let many = count_by-le-length (λ start. nat_le start offset) offsets in
    let some = some-starts offsets (text_size (spans_of i.ranges)) good.starts in
    let same : length offsets ≡ length i.functions = length-map (starts_of i.functions) (flat_of (spans_of i.ranges)) ∙ length-map i.functions (λ f. f.at) in
    member-named i.functions (function_at (groups_of i) place) printed (omega (arith, many, some, same))

-- the ends of groups ascend to the end of text
end-above : (low : ℕ) (xs : List ℕ) (size : ℕ) → IsAscendingFrom low xs size → low < size
end-above low [] size up = up
end-above low (x ∷ xs) size up = omega (arith, up.0, end-above x xs size up.2)

ends-rise : (low : ℕ) (xs : List ℕ) (size g : ℕ) → IsAscendingFrom low xs size → g ≤ length xs
    → (slice_index_or (low ∷ xs) g size < slice_index_or xs g size) × (slice_index_or xs g size ≤ size)
ends-rise low [] size zero up within = (up, omega arith)
ends-rise low [] size (suc g) up within = absurd (omega (arith, within))
ends-rise low (x ∷ xs) size zero up within = (up.0, omega (arith, end-above x xs size up.2))
ends-rise low (x ∷ xs) size (suc g) up within = ends-rise x xs size g up.2 (omega (arith, within))

-- which value stands for a missing element does not matter where there is one
same-element : (xs : List ℕ) (n d : ℕ) → n < length xs → slice_index_or xs n d ≡ slice_index xs n
same-element [] n d within = absurd (omega (arith, within))
same-element (x ∷ xs) zero d within = refl
same-element (x ∷ xs) (suc n) d within = same-element xs n d (omega (arith, within))

-- the offset at which group g begins, or text ends
abbrev edge : Groups → ℕ → ℕ
edge t g = slice_index_or (0 ∷ t.starts) g (text_size t.text)

record Fits (t : Groups) (g : ℕ) : Type 0 where
  first : first_of t g ≡ edge t g
  rise : first_of t g < last_of t g
  most : last_of t g ≤ TEXT_MOST
  inside : first_of t g < text_size t.text
  next : last_of t g ≡ edge t (g + 1)

group-fits : (t : Groups) (g : ℕ) → IsGroups t → g < groups_count t → Fits t g
group-fits t g good within =
    let ends = ends-rise 0 t.starts (text_size t.text) g good.starts (omega (arith, within)) in
    let first : first_of t g ≡ edge t g = sym (same-element (0 ∷ t.starts) g (text_size t.text) (omega (arith, within))) in
    record {
      first = first;
      rise = omega (arith, first, ends.0);
      most = omega (arith, ends.1, good.text.size);
      inside = omega (arith, first, ends.0, ends.1);
      next = rw add-one refl;
    }

-- the halfwords of a view have 16 bits
halves-small : (p : PagedView) → IsBytes p.text → (ns : List ℕ) → AreHalves (map (masked p) ns)
halves-small p bytes [] = tt
halves-small p bytes (n ∷ ns) =
    let half : half_of p.text n < 65536 = omega (arith, bytes (2 * n), bytes (2 * n + 1)) in
    (elim (is_present p.base p.log (group_in p.groups.starts (2 * n))) as (λ t. (if t then half_of p.text n else 0) < 65536) [ true ↦ half | false ↦ omega arith ], halves-small p bytes ns)

small-drop : (n : ℕ) (xs : List ℕ) → AreHalves xs → AreHalves (drop n xs)
small-drop zero xs small = small
small-drop (suc n) [] small = tt
small-drop (suc n) (x ∷ xs) small = small-drop n xs small.1

small-take : (n : ℕ) (xs : List ℕ) → AreHalves xs → AreHalves (take n xs)
small-take zero xs small = tt
small-take (suc n) [] small = tt
small-take (suc n) (x ∷ xs) small = (small.0, small-take n xs small.1)

group-small : (p : PagedView) (g : ℕ) → IsBytes p.text → AreHalves (halves_at (mask_of p) p.groups g)
group-small p g bytes =
    small-take (spans.size_of (range_of p.groups g) / 2) (drop (offset_in p.groups.text (range_of p.groups g).start / 2) (mask_of p))
    (small-drop (offset_in p.groups.text (range_of p.groups g).start / 2) (mask_of p) (halves-small p bytes (range_with_len 0 (length p.text / 2))))

short-take : (n : ℕ) (xs : List ℕ) → length (take n xs) ≤ n
short-take zero xs = omega arith
short-take (suc n) [] = omega arith
short-take (suc n) (x ∷ xs) = omega (arith, short-take n xs)

group-short : (p : PagedView) (g : ℕ) → 2 * length (halves_at (mask_of p) p.groups g) ≤ last_of p.groups g - first_of p.groups g
group-short p g =
    let size = spans.size_of (range_of p.groups g) in
    let few = short-take (size / 2) (drop (offset_in p.groups.text (range_of p.groups g).start / 2) (mask_of p)) in
    let same : size ≡ last_of p.groups g - first_of p.groups g = omega arith in
    omega (arith, few, same)

-- the line of a group is its words and a newline
abbrev head_words : Image → Span → List ℕ
head_words i s = hex s.start ++ 0x20 ∷ (hex s.end ++ 0x20 ∷ (holder_of i s.start).name)

head-is : (i : Image) (s : Span) (more : List ℕ) → head_line i s ++ more ≡ head_words i s ++ 0x0a ∷ more
unfolding head_line
head-is i s more =
    let name : List ℕ = (holder_of i s.start).name in
    append_assoc (hex s.start ++ codes " " ++ hex s.end ++ codes " " ++ name) (codes "\n") more
    ∙ ap (λ xs. xs ++ 0x0a ∷ more) (append_assoc (hex s.start ++ codes " " ++ hex s.end) (codes " ") name
    ∙ append_assoc (hex s.start ++ codes " ") (hex s.end) (0x20 ∷ name) ∙ append_assoc (hex s.start) (codes " ") (hex s.end ++ 0x20 ∷ name))

-- what is known of the listing's image and view
record Listed (i : Image) (p : PagedView) : Type 0 where
  image : IsImage i
  names : HasPrintedNames i
  bytes : IsBytes p.text
  groups : IsGroups p.groups

-- what was read of a group in front of other lines
record GroupRead (t : Groups) (g n before : ℕ) (text : List ℕ) (held : List Held) (more : List ℕ) : Type 0 where
  lines : ℕ
  halves : ℕ
  few : 2 * halves ≤ last_of t g
  read : read_from n before (lines_of_listing (text ++ more)) ≡ with_held held (read_from lines halves (lines_of_listing more))

-- a present group
present-read : (law : LinesRead) (places : PlacesAreInText) (i : Image) (p : PagedView) (g n before : ℕ) (more : List ℕ) → Listed i p → g < groups_count p.groups → 2 * before ≤ first_of p.groups g
    → GroupRead p.groups g n before (group_text i p g) (held_from (range_of p.groups g).start (halves_at (mask_of p) p.groups g)) more
present-read law places i p g n before more is within few =
    let t = p.groups in
    let s = range_of t g in
    let halves = halves_at (mask_of p) t g in
    let fits = group-fits t g is.groups within in
    let short = group-short p g in
    let high : s.start < RAM_START + RAM_MOST = is.groups.text.high s.start (places t.text RAM_START (first_of t g) is.groups.text.ranges fits.inside) in
    let low : s.start < 2 ^ 64 = omega (arith, high) in
    let end : s.end < 2 ^ 64 = omega (arith, high, fits.most) in
    let name = name-good (holder_of i s.start).name (holder-named i s.start is.image is.names) in
    let body : List ℕ = item_lines s.start (items_of halves) ++ more in
    let none : before + 0 ≤ HALVES_MOST = omega (arith, few, fits.rise, fits.most) in
    let room : s.start + 2 * length halves ≤ 2 ^ 63 = omega (arith, high, short, fits.most) in
    let all : before + 0 + length halves ≤ HALVES_MOST = omega (arith, few, short, fits.rise, fits.most) in
    record {
      lines = n + 1 + length (items_of halves);
      halves = before + 0 + length halves;
      few = omega (arith, few, short, fits.rise);
      read =
          ap (λ xs. read_from n before (lines_of_listing xs)) (append_assoc (head_line i s) (item_lines s.start (items_of halves)) more ∙ head-is i s body)
          ∙ line-read law n before line.Head (head_words i s) body (law.heads s.start s.end (holder_of i s.start).name low end name.0 name.1) none
          ∙ held-none (read_from (n + 1) (before + 0) (lines_of_listing body))
          ∙ halves-read law (n + 1) (before + 0) s.start halves more (group-small p g is.bytes) room all;
    }

group-read : (law : LinesRead) (places : PlacesAreInText) (i : Image) (p : PagedView) (g n before : ℕ) (more : List ℕ) → Listed i p → g < groups_count p.groups → 2 * before ≤ first_of p.groups g
    → GroupRead p.groups g n before (text_of_group i p g) (held_of_group p g) more
group-read law places i p g n before more is within few =
    let fits = group-fits p.groups g is.groups within in
    elim (is_present p.base p.log g) as (λ t. GroupRead p.groups g n before (if t then group_text i p g else []) (if t then held_from (range_of p.groups g).start (halves_at (mask_of p) p.groups g) else []) more) [
      | true ↦ present-read law places i p g n before more is within few
      | false ↦ record { lines = n; halves = before; few = omega (arith, few, fits.rise); read = sym (held-none (read_from n before (lines_of_listing more))) }
    ]

-- the groups from one on
groups-read : (law : LinesRead) (places : PlacesAreInText) (i : Image) (p : PagedView) (k g n before : ℕ) → Listed i p → g + k ≡ groups_count p.groups → 2 * before ≤ edge p.groups g
    → read_from n before (lines_of_listing (flat_map (text_of_group i p) (range_with_len g k))) ≡ Ok (flat_map (held_of_group p) (range_with_len g k))
groups-read law places i p zero g n before is all few = refl
groups-read law places i p (suc k) g n before is all few =
    let within : g < groups_count p.groups = omega (arith, all) in
    let fits = group-fits p.groups g is.groups within in
    let more : List ℕ = flat_map (text_of_group i p) (range_with_len (g + 1) k) in
    let here = group-read law places i p g n before more is within (omega (arith, few, fits.first)) in
    here.read ∙ ap (with_held (held_of_group p g)) (groups-read law places i p k (g + 1) here.lines here.halves is (omega (arith, all)) (omega (arith, here.few, fits.next)))

pub listing-read : LinesRead → PlacesAreInText → ListingsAreReadBack
unfolding halves_read
listing-read law places i p image names same text bytes =
    groups-read law places i p (groups_count p.groups) 0 0 0 (record { image = image; names = names; bytes = bytes; groups = subst IsGroups (sym same) (groups-good i image) }) (omega arith) (omega arith)
