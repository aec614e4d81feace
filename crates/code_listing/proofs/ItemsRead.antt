-- The lines of items, read back, give the halfwords of these.
use Rattle.std.proofs.Common.{◌≡◌, ℕ, ◌+◌, ◌-◌, ◌*◌, ◌^◌, ◌<◌, ◌≤◌, true, false, List, [], ◌∷◌, ◌++◌, length, Result, Ok, Err, refl, ap, sym, ◌∙◌, arith, add-one, append_assoc, length-append, replicate}
use Rattle.std.specs.Prelude.{◌==◌, if◌then◌else◌, codes}
use Rattle.std.proofs.lemmas.Bool.{le-leb, eqb-true}
use Rattle.std.proofs.lemmas.List.{length-replicate}
use Rattle.lane_kernels.specs.Kernels.{is_open}
use Rattle.rv_decode.specs.Rows.{decode_of, decode16_of}
use Rattle.chain_log.specs.Line.{hex}
use Rattle.listing_reader.specs.declared.fault.ListFault.{ListFault}
use Rattle.listing_reader.specs.declared.line.Line.{Line}
use Rattle.listing_reader.specs.declared.line.Line.TheVariants as line
use Rattle.listing_reader.specs.declared.line.TheConstants.{HALVES_MOST}
use Rattle.listing_reader.specs.declared.reading.Held.{Held}
use Rattle.listing_reader.specs.Lines.{line_halves, line_place, line_size}
use Rattle.listing_reader.specs.Reading.{◌>>=◌, held_from, lines_of_listing, read_from}
use Rattle.listing_reader.specs.Written.{HeadsAreRead, IsLineOf, LinesAreReadInOrder, NumbersAreOneLine, ShortsAreRead, WidesAreRead, ZerosAreRead}
use Rattle.code_listing.specs.declared.items.Item.{Item}
use Rattle.code_listing.specs.declared.items.Item.TheVariants.{Zeros, Wide, Short}
use Rattle.code_listing.specs.Items.{halves_of, items_of, size_of_item, zero_before}
use Rattle.code_listing.specs.Lines.{half_digits, half_text, item_line, item_lines, item_text, word_text}
use Rattle.code_listing.proofs.OneLine.{half-line, word-line}
use Rattle.code_listing.proofs.WordsRead.{half-long, half-read, word-long, word-read}

-- how lines are read
pub record LinesRead : Type 0 where
  pub heads : HeadsAreRead
  pub zeros : ZerosAreRead
  pub shorts : ShortsAreRead
  pub wides : WidesAreRead
  pub order : LinesAreReadInOrder
  pub numbers : NumbersAreOneLine

-- what was read, behind other halfwords
abbrev pub with_held : List Held → Result (List Held) ListFault → Result (List Held) ListFault
with_held held r = r >>= (λ more. Ok (held ++ more))

pub held-none : (r : Result (List Held) ListFault) → with_held [] r ≡ r
held-none (Ok more) = refl
held-none (Err fault) = refl

pub held-both : (a b : List Held) (r : Result (List Held) ListFault) → with_held a (with_held b r) ≡ with_held (a ++ b) r
held-both a b (Ok more) = ap (λ xs. Ok xs) (sym (append_assoc a b more))
held-both a b (Err fault) = refl

-- a line in front of others, where it brings not too many halfwords
pub line-read : (law : LinesRead) (n before : ℕ) (l : Line) (text more : List ℕ) → IsLineOf l text → before + line_size l ≤ HALVES_MOST
    → read_from n before (lines_of_listing (text ++ 0x0a ∷ more)) ≡ with_held (held_from (line_place l) (line_halves l)) (read_from (n + 1) (before + line_size l) (lines_of_listing more))
line-read law n before l text more is few =
    let test = le-leb (before + line_size l) HALVES_MOST few in
    law.order n before l text more is ∙ rw test refl

-- halfwords of 16 bits
abbrev pub AreHalves : List ℕ → Type 0
AreHalves [] = Unit {0}
AreHalves (half ∷ halves) = (half < 65536) × AreHalves halves

abbrev pub IsItem : Item → Type 0
IsItem (Zeros count) = 1 ≤ count
IsItem (Wide low high) = (low < 65536) × (high < 65536)
IsItem (Short half) = half < 65536

abbrev pub AreItems : List Item → Type 0
AreItems [] = Unit {0}
AreItems (item ∷ items) = IsItem item × AreItems items

abbrev pub all_halves : List Item → List ℕ
all_halves [] = []
all_halves (item ∷ items) = halves_of item ++ all_halves items

-- the items of halfwords have these
abbrev AreItemsOf : List ℕ → List Item → Type 0
AreItemsOf halves items = AreItems items × (all_halves items ≡ halves)

zero-more : (items : List Item) (halves : List ℕ) → AreItemsOf halves items → AreItemsOf (0 ∷ halves) (zero_before items)
zero-more [] halves is = ((omega arith, tt), ap (λ xs. 0 ∷ xs) is.1)
zero-more (Zeros count ∷ items) halves is =
    let more : replicate (count + 1) 0 ++ all_halves items ≡ 0 ∷ (replicate count 0 ++ all_halves items) = rw add-one refl in
    ((omega arith, is.0.1), more ∙ ap (λ xs. 0 ∷ xs) is.1)
zero-more (Wide low high ∷ items) halves is = ((omega arith, is.0), ap (λ xs. 0 ∷ xs) is.1)
zero-more (Short half ∷ items) halves is = ((omega arith, is.0), ap (λ xs. 0 ∷ xs) is.1)

zero-first : (half : ℕ) (items : List Item) (halves : List ℕ) → (half == 0) ≡ true → AreItemsOf halves items → AreItemsOf (half ∷ halves) (zero_before items)
zero-first half items halves none is =
    let more = zero-more items halves is in
    (more.0, more.1 ∙ ap (λ x. x ∷ halves) (sym (eqb-true half 0 none)))

pub items-all : (halves : List ℕ) → AreHalves halves → AreItemsOf halves (items_of halves)
items-all [] small = (tt, refl)
items-all (half ∷ []) small =
    elim (half == 0) as (λ t. (half == 0) ≡ t → AreItemsOf (half ∷ []) (if t then zero_before [] else Short half ∷ [])) [
      | true ↦ λ none. zero-first half [] [] none (tt, refl)
      | false ↦ λ none. ((small.0, tt), refl)
    ] refl
items-all (half ∷ next ∷ rest) small =
    elim (half == 0) as (λ t. (half == 0) ≡ t
    → AreItemsOf (half ∷ next ∷ rest) (if t then zero_before (items_of (next ∷ rest)) else (if is_open half then Wide half next ∷ items_of rest else Short half ∷ items_of (next ∷ rest)))) [
      | true ↦ λ none. zero-first half (items_of (next ∷ rest)) (next ∷ rest) none (items-all (next ∷ rest) small.1)
      | false ↦ λ none.
          elim (is_open half) as (λ t. AreItemsOf (half ∷ next ∷ rest) (if t then Wide half next ∷ items_of rest else Short half ∷ items_of (next ∷ rest))) [
            | true ↦ (let is = items-all rest small.1.1 in (((small.0, small.1.0), is.0), ap (λ xs. half ∷ next ∷ xs) is.1))
            | false ↦ (let is = items-all (next ∷ rest) small.1 in ((small.0, is.0), ap (λ xs. half ∷ xs) is.1))
          ]
    ] refl

-- the line that an item has at a place
abbrev as_line : ℕ → Item → Line
as_line place (Zeros count) = line.Zeros place count
as_line place (Wide low high) = line.Wide place low high
as_line place (Short half) = line.Short place half

-- the text of its line, without the newline
abbrev item_words : ℕ → Item → List ℕ
item_words place item = hex place ++ 0x20 ∷ item_text item

item-is : (law : LinesRead) (place : ℕ) (item : Item) → IsItem item → place + 2 * size_of_item item ≤ 2 ^ 63 → size_of_item item ≤ HALVES_MOST → IsLineOf (as_line place item) (item_words place item)
unfolding item_text
item-is law place (Zeros count) some low few = law.zeros place count some few (omega (arith, low))
item-is law place (Wide low high) small below few =
    let text : List ℕ = word_text (decode_of (low + 65536 * high)) (low + 65536 * high) in
    let digits : List ℕ = half_digits high ++ half_digits low in
    rw (append_assoc digits (codes " ") text) (law.wides place low high digits text (omega (arith, below)) small.0 (word-long low high) (word-read low high small.0 small.1) (word-line (decode_of (low + 65536 * high)) (low + 65536 * high) law.numbers))
item-is law place (Short half) small below few =
    let text : List ℕ = half_text (decode16_of half) half in
    rw (append_assoc (half_digits half) (codes " ") text) (law.shorts place half (half_digits half) text (omega (arith, below)) (half-long half) (half-read half small) (half-line (decode16_of half) half law.numbers))

-- the line of an item is its text and a newline
line-is : (place : ℕ) (item : Item) (more : List ℕ) → item_line place item ++ more ≡ item_words place item ++ 0x0a ∷ more
line-is place item more =
    append_assoc (hex place ++ codes " " ++ item_text item) (codes "\n") more
    ∙ ap (λ xs. xs ++ 0x0a ∷ more) (append_assoc (hex place) (codes " ") (item_text item))

line-same : (place : ℕ) (item : Item) → held_from (line_place (as_line place item)) (line_halves (as_line place item)) ≡ held_from place (halves_of item)
line-same place (Zeros count) = refl
line-same place (Wide low high) = refl
line-same place (Short half) = refl

line-size : (place : ℕ) (item : Item) → line_size (as_line place item) ≡ size_of_item item
line-size place (Zeros count) = refl
line-size place (Wide low high) = refl
line-size place (Short half) = refl

-- an item in front of other lines
item-read : (law : LinesRead) (n before place : ℕ) (item : Item) (more : List ℕ) → IsItem item → place + 2 * size_of_item item ≤ 2 ^ 63 → before + size_of_item item ≤ HALVES_MOST
    → read_from n before (lines_of_listing (item_line place item ++ more)) ≡ with_held (held_from place (halves_of item)) (read_from (n + 1) (before + size_of_item item) (lines_of_listing more))
item-read law n before place item more is low few =
    let size = line-size place item in
    let within : size_of_item item ≤ HALVES_MOST = omega (arith, few) in
    let fits : before + line_size (as_line place item) ≤ HALVES_MOST = rw size few in
    ap (λ xs. read_from n before (lines_of_listing xs)) (line-is place item more)
    ∙ line-read law n before (as_line place item) (item_words place item) more (item-is law place item is low within) fits
    ∙ ap (λ k. with_held (held_from (line_place (as_line place item)) (line_halves (as_line place item))) (read_from (n + 1) (before + k) (lines_of_listing more))) size
    ∙ ap (λ held. with_held held (read_from (n + 1) (before + size_of_item item) (lines_of_listing more))) (line-same place item)

abbrev pub sizes : List Item → ℕ
sizes [] = 0
sizes (item ∷ items) = size_of_item item + sizes items

halves-long : (item : Item) → length (halves_of item) ≡ size_of_item item
halves-long (Zeros count) = length-replicate count 0
halves-long (Wide low high) = refl
halves-long (Short half) = refl

pub sizes-long : (items : List Item) → sizes items ≡ length (all_halves items)
sizes-long [] = refl
sizes-long (item ∷ items) = sym (length-append (halves_of item) (all_halves items) ∙ ap (λ k. k + length (all_halves items)) (halves-long item) ∙ ap (λ k. size_of_item item + k) (sym (sizes-long items)))

held-append : (place : ℕ) (xs ys : List ℕ) → held_from place (xs ++ ys) ≡ held_from place xs ++ held_from (place + 2 * length xs) ys
held-append place [] ys = let none : place + 2 * 0 ≡ place = omega arith in rw none refl
held-append place (x ∷ xs) ys =
    let next : place + 2 * length (x ∷ xs) ≡ place + 2 + 2 * length xs = omega arith in
    ap (λ held. record { at = place; half = x } ∷ held) (held-append (place + 2) xs ys ∙ ap (λ p. held_from (place + 2) xs ++ held_from p ys) (sym next))

held-item : (place : ℕ) (item : Item) (halves : List ℕ) → held_from place (halves_of item) ++ held_from (place + 2 * size_of_item item) halves ≡ held_from place (halves_of item ++ halves)
held-item place item halves =
    ap (λ k. held_from place (halves_of item) ++ held_from (place + 2 * k) halves) (sym (halves-long item)) ∙ sym (held-append place (halves_of item) halves)

-- items in front of other lines
pub items-read : (law : LinesRead) (n before place : ℕ) (items : List Item) (more : List ℕ) → AreItems items → place + 2 * sizes items ≤ 2 ^ 63 → before + sizes items ≤ HALVES_MOST
    → read_from n before (lines_of_listing (item_lines place items ++ more)) ≡ with_held (held_from place (all_halves items)) (read_from (n + length items) (before + sizes items) (lines_of_listing more))
items-read law n before place [] more are low few =
    let none : n + 0 ≡ n = omega arith in
    let same : before + 0 ≡ before = omega arith in
    rw (none, same) (sym (held-none (read_from n before (lines_of_listing more))))
items-read law n before place (item ∷ items) more are low few =
    let size = size_of_item item in
    let rest : List ℕ = item_lines (place + 2 * size) items ++ more in
    let lines : n + 1 + length items ≡ n + length (item ∷ items) = omega arith in
    let counted : before + size + sizes items ≡ before + sizes (item ∷ items) = omega arith in
    let later = items-read law (n + 1) (before + size) (place + 2 * size) items more are.1 (omega (arith, low)) (omega (arith, few)) in
    ap (λ xs. read_from n before (lines_of_listing xs)) (append_assoc (item_line place item) (item_lines (place + 2 * size) items) more)
    ∙ item-read law n before place item rest are.0 (omega (arith, low)) (omega (arith, few))
    ∙ ap (with_held (held_from place (halves_of item))) later
    ∙ held-both (held_from place (halves_of item)) (held_from (place + 2 * size) (all_halves items)) (read_from (n + 1 + length items) (before + size + sizes items) (lines_of_listing more))
    ∙ ap (λ held. with_held held (read_from (n + 1 + length items) (before + size + sizes items) (lines_of_listing more))) (held-item place item (all_halves items))
    ∙ ap (λ k. with_held (held_from place (all_halves (item ∷ items))) (read_from k (before + size + sizes items) (lines_of_listing more))) lines
    ∙ ap (λ k. with_held (held_from place (all_halves (item ∷ items))) (read_from (n + length (item ∷ items)) k (lines_of_listing more))) counted

-- the lines of halfwords in front of other lines
pub halves-read : (law : LinesRead) (n before place : ℕ) (halves more : List ℕ) → AreHalves halves → place + 2 * length halves ≤ 2 ^ 63 → before + length halves ≤ HALVES_MOST
    → read_from n before (lines_of_listing (item_lines place (items_of halves) ++ more)) ≡ with_held (held_from place halves) (read_from (n + length (items_of halves)) (before + length halves) (lines_of_listing more))
halves-read law n before place halves more small low few =
    let are = items-all halves small in
    let long : sizes (items_of halves) ≡ length halves = sizes-long (items_of halves) ∙ ap length are.1 in
    let below : place + 2 * sizes (items_of halves) ≤ 2 ^ 63 = rw long low in
    let within : before + sizes (items_of halves) ≤ HALVES_MOST = rw long few in
    items-read law n before place (items_of halves) more are.0 below within
    ∙ ap (λ k. with_held (held_from place (all_halves (items_of halves))) (read_from (n + length (items_of halves)) (before + k) (lines_of_listing more))) long
    ∙ ap (λ xs. with_held (held_from place xs) (read_from (n + length (items_of halves)) (before + length halves) (lines_of_listing more))) are.1
