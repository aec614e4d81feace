-- The entry of a page: text and RAM have whole pages, so that all places of a page lie alike.
use Rattle.std.proofs.Common.{◌≡◌, ◌∙◌, ℕ, ◌+◌, ◌-◌, ◌*◌, ◌/◌, ◌%◌, ◌<◌, ◌≤◌, Bool, true, false, Some, None, List, [], ◌∷◌, ap, refl, arith, ltb, leb, cond, sym}
use Rattle.std.proofs.lemmas.Bool.Decides.{nat_tests}
use Rattle.fc_numbers.specs.declared.places.Span.{Span}
use Rattle.fc_numbers.specs.Spans.{AreRangesFrom, holds, in_text, offset_in, size_of}
use Rattle.fc_numbers.proofs.TextLaws.{places_above, offset_below}
use Rattle.gstage.specs.declared.stage.Placed.TheVariants as placed_in
use Rattle.gstage.specs.Stage.{in_span, placed_among}
use Rattle.fc_numbers.specs.declared.machine.Access.{Access}
use Rattle.fc_numbers.specs.declared.machine.Access.TheVariants as access
use Rattle.gstage.specs.declared.walk.Leaf.{Leaf}
use Rattle.gstage.specs.declared.table.Frame.TheVariants as frame
use Rattle.gstage.specs.declared.table.G.TheVariants as g
use Rattle.gstage.specs.Map.{AreSpans, allows, found, frame_of_page, looked_up, mapped, page_in, ram_page, ram_leaf, text_found, text_leaf}
use Rattle.gstage.specs.Layout.{page_entry, placed_by, text_entry, ram_entry}
use Rattle.gstage.proofs.Entries.{text-placed, ram-placed}

le_page : (s at : ℕ) → s % 4096 ≡ 0 → leb s (4096 * (at / 4096)) ≡ leb s at
le_page s at page = grind (arith, nat_tests)

lt_page : (e at : ℕ) → e % 4096 ≡ 0 → ltb (4096 * (at / 4096)) e ≡ ltb at e
lt_page e at page = grind (arith, nat_tests)

holds_page : (s : Span) (at : ℕ) → s.start % 4096 ≡ 0 → s.end % 4096 ≡ 0 → holds s (4096 * (at / 4096)) ≡ holds s at
holds_page s at first last = rw (le_page s.start at first, lt_page s.end at last) refl

-- a page is in text as its places are
text_page : (ss : List Span) (low at : ℕ) → AreRangesFrom low ss → in_text ss (4096 * (at / 4096)) ≡ in_text ss at
text_page [] low at ranges = refl
text_page (s ∷ ss) low at ranges = rw (holds_page s at ranges.2 ranges.3, text_page ss (s.end + 4096) at ranges.4) refl

-- the places of a page of text are of one page of its offsets
offset_page : (ss : List Span) (low at : ℕ) → AreRangesFrom low ss → offset_in ss (4096 * (at / 4096)) / 4096 ≡ offset_in ss at / 4096
offset_page [] low at ranges = refl
offset_page (s ∷ ss) low at ranges =
    let others = offset_page ss (s.end + 4096) at ranges.4 in
    let first = ranges.2 in
    let last = ranges.3 in
    rw (holds_page s at first last)
    (elim (holds s at) as (λ b. (cond b (4096 * (at / 4096) - s.start) (size_of s + offset_in ss (4096 * (at / 4096)))) / 4096 ≡ (cond b (at - s.start) (size_of s + offset_in ss at)) / 4096) [
      | true ↦ omega (arith, first)
      | false ↦ omega (arith, first, last, others)
    ])

-- text lies in RAM
pub text_in_ram : (text : List Span) (ram : Span) (at : ℕ) → AreSpans text ram → in_text text at ≡ true → in_span ram at ≡ true
text_in_ram text ram at spans inside =
    let low = places_above text 2147483648 at spans.text.ranges inside in
    let high = spans.text.high at inside in
    let start = spans.start in
    grind (arith, nat_tests, low, high, start)

-- a view has at most 1,024 pages of text
pub few_pages : (text : List Span) (ram : Span) (at : ℕ) → AreSpans text ram → in_text text at ≡ true → offset_in text at < 4194304
few_pages text ram at spans inside =
    let below = offset_below text 2147483648 at spans.text.ranges inside in
    let size = spans.text.size in
    omega (arith, below, size)

pub ram_pages : (ram : Span) (at : ℕ) → ram.start ≡ 2147483648 → ram.end % 4096 ≡ 0 → in_span ram (4096 * (at / 4096)) ≡ in_span ram at
ram_pages ram at start last =
    let first : ram.start % 4096 ≡ 0 = rw start refl in
    rw (le_page ram.start at first, lt_page ram.end at last) refl

-- the entry of the page of a place
pub page_entry_at : (text : List Span) (ram : Span) (view at n : ℕ) → AreSpans text ram → 2147483648 + 4096 * n ≡ 4096 * (at / 4096) → page_entry text ram view n ≡ cond (in_text text at) (text_entry (16384 + 1024 * view + page_in text at)) (cond (in_span ram at) (ram_entry n) 0)
unfolding page_entry
page_entry_at text ram view at n spans base =
    rw (base, text_page text 2147483648 at spans.text.ranges, offset_page text 2147483648 at spans.text.ranges, ram_pages ram at spans.start spans.pages) refl

placed_by_cases : (text : List Span) (ram : Span) (b c : Bool) (at p n : ℕ) → in_text text at ≡ b → in_span ram at ≡ c → placed_by (cond b (text_entry p) (cond c (ram_entry n) 0)) ≡ placed_among text ram at
placed_by_cases text ram true c at p n inside other = rw inside (text-placed p)
placed_by_cases text ram false true at p n outside inside = rw (outside, inside) (ram-placed n)
placed_by_cases text ram false false at p n outside other = rw (outside, other) refl

-- the entry of the page of a place says where the place lies
pub placed_page : (text : List Span) (ram : Span) (view at n : ℕ) → AreSpans text ram → 2147483648 + 4096 * n ≡ 4096 * (at / 4096) → placed_by (page_entry text ram view n) ≡ placed_among text ram at
placed_page text ram view at n spans base =
    ap placed_by (page_entry_at text ram view at n spans base)
    ∙ placed_by_cases text ram (in_text text at) (in_span ram at) at (16384 + 1024 * view + page_in text at) n refl refl

pub outside_ram : (text : List Span) (ram : Span) (at : ℕ) (b : Bool) → AreSpans text ram → in_span ram at ≡ false → in_text text at ≡ b → b ≡ false
outside_ram text ram at true spans out inside = let within = text_in_ram text ram at spans inside in absurd (cc)
outside_ram text ram at false spans out outside = refl

-- outside the largest RAM nothing lies
pub outside : (text : List Span) (ram : Span) (at : ℕ) → AreSpans text ram → in_span ram at ≡ false → placed_among text ram at ≡ placed_in.Outside
outside text ram at spans out = rw (outside_ram text ram at (in_text text at) spans out refl, out) refl

-- the host page of a mapped place

page_by : (b c : Bool) (text : List Span) (ram : Span) (view at : ℕ) (leaf : Leaf) → AreSpans text ram → view < 256 → in_text text at ≡ b → in_span ram at ≡ c → cond b (Some (text_leaf view (page_in text at))) (cond c (Some (ram_leaf (ram_page at))) None) ≡ Some leaf → leaf.page < 278528
page_by true c text ram view at leaf spans few inside other is =
    let pages = few_pages text ram at spans inside in
    let page : 16384 + 1024 * view + page_in text at ≡ leaf.page = cc in
    omega (arith, pages, page, few)
page_by false true text ram view at leaf spans few outside inside is =
    let page : ram_page at ≡ leaf.page = cc in
    let below : at < ram.end = grind (arith, nat_tests, inside) in
    let size : ram.end ≤ 2214592512 = spans.most in
    omega (arith, page, below, size)
page_by false false text ram view at leaf spans few outside other is = absurd (cc)

pub mapped_page : (text : List Span) (ram : Span) (view at : ℕ) (leaf : Leaf) → AreSpans text ram → view < 256 → mapped text ram view at ≡ Some leaf → leaf.page < 278528
mapped_page text ram view at leaf spans few is = page_by (in_text text at) (in_span ram at) text ram view at leaf spans few refl refl is

-- the pages of text are those of the view
text_frame : (view n : ℕ) → n < 1024 → frame_of_page (16384 + 1024 * view + n) ≡ frame.Text view n
text_frame view n few =
    let above : ltb (16384 + 1024 * view + n) 16384 ≡ false = grind (arith, nat_tests) in
    let number : (16384 + 1024 * view + n - 16384) / 1024 ≡ view = omega (arith, few) in
    let page : (16384 + 1024 * view + n - 16384) % 1024 ≡ n = omega (arith, few) in
    rw (above, number, page) refl

found_text : (view n : ℕ) (a : Access) → n < 1024 → found (Some (text_leaf view n)) a ≡ text_found view n a
found_text view n access.Fetch few = ap g.Frame (text_frame view n few)
found_text view n access.Load few = refl
found_text view n access.Store few = refl

found_ram : (n : ℕ) (a : Access) → n < 16384 → found (Some (ram_leaf n)) a ≡ g.Frame (frame.Ram n)
found_ram n access.Fetch few = let low : ltb n 16384 ≡ true = grind (arith, nat_tests, few) in rw low refl
found_ram n access.Load few = let low : ltb n 16384 ≡ true = grind (arith, nat_tests, few) in rw low refl
found_ram n access.Store few = let low : ltb n 16384 ≡ true = grind (arith, nat_tests, few) in rw low refl

found_by : (b c : Bool) (text : List Span) (ram : Span) (view at : ℕ) (a : Access) → AreSpans text ram → in_text text at ≡ b → in_span ram at ≡ c → found (cond b (Some (text_leaf view (page_in text at))) (cond c (Some (ram_leaf (ram_page at))) None)) a ≡ cond b (text_found view (page_in text at) a) (cond c (g.Frame (frame.Ram (ram_page at))) g.Unmapped)
found_by true c text ram view at a spans inside other =
    let pages = few_pages text ram at spans inside in
    found_text view (page_in text at) a (omega (arith, pages))
found_by false true text ram view at a spans outside inside =
    let below : at < ram.end = grind (arith, nat_tests, inside) in
    let size : ram.end ≤ 2214592512 = spans.most in
    found_ram (ram_page at) a (omega (arith, below, size))
found_by false false text ram view at a spans outside other = refl

-- what a look-up finds by the map
pub found_mapped : (text : List Span) (ram : Span) (view at : ℕ) (a : Access) → AreSpans text ram → found (mapped text ram view at) a ≡ looked_up text ram view at a
found_mapped text ram view at a spans = found_by (in_text text at) (in_span ram at) text ram view at a spans refl refl

-- the access that a leaf of the map allows
pub looked_leaf : (text : List Span) (ram : Span) (view at : ℕ) (a : Access) (leaf : Leaf) → AreSpans text ram → mapped text ram view at ≡ Some leaf → allows leaf a ≡ true → g.Frame (frame_of_page leaf.page) ≡ looked_up text ram view at a
looked_leaf text ram view at a leaf spans is allowed =
    let here : g.Frame (frame_of_page leaf.page) ≡ found (Some leaf) a = rw allowed refl in
    here ∙ ap (λ o. found o a) (sym is) ∙ found_mapped text ram view at a spans
