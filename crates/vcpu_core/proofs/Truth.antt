-- What the windows of a lane are, and that a fetch by truthful windows is the full kernel's fetch.
use Rattle.std.proofs.Common.{◌≡◌, ◌≢◌, ℕ, ◌+◌, ◌-◌, ◌*◌, ◌/◌, ◌%◌, ◌<◌, ◌≤◌, true, false, Bool, cond, List, [], ◌∷◌, ◌++◌, length, refl, sym, ap, subst, ◌∙◌, arith, Option, Some, None, append_assoc}
use Rattle.std.specs.Prelude.{◌==◌, ◌||◌, slice_index, slice_index_or, nat_le, nat_lt, if◌then◌else◌}
use Rattle.std.specs.List.{find}
use Rattle.std.proofs.lemmas.Grind.{common_steps}
use Rattle.std.proofs.lemmas.Bool.Decides.{nat_tests}
use Rattle.fc_numbers.specs.declared.places.Span.{Span}
use Rattle.fc_numbers.specs.declared.places.TheConstants.{RAM_START, RAM_MOST}
use Rattle.fc_numbers.specs.declared.window.Window.{Window}
use Rattle.fc_numbers.specs.Spans.{AreRangesFrom, IsTextBelow, end_in, holds, in_text, offset_in, place_in, size_of, text_size}
use Rattle.fc_numbers.proofs.TextLaws.{end_near, offset_below, offset_near, offset_page, place_inside, place_near, place_offset, places_above}
use Rattle.guest_input.specs.Accepted.{IsAscendingFrom}
use Rattle.guest_input.specs.Text.{bytes_of}
use Rattle.function_table.specs.Groups.{Groups, group_in, group_at, range_of, half_of, IsRangeOf, IsGroups}
use Rattle.function_table.proofs.GroupLemmas.{groups-good, joined, range_is}
use Rattle.chain_log.specs.declared.entry.LogEntry.{LogEntry}
use Rattle.guest_ram.specs.Ram.{Ram, is_text}
use Rattle.guest_ram.specs.Value.{value_at}
use Rattle.view_store.specs.Paged.{PagedView, is_logged, is_present, masked, window_of}
use Rattle.view_store.proofs.PageLemmas.{windows_are_of_the_mask}
use Rattle.guest_board.specs.declared.fetch.Fetched.{Fetched}
use Rattle.guest_board.specs.declared.fetch.Fetched.TheVariants.{Short, Long, Faults, Stops}
use Rattle.guest_board.specs.declared.seen.Windows.{Windows}
use Rattle.guest_board.specs.declared.step.StepStart.{StepStart}
use Rattle.guest_board.specs.Fetch.{text_place, place_if, with_halves, half_at}
use Rattle.guest_board.specs.Seen.{half_in_line, line_no, is_cleared, window_at}
use Rattle.guest_board.proofs.Places.{HalvesAre, IsBehind}
use Rattle.run_evidence.specs.Config.{Config, IsConfig, image_groups}
use Rattle.run_evidence.specs.Growing.{Begins, paged_at}
use Rattle.vcpu_core.specs.Truthful.{AllTaken, AreTruthful, IsClearedBy, IsTaken}
use Rattle.vcpu_core.proofs.Verdicts.{IsRead, first_in, second_in}

-- the number of the halfword of text at a place
abbrev pub half_no : List Span → ℕ → ℕ
half_no text place = offset_in text place / 2

-- the number of starts at most an offset is that at its halfword, since starts are even
group-even : (low size : ℕ) (xs : List ℕ) (o : ℕ) → IsAscendingFrom low xs size → group_in xs o ≡ group_in xs (2 * (o / 2))
group-even low size [] o up = refl
group-even low size (x ∷ xs) o up =
    let rest : group_in xs o ≡ group_in xs (2 * (o / 2)) = group-even x size xs o up.2 in
    let even : x % 2 ≡ 0 = up.1 in
    let same : nat_le x o ≡ nat_le x (2 * (o / 2)) = grind (arith, nat_tests, even) in
    grind (arith, common_steps, rest, same)

-- the group of a place is that of its halfword
pub group-half : (t : Groups) (p : ℕ) → IsGroups t → group_at t p ≡ group_in t.starts (2 * half_no t.text p)
group-half t p good = group-even 0 (text_size t.text) t.starts (offset_in t.text p) good.starts

-- a range ends at a page
end-pages : (ss : List Span) (low o : ℕ) → AreRangesFrom low ss → o < text_size ss → end_in ss o % 4096 ≡ 0
end-pages [] low o k within = absurd (omega arith)
end-pages (s ∷ ss) low o k within =
    elim (nat_lt o (size_of s)) as (λ b. nat_lt o (size_of s) ≡ b → (if b then size_of s else size_of s + end_in ss (o - size_of s)) % 4096 ≡ 0) [
      | true ↦ λ t. omega (arith, k.1, k.2, k.3)
      | false ↦ λ t.
          let over : size_of s ≤ o = grind (arith, nat_tests, t) in
          let rest : end_in ss (o - size_of s) % 4096 ≡ 0 = end-pages ss (s.end + 4096) (o - size_of s) k.4 (omega (arith, within, over)) in
          omega (arith, k.1, k.2, k.3, rest)
    ] refl

-- a byte of a later range stands more than a page behind
far-behind : (ss : List Span) (low o q : ℕ) → AreRangesFrom low ss → o < text_size ss → q < text_size ss → end_in ss o ≤ q → place_in ss o + 4096 < place_in ss q
far-behind [] low o q k within within' behind = absurd (omega arith)
far-behind (s ∷ ss) low o q k within within' behind =
    elim (nat_lt o (size_of s)) as (λ b. nat_lt o (size_of s) ≡ b → (if b then size_of s else size_of s + end_in ss (o - size_of s)) ≤ q
    → (if b then s.start + o else place_in ss (o - size_of s)) + 4096 < place_in (s ∷ ss) q) [
      | true ↦ λ t z.
          let later : nat_lt q (size_of s) ≡ false = grind (arith, nat_tests, z) in
          let rest : q - size_of s < text_size ss = omega (arith, within', z) in
          let above : s.end + 4096 ≤ place_in ss (q - size_of s) = places_above ss (s.end + 4096) (place_in ss (q - size_of s)) k.4 (place_inside ss (s.end + 4096) (q - size_of s) k.4 rest) in
          let here : o < size_of s = grind (arith, nat_tests, t) in
          rw later (omega (arith, above, here))
      | false ↦ λ t z.
          let over : size_of s ≤ o = grind (arith, nat_tests, t) in
          let near = end_near ss (s.end + 4096) (o - size_of s) k.4 (omega (arith, within, over)) in
          let later : nat_lt q (size_of s) ≡ false = grind (arith, nat_tests, z) in
          rw later (far-behind ss (s.end + 4096) (o - size_of s) (q - size_of s) k.4 (omega (arith, within, over)) (omega (arith, within', z)) (omega (arith, z)))
    ] refl behind

-- the memory has this text: byte k of it at the place of offset k
pub record HasText (ram : Ram) (ranges : List Span) (text : List ℕ) : Type 0 where
  pub same : ram.text ≡ ranges
  pub below : IsTextBelow (RAM_START + RAM_MOST) ranges
  pub long : text_size ranges ≡ length text
  pub bytes : (k : ℕ) → k < length text → slice_index ram.bytes (place_in ranges k - RAM_START) ≡ slice_index text k

-- where the halfword of a place of text stands: both bytes in one range
record IsHalfAt (ranges : List Span) (p : ℕ) : Type 0 where
  inside : 2 * half_no ranges p + 1 < text_size ranges
  first : place_in ranges (2 * half_no ranges p) ≡ p - p % 2
  second : place_in ranges (2 * half_no ranges p + 1) ≡ p - p % 2 + 1
  low : RAM_START ≤ p - p % 2

half-place : (ranges : List Span) (p : ℕ) → AreRangesFrom RAM_START ranges → in_text ranges p ≡ true → IsHalfAt ranges p
half-place ranges p k inside =
    let o : ℕ = offset_in ranges p in
    let even : ℕ = 2 * half_no ranges p in
    let below : offset_in ranges p < text_size ranges = offset_below ranges RAM_START p k inside in
    let page : offset_in ranges p % 4096 ≡ p % 4096 = offset_page ranges RAM_START p k inside in
    let back : place_in ranges (offset_in ranges p) ≡ p = place_offset ranges RAM_START p k inside in
    let within : 2 * half_no ranges p < text_size ranges = omega (arith, below) in
    let near = end_near ranges RAM_START (2 * half_no ranges p) k within in
    let pages : end_in ranges (2 * half_no ranges p) % 4096 ≡ 0 = end-pages ranges RAM_START (2 * half_no ranges p) k within in
    let room : 2 * half_no ranges p + 1 < end_in ranges (2 * half_no ranges p) = omega (arith, near.0, pages) in
    let next : place_in ranges (2 * half_no ranges p + 1) ≡ place_in ranges (2 * half_no ranges p) + 1 = place_near ranges RAM_START (2 * half_no ranges p) 1 k within room in
    let low : RAM_START ≤ place_in ranges (2 * half_no ranges p) = places_above ranges RAM_START (place_in ranges (2 * half_no ranges p)) k (place_inside ranges RAM_START (2 * half_no ranges p) k within) in
    let by_even : offset_in ranges p ≡ 2 * half_no ranges p → place_in ranges (2 * half_no ranges p) ≡ p = λ e. ap (λ n. place_in ranges n) (sym e) ∙ back in
    let by_odd : offset_in ranges p ≡ 2 * half_no ranges p + 1 → place_in ranges (2 * half_no ranges p + 1) ≡ p = λ e. ap (λ n. place_in ranges n) (sym e) ∙ back in
    let first : place_in ranges (2 * half_no ranges p) ≡ p - p % 2 = first-at (offset_in ranges p) p (place_in ranges (2 * half_no ranges p)) (place_in ranges (2 * half_no ranges p + 1)) page next by_even by_odd in
    record { inside = omega (arith, room, near.1); first = first; second = omega (arith, next, first); low = rw (← first) low }
  where
    first-at : (o p a b : ℕ) → o % 4096 ≡ p % 4096 → b ≡ a + 1 → (o ≡ 2 * (o / 2) → a ≡ p) → (o ≡ 2 * (o / 2) + 1 → b ≡ p) → a ≡ p - p % 2
    first-at o p a b page next even odd = grind (arith, page, next, even, odd)

-- the halfword of memory at a place of text is that of the text
pub text-half : (ram : Ram) (ranges : List Span) (text : List ℕ) (p : ℕ) → HasText ram ranges text → is_text ram p ≡ true → half_at ram p ≡ half_of text (half_no ranges p)
unfolding value_at
text-half ram ranges text p k e =
    let inside : in_text ranges p ≡ true = subst (λ t. in_text t p ≡ true) k.same e in
    let at : IsHalfAt ranges p = half-place ranges p k.below.ranges inside in
    let one : slice_index ram.bytes (p - p % 2 - RAM_START + 0) ≡ slice_index text (2 * half_no ranges p) =
    ap (λ x. slice_index ram.bytes x) (omega (arith, at.first)) ∙ k.bytes (2 * half_no ranges p) (omega (arith, at.inside, k.long)) in
    let two : slice_index ram.bytes (p - p % 2 - RAM_START + 1) ≡ slice_index text (2 * half_no ranges p + 1) =
    ap (λ x. slice_index ram.bytes x) (omega (arith, at.second, at.low)) ∙ k.bytes (2 * half_no ranges p + 1) (omega (arith, at.inside, k.long)) in
    rw (one, two) (omega arith)

-- where the halfword behind a place of text is of text, it is of the same range
pub next-half : (ranges : List Span) (p : ℕ) → AreRangesFrom RAM_START ranges → in_text ranges p ≡ true → in_text ranges (p + 2) ≡ true
    → (half_no ranges (p + 2) ≡ half_no ranges p + 1) × (2 * (half_no ranges p + 1) < end_in ranges (2 * half_no ranges p))
next-half ranges p k inside more =
    let near : offset_in ranges (p + 2) ≡ offset_in ranges p + 2 = offset_near ranges RAM_START p 2 k (omega arith) inside more in
    let below : offset_in ranges (p + 2) < text_size ranges = offset_below ranges RAM_START (p + 2) k more in
    let back : place_in ranges (offset_in ranges (p + 2)) ≡ p + 2 = place_offset ranges RAM_START (p + 2) k more in
    let at : IsHalfAt ranges p = half-place ranges p k inside in
    let within : 2 * half_no ranges p < text_size ranges = omega (arith, at.inside) in
    let ends = end_near ranges RAM_START (2 * half_no ranges p) k within in
    let pages : end_in ranges (2 * half_no ranges p) % 4096 ≡ 0 = end-pages ranges RAM_START (2 * half_no ranges p) k within in
    let far : end_in ranges (2 * half_no ranges p) ≤ offset_in ranges (p + 2) → place_in ranges (2 * half_no ranges p) + 4096 < place_in ranges (offset_in ranges (p + 2)) =
    λ h. far-behind ranges RAM_START (2 * half_no ranges p) (offset_in ranges (p + 2)) k within below h in
    (omega (arith, near), room-at (offset_in ranges p) (end_in ranges (2 * half_no ranges p)) p (place_in ranges (2 * half_no ranges p)) (offset_in ranges (p + 2)) (place_in ranges (offset_in ranges (p + 2))) near back at.first ends.0 pages far)
  where
    room-at : (o end p a q b : ℕ) → q ≡ o + 2 → b ≡ p + 2 → a ≡ p - p % 2 → 2 * (o / 2) < end → end % 4096 ≡ 0 → (end ≤ q → a + 4096 < b) → 2 * (o / 2 + 1) < end
    room-at o end p a q b near back first some pages far = grind (arith, near, back, first, some, pages, far)

-- the range of text that holds an offset holds the next ones before its end
end-within : (ss : List Span) (o d : ℕ) → o + d < end_in ss o → end_in ss (o + d) ≡ end_in ss o
end-within [] o d more = absurd (omega (arith, more))
end-within (s ∷ ss) o d more =
    elim (nat_lt o (size_of s)) as (λ b. nat_lt o (size_of s) ≡ b → o + d < (if b then size_of s else size_of s + end_in ss (o - size_of s))
    → end_in (s ∷ ss) (o + d) ≡ (if b then size_of s else size_of s + end_in ss (o - size_of s))) [
      | true ↦ λ t z.
          let here : nat_lt (o + d) (size_of s) ≡ true = grind (arith, nat_tests, z) in
          rw here refl
      | false ↦ λ t z.
          let over : size_of s ≤ o = grind (arith, nat_tests, t) in
          let past : nat_lt (o + d) (size_of s) ≡ false = grind (arith, nat_tests, over) in
          let index : o + d - size_of s ≡ o - size_of s + d = omega (arith, over) in
          rw (past, index) (ap (λ n. size_of s + n) (end-within ss (o - size_of s) d (omega (arith, z, over))))
    ] refl more

-- halfword numbers and lines
line-half : (text : List Span) (p : ℕ) → 32 * line_no text p + half_in_line text p ≡ half_no text p
line-half text p = omega arith

-- what a view had is what it has when its log is longer
any-front : (log rest : List LogEntry) (g : ℕ) → is_logged log g ≡ true → is_logged (log ++ rest) g ≡ true
any-front [] rest g e = absurd (cc)
any-front (x ∷ xs) rest g e =
    elim (x.group == g) as (λ b. (b || is_logged xs g) ≡ true → (b || is_logged (xs ++ rest) g) ≡ true) [
      | true ↦ λ h. refl
      | false ↦ λ h. any-front xs rest g h
    ] e

or-weaken : (a b d : Bool) → (b ≡ true → d ≡ true) → (a || b) ≡ true → (a || d) ≡ true
or-weaken true b d f e = refl
or-weaken false b d f e = f e

pub present-longer : (base : List Bool) (seen log : List LogEntry) (g : ℕ) → Begins seen log → is_present base seen g ≡ true → is_present base log g ≡ true
present-longer base seen log g front e =
    or-weaken (slice_index_or base g false) (is_logged seen g) (is_logged log g) (λ h. subst (λ (l : List LogEntry). is_logged l g ≡ true) (sym front.1) (any-front seen front.0 g h)) e

pub begins-itself : {X : Type 0} (xs : List X) → Begins xs xs
begins-itself xs = ([], grind (arith, common_steps))

pub begins-through : {X : Type 0} (xs ys zs : List X) → Begins xs ys → Begins ys zs → Begins xs zs
begins-through xs ys zs a b = (a.0 ++ b.0, b.1 ∙ ap (λ l. l ++ b.0) a.1 ∙ append_assoc xs a.0 b.0)

-- the cleared range of a view whose log grew
pub cleared-longer : (c : Config) (v : ℕ) (log more : List LogEntry) (cleared : Option Span) → Begins log more → IsClearedBy (paged_at c v log) cleared → IsClearedBy (paged_at c v more) cleared
cleared-longer c v log more None front k = tt
cleared-longer c v log more (Some s) front k = record {
  group = k.group;
  range = k.range;
  within = k.within;
  present = present-longer (paged_at c v log).base log more k.group front k.present;
}

pub taken-longer : (c : Config) (v : ℕ) (log more : List LogEntry) (cleared : Option Span) (ws : List Window) → Begins log more → AllTaken c v log cleared ws → AllTaken c v more cleared ws
taken-longer c v log more cleared [] front all = tt
taken-longer c v log more cleared (w ∷ ws) front all =
    (record { seen = all.0.seen; front = begins-through all.0.seen log more all.0.front front; is = all.0.is; clear = all.0.clear }, taken-longer c v log more cleared ws front all.1)

pub truthful-longer : (c : Config) (log more : List LogEntry) (w : Windows) → Begins log more → AreTruthful c log w → AreTruthful c more w
truthful-longer c log more w front k = record {
  held = taken-longer c w.view log more w.cleared w.held.items front k.held;
  cleared = cleared-longer c w.view log more w.cleared front k.cleared;
}

-- the window of a line, where one is held
record IsFound (c : Config) (v : ℕ) (log : List LogEntry) (cleared : Option Span) (line : ℕ) (w : Window) : Type 0 where
  line_is : w.line ≡ line
  taken : IsTaken c v log cleared w

found-taken : (c : Config) (v : ℕ) (log : List LogEntry) (cleared : Option Span) (line : ℕ) (w : Window) (ws : List Window) → AllTaken c v log cleared ws
    → window_at line ws ≡ Some w → IsFound c v log cleared line w
found-taken c v log cleared line w [] all e = absurd (cc)
found-taken c v log cleared line w (x ∷ xs) all e =
    elim (x.line == line) as (λ b. (x.line == line) ≡ b → cond b (Some x) (find (λ (y : Window). y.line == line) xs) ≡ Some w → IsFound c v log cleared line w) [
      | true ↦ λ t h. let same : x ≡ w = cc in subst (λ y. IsFound c v log cleared line y) same (record { line_is = grind (arith, nat_tests, t); taken = all.0 })
      | false ↦ λ t h. found-taken c v log cleared line w xs all.1 h
    ] refl e

-- two halfwords are the original ones of a present group, from halfword n on
pub record IsOriginal (p : PagedView) (n first second : ℕ) : Type 0 where
  pub first_is : first ≡ half_of p.text n
  pub second_is : group_in p.groups.starts (2 * (n + 1)) ≡ group_in p.groups.starts (2 * n) → 2 * (n + 1) < end_in p.groups.text (2 * n) → second ≡ half_of p.text (n + 1)
  pub present : is_present p.base p.log (group_in p.groups.starts (2 * n)) ≡ true

apart : (a b : ℕ) → a ≢ b → (a == b) ≡ false
apart a b ne = grind (arith, nat_tests)

-- a place of a cleared group is not one of an absent group
cleared-present : (p : PagedView) (cleared : Option Span) (q n : ℕ) → IsGroups p.groups → IsClearedBy p cleared → in_text p.groups.text q ≡ true → half_no p.groups.text q ≡ n
    → is_present p.base p.log (group_in p.groups.starts (2 * n)) ≡ false → is_cleared cleared q ≡ false
cleared-present p None q n good k inside half absent = refl
cleared-present p (Some s) q n good k inside half absent =
    let range : IsRangeOf p.groups k.group (range_of p.groups k.group) = range_is p.groups k.group good k.within in
    let group : group_at p.groups q ≡ group_in p.groups.starts (2 * n) = group-half p.groups q good ∙ ap (λ x. group_in p.groups.starts (2 * x)) half in
    let other : holds (range_of p.groups k.group) q ≡ (group_at p.groups q == k.group) = range.each q inside in
    let not_it : group_at p.groups q ≢ k.group = λ e. absurd (cc (k.present, absent, ap (λ g. is_present p.base p.log g) (sym group ∙ e))) in
    rw k.range (other ∙ apart (group_at p.groups q) k.group not_it)

module _ (c : Config) (ok : IsConfig c) where
  good : IsGroups (image_groups c)
  good = groups-good c.image ok.image

  -- the halfwords of a window at a place of text and behind it are those of the mask
  window-first : (v : ℕ) (seen : List LogEntry) (p : ℕ) (w : Window) → in_text (image_groups c).text p ≡ true → w.line ≡ line_no (image_groups c).text p → w ≡ window_of (paged_at c v seen) w.line
      → first_in (image_groups c).text p w ≡ masked (paged_at c v seen) (half_no (image_groups c).text p)
  window-first v seen p w inside line is =
      let text : List Span = (image_groups c).text in
      let below : offset_in (image_groups c).text p < text_size (image_groups c).text = offset_below (image_groups c).text RAM_START p good.text.ranges inside in
      let at : w ≡ window_of (paged_at c v seen) (line_no (image_groups c).text p) = is ∙ ap (λ n. window_of (paged_at c v seen) n) line in
      ap (λ (x : Window). slice_index x.halves (half_in_line (image_groups c).text p)) at
      ∙ windows_are_of_the_mask (paged_at c v seen) (line_no (image_groups c).text p) (half_in_line (image_groups c).text p) good ok.image.text.long (omega (arith, below)) (omega arith) (λ e. absurd (omega (arith, e)))
      ∙ ap (λ n. masked (paged_at c v seen) n) (line-half (image_groups c).text p)

  window-second : (v : ℕ) (seen : List LogEntry) (p : ℕ) (w : Window) → in_text (image_groups c).text p ≡ true → w.line ≡ line_no (image_groups c).text p → w ≡ window_of (paged_at c v seen) w.line
      → 2 * (half_no (image_groups c).text p + 1) < end_in (image_groups c).text (2 * half_no (image_groups c).text p)
      → second_in (image_groups c).text p w ≡ masked (paged_at c v seen) (half_no (image_groups c).text p + 1)
  window-second v seen p w inside line is more =
      let below : offset_in (image_groups c).text p < text_size (image_groups c).text = offset_below (image_groups c).text RAM_START p good.text.ranges inside in
      let at : w ≡ window_of (paged_at c v seen) (line_no (image_groups c).text p) = is ∙ ap (λ n. window_of (paged_at c v seen) n) line in
      let half : 32 * line_no (image_groups c).text p + half_in_line (image_groups c).text p ≡ half_no (image_groups c).text p = line-half (image_groups c).text p in
      let near = end_near (image_groups c).text RAM_START (64 * line_no (image_groups c).text p) good.text.ranges (omega (arith, below)) in
      let pages : end_in (image_groups c).text (64 * line_no (image_groups c).text p) % 4096 ≡ 0 = end-pages (image_groups c).text RAM_START (64 * line_no (image_groups c).text p) good.text.ranges (omega (arith, below)) in
      let low : half_in_line (image_groups c).text p < 32 = omega arith in
      let same : end_in (image_groups c).text (64 * line_no (image_groups c).text p + 2 * half_in_line (image_groups c).text p) ≡ end_in (image_groups c).text (64 * line_no (image_groups c).text p) =
      end-within (image_groups c).text (64 * line_no (image_groups c).text p) (2 * half_in_line (image_groups c).text p) (omega (arith, near.0, pages, low)) in
      let place : 64 * line_no (image_groups c).text p + 2 * half_in_line (image_groups c).text p ≡ 2 * half_no (image_groups c).text p = omega (arith, half) in
      let end : end_in (image_groups c).text (2 * half_no (image_groups c).text p) ≡ end_in (image_groups c).text (64 * line_no (image_groups c).text p) = ap (λ n. end_in (image_groups c).text n) (sym place) ∙ same in
      ap (λ (x : Window). slice_index x.halves (half_in_line (image_groups c).text p + 1)) at
      ∙ windows_are_of_the_mask (paged_at c v seen) (line_no (image_groups c).text p) (half_in_line (image_groups c).text p + 1) good ok.image.text.long (omega (arith, below)) (omega (arith, low)) (λ e. omega (arith, e, half, more, end))
      ∙ ap (λ n. masked (paged_at c v seen) n) (omega (arith, half))

  -- truthful windows hold the original of what is read, whose group is present
  pub read-original : (v : ℕ) (log : List LogEntry) (w : Windows) (begins goes : StepStart) (r : IsRead (image_groups c).text w begins goes) → w.view ≡ v → AreTruthful c log w
      → in_text (image_groups c).text r.place ≡ true
      → IsOriginal (paged_at c v log) (half_no (image_groups c).text r.place) (first_in (image_groups c).text r.place r.window) (second_in (image_groups c).text r.place r.window)
  read-original v log w begins goes r view truth inside =
      let all : AllTaken c v log w.cleared w.held.items = subst (λ u. AllTaken c u log w.cleared w.held.items) view truth.held in
      by_found (found-taken c v log w.cleared (line_no (image_groups c).text r.place) r.window w.held.items all r.held) where
        by_found : IsFound c v log w.cleared (line_no (image_groups c).text r.place) r.window
            → IsOriginal (paged_at c v log) (half_no (image_groups c).text r.place) (first_in (image_groups c).text r.place r.window) (second_in (image_groups c).text r.place r.window)
        by_found f =
            let q : PagedView = paged_at c v f.taken.seen in
            let n : ℕ = half_no (image_groups c).text r.place in
            let first : first_in (image_groups c).text r.place r.window ≡ masked (paged_at c v f.taken.seen) (half_no (image_groups c).text r.place) = window-first v f.taken.seen r.place r.window inside f.line_is f.taken.is in
            elim (is_present (paged_at c v f.taken.seen).base f.taken.seen (group_in (image_groups c).starts (2 * half_no (image_groups c).text r.place)))
            as (λ b. is_present (paged_at c v f.taken.seen).base f.taken.seen (group_in (image_groups c).starts (2 * half_no (image_groups c).text r.place)) ≡ b
            → IsOriginal (paged_at c v log) (half_no (image_groups c).text r.place) (first_in (image_groups c).text r.place r.window) (second_in (image_groups c).text r.place r.window)) [
              | true ↦ λ here. record {
                first_is = first ∙ (rw here refl);
                second_is = λ same more. window-second v f.taken.seen r.place r.window inside f.line_is f.taken.is more ∙ (rw (same, here) refl);
                present = present-longer (paged_at c v f.taken.seen).base f.taken.seen log (group_in (image_groups c).starts (2 * half_no (image_groups c).text r.place)) f.taken.front here;
              }
              | false ↦ λ here.
                  let zero : first_in (image_groups c).text r.place r.window ≡ 0 = first ∙ (rw here refl) in
                  let is_it : is_cleared w.cleared r.place ≡ true = r.zero_cleared zero in
                  let is_not : is_cleared w.cleared r.place ≡ false = cleared-present (paged_at c v f.taken.seen) w.cleared r.place (half_no (image_groups c).text r.place) good f.taken.clear inside refl here in
                  absurd (cc)
            ] refl

  -- the place of a fetch, and the halfwords that it would read again
  if-place : (text : Bool) (q p : ℕ) → place_if text q ≡ Some p → (text ≡ true) × (q ≡ p)
  if-place true q p e = (refl, cc)
  if-place false q p e = absurd (cc)

  module _ (ram : Ram) (has : HasText ram (image_groups c).text (bytes_of c.image.ranges)) (v : ℕ) (log : List LogEntry) (place first second : ℕ)
      (o : IsOriginal (paged_at c v log) (half_no (image_groups c).text place) first second) where
    first-same : is_text ram place ≡ true → first ≡ half_at ram place
    first-same e = o.first_is ∙ sym (text-half ram (image_groups c).text (bytes_of c.image.ranges) place has e)

    second-same : (g : ℕ) → is_text ram place ≡ true → half_at ram place % 4 ≡ 3 → IsBehind ram place g → second ≡ g
    second-same g e wide b =
        let half : half_at ram place ≡ half_of (bytes_of c.image.ranges) (half_no (image_groups c).text place) = text-half ram (image_groups c).text (bytes_of c.image.ranges) place has e in
        let inside : in_text (image_groups c).text place ≡ true = subst (λ t. in_text t place ≡ true) has.same e in
        let high : place < RAM_START + RAM_MOST = has.below.high place inside in
        let behind : b.place ≡ place + 2 = omega (arith, b.behind, high) in
        let more : in_text (image_groups c).text (place + 2) ≡ true = subst (λ q. in_text (image_groups c).text q ≡ true) behind (subst (λ t. in_text t b.place ≡ true) has.same b.text) in
        let next = next-half (image_groups c).text place has.below.ranges inside more in
        let same : group_in (image_groups c).starts (2 * (half_no (image_groups c).text place + 1)) ≡ group_in (image_groups c).starts (2 * half_no (image_groups c).text place) =
        joined c.image (half_no (image_groups c).text place) ok.image next.1 (rw (← half) wide) in
        let number : half_no (image_groups c).text b.place ≡ half_no (image_groups c).text place + 1 = ap (λ q. half_no (image_groups c).text q) behind ∙ next.0 in
        o.second_is same next.1 ∙ ap (λ n. half_of (bytes_of c.image.ranges) n) (sym number) ∙ sym (text-half ram (image_groups c).text (bytes_of c.image.ranges) b.place has b.text) ∙ sym b.half

    -- the fetch with these halfwords is the fetch itself
    pub got-same : (got : Fetched) → HalvesAre ram got → text_place got ≡ Some place → with_halves got first second ≡ got
    got-same (Short text q h) k e =
        let here : (text ≡ true) × (q ≡ place) = if-place text q place e in
        let inside : is_text ram place ≡ true = subst (λ x. is_text ram x ≡ true) here.1 (k.text_is ∙ here.0) in
        ap (λ x. Short text q x) (first-same inside ∙ ap (λ x. half_at ram x) (sym here.1) ∙ sym k.first)
    got-same (Long text q h g) k e =
        let here : (text ≡ true) × (q ≡ place) = if-place text q place e in
        let inside : is_text ram place ≡ true = subst (λ x. is_text ram x ≡ true) here.1 (k.text_is ∙ here.0) in
        let one : first ≡ h = first-same inside ∙ ap (λ x. half_at ram x) (sym here.1) ∙ sym k.first in
        let wide : half_at ram place % 4 ≡ 3 = subst (λ x. x % 4 ≡ 3) (k.first ∙ ap (λ x. half_at ram x) here.1) k.wide in
        let two : second ≡ g = second-same g inside wide (subst (λ x. IsBehind ram x g) here.1 (k.second here.0)) in
        rw (one, two) refl
    got-same (Faults cause tval) k e = absurd (cc)
    got-same (Stops stop) k e = absurd (cc)
