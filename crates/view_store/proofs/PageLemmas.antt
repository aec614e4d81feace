-- What restoring a group does to the mask, and what a patch does to the log.
use Rattle.std.proofs.Common.{◌≡◌, ℕ, ◌+◌, ◌-◌, ◌*◌, ◌/◌, ◌%◌, ◌<◌, ◌≤◌, Bool, true, false, List, [], ◌∷◌, ◌++◌, length, take, drop, replicate, ap, arith, refl, ◌∙◌, sym}
use Rattle.std.proofs.lemmas.List.{get_or-drop, get_or-take, get_or_append_left, get_or_past, length-drop, length-take-le}
use Rattle.std.proofs.Math.Seq.{get_or-append_seam}
use Rattle.std.proofs.lemmas.List.FromFn.{fill_by_all, get_or-map-range_with_len, length-map-range_with_len}
use borrow.Author.Tests.{ltb-true, ltb-false}
use Rattle.std.proofs.lemmas.List.Sums.{count_by-le-length, sum_by-set}
use Rattle.std.specs.Prelude.{◌==◌, ◌||◌, ◌&&◌, nat_le, nat_lt, if◌then◌else◌, slice_index, slice_index_or, slice_set, count_by, not}
use Rattle.std.proofs.lemmas.Grind.{common_steps}
use Rattle.std.proofs.lemmas.Bool.Decides.{nat_tests}
use Rattle.fc_numbers.specs.declared.places.Span.{Span}
use Rattle.fc_numbers.specs.declared.places.TheConstants.{RAM_START}
use Rattle.fc_numbers.specs.Spans.{AreRangesFrom, end_in, offset_in, place_in, size_of, text_size}
use Rattle.fc_numbers.specs.declared.window.Window.{Window}
use Rattle.fc_numbers.proofs.TextLaws.{end_near, offset_page, offset_place, size_pages}
use Rattle.function_table.specs.Groups.{Groups, IsGroups, IsRangeOf, first_of, group_in, groups_count, half_of, in_groups_text, is_between, range_of}
use Rattle.function_table.proofs.GroupLemmas.{ends-within}
use Rattle.chain_log.specs.declared.entry.LogEntry.{LogEntry}
use Rattle.view_store.specs.Paged.{PagedView, masked, logged, patched, is_present, is_logged, AreMissed, IsLawfulView, WindowsAreOfTheMask, mask_of, window_of}

-- halfwords past the end of text are 0
half-past : (text : List ℕ) (n : ℕ) → length text ≤ 2 * n → half_of text n ≡ 0
half-past text n past =
    let low : slice_index text (2 * n) ≡ 0 = get_or_past text (2 * n) 0 past in
    let high : slice_index text (2 * n + 1) ≡ 0 = get_or_past text (2 * n + 1) 0 (omega arith) in
    omega (arith, low, high)

same-either : (b c : Bool) (x y : ℕ) → x ≡ y → (if b then x else y) ≡ (if c then x else y)
same-either true true x y e = refl
same-either true false x y e = e
same-either false true x y e = sym e
same-either false false x y e = refl

-- the first place of a group's range is of text, and its offset is even
pub start-inside : (t : Groups) (g : ℕ) (s : Span) → IsRangeOf t g s → in_groups_text t s.start ≡ true
start-inside t g s range = range.inside s.start (grind (arith, nat_tests, range.some))

start-even : (t : Groups) (g : ℕ) (s : Span) → IsRangeOf t g s → AreRangesFrom RAM_START t.text → offset_in t.text s.start % 2 ≡ 0
start-even t g s range ranges = omega (arith, range.even_start, offset_page t.text RAM_START s.start ranges (start-inside t g s range))

halves-between : (o start end from to n : ℕ) → o % 2 ≡ 0 → start % 2 ≡ 0 → end % 2 ≡ 0 → from ≡ o / 2 → to ≡ from + (end - start) / 2
    → is_between from to n ≡ is_between o (o + (end - start)) (2 * n)
halves-between o start end from to n even_o even_start even_end from_is to_is = grind (arith, nat_tests)

-- the halfwords of a group's range lie within text
pub range-within : (t : Groups) (g from size : ℕ) (s : Span) → IsGroups t → g < groups_count t → s ≡ range_of t g → from ≡ offset_in t.text s.start / 2
    → size ≡ (s.end - s.start) / 2 → 2 * (from + size) ≤ text_size t.text
range-within t g from size s good within is from_is size_is =
    let few : g ≤ length t.starts = omega arith in
    let ends = ends-within (text_size t.text) g t.starts good.starts few in
    let at : offset_in t.text (place_in t.text (first_of t g)) ≡ first_of t g = offset_place t.text RAM_START (first_of t g) good.text.ranges (omega (arith, ends.0, ends.1)) in
    let all : offset_in t.text s.start + (s.end - s.start) ≤ text_size t.text = rw is (omega (arith, ends.0, ends.1, at)) in
    omega (arith, all, from_is, size_is)

-- the halfwords of a group's range are those of the group
pub halves-of-group : (t : Groups) (g from to n : ℕ) (s : Span) → IsRangeOf t g s → AreRangesFrom RAM_START t.text
    → from ≡ offset_in t.text s.start / 2 → to ≡ from + (s.end - s.start) / 2 → 2 * n < text_size t.text
    → is_between from to n ≡ (group_in t.starts (2 * n) == g)
halves-of-group t g from to n s range ranges from_is to_is within =
    let even : offset_in t.text s.start % 2 ≡ 0 = start-even t g s range ranges in
    let each : is_between (offset_in t.text s.start) (offset_in t.text s.start + size_of s) (2 * n) ≡ (group_in t.starts (2 * n) == g) = range.bytes (2 * n) within in
    halves-between (offset_in t.text s.start) s.start s.end from to n even range.even_start range.even_end from_is to_is ∙ each

-- restoring the halfwords of a group, and no others
pub restored-group : (t : Groups) (g from to n : ℕ) (text pages : List ℕ) → text_size t.text ≡ length text → 2 * length pages ≡ length text
    → (2 * n < text_size t.text → is_between from to n ≡ (group_in t.starts (2 * n) == g))
    → (if is_between from to n then half_of text n else slice_index pages n) ≡ (if group_in t.starts (2 * n) == g then half_of text n else slice_index pages n)
restored-group t g from to n text pages size long same =
    elim (nat_lt (2 * n) (length text)) as (λ b. nat_lt (2 * n) (length text) ≡ b → (if is_between from to n then half_of text n else slice_index pages n) ≡ (if group_in t.starts (2 * n) == g then half_of text n else slice_index pages n)) [
      | true ↦ λ is. rw (same (omega (arith, ltb-true (2 * n) (length text) is, size))) refl
      | false ↦ λ is. same-either (is_between from to n) (group_in t.starts (2 * n) == g) (half_of text n) (slice_index pages n)
          (half-past text n (ltb-false (2 * n) (length text) is) ∙ sym (get_or_past pages n 0 (omega (arith, long, ltb-false (2 * n) (length text) is))))
    ] refl

-- each mark of a block that is kept whole
kept-mark : (mark size many k : ℕ) → many ≤ size → k < many → slice_index (take many (replicate size mark)) k ≡ mark
kept-mark mark size many k within low = grind (arith, common_steps)

-- one more block of halfwords is restored
pub block-restored : (mark size from at end half was now new k : ℕ) → nat_lt 0 mark ≡ true → from ≤ at → at ≤ end → end ≤ at + size
    → new ≡ (if is_between at (at + length (take (end - at) (replicate size mark))) k then (if slice_index (take (end - at) (replicate size mark)) (k - at) == 0 then 0 else half) else now)
    → now ≡ (if is_between from at k then half else was)
    → new ≡ (if is_between from end k then half else was)
block-restored mark size from at end half was now new k kept order within few is_new is_now =
    let long : length (take (end - at) (replicate size mark)) ≡ end - at = grind (arith, common_steps) in
    elim (is_between at end k) as (λ b. is_between at end k ≡ b → new ≡ (if is_between from end k then half else was)) [
      | true ↦ λ is.
          let low : at ≤ k = grind (arith, nat_tests) in
          let high : k < end = grind (arith, nat_tests) in
          let each : slice_index (take (end - at) (replicate size mark)) (k - at) ≡ mark = kept-mark mark size (end - at) (k - at) (omega arith) (omega arith) in
          grind (arith, nat_tests)
      | false ↦ λ is. grind (arith, nat_tests)
    ] refl

-- one more block of halfwords is kept or zeroed by its marks
pub block-kept : (marks : List ℕ) (at end half was now new k : ℕ) → at ≤ end → end ≤ length marks
    → new ≡ (if is_between at (at + length (take (end - at) (drop at marks))) k then (if slice_index (take (end - at) (drop at marks)) (k - at) == 0 then 0 else half) else now)
    → now ≡ (if nat_lt k at then (if slice_index marks k == 0 then 0 else half) else was)
    → new ≡ (if nat_lt k end then (if slice_index marks k == 0 then 0 else half) else was)
block-kept marks at end half was now new k order within is_new is_now =
    let long : length (take (end - at) (drop at marks)) ≡ end - at = grind (arith, common_steps) in
    elim (is_between at end k) as (λ b. is_between at end k ≡ b → new ≡ (if nat_lt k end then (if slice_index marks k == 0 then 0 else half) else was)) [
      | true ↦ λ is.
          let low : at ≤ k = grind (arith, nat_tests) in
          let high : k < end = grind (arith, nat_tests) in
          let each : slice_index (take (end - at) (drop at marks)) (k - at) ≡ slice_index marks k = grind (arith, common_steps) in
          grind (arith, nat_tests)
      | false ↦ λ is. grind (arith, nat_tests)
    ] refl

-- halfword n of the mask
pub mask_at : (p : PagedView) (n : ℕ) → IsLawfulView p → slice_index (mask_of p) n ≡ masked p n
mask_at p n good =
    elim (nat_lt n (length p.text / 2)) as (λ b. nat_lt n (length p.text / 2) ≡ b → slice_index (mask_of p) n ≡ masked p n) [
      | true ↦ λ is. get_or-map-range_with_len (masked p) 0 (length p.text / 2) n n 0 (ltb-true n (length p.text / 2) is) (omega arith)
      | false ↦ λ is.
          let over : length p.text / 2 ≤ n = ltb-false n (length p.text / 2) is in
          let whole : text_size p.groups.text % 4096 ≡ 0 = size_pages p.groups.text RAM_START good.groups.text.ranges in
          let none : half_of p.text n ≡ 0 = half-past p.text n (omega (arith, over, whole, good.size)) in
          let zero : masked p n ≡ 0 = rw none (either-zero (is_present p.base p.log (group_in p.groups.starts (2 * n)))) in
          let long : length (mask_of p) ≡ length p.text / 2 = length-map-range_with_len (masked p) 0 (length p.text / 2) in
          get_or_past (mask_of p) n 0 (omega (arith, long, over)) ∙ sym zero
    ] refl
  where
    either-zero : (b : Bool) → ◌≡◌ {A = ℕ} (if b then 0 else 0) 0
    either-zero true = refl
    either-zero false = refl

-- pages that are the mask at each place are the mask
pub mask_same : (p : PagedView) (pages : List ℕ) → IsLawfulView p → 2 * length pages ≡ length p.text → ((n : ℕ) → slice_index pages n ≡ masked p n) → pages ≡ mask_of p
mask_same p pages good long each = fill_by_all (masked p) pages (length p.text / 2) 0 (omega (arith, long)) (λ k h. each k)

-- a text is whole halfwords
pub text-even : (t : Groups) → IsGroups t → 2 * (text_size t.text / 2) ≡ text_size t.text
text-even t good = omega (arith, size_pages t.text RAM_START good.text.ranges)

-- one more group is marked
pub mark-kept : (kept : ℕ → Bool) (group g mark was new now : ℕ) → kept g ≡ true → new ≡ (if group == g then mark else now)
    → now ≡ (if kept group && nat_lt group g then mark else was) → new ≡ (if kept group && nat_lt group (g + 1) then mark else was)
mark-kept kept group g mark was new now is is_new is_now = grind (arith, nat_tests)

pub mark-left : (kept : ℕ → Bool) (group g mark was now : ℕ) → kept g ≡ false
    → now ≡ (if kept group && nat_lt group g then mark else was) → now ≡ (if kept group && nat_lt group (g + 1) then mark else was)
mark-left kept group g mark was now is is_now = grind (arith, nat_tests)

-- one more entry makes its group present, and no other
pub logged-append : (log : List LogEntry) (e : LogEntry) (g : ℕ) → is_logged (log ++ e ∷ []) g ≡ (is_logged log g || (e.group == g))
logged-append log e g = grind (arith, common_steps)

pub present-logged : (base : List Bool) (log : List LogEntry) (e : LogEntry) (g : ℕ)
    → is_present base (log ++ e ∷ []) g ≡ (is_present base log g || (e.group == g))
present-logged base log e g = grind (arith, common_steps)

masked-cases : (present : Bool) (group restored half old : ℕ) → old ≡ (if present then half else 0)
    → (if group == restored then half else old) ≡ (if present || (restored == group) then half else 0)
masked-cases true group restored half old was = grind (arith, nat_tests)
masked-cases false group restored half old was = grind (arith, nat_tests)

-- the pages after a patch are the mask of the longer log
pub masked-logged : (p : PagedView) (e : LogEntry) (pages restored : List ℕ) (n : ℕ)
    → slice_index pages n ≡ masked p n
    → slice_index restored n ≡ (if group_in p.groups.starts (2 * n) == e.group then half_of p.text n else slice_index pages n)
    → slice_index restored n ≡ masked (logged p e) n
masked-logged p e pages restored n old new =
    rw (new, present-logged p.base p.log e (group_in p.groups.starts (2 * n)))
    (masked-cases (is_present p.base p.log (group_in p.groups.starts (2 * n))) (group_in p.groups.starts (2 * n)) e.group (half_of p.text n) (slice_index pages n) old)

-- the marks after a group becomes present
pub marks-logged : (base marks : List Bool) (log : List LogEntry) (e : LogEntry) → e.group < length marks
    → ((g : ℕ) → slice_index_or marks g false ≡ is_present base log g)
    → (g : ℕ) → slice_index_or (slice_set marks e.group true) g false ≡ is_present base (log ++ e ∷ []) g
marks-logged base marks log e within were g = grind (arith, common_steps, nat_tests, were g)

-- one more group is present
pub absent-set : (marks : List Bool) (g : ℕ) → g < length marks → slice_index_or marks g false ≡ false
    → count_by not (slice_set marks g true) + 1 ≡ count_by not marks
absent-set marks g within absent = grind (arith, common_steps, sum_by-set)

pub or-nothing : (b : Bool) → (b || false) ≡ b
or-nothing true = refl
or-nothing false = refl

neither : (a b : Bool) → (a || b) ≡ false → (a ≡ false) × (b ≡ false)
neither true b e = absurd (cc)
neither false b e = (refl, e)

-- an absent group is in neither of base and log
pub absent-apart : (base : List Bool) (log : List LogEntry) (g : ℕ) → is_present base log g ≡ false
    → (slice_index_or base g false ≡ false) × (is_logged log g ≡ false)
absent-apart base log g e = neither (slice_index_or base g false) (is_logged log g) e

-- one more entry of an absent group
pub missed-logged : (number : ℕ) (base : List Bool) (log : List LogEntry) (e : LogEntry) → AreMissed number base log → e.view ≡ number
    → e.group < length base → slice_index_or base e.group false ≡ false → is_logged log e.group ≡ false → AreMissed number base (log ++ e ∷ [])
missed-logged number base [] e were view within absent new = (view, within, absent, refl, tt)
missed-logged number base (x ∷ xs) e were view within absent new =
    let apart = neither (x.group == e.group) (is_logged xs e.group) new in
    let other : is_logged (xs ++ e ∷ []) x.group ≡ false = rw (logged-append xs e x.group, were.3) (grind (arith, nat_tests, apart.0)) in
    (were.0, were.1, were.2, other, missed-logged number base xs e were.4 view within absent apart.1)

-- a patch keeps the view's number and groups
pub patched-number : (p : PagedView) (e : LogEntry) → (patched p e).number ≡ p.number
patched-number p e = elim (is_present p.base p.log e.group) as (λ b. (if b then p else logged p e).number ≡ p.number) [ true ↦ refl | false ↦ refl ]

pub patched-groups : (p : PagedView) (e : LogEntry) → (patched p e).groups ≡ p.groups
patched-groups p e = elim (is_present p.base p.log e.group) as (λ b. (if b then p else logged p e).groups ≡ p.groups) [ true ↦ refl | false ↦ refl ]

pub ruleset patched_keeps = (patched-number, patched-groups)

-- the halfwords of a line of text lie within the pages, and so does the one behind it where the range goes on
pub line-within : (t : Groups) (line long : ℕ) → IsGroups t → text_size t.text ≡ 2 * long → 64 * line < text_size t.text
    → (32 * line + 32 ≤ long) × (64 * line + 64 < end_in t.text (64 * line) → 32 * line + 32 < long)
line-within t line long good whole within =
    let pages : text_size t.text % 4096 ≡ 0 = size_pages t.text RAM_START good.text.ranges in
    let near = end_near t.text RAM_START (64 * line) good.text.ranges within in
    (omega (arith, pages, whole, within), λ more. omega (arith, near.1, more, whole))

-- a line that is copied from pages that are the mask is the window of the mask
pub window-of : (p : PagedView) (pages : List ℕ) (line : ℕ) → pages ≡ mask_of p → ((n : ℕ) → slice_index pages n ≡ masked p n)
    → (let copy : Window = record { line = line; halves = take 32 (drop (32 * line) pages) ++ (if nat_lt (64 * line + 64) (end_in p.groups.text (64 * line)) then slice_index pages (32 * line + 32) else 0) ∷ [] } in copy) ≡ window_of p line
unfolding window_of
window-of p pages line same each = rw (each (32 * line + 32), same) refl

part-long : (n : ℕ) (m : List ℕ) (from : ℕ) → from + n ≤ length m → length (take n (drop from m)) ≡ n
part-long n m from room = length-take-le n (drop from m) (let long = length-drop from m in omega (arith, long, room))

within-part : (n : ℕ) (m : List ℕ) (x from k : ℕ) → from + n ≤ length m → k < n → slice_index (take n (drop from m) ++ x ∷ []) k ≡ slice_index m (from + k)
within-part n m x from k room low =
    get_or_append_left (take n (drop from m)) (x ∷ []) 0 k (let long = part-long n m from room in omega (arith, long, low))
    ∙ get_or-take n (drop from m) k 0 low ∙ get_or-drop from m k 0

behind-part : (n : ℕ) (m : List ℕ) (x from : ℕ) → from + n ≤ length m → slice_index (take n (drop from m) ++ x ∷ []) n ≡ x
behind-part n m x from room =
    ap (λ i. slice_index (take n (drop from m) ++ x ∷ []) i) (sym (part-long n m from room)) ∙ get_or-append_seam (take n (drop from m)) x [] 0

-- a halfword of the mask, where text has whole pages
mask_half : (p : PagedView) (n : ℕ) → n < length p.text / 2 → slice_index (mask_of p) n ≡ masked p n
mask_half p n within = get_or-map-range_with_len (masked p) 0 (length p.text / 2) n n 0 within (omega arith)

pub windows_are_of_the_mask : WindowsAreOfTheMask
unfolding window_of
windows_are_of_the_mask p n k good size inside low goes_on =
    let whole : text_size p.groups.text % 4096 ≡ 0 = size_pages p.groups.text RAM_START good.text.ranges in
    let long : length (mask_of p) ≡ length p.text / 2 = length-map-range_with_len (masked p) 0 (length p.text / 2) in
    let room : 32 * n + 32 ≤ length (mask_of p) = omega (arith, whole, long, size, inside) in
    let last : ℕ = if nat_lt (64 * n + 64) (end_in p.groups.text (64 * n)) then masked p (32 * n + 32) else 0 in
    elim (nat_lt k 32) as (λ b. nat_lt k 32 ≡ b → slice_index (take 32 (drop (32 * n) (mask_of p)) ++ last ∷ []) k ≡ masked p (32 * n + k)) [
      | true ↦ λ is.
          let first : k < 32 = ltb-true k 32 is in
          within-part 32 (mask_of p) last (32 * n) k room first ∙ mask_half p (32 * n + k) (omega (arith, long, room, first))
      | false ↦ λ is.
          let at : k ≡ 32 = omega (arith, ltb-false k 32 is, low) in
          let test : nat_lt (64 * n + 64) (end_in p.groups.text (64 * n)) ≡ true = (let more : 64 * n + 64 < end_in p.groups.text (64 * n) = goes_on at in grind (arith, nat_tests, more)) in
          ap (λ i. slice_index (take 32 (drop (32 * n) (mask_of p)) ++ last ∷ []) i) at ∙ behind-part 32 (mask_of p) last (32 * n) room ∙ (rw test (ap (λ i. masked p (32 * n + i)) (sym at)))
    ] refl
