-- A view as contracts see it: its number, the bytes of text and its groups, the base and the log. Its pages follow from these: the mask.
-- A group is present where it is in the base or logged, and the mask has the original halfwords of present groups and zeros.
use Rattle.std.specs.Prelude.{◌≡◌, ℕ, ◌+◌, ◌*◌, ◌/◌, ◌<◌, ◌==◌, ◌||◌, Bool, false, nat_lt, if◌then◌else◌, List, [], ◌∷◌, ◌++◌, drop, length, map, slice_index, slice_index_or, take}
use Rattle.std.specs.List.{list_any, range_with_len}
use Rattle.fc_numbers.specs.declared.window.Window.{Window}
use Rattle.fc_numbers.specs.Spans.{end_in, text_size}
use Rattle.function_table.specs.Groups.{Groups, IsGroups, group_in, groups_count, half_of}
use Rattle.chain_log.specs.declared.entry.LogEntry.{LogEntry}

pub record PagedView : Type 0 where
  pub number : ℕ
  pub text : List ℕ
  pub groups : Groups
  pub base : List Bool
  pub log : List LogEntry

abbrev pub is_logged : List LogEntry → ℕ → Bool
is_logged log g = list_any (λ e. e.group == g) log

-- the group is in the base, or was logged
abbrev pub is_present : List Bool → List LogEntry → ℕ → Bool
is_present base log g = slice_index_or base g false || is_logged log g

-- halfword n of the pages: that of the text where its group is present, else 0
abbrev pub masked : PagedView → ℕ → ℕ
masked p n = if is_present p.base p.log (group_in p.groups.starts (2 * n)) then half_of p.text n else 0

-- the pages, halfword by halfword: the mask of the text
abbrev pub mask_of : PagedView → List ℕ
mask_of p = map (masked p) (range_with_len 0 (length p.text / 2))

-- line n of the pages, which begins at offset 64 n, and the halfword behind it: 0 where the line's range of text ends
unfoldable pub window_of : PagedView → ℕ → Window
window_of p n = record {
  line = n;
  halves = take 32 (drop (32 * n) (mask_of p)) ++ (if nat_lt (64 * n + 64) (end_in p.groups.text (64 * n)) then masked p (32 * n + 32) else 0) ∷ [];
}

abbrev pub logged : PagedView → LogEntry → PagedView
logged p e = record { number = p.number; text = p.text; groups = p.groups; base = p.base; log = p.log ++ e ∷ [] }

abbrev pub patched : PagedView → LogEntry → PagedView
patched p e = if is_present p.base p.log e.group then p else logged p e

-- the entries are for this view, each of a group that the base lacks, and no group twice
abbrev pub AreMissed : ℕ → List Bool → List LogEntry → Type 0
AreMissed number base [] = Unit {0}
AreMissed number base (e ∷ log) = (e.view ≡ number) × (e.group < length base) × (slice_index_or base e.group false ≡ false) × (is_logged log e.group ≡ false) × AreMissed number base log

-- what holds of every view
pub record IsLawfulView (p : PagedView) : Type 0 where
  pub groups : IsGroups p.groups
  pub size : text_size p.groups.text ≡ length p.text
  pub base : length p.base ≡ groups_count p.groups
  pub log : AreMissed p.number p.base p.log

-- halfword n of the mask
abbrev pub MaskIsMasked : Type 0
MaskIsMasked = (p : PagedView) (n : ℕ) → IsLawfulView p → slice_index (mask_of p) n ≡ masked p n

-- halfword k of the window of a line of text is that of the mask; the last one, where the line's range of text goes on
abbrev pub WindowsAreOfTheMask : Type 0
WindowsAreOfTheMask = (p : PagedView) (n k : ℕ) → IsGroups p.groups → text_size p.groups.text ≡ length p.text → 64 * n < text_size p.groups.text
    → k < 33 → (k ≡ 32 → 64 * n + 64 < end_in p.groups.text (64 * n)) → slice_index (window_of p n).halves k ≡ masked p (32 * n + k)
