-- How a view keeps its pages: the mask, a mark for each present group, and a log with room for every absent one.
use Rattle.std.specs.Prelude.{◌≡◌, ℕ, ◌+◌, ◌*◌, ◌≤◌, false, not, length, slice_index, slice_index_or, vec_len, vec_capacity, count_by}
use Rattle.function_table.specs.Groups.{groups_count}
use Rattle.view_store.specs.declared.view.View.TheInside.{Inside}
use Rattle.view_store.specs.Paged.{PagedView, IsLawfulView, masked, is_present}

abbrev pub paged_of : Inside → PagedView
paged_of v = record { number = v.number; text = v.text; groups = v.table; base = v.base.items; log = v.log.items }

pub record IsPaged (v : Inside) : Type 0 where
  pub paged : IsLawfulView (paged_of v)
  pub long : 2 * length v.pages.items ≡ length v.text
  pub pages : (n : ℕ) → slice_index v.pages.items n ≡ masked (paged_of v) n
  pub present : (g : ℕ) → slice_index_or v.present.items g false ≡ is_present v.base.items v.log.items g
  pub marks : length v.present.items ≡ groups_count v.table
  pub room : vec_len v.log + count_by not v.present.items ≤ vec_capacity v.log
