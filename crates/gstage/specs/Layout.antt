-- The entries that a table is built of, each by its place in the list.
-- The list is the root, then one table of each level between, then the 32 tables of level 0, which map RAM page by page.
use Rattle.std.specs.Prelude.{◌≡◌, ℕ, ◌<◌, List, slice_index, ◌+◌, ◌-◌, ◌*◌, ◌==◌, nat_lt, if◌then◌else◌}
use Rattle.fc_numbers.specs.declared.machine.GKind.{GKind}
use Rattle.fc_numbers.specs.declared.machine.GKind.TheVariants.{Sv39x4, Sv48x4}
use Rattle.fc_numbers.specs.declared.places.Span.{Span}
use Rattle.fc_numbers.specs.declared.places.TheConstants.{RAM_START, PAGE}
use Rattle.fc_numbers.specs.Spans.{in_text}
use Rattle.gstage.specs.declared.stage.Placed.{Placed}
use Rattle.gstage.specs.declared.stage.Placed.TheVariants as placed_in
use Rattle.gstage.specs.declared.table.TheConstants.{ROOT, ROOT_PAGES, TABLE, LEAF_TABLES, TEXT_PAGES, VIEW_PAGES, RAM_GIB, PTE_PPN, POINTER, TEXT_LEAF, RAM_LEAF}
use Rattle.page_table.specs.declared.TheConstants.{PTE_W}
use Rattle.page_table.specs.Entry.{has_bit}
use Rattle.gstage.specs.Stage.{in_span}
use Rattle.gstage.specs.Map.{page_in}
use Rattle.gstage.specs.Table.{pages_of}

abbrev pub pointer_to : ℕ → ℕ
pointer_to table = table * PTE_PPN + POINTER

abbrev pub text_entry : ℕ → ℕ
text_entry page = page * PTE_PPN + TEXT_LEAF

abbrev pub ram_entry : ℕ → ℕ
ram_entry page = page * PTE_PPN + RAM_LEAF

-- the entry of the n-th page from RAM_START on
unfoldable pub page_entry : List Span → Span → ℕ → ℕ → ℕ
page_entry text ram view n =
    if in_text text (RAM_START + PAGE * n) then text_entry (TEXT_PAGES + VIEW_PAGES * view + page_in text (RAM_START + PAGE * n))
    else if in_span ram (RAM_START + PAGE * n) then ram_entry n
    else 0

-- entry k from the table of level 1 on, which is a page of the list: the tables of level 0 are the pages behind it
unfoldable pub lower_value : List Span → Span → ℕ → ℕ → ℕ → ℕ
lower_value text ram view page k =
    if nat_lt k LEAF_TABLES then pointer_to (page + 1 + k)
    else if nat_lt k TABLE then 0
    else page_entry text ram view (k - TABLE)

-- the table behind the root is that of level 1, or that of level 2 with the one of level 1 behind it
unfoldable pub entry_value : GKind → List Span → Span → ℕ → ℕ → ℕ
entry_value Sv39x4 text ram view i =
    if nat_lt i ROOT then (if i == RAM_GIB then pointer_to ROOT_PAGES else 0)
    else lower_value text ram view ROOT_PAGES (i - ROOT)
entry_value Sv48x4 text ram view i =
    if nat_lt i ROOT then (if i == 0 then pointer_to ROOT_PAGES else 0)
    else if nat_lt i (ROOT + TABLE) then (if i == ROOT + RAM_GIB then pointer_to (ROOT_PAGES + 1) else 0)
    else lower_value text ram view (ROOT_PAGES + 1) (i - (ROOT + TABLE))

-- the list of these entries
abbrev pub IsBuiltOf : GKind → List Span → Span → ℕ → List ℕ → Type 0
IsBuiltOf kind text ram view entries = (k : ℕ) → k < TABLE * pages_of kind → slice_index entries k ≡ entry_value kind text ram view k

-- where the places of a page lie, by its entry of level 0
abbrev pub placed_by : ℕ → Placed
placed_by entry =
    if entry == 0 then placed_in.Outside
    else if has_bit entry PTE_W then placed_in.Ram
    else placed_in.Text
