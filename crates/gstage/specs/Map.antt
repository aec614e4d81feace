-- What the second stage of a view maps, and what a look-up answers.
-- Kernel text is at the view's own host pages and may be executed alone; other RAM is at its own pages and free. All pages are of 4 KiB.
use Rattle.std.specs.Prelude.{◌≡◌, ℕ, ◌+◌, ◌-◌, ◌*◌, ◌/◌, ◌%◌, ◌≤◌, ◌&&◌, nat_lt, Bool, true, false, if◌then◌else◌, Option, None, Some, List}
use Rattle.fc_numbers.specs.declared.machine.Access.{Access}
use Rattle.fc_numbers.specs.declared.machine.Access.TheVariants as access
use Rattle.fc_numbers.specs.declared.places.Span.{Span}
use Rattle.fc_numbers.specs.declared.places.TheConstants.{RAM_START, RAM_MOST, PAGE}
use Rattle.fc_numbers.specs.Spans.{IsTextBelow, in_text, offset_in}
use Rattle.gstage.specs.declared.table.TheConstants.{TEXT_PAGES, VIEW_PAGES}
use Rattle.gstage.specs.declared.walk.Leaf.{Leaf}
use Rattle.gstage.specs.declared.table.Frame.{Frame}
use Rattle.gstage.specs.declared.table.Frame.TheVariants as frame
use Rattle.gstage.specs.declared.table.G.{G}
use Rattle.gstage.specs.declared.table.G.TheVariants as g
use Rattle.gstage.specs.Stage.{in_span}

-- a lawful RAM and a lawful text in it
pub record AreSpans (spans : List Span) (ram : Span) : Type 0 where
  pub start : ram.start ≡ RAM_START
  pub some : RAM_START ≤ ram.end
  pub most : ram.end ≤ RAM_START + RAM_MOST
  pub pages : ram.end % PAGE ≡ 0
  pub text : IsTextBelow ram.end spans

-- the number of the page of text that a place is in, counted through the ranges one after another
abbrev pub page_in : List Span → ℕ → ℕ
page_in text at = offset_in text at / PAGE

-- the number of the page of RAM that a place is in
abbrev pub ram_page : ℕ → ℕ
ram_page at = (at - RAM_START) / PAGE

-- text page n of view v is a host page of its own, which may be executed alone
abbrev pub text_leaf : ℕ → ℕ → Leaf
text_leaf view n = record { level = 0; page = TEXT_PAGES + VIEW_PAGES * view + n; read = false; write = false; execute = true; user = true }

-- RAM page n outside text is host page n
abbrev pub ram_leaf : ℕ → Leaf
ram_leaf n = record { level = 0; page = n; read = true; write = true; execute = true; user = true }

-- nothing else is mapped
abbrev pub mapped : List Span → Span → ℕ → ℕ → Option Leaf
mapped text ram view at =
    if in_text text at then Some (text_leaf view (page_in text at))
    else if in_span ram at then Some (ram_leaf (ram_page at))
    else None

-- every access is one of user level
abbrev pub allows : Leaf → Access → Bool
allows leaf access.Fetch = leaf.user && leaf.execute
allows leaf access.Load = leaf.user && leaf.read
allows leaf access.Store = leaf.user && leaf.write

abbrev pub frame_of_page : ℕ → Frame
frame_of_page page = if nat_lt page TEXT_PAGES then frame.Ram page else frame.Text ((page - TEXT_PAGES) / VIEW_PAGES) ((page - TEXT_PAGES) % VIEW_PAGES)

-- the answer for a leaf, or for none
abbrev pub found : Option Leaf → Access → G
found None access = g.Unmapped
found (Some leaf) access = if allows leaf access then g.Frame (frame_of_page leaf.page) else g.ExecOnly

-- text may be executed alone
abbrev pub text_found : ℕ → ℕ → Access → G
text_found view n access.Fetch = g.Frame (frame.Text view n)
text_found view n access.Load = g.ExecOnly
text_found view n access.Store = g.ExecOnly

abbrev pub looked_up : List Span → Span → ℕ → ℕ → Access → G
looked_up text ram view at access =
    if in_text text at then text_found view (page_in text at) access
    else if in_span ram at then g.Frame (frame.Ram (ram_page at))
    else g.Unmapped
