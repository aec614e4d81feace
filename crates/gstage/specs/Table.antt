-- A table as contracts see it: its kind, its entries, and the text, the RAM and the view that it was built for.
-- The walk of the entries gives exactly the map of these.
use Rattle.std.specs.Prelude.{◌≡◌, ◌+◌, ◌-◌, ◌*◌, ◌<◌, ◌^◌, ℕ, List, length}
use Rattle.fc_numbers.specs.declared.machine.GKind.{GKind}
use Rattle.fc_numbers.specs.declared.places.Span.{Span}
use Rattle.gstage.specs.declared.table.TheConstants.{ROOT_PAGES, LEAF_TABLES, TABLE}
use Rattle.gstage.specs.Walk.{top, walked_leaf}
use Rattle.gstage.specs.Map.{AreSpans, mapped}

pub record Table : Type 0 where
  pub kind : GKind
  pub entries : List ℕ
  pub text : List Span
  pub ram : Span
  pub view : ℕ

-- the pages of the list: the root, one table of each level between, and the tables of level 0
abbrev pub pages_of : GKind → ℕ
pages_of kind = ROOT_PAGES + (top kind - 1) + LEAF_TABLES

pub record IsTable (t : Table) : Type 0 where
  pub spans : AreSpans t.text t.ram
  pub few : t.view < 2 ^ 8
  pub size : length t.entries ≡ TABLE * pages_of t.kind
  pub maps : (at : ℕ) → walked_leaf t.kind t.entries at ≡ mapped t.text t.ram t.view at
