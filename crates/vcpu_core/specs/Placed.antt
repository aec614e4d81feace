-- What the rows of the view machine ask of a lane.
-- The rule: a line that is wanted is one of text; a trap is of a place of text; a group is one of the text's, and the
-- entry's; trap and entry are of the lane's view.
use Rattle.std.specs.Prelude.{◌≡◌, ◌*◌, ◌<◌, true}
use Rattle.fc_numbers.specs.Spans.{text_size}
use Rattle.function_table.specs.Groups.{Groups, groups_count, in_groups_text}
use Rattle.vcpu_core.specs.declared.lane.Lane.{Lane}
use Rattle.vcpu_core.specs.declared.lane.Phase.{Phase}
use Rattle.vcpu_core.specs.declared.lane.Phase.TheVariants.{Running, Wants, Trapped, Looked}

abbrev pub IsPlacedPhase : Groups → Lane → Phase → Type 0
IsPlacedPhase groups l Running = Unit {0}
IsPlacedPhase groups l (Wants n) = 64 * n < text_size groups.text
IsPlacedPhase groups l (Trapped t) = (t.view ≡ l.windows.view) × (in_groups_text groups t.pc ≡ true)
IsPlacedPhase groups l (Looked k) = (k.entry.view ≡ l.windows.view) × (k.group < groups_count groups) × (k.entry.group ≡ k.group)
