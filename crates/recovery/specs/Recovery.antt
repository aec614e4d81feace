-- What a trap on a missing function asks for: the group of its place, and the entry that logs it.
-- The rule is this project's: the entry is the trap with the group of its place.
use Rattle.function_table.specs.Groups.{Groups, group_at}
use Rattle.chain_log.specs.declared.entry.Trapped.{Trapped}
use Rattle.chain_log.specs.declared.entry.LogEntry.{LogEntry}
use Rattle.recovery.specs.declared.Looked.{Looked}

abbrev pub entry_of_trap : Groups → Trapped → LogEntry
entry_of_trap groups t = record { view = t.view; group = group_at groups t.pc; vcpu = t.vcpu; at = t.at; pc = t.pc; chain = t.chain }

abbrev pub looked_of : Groups → Trapped → Looked
looked_of groups t = record { group = group_at groups t.pc; entry = entry_of_trap groups t }
