-- Log entries: 17 bytes, the last of which counts the places of the chain, and then the chain.
use Rattle.std.specs.Prelude.{ℕ, ◌==◌, ◌||◌, nat_lt, nat_le, if◌then◌else◌, List, length, Option, Some, None}
use Rattle.std.specs.Int.{w8, w16, w32, w64}
use Rattle.chain_log.specs.declared.entry.LogEntry.{LogEntry}
use Rattle.chain_log.specs.declared.entry.TheConstants.{CHAIN_MOST}
use Rattle.trace_file.specs.declared.fault.TraceFault.{TraceFault}
use Rattle.trace_file.specs.declared.fault.TraceFault.TheVariants.{BadEntry}
use Rattle.trace_file.specs.declared.entries.Head.{Head}
use Rattle.trace_file.specs.declared.trace.TheConstants.{VIEWS_MOST, GROUPS_MOST}
use Rattle.trace_file.specs.Form.{Form, number, both, seen, checked, repeated_form, counted_items}

-- entry k of a trace of so many vCPUs and steps, behind one of view `before`; entries are of views from 1 on, in order
abbrev pub entry_fault : ℕ → ℕ → ℕ → ℕ → Head → Option TraceFault
entry_fault vcpus steps k before h =
    if (h.view == 0) || nat_le VIEWS_MOST h.view || nat_lt h.view before || nat_le GROUPS_MOST h.group
    || nat_le vcpus h.vcpu || nat_lt steps h.at || nat_lt CHAIN_MOST h.places
    then Some (BadEntry k)
    else None

abbrev pub head_of : ℕ × (ℕ × (ℕ × (ℕ × (ℕ × ℕ)))) → Head
head_of x = record { view = x.0; group = x.1.0; vcpu = x.1.1.0; at = x.1.1.1.0; pc = x.1.1.1.1.0; places = x.1.1.1.1.1 }

abbrev pub head_parts : Head → ℕ × (ℕ × (ℕ × (ℕ × (ℕ × ℕ))))
head_parts h = (h.view, (h.group, (h.vcpu, (h.at, (h.pc, h.places)))))

-- view, group, vCPU, at, pc, number of places
unfoldable pub head_form : ℕ → ℕ → ℕ → ℕ → Form Head
head_form vcpus steps k before = checked (entry_fault vcpus steps k before) (seen head_of head_parts (
    both (number w8) (λ _.
    both (number w16) (λ _.
    both (number w8) (λ _.
    both (number w32) (λ _.
    both (number w64) (λ _.
    number w8)))))))

abbrev pub entry_of : Head × List ℕ → LogEntry
entry_of x = record { view = x.0.view; group = x.0.group; vcpu = x.0.vcpu; at = x.0.at; pc = x.0.pc; chain = record { items = x.1 } }

abbrev pub head_at : LogEntry → Head
head_at e = record { view = e.view; group = e.group; vcpu = e.vcpu; at = e.at; pc = e.pc; places = length e.chain.items }

abbrev pub entry_parts : LogEntry → Head × List ℕ
entry_parts e = (head_at e, e.chain.items)

-- the head, and then as many places as it counts
unfoldable pub entry_form : ℕ → ℕ → ℕ → ℕ → Form LogEntry
entry_form vcpus steps k before = seen entry_of entry_parts (both (head_form vcpus steps k before) (λ h. repeated_form h.places (number w64)))

abbrev pub after_entry : ℕ → LogEntry → ℕ
after_entry before e = e.view

unfoldable pub entries_form : ℕ → ℕ → Form (List LogEntry)
entries_form vcpus steps = counted_items (number w32) (entry_form vcpus steps) after_entry 0

-- the text of an entry hangs on nothing before it
abbrev pub entry_text : LogEntry → List ℕ
entry_text e = (entry_form 0 0 0 0).spell e
