-- A trace and its one text: what stands where, and the trace or the first fault of bytes.
-- The format is this project's own. Numbers are little endian.
use Rattle.std.specs.Prelude.{ℕ, ◌==◌, ◌||◌, nat_lt, if◌then◌else◌, List, length, Option, Some, None, Result, Ok, Err}
use Rattle.std.specs.Int.{w8}
use Rattle.chain_log.specs.declared.entry.LogEntry.{LogEntry}
use Rattle.fc_numbers.specs.declared.machine.End.{End}
use Rattle.fc_numbers.specs.declared.machine.End.TheVariants.{Spent, Shutdown, Stopped}
use Rattle.fc_numbers.specs.declared.machine.Stop.{Stop}
use Rattle.fc_numbers.specs.declared.machine.Stop.TheVariants.{StoreToText, TableInText, KernelOutsideText, TextSplit}
use Rattle.trace_file.specs.declared.fault.TraceFault.{TraceFault}
use Rattle.trace_file.specs.declared.fault.TraceFault.TheVariants.{NotTrace, Truncated, Trailing, BadTail, NoMemory}
use Rattle.trace_file.specs.declared.halt.Halt.TheVariants.{Memory, Short, Fault}
use Rattle.trace_file.specs.declared.state.State.{State}
use Rattle.trace_file.specs.declared.trace.Trace.{Trace}
use Rattle.trace_file.specs.declared.trace.TheConstants.{MARK, VCPUS_MOST, VIEWS_MOST, DIGEST}
use Rattle.trace_file.specs.Form.{Form, Reading, number, raw, both, seen, checked, behind, whole, counted_items}
use Rattle.trace_file.specs.Runs.{runs_form}
use Rattle.trace_file.specs.Entries.{entries_form}
use Rattle.trace_file.specs.States.{states_form}

-- what a trace tells, without where it lies in memory
pub record Told : Type 0 where
  pub vcpus : ℕ
  pub schedule : List ℕ
  pub entries : List LogEntry
  pub end : End
  pub states : List State
  pub memory : List ℕ
  pub pages : List (List ℕ)

abbrev pub told_of_trace : Trace → Told
told_of_trace t = record {
  vcpus = t.vcpus;
  schedule = t.schedule.items;
  entries = t.entries.items;
  end = t.end;
  states = t.states.items;
  memory = t.memory;
  pages = t.pages.items;
}

abbrev pub vcpus_fault : ℕ → Option TraceFault
vcpus_fault n = if (n == 0) || nat_lt VCPUS_MOST n then Some NotTrace else None

-- the mark, and the number of vCPUs
unfoldable pub vcpus_form : Form ℕ
vcpus_form = whole NotTrace (behind MARK NotTrace (checked vcpus_fault (number w8)))

abbrev pub stop_number : Stop → ℕ
stop_number StoreToText = 2
stop_number TableInText = 3
stop_number KernelOutsideText = 4
stop_number TextSplit = 5

abbrev pub end_number : End → ℕ
end_number Spent = 0
end_number Shutdown = 1
end_number (Stopped stop) = stop_number stop

abbrev pub end_of : ℕ → End
end_of n =
    if n == 0 then Spent else if n == 1 then Shutdown else if n == 2 then Stopped StoreToText
    else if n == 3 then Stopped TableInText else if n == 4 then Stopped KernelOutsideText else Stopped TextSplit

abbrev pub end_fault : ℕ → Option TraceFault
end_fault n = if nat_lt 5 n then Some BadTail else None

unfoldable pub end_form : Form End
end_form = seen end_of end_number (checked end_fault (number w8))

abbrev pub digest_form : Form (List ℕ)
digest_form = raw DIGEST

abbrev pub pages_fault : ℕ → Option TraceFault
pages_fault n = if (n == 0) || nat_lt VIEWS_MOST n then Some BadTail else None

unfoldable pub pages_form : Form (List (List ℕ))
pages_form = counted_items {S = Unit {0}} (checked pages_fault (number w8)) (λ _ _. digest_form) (λ s _. s) tt

abbrev pub Parts : Type 0
Parts = ℕ × (List ℕ × (List LogEntry × (End × (List State × (List ℕ × List (List ℕ))))))

abbrev pub told_of : Parts → Told
told_of x = record {
  vcpus = x.0;
  schedule = x.1.0;
  entries = x.1.1.0;
  end = x.1.1.1.0;
  states = x.1.1.1.1.0;
  memory = x.1.1.1.1.1.0;
  pages = x.1.1.1.1.1.1;
}

abbrev pub parts_of : Told → Parts
parts_of t = (t.vcpus, (t.schedule, (t.entries, (t.end, (t.states, (t.memory, t.pages))))))

-- the whole of a trace: what stands where
unfoldable pub trace_form : Form Told
trace_form = seen told_of parts_of (
    both vcpus_form (λ vcpus.
    both (runs_form vcpus) (λ schedule.
    both (entries_form vcpus (length schedule)) (λ _.
    both end_form (λ _.
    both (states_form vcpus) (λ _.
    both digest_form (λ _.
    pages_form)))))))

-- the one text of a trace
abbrev pub text_of_trace : Told → List ℕ
text_of_trace t = trace_form.spell t

abbrev pub result_at_end : List ℕ → Reading Told → Result Told TraceFault
result_at_end bytes (Ok x) = if length x.1 == 0 then Ok x.0 else Err Trailing
result_at_end bytes (Err Memory) = Err NoMemory
result_at_end bytes (Err Short) = Err (Truncated (length bytes))
result_at_end bytes (Err (Fault fault)) = Err fault

-- the trace whose text the bytes are, all of them, or the first fault that they meet
abbrev pub trace_of : List ℕ → Result Told TraceFault
trace_of bytes = result_at_end bytes (trace_form.read bytes)
