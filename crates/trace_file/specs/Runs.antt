-- The runs of a schedule: none is empty, and neighbours are of different vCPUs. So each schedule has its one list of runs.
use Rattle.std.specs.Prelude.{ℕ, ◌+◌, ◌==◌, ◌||◌, Bool, false, nat_lt, nat_le, if◌then◌else◌, List, [], ◌∷◌, ◌++◌, replicate, Option, Some, None}
use Rattle.std.specs.Int.{w8, w32}
use Rattle.trace_file.specs.declared.fault.TraceFault.{TraceFault}
use Rattle.trace_file.specs.declared.fault.TraceFault.TheVariants.{BadRun, TooLarge}
use Rattle.trace_file.specs.declared.runs.Before.{Before}
use Rattle.trace_file.specs.declared.runs.Run.{Run}
use Rattle.trace_file.specs.declared.trace.TheConstants.{STEPS_MOST}
use Rattle.trace_file.specs.Form.{Form, number, both, seen, checked, counted_items}

abbrev pub run : ℕ → ℕ → Run
run vcpu steps = record { vcpu = vcpu; steps = steps }

-- the runs of a schedule behind n steps of v
unfoldable pub runs_from : ℕ → ℕ → List ℕ → List Run
runs_from v n [] = run v n ∷ []
runs_from v n (w ∷ ws) = if v == w then runs_from v (n + 1) ws else run v n ∷ runs_from w 1 ws

abbrev pub runs_of : List ℕ → List Run
runs_of [] = []
runs_of (v ∷ vs) = runs_from v 1 vs

-- the schedule of runs, and back
unfoldable pub schedule_of : List Run → List ℕ
schedule_of [] = []
schedule_of (r ∷ rs) = replicate r.steps r.vcpu ++ schedule_of rs

abbrev pub at_first : Before
at_first = record { vcpu = None; steps = 0 }

abbrev pub after_run : Before → Run → Before
after_run before r = record { vcpu = Some r.vcpu; steps = before.steps + r.steps }

abbrev pub is_again : Option ℕ → ℕ → Bool
is_again None v = false
is_again (Some w) v = w == v

-- run k of a trace of so many vCPUs, behind these runs
abbrev pub run_fault : ℕ → ℕ → Before → Run → Option TraceFault
run_fault vcpus k before r =
    if nat_le vcpus r.vcpu || (r.steps == 0) || is_again before.vcpu r.vcpu then Some (BadRun k)
    else if nat_lt STEPS_MOST (before.steps + r.steps) then Some TooLarge
    else None

-- vCPU, number of steps
unfoldable pub run_form : ℕ → ℕ → Before → Form Run
run_form vcpus k before = checked (run_fault vcpus k before) (seen (λ x. run x.0 x.1) (λ r. (r.vcpu, r.steps)) (both (number w8) (λ _. number w32)))

unfoldable pub runs_form : ℕ → Form (List ℕ)
runs_form vcpus = seen schedule_of runs_of (counted_items (number w32) (run_form vcpus) after_run at_first)

-- the text of a run hangs on nothing before it
abbrev pub run_text : Run → List ℕ
run_text r = (run_form 0 0 at_first).spell r
