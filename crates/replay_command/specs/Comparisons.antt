-- What a replay compares, in this order: the numbers of vCPUs, the steps that exist and the length of the schedule, the ends,
-- each value of each vCPU, and the digests of the memory. The value of the full kernel's run stands on the left, that of
-- the trace on the right. Texts are this project's own.
use Rattle.std.specs.Prelude.{ℕ, ◌==◌, ◌<◌, Bool, not, Option, Some, None, List, [], ◌∷◌, ◌++◌, length, map, take, codes, bytes_eq, slice_get, slice_index_or, unwrap_or, zip}
use Rattle.std.specs.List.{enumerate_from, find, flat_map, range_with_len}
use Rattle.std.specs.Fmt.{decimal}
use Rattle.hex.specs.Hex.{encode_lower}
use Rattle.fc_numbers.specs.declared.machine.End.{End}
use Rattle.fc_numbers.specs.declared.machine.End.TheVariants as end
use Rattle.chain_log.specs.Line.{hex}
use Rattle.trace_file.specs.declared.state.State.{State as VcpuState}
use Rattle.trace_file.specs.declared.state.TheConstants.{VALUES}
use Rattle.trace_file.specs.Trace.{Told}
use Rattle.trace_file.specs.Values.{values_of, state_of, value_names}
use Rattle.guest_board.specs.Board.{State}
use Rattle.run_evidence.specs.Config.{Config, full}
use Rattle.run_trace.specs.Told.{vcpu_state, memory_digest}
use Rattle.command_frame.specs.Answers.{stop_name}
use Rattle.replay_command.specs.declared.comparison.Comparison.{Comparison}
use Rattle.replay_command.specs.declared.comparison.Comparison.TheVariants.{Vcpus, Schedule, Ending, Value, Memory}

-- the name of an end; of none where the run goes on
abbrev pub end_name : Option End → List ℕ
end_name None = codes "Running"
end_name (Some end.Spent) = codes "Spent"
end_name (Some end.Shutdown) = codes "Shutdown"
end_name (Some (end.Stopped stop)) = stop_name stop

-- the two sides differ
abbrev pub differs : Comparison → Bool
differs (Vcpus left right) = not (left == right)
differs (Schedule left right) = not (left == right)
differs (Ending left right) = not (bytes_eq (end_name left) (end_name (Some right)))
differs (Value vcpu number left right) = not (left == right)
differs (Memory left right) = not (bytes_eq left right)

-- what is compared, and the two sides
abbrev pub shown : List ℕ → List ℕ → List ℕ → List ℕ
shown what left right = what ++ codes " " ++ left ++ codes " " ++ right

-- the value of this number of this vCPU
abbrev pub value_text : ℕ → ℕ → List ℕ
value_text vcpu number = codes "vcpu " ++ decimal vcpu ++ codes " " ++ unwrap_or (slice_get value_names number) []

abbrev pub text_of_comparison : Comparison → List ℕ
text_of_comparison (Vcpus left right) = shown (codes "vcpus") (decimal left) (decimal right)
text_of_comparison (Schedule left right) = shown (codes "schedule") (decimal left) (decimal right)
text_of_comparison (Ending left right) = shown (codes "end") (end_name left) (end_name (Some right))
text_of_comparison (Value vcpu number left right) = shown (value_text vcpu number) (hex left) (hex right)
text_of_comparison (Memory left right) = shown (codes "memory") (encode_lower left) (encode_lower right)

-- the number of a value is one that has a name
abbrev pub IsNumbered : Comparison → Type 0
IsNumbered (Value vcpu number left right) = number < VALUES
IsNumbered other = Unit {0}

-- value after value of a vCPU, each with its number
abbrev pub value_compared : ℕ → ℕ × (ℕ × ℕ) → Comparison
value_compared vcpu x = Value vcpu x.0 x.1.0 x.1.1

abbrev pub values_compared : ℕ → VcpuState → VcpuState → List Comparison
values_compared vcpu left right = map (value_compared vcpu) (enumerate_from 0 (zip (values_of left) (values_of right)))

-- the state that a list has at a place; past its end, one of zeros
abbrev pub vcpu_state_at : List VcpuState → ℕ → VcpuState
vcpu_state_at states i = slice_index_or states i (state_of [])

-- the values of so many vCPUs, one vCPU after another
abbrev pub vcpus_compared : State → List VcpuState → ℕ → List Comparison
vcpus_compared s states n = flat_map (λ i. values_compared i (vcpu_state s i) (vcpu_state_at states i)) (range_with_len 0 n)

-- what is compared once so many steps have led to this state
abbrev pub run_compared : State → Told → ℕ → List Comparison
run_compared s t made = Schedule made (length t.schedule) ∷ Ending s.end t.end ∷ vcpus_compared s t.states t.vcpus ++ Memory (memory_digest s.ram) t.memory ∷ []

-- all that is compared, in its order, where so many steps of the trace's schedule exist
abbrev pub compared : Config → Told → ℕ → List Comparison
compared c t made = Vcpus c.setup.vcpus t.vcpus ∷ run_compared (full c (take made t.schedule)) t made

-- the first that differs
abbrev pub first_difference : List Comparison → Option Comparison
first_difference comparisons = find differs comparisons
