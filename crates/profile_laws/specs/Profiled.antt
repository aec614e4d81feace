-- Runs under the views of their own profile.
-- The rule is this project's own: a run that fetches only what was seen in the profile's run has nothing to log.
use Rattle.std.specs.Prelude.{◌≡◌, ℕ, List, []}
use Rattle.fc_numbers.specs.declared.machine.End.{End}
use Rattle.trace_file.specs.Trace.{Told}
use Rattle.run_evidence.specs.Config.{Config, IsConfig}
use Rattle.profiler.specs.RoundRobin.{IsRoundRobin}
use Rattle.profiler.specs.Profile.{IsProfiled, unviewed}
use Rattle.vcpu_core.specs.First.{first_world}
use Rattle.vcpu_core.specs.World.{erased, go_all}
use Rattle.vcpu_core.specs.Missed.{HasEnded}
use Rattle.vcpu_core.specs.Undisturbed.{IsUndisturbed, LogsNothing}
use Rattle.guest_runs.specs.Driven.{IsDriven}

-- the views are the profile of this image by this setup, whose run had some end
abbrev pub HasOwnProfile : Config → Type 0
HasOwnProfile c = (end : End) × IsProfiled (unviewed c.image c.setup) (record { views = c.views; end = end })

-- an undisturbed list of events whose steps are the round-robin schedule, to the end of the run, logs nothing
abbrev pub RoundRobinLogsNothing : Type 0
RoundRobinLogsNothing = (c : Config) → IsConfig c → HasOwnProfile c → (is : List ℕ) (end : End) → IsUndisturbed (first_world c) is
    → IsRoundRobin c (erased (first_world c) is) end → LogsNothing (go_all (first_world c) is)

-- with one vCPU every list of events after which the run has ended logs nothing
abbrev pub OneVcpuLogsNothing : Type 0
OneVcpuLogsNothing = (c : Config) → IsConfig c → HasOwnProfile c → c.setup.vcpus ≡ 1 → (is : List ℕ) → HasEnded (go_all (first_world c) is)
    → LogsNothing (go_all (first_world c) is)

-- with one vCPU, what is driven by a script, whatever it is, has a trace without entries
abbrev pub OneVcpuTracesNothing : Type 0
OneVcpuTracesNothing = (c : Config) → IsConfig c → HasOwnProfile c → c.setup.vcpus ≡ 1 → (script console : List ℕ) (t : Told) → IsDriven c script t console → t.entries ≡ []
