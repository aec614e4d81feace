-- The run of all vCPUs of a setup by a script, to its end.
-- The rule: an event of each vCPU of the script, in order, and then of vCPU 0, 1, .. again and again; the trace tells the
-- steps and the logs of these events, and is sound.
use Rattle.std.specs.Prelude.{◌≡◌, ℕ, List}
use Rattle.std.specs.List.{flat_map}
use Rattle.trace_file.specs.Trace.{Told}
use Rattle.trace_file.specs.Lawful.{IsLawfulTrace as IsLawfulTrace}
use Rattle.run_evidence.specs.Config.{Config, full}
use Rattle.run_trace.specs.Sound.{IsSoundTrace}
use Rattle.vcpu_core.specs.First.{first_world}
use Rattle.vcpu_core.specs.World.{go_all, erased}
use Rattle.guest_runs.specs.Engine.{events_of_script}

-- the trace is sound, and has a text; it tells the events of the script and of so many rounds, after which the run has
-- ended; the console is that of the full kernel's run of its schedule
pub record IsDriven (c : Config) (script : List ℕ) (t : Told) (console : List ℕ) : Type 0 where
  pub sound : IsSoundTrace c t
  pub lawful : IsLawfulTrace t
  pub rounds : ℕ
  pub schedule : t.schedule ≡ erased (first_world c) (events_of_script script c.setup.vcpus rounds)
  pub entries : t.entries ≡ flat_map (λ p. p.log) (go_all (first_world c) (events_of_script script c.setup.vcpus rounds)).paged_views
  pub wrote : console ≡ (full c t.schedule).console
