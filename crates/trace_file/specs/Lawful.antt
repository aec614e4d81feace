-- Lawful traces: those that have a text. Each part is in its range, and entries stand view after view.
use Rattle.std.specs.Prelude.{◌≡◌, ℕ, ◌≤◌, ◌<◌, ◌^◌, List, [], ◌∷◌, length, slice_index}
use Rattle.std.specs.List.{AllByRecursion}
use Rattle.chain_log.specs.declared.entry.LogEntry.{LogEntry}
use Rattle.chain_log.specs.declared.entry.TheConstants.{CHAIN_MOST}
use Rattle.trace_file.specs.declared.state.State.{State}
use Rattle.trace_file.specs.declared.trace.TheConstants.{VCPUS_MOST, STEPS_MOST, VIEWS_MOST, GROUPS_MOST, DIGEST}
use Rattle.trace_file.specs.Trace.{Told}
use Rattle.trace_file.specs.Values.{values_of}

abbrev pub IsDigest : List ℕ → Type 0
IsDigest d = (length d ≡ DIGEST) × ((i : ℕ) → slice_index d i < 256)

-- an entry of a trace of so many vCPUs and steps, behind one of view `before`
pub record IsEntry (vcpus steps before : ℕ) (e : LogEntry) : Type 0 where
  pub some : 1 ≤ e.view
  pub most : e.view < VIEWS_MOST
  pub order : before ≤ e.view
  pub group : e.group < GROUPS_MOST
  pub vcpu : e.vcpu < vcpus
  pub at : e.at ≤ steps
  pub pc : e.pc < 2 ^ 64
  pub chain : length e.chain.items ≤ CHAIN_MOST
  pub places : AllByRecursion (λ p. p < 2 ^ 64) e.chain.items

abbrev pub AreEntries : ℕ → ℕ → ℕ → List LogEntry → Type 0
AreEntries vcpus steps before [] = Unit {0}
AreEntries vcpus steps before (e ∷ es) = IsEntry vcpus steps before e × AreEntries vcpus steps e.view es

abbrev pub IsState : State → Type 0
IsState s = AllByRecursion (λ n. n < 2 ^ 64) (values_of s)

pub record IsLawfulTrace (t : Told) : Type 0 where
  pub some : 1 ≤ t.vcpus
  pub most : t.vcpus ≤ VCPUS_MOST
  pub steps : length t.schedule ≤ STEPS_MOST
  pub schedule : AllByRecursion (λ v. v < t.vcpus) t.schedule
  pub few : length t.entries < 2 ^ 32
  pub entries : AreEntries t.vcpus (length t.schedule) 0 t.entries
  pub each : length t.states ≡ t.vcpus
  pub states : AllByRecursion IsState t.states
  pub memory : IsDigest t.memory
  pub views : 1 ≤ length t.pages
  pub few_views : length t.pages ≤ VIEWS_MOST
  pub pages : AllByRecursion IsDigest t.pages
