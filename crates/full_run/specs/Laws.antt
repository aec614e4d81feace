-- What a schedule and its length say of each other.
use Rattle.std.specs.Prelude.{◌≡◌, ℕ, List, length}
use Rattle.run_evidence.specs.Config.{Config, full, IsLawfulSchedule}
use Rattle.full_run.specs.Replay.{IsLongest}

-- a schedule has a number of steps that exist
abbrev pub EachHasLongest : Type 0
EachHasLongest = (c : Config) (schedule : List ℕ) → (made : ℕ) × IsLongest c schedule made

-- and only one
abbrev pub LongestIsOne : Type 0
LongestIsOne = (c : Config) (schedule : List ℕ) (m n : ℕ) → IsLongest c schedule m → IsLongest c schedule n → m ≡ n

-- all steps of a lawful schedule exist, and of no other
abbrev pub LawfulIsWhole : Type 0
LawfulIsWhole = (c : Config) (schedule : List ℕ) → (IsLawfulSchedule c schedule → IsLongest c schedule (length schedule)) × (IsLongest c schedule (length schedule) → IsLawfulSchedule c schedule)

-- a run keeps the vCPUs of its setup
abbrev pub RunsKeepVcpus : Type 0
RunsKeepVcpus = (c : Config) (schedule : List ℕ) → length (full c schedule).slots ≡ c.setup.vcpus
