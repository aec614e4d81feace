-- What holds of a schedule and of the logs beside it, by view number.
use Rattle.std.specs.Prelude.{ℕ, List}
use Rattle.chain_log.specs.declared.entry.LogEntry.{LogEntry}
use Rattle.run_evidence.specs.Config.{Config, IsLawfulSchedule}
use Rattle.run_evidence.specs.Evidence.{AllJustified, AllOfView, IsAllowed, IsOnce, log_in}

abbrev pub Log : Type 0
Log = List LogEntry

-- the log is evidence of view v: its entries are of v and justified, and no group stands twice
pub record IsEvidence (c : Config) (schedule : List ℕ) (v : ℕ) (log : Log) : Type 0 where
  pub of_view : AllOfView v log
  pub justified : AllJustified c schedule log
  pub once : IsOnce log

-- the schedule is lawful, each log is evidence of its view, and the logs allow each fetch of the schedule
pub record AreSoundLogs (c : Config) (schedule : List ℕ) (logs : List Log) : Type 0 where
  pub lawful : IsLawfulSchedule c schedule
  pub evidence : (v : ℕ) → IsEvidence c schedule v (log_in logs v)
  pub allowed : IsAllowed c logs schedule
