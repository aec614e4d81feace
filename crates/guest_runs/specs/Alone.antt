-- The run of one vCPU to its end, as the full kernel makes it, and the text of its log.
-- The rule: the log has a line for each miss of the run, in order, that of the justified entry with its clock.
use Rattle.std.specs.Prelude.{◌≡◌, ℕ, Some, List}
use Rattle.fc_numbers.specs.declared.machine.End.{End}
use Rattle.chain_log.specs.declared.entry.LogEntry.{LogEntry}
use Rattle.run_evidence.specs.Config.{Config, full, IsLawfulSchedule}
use Rattle.run_evidence.specs.Evidence.{AllJustified}
use Rattle.run_evidence.specs.Misses.{misses, steps_of}
use Rattle.guest_runs.specs.Log.{log_text}

-- the text has a line for each miss of the run, in order, that of the justified entry with its clock
pub record IsLogOf (c : Config) (schedule : List ℕ) (text : List ℕ) : Type 0 where
  pub entries : List LogEntry
  pub misses : steps_of entries ≡ misses c schedule
  pub justified : AllJustified c schedule entries
  pub lines : text ≡ log_text c.image c.views entries

-- each step of the schedule exists, and the full kernel's run by it has this end and this console
pub record IsRunOf (c : Config) (schedule : List ℕ) (end : End) (console log : List ℕ) : Type 0 where
  pub lawful : IsLawfulSchedule c schedule
  pub ended : (full c schedule).end ≡ Some end
  pub wrote : (full c schedule).console ≡ console
  pub logged : IsLogOf c schedule log
