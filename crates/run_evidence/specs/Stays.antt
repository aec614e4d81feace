-- What is evidence stays evidence: entries and fetches are looked at by a front part of the schedule alone.
use Rattle.std.specs.Prelude.{◌≡◌, ℕ, true, List, ◌++◌}
use Rattle.chain_log.specs.declared.entry.LogEntry.{LogEntry}
use Rattle.run_evidence.specs.Config.{Config}
use Rattle.run_evidence.specs.Evidence.{IsJustified, IsAllowed, is_logged_at, log_in}

-- an entry that is justified stays so when the schedule grows
abbrev pub JustifiedStays : Type 0
JustifiedStays = (c : Config) (schedule later : List ℕ) (e : LogEntry) → IsJustified c schedule e → IsJustified c (schedule ++ later) e

-- fetches that are allowed stay so when the logs have more
abbrev pub AllowedStays : Type 0
AllowedStays = (c : Config) (schedule : List ℕ) (logs more : List (List LogEntry))
    → ((v t g : ℕ) → is_logged_at (log_in logs v) t g ≡ true → is_logged_at (log_in more v) t g ≡ true) → IsAllowed c logs schedule → IsAllowed c more schedule
