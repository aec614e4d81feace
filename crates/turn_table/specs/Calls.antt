-- What the calls ask of a pass and tell of it.
use Rattle.std.specs.Prelude.{◌≡◌, ℕ, ◌<◌, ◌++◌, false, Some, None, List, [], ◌∷◌, replicate}
use Rattle.chain_log.specs.declared.entry.LogEntry.{LogEntry}
use Rattle.view_store.specs.Paged.{is_logged}
use Rattle.run_evidence.specs.Evidence.{IsJustified, log_in}
use Rattle.run_evidence.specs.Growing.{Begins}
use Rattle.turn_table.specs.declared.known.Known.{Known}
use Rattle.turn_table.specs.Numbers.{at, least, greatest, together}
use Rattle.turn_table.specs.Sound.{Log}
use Rattle.turn_table.specs.Rule.{config_of}
use Rattle.turn_table.specs.Steps.{own, longer_logs, IsConsistent}

abbrev pub OwnsSeveral : Known → Type 0
OwnsSeveral v = least v.counts < greatest v.counts

-- the pass owns each number below n
abbrev pub OwnsAll : ℕ → Known → Type 0
OwnsAll n v = (i : ℕ) → i < n → (k : ℕ) × (at v.counts i ≡ Some k)

-- the schedule seen, and then zero or more steps of the pass's own vCPU
abbrev pub IsOwnSteps : Known → List ℕ → Type 0
IsOwnSteps v schedule = (n : ℕ) × (schedule ≡ v.seen ++ replicate n (own v))

-- the log is that of view k as the pass has seen it
abbrev pub IsUnchanged : Known → ℕ → Log → Type 0
IsUnchanged v k log = log ≡ log_in v.logs k

-- the log has one more entry, of view k, of a group that was not logged, and justified by the schedule seen
abbrev pub HasOneMore : Known → ℕ → Log → Type 0
HasOneMore v k log = (e : LogEntry) × (log ≡ log_in v.logs k ++ e ∷ []) × IsJustified (config_of v) v.seen e × (e.view ≡ k) × (is_logged (log_in v.logs k) e.group ≡ false)

-- a pass that took in another
pub record IsJoined (v : Known) (other : Known) (n : Known) : Type 0 where
  pub config : config_of n ≡ config_of v
  pub free : n.holds ≡ None
  pub counts : n.counts ≡ together v.counts other.counts
  pub seen : Begins v.seen n.seen
  pub other_seen : Begins other.seen n.seen
  pub logs : n.logs ≡ longer_logs v.logs other.logs
  pub consistent : IsConsistent n
