-- What a round of a worker does to its pass and its lane.
-- The rule: a running lane makes a turn on the board as it is taken, and the steps are added to the schedule seen; a lane
-- that wants a line takes its window of the view as it is taken; a trap is looked up; a mend is of the view as it is taken.
use Rattle.std.specs.Prelude.{◌≡◌, ℕ, ◌<◌, ◌++◌, Some, None, List, replicate, slice_set}
use Rattle.chain_log.specs.declared.entry.LogEntry.{LogEntry}
use Rattle.run_evidence.specs.Config.{Config, image_groups}
use Rattle.run_evidence.specs.Evidence.{log_in}
use Rattle.run_evidence.specs.Growing.{Begins, board_of, paged_at}
use Rattle.turn_table.specs.declared.known.Known.{Known}
use Rattle.turn_table.specs.Numbers.{at, grown, times}
use Rattle.turn_table.specs.Rule.{config_of}
use Rattle.turn_table.specs.Steps.{own, known_with}
use Rattle.vcpu_core.specs.declared.lane.Lane.{Lane}
use Rattle.vcpu_core.specs.declared.lane.Phase.{Phase}
use Rattle.vcpu_core.specs.declared.lane.Phase.TheVariants.{Running, Wants, Trapped, Looked}
use Rattle.vcpu_core.specs.declared.lane.Then.{Then}
use Rattle.vcpu_core.specs.declared.lane.Then.TheVariants as then
use Rattle.vcpu_core.specs.declared.lane.Turned.{Turned}
use Rattle.vcpu_core.specs.Lanes.{fill_row, look_row, mend_row, mend_view}
use Rattle.vcpu_core.specs.Truthful.{IsTruthful}
use Rattle.vcpu_core.specs.Turns.{turns_of}
use Rattle.vcpu_crew.specs.declared.round.Rounded.{Rounded}
use Rattle.vcpu_crew.specs.declared.round.Rounded.TheVariants.{Went, Over}
use Rattle.vcpu_crew.specs.declared.round.TheConstants.{TURN_LIMIT}

-- The pass holds nothing; the lane is that of its own vCPU, one of the run's; the pass has seen every step of it; the lane
-- is truthful for the schedule and the logs seen.
pub record IsBetweenRounds (c : Config) (v : Known) (l : Lane) : Type 0 where
  pub config : config_of v ≡ c
  pub free : v.holds ≡ None
  pub vcpu : l.vcpu ≡ own v
  pub number : l.vcpu < c.setup.vcpus
  pub steps : at v.counts l.vcpu ≡ Some (times l.vcpu v.seen)
  pub truthful : IsTruthful c v.seen v.logs l

-- a turn that could not make a step since the vCPU may not
abbrev pub round_answer : Then → Rounded
round_answer then.Limit = Went
round_answer then.Need = Went
round_answer then.Zero = Went
round_answer then.Over = Over

-- a turn on the board of a schedule that begins with the one seen: its steps are then seen after that schedule, and
-- counted as the pass's own
pub record HasTurned (c : Config) (v : Known) (l : Lane) (v' : Known) (l' : Lane) (answer : Rounded) : Type 0 where
  pub schedule : List ℕ
  pub seen : Begins v.seen schedule
  pub did : Turned
  pub exact : turns_of c.views TURN_LIMIT (board_of c schedule) l ≡ record { board = board_of c v'.seen; lane = l'; answer = did }
  pub pass : v' ≡ known_with v None (schedule ++ replicate did.steps (own v)) v.logs (slice_set v.counts (own v) (grown (at v.counts (own v)) did.steps))
  pub answer_is : answer ≡ round_answer did.then

-- the pass after it gave the lane's view back with this log
abbrev pub with_log : Known → Lane → List LogEntry → Known
with_log v l log = known_with v None v.seen (slice_set v.logs l.windows.view log) v.counts

-- a fill from the lane's view, whose log begins with the one seen
pub record HasFilled (c : Config) (v : Known) (l : Lane) (v' : Known) (l' : Lane) : Type 0 where
  pub log : List LogEntry
  pub seen : Begins (log_in v.logs l.windows.view) log
  pub lane : l' ≡ fill_row (paged_at c l.windows.view log) l l.phase
  pub pass : v' ≡ with_log v l log

-- a mend of the lane's view, whose log began with the one seen
pub record HasMended (c : Config) (v : Known) (l : Lane) (v' : Known) (l' : Lane) : Type 0 where
  pub log : List LogEntry
  pub seen : Begins (log_in v.logs l.windows.view) log
  pub lane : l' ≡ mend_row (image_groups c) l l.phase
  pub pass : v' ≡ with_log v l (mend_view (paged_at c l.windows.view log) l.phase).log

-- a round, by the lane's phase
abbrev pub IsRound : Config → Known → Lane → Phase → Known → Lane → Rounded → Type 0
IsRound c v l Running v' l' answer = HasTurned c v l v' l' answer
IsRound c v l (Wants n) v' l' answer = HasFilled c v l v' l' × (answer ≡ Went)
IsRound c v l (Trapped t) v' l' answer = (v' ≡ v) × (l' ≡ look_row (image_groups c) l l.phase) × (answer ≡ Went)
IsRound c v l (Looked k) v' l' answer = HasMended c v l v' l' × (answer ≡ Went)
