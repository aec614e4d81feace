use Rattle.std.proofs.Common.{◌≡◌}
use Rattle.turn_table.specs.Passes.{known}
use Rattle.vcpu_crew.specs.Rig.{config_of_shared}
use Rattle.vcpu_crew.specs.Round.{IsBetweenRounds}
use Rattle.vcpu_crew.proofs.crew.make_rounds.Given as goal

abbrev pub invariant-loop : goal.invariant-loop
invariant-loop g l =
    (goal.iterator-loop g).can_next l.iterator' × (goal.iterator-loop g).is_finite l.iterator'
    × (l.pass.seat.table_id ≡ l.initial.pass.seat.table_id) × IsBetweenRounds (config_of_shared l.rig) (known l.pass) l.lane × (l.lane.vcpu ≡ l.initial.lane.vcpu)
