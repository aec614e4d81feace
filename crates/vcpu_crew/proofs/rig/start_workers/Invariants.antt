use Rattle.std.proofs.Common.{◌≤◌}
use Rattle.turn_table.specs.Passes.{IsPassOf, config_in, known}
use Rattle.vcpu_crew.specs.Rig.{AreFirst, OwnsBelow}
use Rattle.vcpu_crew.proofs.rig.start_workers.Given as goal

abbrev pub decreases-loop-left : goal.decreases-loop-left
decreases-loop-left l = l.left

abbrev pub invariant-loop-left : goal.invariant-loop-left
invariant-loop-left l = record {
  some : 1 ≤ l.left;
  pass : IsPassOf l.turns l.rest;
  owns : OwnsBelow (config_in l.turns) l.left (known l.rest);
  rest : AreFirst l.turns l.left l.workers.items;
}
