use Rattle.std.proofs.Common.{◌≡◌, ◌+◌, ◌-◌, ◌<◌, ◌≤◌, length}
use Rattle.view_file.specs.Named.{view_named}
use Rattle.guest_board.specs.Board.{name_of}
use Rattle.vcpu_core.specs.declared.lane.Phase.TheVariants.{Running}
use Rattle.vcpu_core.specs.Stages.{AreStagesFor}
use Rattle.vcpu_core.specs.Turns.{turns_from}
use Rattle.vcpu_core.proofs.rows.turn.Given as goal

abbrev pub invariant-loop-steps : goal.invariant-loop-steps
invariant-loop-steps l = record {
  exact : turns_from l.views l.steps (l.limit - l.steps) l.board l.lane ≡ turns_from l.views 0 l.limit l.fn.board l.fn.lane;
  running : l.lane.phase ≡ Running;
  number : l.lane.vcpu < length l.board.state.slots;
  view : l.view ≡ view_named l.views (name_of l.board.state l.lane.vcpu);
  within : l.view ≤ length l.views.apps;
  stages : AreStagesFor l.board.state.ram (length l.views.apps + 1) l.stages;
}
