use Rattle.std.proofs.Common.{◌≡◌, ◌+◌, ◌-◌, ◌<◌, ◌≤◌, length, true}
use Rattle.view_file.specs.Named.{view_named}
use Rattle.guest_ram.specs.Ram.{IsLaid}
use Rattle.guest_board.specs.Board.{may, name_of}
use Rattle.vcpu_core.specs.declared.lane.Phase.TheVariants.{Running}
use Rattle.vcpu_core.specs.Stages.{AreStagesFor}
use Rattle.vcpu_core.specs.World.{AreViewsOf}
use Rattle.vcpu_core.proofs.Counted.{RowCounts}
use Rattle.vcpu_core.proofs.InRow.{RowLeads}
use Rattle.vcpu_core.proofs.machine.row.Given as goal

abbrev pub invariant-loop-made : goal.invariant-loop-made
invariant-loop-made l = record {
  leads : RowLeads l.profile l.views l.fn.board l.board l.fn.lane l.lane l.made;
  counts : RowCounts l.profile l.views l.fn.board l.board l.fn.lane l.lane l.made;
  own : l.lane.vcpu ≡ l.fn.lane.vcpu;
  running : l.lane.phase ≡ Running;
  number : l.lane.vcpu < length l.board.state.slots;
  view : l.view ≡ view_named l.profile (name_of l.board.state l.lane.vcpu);
  within : l.view ≤ length l.profile.apps;
  stages : AreStagesFor l.board.state.ram (length l.profile.apps + 1) l.stages;
  laid : IsLaid l.board.state.ram;
  views : AreViewsOf l.board.state.ram l.profile l.views;
  most : l.made ≤ l.limit;
  first : l.made ≡ 0 → may l.board.rules l.board.state l.lane.vcpu ≡ true;
}

abbrev pub decreases-loop-made : goal.decreases-loop-made
decreases-loop-made l = l.limit - l.made
