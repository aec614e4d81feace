-- How a core keeps its parts together.
use Rattle.std.specs.Prelude.{◌+◌, length}
use Rattle.vcpu_core.specs.declared.machine.Core.TheInside.{Inside}
use Rattle.vcpu_core.specs.World.{World, IsReady}
use Rattle.vcpu_core.specs.Stages.{AreStagesFor}

abbrev pub world_of : Inside → World
world_of k = record {
  profile = k.profile.now;
  groups = k.table.now;
  board = k.board;
  paged_views = k.views.items;
  lanes = k.lanes.items;
}

-- the world is ready, and each view has its second-stage table for the board's memory
pub record IsWhole (k : Inside) : Type 0 where
  pub ready : IsReady (world_of k)
  pub stages : AreStagesFor k.board.state.ram (length k.profile.now.apps + 1) k.stages.items
