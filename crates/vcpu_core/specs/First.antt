-- The view machine before any event.
-- The rule: a view for each app and the full view, each with its base and an empty log; lanes that hold nothing.
use Rattle.std.specs.Prelude.{ℕ, List, [], map}
use Rattle.std.specs.List.{range_with_len}
use Rattle.view_file.specs.Named.{view_named}
use Rattle.view_store.specs.Paged.{PagedView}
use Rattle.guest_board.specs.First.{first_seat}
use Rattle.run_evidence.specs.Config.{Config, image_groups}
use Rattle.run_evidence.specs.Growing.{paged_at, views_count}
use Rattle.vcpu_core.specs.declared.lane.Lane.{Lane}
use Rattle.vcpu_core.specs.declared.lane.Phase.TheVariants.{Running}
use Rattle.vcpu_core.specs.Lanes.{blank_windows}
use Rattle.vcpu_core.specs.World.{World}

abbrev pub first_paged : Config → ℕ → PagedView
first_paged c v = paged_at c v []

-- one for each of the numbers from 0 on
unfoldable pub first_paged_views : Config → ℕ → List PagedView
first_paged_views c n = map (first_paged c) (range_with_len 0 n)

abbrev pub first_lane : ℕ → ℕ → Lane
first_lane v i = record { vcpu = i; windows = blank_windows v; phase = Running }

unfoldable pub first_lanes : ℕ → ℕ → List Lane
first_lanes v n = map (first_lane v) (range_with_len 0 n)

unfoldable pub first_world : Config → World
first_world c = record {
  profile = c.views;
  groups = image_groups c;
  board = first_seat c.image c.setup;
  paged_views = first_paged_views c (views_count c);
  lanes = first_lanes (view_named c.views c.setup.start) c.setup.vcpus;
}
