use Rattle.std.proofs.Common.{◌≡◌, ◌≤◌, ◌*◌, ◌^◌}
use Rattle.std.specs.Prelude.{sum_by}
use Rattle.std.specs.List.{range_with_len}
use Rattle.code_listing.specs.Surface.{present_size}
use Rattle.code_listing.proofs.surface.present_halves.Given as goal

abbrev pub invariant-loop-g : goal.invariant-loop-g
invariant-loop-g l = record {
  sum : l.total ≡ sum_by (present_size l.view) (range_with_len 0 l.g);
  most : l.total ≤ 2 ^ 32 * l.g;
}
