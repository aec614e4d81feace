use Rattle.std.proofs.Common.{◌≡◌, ◌++◌}
use Rattle.std.specs.List.{flat_map, range_with_len}
use Rattle.guest_input.specs.Text.{bytes_of}
use Rattle.code_listing.specs.Surface.{app_line, full_line, text_halves}
use Rattle.code_listing.proofs.surface.surface.Given as goal

abbrev pub invariant-loop-n : goal.invariant-loop-n
invariant-loop-n l = l.out.items ≡ full_line (text_halves (bytes_of l.image.ranges)) ++ flat_map (app_line l.image l.views) (range_with_len 0 l.n)
