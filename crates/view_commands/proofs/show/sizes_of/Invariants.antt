use Rattle.std.proofs.Common.{◌≡◌, ◌+◌, ◌++◌}
use Rattle.std.specs.Prelude.{codes}
use Rattle.std.specs.List.{flat_map, range_with_len}
use Rattle.view_commands.specs.Show.{name_of_view, size_line}
use Rattle.view_commands.proofs.show.sizes_of.Given as goal

abbrev pub invariant-loop-at : goal.invariant-loop-at
invariant-loop-at l = l.text.items ≡ size_line l.image l.views (codes "text") 0 ++ flat_map (λ n. size_line l.image l.views (name_of_view l.views n) (n + 1)) (range_with_len 0 l.at)
