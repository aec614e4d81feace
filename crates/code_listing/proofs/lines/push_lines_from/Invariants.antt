use Rattle.std.proofs.Common.{◌≡◌, ◌≤◌, ◌+◌, ◌*◌, ◌-◌, ◌++◌, length, drop}
use Rattle.code_listing.specs.Items.{items_of}
use Rattle.code_listing.specs.Lines.{item_lines}
use Rattle.code_listing.proofs.lines.push_lines_from.Given as goal

abbrev pub invariant-loop-at : goal.invariant-loop-at
invariant-loop-at l = record {
  within : l.at ≤ length l.halves;
  rest : l.out.items ++ item_lines (l.place + 2 * l.at) (items_of (drop l.at l.halves)) ≡ l.fn.out.items ++ item_lines l.place (items_of l.halves);
}

abbrev pub decreases-loop-at : goal.decreases-loop-at
decreases-loop-at l = length l.halves - l.at
