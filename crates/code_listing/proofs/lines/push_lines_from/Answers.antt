use Rattle.std.proofs.Common.{◌≡◌, ◌-◌, ◌++◌, length, take, drop, arith, length-drop}
use Rattle.std.proofs.lemmas.List.{take_all}
use Rattle.code_listing.specs.Items.{items_of}
use Rattle.code_listing.specs.Lines.{item_lines}
use Rattle.code_listing.proofs.LineLemmas.{line-more}
use Rattle.code_listing.proofs.lines.push_lines_from.Goals as goal

pub loop-at-preserved : goal.loop-at-preserved
loop-at-preserved c =
    let i = c.loop-at.invariant in
    let halves = c.args.halves.now in
    let all : take (length c.args.halves.now - c.loop-at.at) (drop c.loop-at.at c.args.halves.now) ≡ drop c.loop-at.at c.args.halves.now =
    take_all (length halves - c.loop-at.at) (drop c.loop-at.at halves) (omega (arith, length-drop c.loop-at.at halves)) in
    let first = rw all at c.first_item-item.ensures.first in
    let within = rw all at c.first_item-item.ensures.within in
    record {
      within = omega (arith, i.within, c.item_size-at.ensures, within, length-drop c.loop-at.at halves);
      rest = rw c.item_size-at.ensures (line-more c.args.place c.loop-at.at halves c.loop-at.out.items c.push_line.new.out.items (c.args.out.now.items ++ item_lines c.args.place (items_of halves)) c.first_item-item.result first c.in_ok-push_line.ensures i.rest);
    }
