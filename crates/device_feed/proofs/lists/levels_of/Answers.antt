use Rattle.std.proofs.Common.{◌∙◌, sym, append_assoc, append-nil}
use Rattle.std.proofs.lemmas.List.{drop_all}
use Rattle.device_feed.proofs.Levels.{levels_more, levels_from_none}
use Rattle.device_feed.proofs.lists.levels_of.Goals as goal

pub loop-event-preserved : goal.loop-event-preserved
loop-event-preserved c =
    let more = levels_more c.loop-event.levels c.args.events.now c.loop-event.event-index c.event-item.result c.loop-event-test.true c.event-item.is in
    rw (c.in_ok-push.ensures.items, append_assoc, c.set_level.ensures, ← more) c.loop-event.invariant

pub returns : goal.returns
returns c =
    let over = drop_all c.loop-event.event-index c.args.events.now c.loop-event-test.false in
    sym (append-nil c.loop-event.all.items) ∙ rw (over, levels_from_none) at c.loop-event.invariant
