use Rattle.std.proofs.Common.{◌≡◌, ◌<◌, ◌≤◌, ◌∙◌, false, ap, sym, arith, length, take}
use Rattle.device_feed.specs.Devices.{line_after_all, due_events}
use Rattle.device_feed.specs.Lists.{no_levels}
use Rattle.device_feed.proofs.Events.{rising}
use Rattle.device_feed.proofs.Levels.{raised_at, length-levels_from}
use Rattle.device_feed.proofs.feed.Feed.is_raised.Goals as goal

pub due_count-due-requires : goal.due_count-due-requires
due_count-due-requires c = rw c.deref.ensures.value (rising _ 0 c.self.inside.events.items c.self.invariant.events)

pub index-requires : goal.index-requires
index-requires c = omega (arith, ap length c.self.invariant.levels, length-levels_from no_levels c.self.inside.events.items)

pub returns : goal.returns
returns c =
    let events = c.self.inside.events.items in
    let n = c.due_count-due.result in
    let first : due_events c.args.clock events ≡ take n events = rw c.deref.ensures.value at c.due_count-due.ensures.due in
    let within : n ≤ length events = rw c.deref.ensures.value at c.due_count-due.ensures.within in
    let known : c.args.v < length c.self.inside.timer.items = rw (← c.self.view_is) at c.requires in
    let few : c.args.v < 8 = omega (arith, c.self.invariant.eight) in
    rw (← c.self.view_is) (raised_at c.args.v n events c.self.inside.levels.items c.index.result.now c.self.invariant.levels (omega arith) within few c.index.ensures ∙ sym (ap (line_after_all c.args.v false) first))
