use Rattle.std.proofs.Common.{◌≡◌, ◌∙◌, true, false, ap, sym, refl}
use Rattle.std.specs.Option.{is_some}
use Rattle.std.specs.List.{slice_get}
use Rattle.device_feed.specs.Devices.{due_events, keys_of}
use Rattle.device_feed.specs.Lists.{if_due}
use Rattle.device_feed.proofs.Keys.{due_key_at}
use Rattle.device_feed.proofs.feed.Feed.take_key.Goals as goal

pub returns-then-is_some-clause-value : goal.returns-then-is_some-clause-value
returns-then-is_some-clause-value c =
    let same : if_due c.args.clock (slice_get c.deref.result.now c.self.inside.taken) ≡ slice_get (keys_of (due_events c.args.clock c.self.inside.events.items)) c.self.inside.taken =
    rw (c.deref.ensures.value, c.self.invariant.keys) (sym (due_key_at _ 0 c.args.clock c.self.inside.events.items c.self.inside.taken c.self.invariant.events)) in
    rw (← c.self.view_is) (c.first_due-key.ensures.value ∙ same)

pub returns-then-is_some-clause-after : goal.returns-then-is_some-clause-after
returns-then-is_some-clause-after c =
    let same : if_due c.args.clock (slice_get c.deref.result.now c.self.inside.taken) ≡ slice_get (keys_of (due_events c.args.clock c.self.inside.events.items)) c.self.inside.taken =
    rw (c.deref.ensures.value, c.self.invariant.keys) (sym (due_key_at _ 0 c.args.clock c.self.inside.events.items c.self.inside.taken c.self.invariant.events)) in
    let some : is_some (slice_get (keys_of (due_events c.args.clock c.self.inside.events.items)) c.self.inside.taken) ≡ true =
    sym (ap is_some (c.first_due-key.ensures.value ∙ same)) ∙ sym c.if-is_some.ensures in
    rw (← c.self.view_is, some) refl

pub returns-else-is_some-clause-value : goal.returns-else-is_some-clause-value
returns-else-is_some-clause-value c =
    let same : if_due c.args.clock (slice_get c.deref.result.now c.self.inside.taken) ≡ slice_get (keys_of (due_events c.args.clock c.self.inside.events.items)) c.self.inside.taken =
    rw (c.deref.ensures.value, c.self.invariant.keys) (sym (due_key_at _ 0 c.args.clock c.self.inside.events.items c.self.inside.taken c.self.invariant.events)) in
    rw (← c.self.view_is) (c.first_due-key.ensures.value ∙ same)

pub returns-else-is_some-clause-after : goal.returns-else-is_some-clause-after
returns-else-is_some-clause-after c =
    let same : if_due c.args.clock (slice_get c.deref.result.now c.self.inside.taken) ≡ slice_get (keys_of (due_events c.args.clock c.self.inside.events.items)) c.self.inside.taken =
    rw (c.deref.ensures.value, c.self.invariant.keys) (sym (due_key_at _ 0 c.args.clock c.self.inside.events.items c.self.inside.taken c.self.invariant.events)) in
    let none : is_some (slice_get (keys_of (due_events c.args.clock c.self.inside.events.items)) c.self.inside.taken) ≡ false =
    sym (ap is_some (c.first_due-key.ensures.value ∙ same)) ∙ sym c.if-is_some.ensures in
    rw (← c.self.view_is, none) refl
