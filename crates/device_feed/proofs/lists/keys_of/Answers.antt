use Rattle.std.proofs.Common.{◌∙◌, sym, append_assoc, append-nil, inl, inr}
use Rattle.std.proofs.lemmas.List.{drop_all}
use Rattle.device_feed.proofs.Keys.{keys_more, due_keys_of_none}
use Rattle.device_feed.proofs.lists.keys_of.Goals as goal
use Rattle.device_feed.proofs.lists.keys_of.Goals.{in-Key+in_ok-push-in-Key, in-Raise}

pub loop-event-preserved : goal.loop-event-preserved
loop-event-preserved c =
    let more = keys_more c.args.events.now c.loop-event.event-index c.event-item.result c.loop-event-test.true c.event-item.is in
    elim c.match-event.branch [
      | in-Key+in_ok-push-in-Key w ↦
          rw (w.keys-is, w.in_ok-push-in-Key.ensures.items, append_assoc, ← (rw w.in-Key.is at more)) c.loop-event.invariant
      | in-Raise w ↦ elim w.in-Raise.is [
        | inl p ↦ rw (w.keys-is, ← (rw p.1 at more)) c.loop-event.invariant
        | inr p ↦ rw (w.keys-is, ← (rw p.1 at more)) c.loop-event.invariant
      ]
    ]

pub returns : goal.returns
returns c =
    let over = drop_all c.loop-event.event-index c.args.events.now c.loop-event-test.false in
    sym (append-nil c.loop-event.keys.items) ∙ rw (over, due_keys_of_none) at c.loop-event.invariant
