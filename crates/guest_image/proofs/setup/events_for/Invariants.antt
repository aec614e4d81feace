use Rattle.std.proofs.Common.{◌≡◌, take, Some}
use Rattle.json_fields.specs.Fields.{each_of}
use Rattle.guest_image.specs.Limits.{event_for}
use Rattle.guest_image.proofs.setup.events_for.Given as goal

abbrev pub invariant-loop-event : goal.invariant-loop-event
invariant-loop-event l = each_of (event_for l.vcpus) (take l.event-index l.asked) ≡ Some l.events
