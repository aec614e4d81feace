-- How a feed keeps its devices: the events, the lines after each of them, and the keys in a list of their own.
-- Both further lists are those of the events, so that lines are a binary search and a key is one look-up.
use Rattle.std.specs.Prelude.{◌≡◌, ◌≤◌, length}
use Rattle.guest_input.specs.Accepted.{AreEvents}
use Rattle.device_feed.specs.declared.feed.Feed.TheInside.{Inside}
use Rattle.device_feed.specs.Devices.{Devices}
use Rattle.device_feed.specs.Lists.{levels_from, no_levels, due_keys_of}

abbrev pub devices_of : Inside → Devices
devices_of a = record { events = a.events.items; taken = a.taken; soft = a.soft.items; timer = a.timer.items }

pub record IsFed (a : Inside) : Type 0 where
  pub even : length a.soft.items ≡ length a.timer.items
  pub eight : length a.timer.items ≤ 8
  pub events : AreEvents (length a.timer.items) 0 a.events.items
  pub levels : a.levels.items ≡ levels_from no_levels a.events.items
  pub keys : a.keys.items ≡ due_keys_of a.events.items
