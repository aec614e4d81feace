-- The two lists that a feed makes of its events: the external lines of all vCPUs after each event, and the keys.
-- They are kept beside the events and say nothing more than these do.
use Rattle.std.specs.Prelude.{ℕ, nat_le, if◌then◌else◌, Bool, true, false, Option, None, Some, List, [], ◌∷◌, replicate, slice_set}
use Rattle.guest_input.specs.declared.setup.Event.{Event}
use Rattle.guest_input.specs.declared.setup.What.{What}
use Rattle.guest_input.specs.declared.setup.What.TheVariants.{Key, Raise, Drop}
use Rattle.device_feed.specs.declared.lists.DueKey.{DueKey}

abbrev pub no_levels : List Bool
no_levels = replicate 8 false

-- the lines of all vCPUs after an event
abbrev pub levels_after : List Bool → What → List Bool
levels_after levels (Key byte) = levels
levels_after levels (Raise v) = slice_set levels v true
levels_after levels (Drop v) = slice_set levels v false

-- the lines after each of the events
unfoldable pub levels_from : List Bool → List Event → List (List Bool)
levels_from levels [] = []
levels_from levels (e ∷ es) = levels_after levels e.what ∷ levels_from (levels_after levels e.what) es

abbrev pub with_due_key : ℕ → What → List DueKey → List DueKey
with_due_key at (Key byte) others = record { at = at; byte = byte } ∷ others
with_due_key at (Raise v) others = others
with_due_key at (Drop v) others = others

-- the keys of the events, each with the clock from which it is due
unfoldable pub due_keys_of : List Event → List DueKey
due_keys_of [] = []
due_keys_of (e ∷ es) = with_due_key e.at e.what (due_keys_of es)

-- the byte of a key, where it is due
abbrev pub if_due : ℕ → Option DueKey → Option ℕ
if_due clock None = None
if_due clock (Some key) = if nat_le key.at clock then Some key.byte else None
