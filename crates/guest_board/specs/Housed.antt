-- How a board keeps its state.
use Rattle.std.specs.Prelude.{◌≡◌, All, ℕ, ◌+◌, ◌-◌, ◌≤◌, List, [], ◌∷◌, length, slice_index, slice_index_or, vec_len, vec_capacity}
use Rattle.sv39_walk.specs.Cache.{Fits}
use Rattle.guest_board.specs.declared.slot.Slot.{Slot}
use Rattle.guest_board.specs.declared.board.Board.TheInside.{Inside}
use Rattle.guest_board.specs.Board.{Seat, no_slot}

abbrev pub seat_of : Inside → Seat
seat_of b = record {
  rules = b.rules;
  state = record {
    slots = b.slots.items;
    ram = b.ram;
    devices = b.feed;
    console = b.console.items;
    clock = length b.schedule.items;
    end = b.end;
  };
  schedule = b.schedule.items;
}

-- the steps that are left to all
unfoldable pub left_total : ℕ → List Slot → ℕ
left_total steps [] = 0
left_total steps (slot ∷ slots) = (steps - slot.made) + left_total steps slots

-- Schedule and console have room for every step that is left, of which there are few enough for 32 bits; no depth and no
-- stamp of a page is above the clock. Each vCPU has a cache of translations, which fits the memory.
pub record IsHoused (b : Inside) : Type 0 where
  pub eight : length b.slots.items ≤ 8
  pub few : vec_len b.schedule + left_total b.rules.steps b.slots.items ≤ 16777216
  pub schedule_room : vec_len b.schedule + left_total b.rules.steps b.slots.items ≤ vec_capacity b.schedule
  pub console_room : vec_len b.console + left_total b.rules.steps b.slots.items ≤ vec_capacity b.console
  pub depths : (k : ℕ) → (slice_index_or b.slots.items k no_slot).depth ≤ vec_len b.schedule
  pub stamps : (k : ℕ) → slice_index b.ram.stamps k ≤ vec_len b.schedule
  pub caches : length b.caches.items ≡ length b.slots.items
  pub fit : All (Fits b.ram) b.caches.items
