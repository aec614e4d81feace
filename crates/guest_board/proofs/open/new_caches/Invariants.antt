use Rattle.std.proofs.Common.{◌≡◌, length}
use Rattle.std.specs.Prelude.{All}
use Rattle.guest_ram.specs.Ram.{Ram}
use Rattle.sv39_walk.specs.Cache.{Fits}
use Rattle.guest_board.proofs.open.new_caches.Given as goal

abbrev pub invariant-loop : goal.invariant-loop
invariant-loop l = record {
  many : length l.caches.items ≡ l.counter;
  fit : (ram : Ram) → All (Fits ram) l.caches.items;
}
