use Rattle.std.proofs.Common.{◌≡◌, ℕ, ◌%◌, ◌*◌, ◌+◌, ◌<◌, List, [], ◌∷◌, ◌++◌, arith}
use Rattle.std.proofs.lemmas.Grind.{common_steps}
use Rattle.guest_input.specs.Accepted.{IsAscendingFrom, IsStarts}
use Rattle.function_table.proofs.tests.evens.Goals as goal

ascending-pushed : (low y size : ℕ) (xs : List ℕ) → IsAscendingFrom low xs y → y % 2 ≡ 0 → y < size → IsAscendingFrom low (xs ++ y ∷ []) size
ascending-pushed low y size [] up even below = (up, even, below)
ascending-pushed low y size (x ∷ xs) up even below = (up.0, up.1, ascending-pushed x y size xs up.2 even below)

starts-pushed : (y size : ℕ) (xs : List ℕ) → IsStarts xs y → y % 2 ≡ 0 → y < size → IsStarts (xs ++ y ∷ []) size
starts-pushed y size [] good even below = absurd good
starts-pushed y size (x ∷ xs) good even below = (good.0, ascending-pushed 0 y size xs good.1 even below)

pub loop-k-preserved : goal.loop-k-preserved
loop-k-preserved c = record {
  starts = rw c.in_ok-push.ensures.items (starts-pushed (2 * c.loop-k.k) (2 * (c.loop-k.k + 1)) c.loop-k.offsets.items c.loop-k.invariant.starts (omega arith) (omega arith));
  len = grind (arith, common_steps);
}
