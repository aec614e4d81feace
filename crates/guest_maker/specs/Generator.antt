-- The numbers from which a guest is made: a linear congruential generator modulo 2^64, whose answer is the high 31 bits of
-- each new state. The factor and the addend are those of Knuth's generator for MMIX.
use Rattle.std.specs.Prelude.{ℕ, zero, suc, ◌+◌, ◌*◌, ◌/◌, ◌%◌, ◌^◌}

unfoldable pub generator_next : ℕ → ℕ
generator_next s = (s * 6364136223846793005 + 1442695040888963407) % 2 ^ 64

-- the answer that a new state gives
abbrev pub answer : ℕ → ℕ
answer s = s / 2 ^ 33

-- the state behind so many answers
abbrev pub generator_after : ℕ → ℕ → ℕ
generator_after zero s = s
generator_after (suc n) s = generator_next (generator_after n s)
