-- Bytes as numbers, the lowest byte first, and a list of bytes with a part of it replaced.
-- The least byte stands first (unprivileged manual, "Memory" and the little-endian order of loads and stores).
use Rattle.std.specs.Prelude.{ℕ, ◌+◌, ◌*◌, ◌^◌, List, length, ◌++◌, take, drop, slice_index}
use Rattle.std.specs.Int.{bytes_low_first}
use Rattle.std.proofs.Common.{zero, suc}
use Rattle.fc_numbers.specs.declared.machine.Width.{Width}
use Rattle.fc_numbers.specs.declared.machine.Width.TheVariants.{Byte, Halfword, Word, Doubleword}

-- how many bytes an access has
abbrev pub count_of : Width → ℕ
count_of Byte = 1
count_of Halfword = 2
count_of Word = 4
count_of Doubleword = 8

-- the sum of byte k times 256^k, for the n bytes from `at` on
unfoldable pub value_at : List ℕ → ℕ → ℕ → ℕ
value_at bytes at zero = 0
value_at bytes at (suc n) = value_at bytes at n + slice_index bytes (at + n) * 256 ^ n

-- the bytes with the part from `at` on replaced by these
unfoldable pub overwritten : List ℕ → ℕ → List ℕ → List ℕ
overwritten bytes at part = take at bytes ++ (part ++ drop (at + length part) bytes)

-- the bytes with n bytes from `at` on replaced by the n low bytes of v
abbrev pub replaced : List ℕ → ℕ → ℕ → ℕ → List ℕ
replaced bytes at n v = overwritten bytes at (bytes_low_first 0 n v)
