use Rattle.std.proofs.Common.{◌≡◌, ℕ, ◌+◌, ◌-◌, ◌%◌, ◌<◌, ◌≤◌, arith}
use Rattle.fc_numbers.specs.declared.machine.Width.{Width}
use Rattle.fc_numbers.specs.declared.machine.Width.TheVariants.{Byte, Halfword, Word, Doubleword}
use Rattle.fc_numbers.specs.declared.places.TheConstants.{RAM_START}
use Rattle.guest_ram.specs.Value.{count_of}

-- an aligned number that begins inside whole pages ends inside
pub room : (width : Width) (at size : ℕ) → RAM_START ≤ at → at - RAM_START < size → at % count_of width ≡ 0 → size % 4096 ≡ 0 → at - RAM_START + count_of width ≤ size
room Byte at size low high aligned pages = omega arith
room Halfword at size low high aligned pages = omega arith
room Word at size low high aligned pages = omega arith
room Doubleword at size low high aligned pages = omega arith

-- an aligned number that begins before the edge of a page ends before it
pub before_edge : (width : Width) (at edge : ℕ) → at % count_of width ≡ 0 → edge % 4096 ≡ 0 → at < edge → at + count_of width ≤ edge
before_edge Byte at edge aligned page below = omega arith
before_edge Halfword at edge aligned page below = omega arith
before_edge Word at edge aligned page below = omega arith
before_edge Doubleword at edge aligned page below = omega arith
