-- A place that an aligned address leads to is aligned.
use Rattle.std.proofs.Common.{◌≡◌, ℕ, ◌%◌, arith, true}
use Rattle.std.proofs.lemmas.Bool.Decides.{nat_tests}
use Rattle.fc_numbers.specs.declared.machine.Width.{Width}
use Rattle.fc_numbers.specs.declared.machine.Width.TheVariants.{Byte, Halfword, Word, Doubleword}
use Rattle.guest_ram.specs.Value.{count_of}
use Rattle.rv_step.specs.Reach.{is_access_aligned}

-- a place is aligned where its address is
pub aligned : (width : Width) (p at : ℕ) → is_access_aligned at width ≡ true → p % 4096 ≡ at % 4096 → p % count_of width ≡ 0
aligned Byte p at h low = grind (arith, nat_tests)
aligned Halfword p at h low = grind (arith, nat_tests)
aligned Word p at h low = grind (arith, nat_tests)
aligned Doubleword p at h low = grind (arith, nat_tests)
