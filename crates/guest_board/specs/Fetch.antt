-- The fetch of an instruction by the original memory: its halfwords, a fault, or a stop.
-- The rule: the address is translated for execution, and the first halfword decides the length (privileged
-- manual, "Virtual Address Translation Process"; unprivileged manual, "Expanded Instruction-Length Encoding").
use Rattle.std.specs.Prelude.{ℕ, ◌+◌, ◌-◌, ◌%◌, ◌^◌, ◌==◌, Bool, true, false, not, nat_eq, if◌then◌else◌, Option, Some, None}
use Rattle.fc_numbers.specs.declared.machine.Access.TheVariants.{Fetch}
use Rattle.fc_numbers.specs.declared.machine.Width.TheVariants.{Halfword}
use Rattle.fc_numbers.specs.declared.machine.Mode.{Mode}
use Rattle.fc_numbers.specs.declared.machine.Mode.TheVariants.{Vu, Vs}
use Rattle.fc_numbers.specs.declared.machine.Stop.TheVariants.{KernelOutsideText, TableInText, TextSplit}
use Rattle.guest_ram.specs.Ram.{Ram, value}
use Rattle.rv_step.specs.declared.vcpu.Vcpu.{Vcpu}
use Rattle.rv_step.specs.declared.resolve.Resolved as found
use Rattle.rv_step.specs.declared.resolve.Resolved.TheVariants as place
use Rattle.rv_step.specs.Site.{resolved}
use Rattle.guest_board.specs.declared.fetch.HalfPlace.{HalfPlace}
use Rattle.guest_board.specs.declared.fetch.HalfPlace.TheVariants as half
use Rattle.guest_board.specs.declared.fetch.Fetched.{Fetched}
use Rattle.guest_board.specs.declared.fetch.Fetched.TheVariants.{Short, Long, Faults, Stops}
use Rattle.rv_step.specs.declared.causes.TheConstants.{FETCH_PAGE_FAULT, FETCH_ACCESS_FAULT}

-- a place in RAM outside text: no kernel code is fetched there
abbrev pub outside_text : Mode → ℕ → HalfPlace
outside_text Vs p = half.Stops KernelOutsideText
outside_text Vu p = half.In false p

abbrev pub half_by : Mode → ℕ → found.Resolved → HalfPlace
half_by mode va (place.Text p) = half.In true p
half_by mode va (place.Ram p) = outside_text mode p
half_by mode va place.PageFault = half.Faults FETCH_PAGE_FAULT va
half_by mode va place.AccessFault = half.Faults FETCH_ACCESS_FAULT va
half_by mode va place.TableInText = half.Stops TableInText

-- where the halfword at an address is fetched from
unfoldable pub half_place : Vcpu → Ram → ℕ → HalfPlace
half_place v ram va = half_by v.mode va (resolved v ram Fetch va)

-- the halfword of memory that holds a place
abbrev pub half_at : Ram → ℕ → ℕ
half_at ram p = value ram (p - p % 2) Halfword

-- a wide instruction is split: its halves are not both in text side by side, nor both outside text
abbrev pub is_split : Bool → ℕ → Bool → ℕ → Bool
is_split true p true q = not (nat_eq q ((p + 2) % 2 ^ 64))
is_split true p false q = true
is_split false p true q = true
is_split false p false q = false

abbrev pub with_second : Ram → Bool → ℕ → HalfPlace → Fetched
with_second ram text p (half.Faults cause tval) = Faults cause tval
with_second ram text p (half.Stops stop) = Stops stop
with_second ram text p (half.In text2 q) = if is_split text p text2 q then Stops TextSplit else Long text p (half_at ram p) (half_at ram q)

abbrev pub second_place : Vcpu → Ram → HalfPlace
second_place v ram = half_place v ram ((v.pc + 2) % 2 ^ 64)

-- low bits 11 of the first halfword mean two halfwords
abbrev pub with_first : Vcpu → Ram → HalfPlace → Fetched
with_first v ram (half.Faults cause tval) = Faults cause tval
with_first v ram (half.Stops stop) = Stops stop
with_first v ram (half.In text p) =
    if half_at ram p % 4 == 3 then with_second ram text p (second_place v ram) else Short text p (half_at ram p)

unfoldable pub fetched : Vcpu → Ram → Fetched
fetched v ram = with_first v ram (half_place v ram v.pc)

abbrev pub place_if : Bool → ℕ → Option ℕ
place_if true p = Some p
place_if false p = None

-- the place of the first halfword, where the instruction is reached and that place is in text
abbrev pub text_place : Fetched → Option ℕ
text_place (Short text p h) = place_if text p
text_place (Long text p h g) = place_if text p
text_place (Faults cause tval) = None
text_place (Stops stop) = None

-- the same fetch with other halfwords
abbrev pub with_halves : Fetched → ℕ → ℕ → Fetched
with_halves (Short text p h) a b = Short text p a
with_halves (Long text p h g) a b = Long text p a b
with_halves (Faults cause tval) a b = Faults cause tval
with_halves (Stops stop) a b = Stops stop
