-- The supervisor calls of this monitor's profile of the RISC-V SBI: what each answers in registers and devices.
-- Function and extension numbers by the SBI specification, "Legacy Extensions", "Timer Extension" and "IPI Extension"; every other call is not supported.
use Rattle.std.specs.Prelude.{ℕ, ◌+◌, ◌-◌, ◌/◌, ◌%◌, ◌^◌, ◌==◌, ◌&&◌, ◌||◌, nat_lt, Bool, true, if◌then◌else◌, Option, None, Some, List, [], ◌∷◌, length, replicate, slice_set}
use Rattle.std.specs.List.{list_all}
use Rattle.std.proofs.Common.{zero, suc}
use Rattle.fc_numbers.specs.Numbers.{get_reg, set_reg}
use Rattle.device_feed.specs.declared.sbi.Sbi.{Sbi}
use Rattle.device_feed.specs.declared.sbi.Sbi.TheVariants.{Done, Put, Shutdown}
use Rattle.device_feed.specs.Devices.{Devices, with_timer, due_key, with_key_taken}

-- what a call leaves: the devices, the registers, and what the caller is to do
pub record Called : Type 0 where
  pub devices : Devices
  pub regs : List ℕ
  pub answer : Sbi

-- registers a0 and a1 with these values
abbrev pub answered : List ℕ → ℕ → ℕ → List ℕ
answered regs a0 a1 = set_reg (set_reg regs 10 a0) 11 a1

-- a0 of the call that takes a key: the key, or -1
abbrev pub key_answer : Option ℕ → ℕ
key_answer None = 2 ^ 64 - 1
key_answer (Some byte) = byte

abbrev pub mask_has_bit : ℕ → ℕ → Bool
mask_has_bit mask k = mask / 2 ^ k % 2 == 1

-- base plus the number of each set bit among the lowest n bits of a mask
unfoldable pub named : ℕ → ℕ → ℕ → List ℕ
named mask base zero = []
named mask base (suc k) = if mask_has_bit mask k then (base + k) ∷ named mask base k else named mask base k

abbrev pub names_all : ℕ → Bool
names_all base = base == 2 ^ 64 - 1

-- whether a mask and its base name vCPUs alone, of which there are so many
abbrev pub are_vcpus : ℕ → ℕ → ℕ → Bool
are_vcpus vcpus mask base = list_all (λ n. nat_lt n vcpus) (named mask base 64)

abbrev pub is_known : Devices → ℕ → ℕ → Bool
is_known d mask base = names_all base || are_vcpus (length d.timer) mask base

-- software bits with those of these vCPUs set
abbrev pub with_bits : List Bool → List ℕ → List Bool
with_bits soft [] = soft
with_bits soft (n ∷ ns) = slice_set (with_bits soft ns) n true

-- the devices after an interrupt was sent to the vCPUs named; none is sent where one of them is no vCPU
abbrev pub sent : Devices → ℕ → ℕ → Devices
sent d mask base =
    if names_all base then record d { soft = replicate (length d.soft) true }
    else if are_vcpus (length d.timer) mask base then record d { soft = with_bits d.soft (named mask base 64) }
    else d

abbrev pub called : Devices → List ℕ → ℕ → ℕ → Called
called d regs v clock =
    let a0 = get_reg regs 10 in
    let a1 = get_reg regs 11 in
    let a6 = get_reg regs 16 in
    let a7 = get_reg regs 17 in
    if a7 == 1 then record { devices = d; regs = set_reg regs 10 0; answer = Put (a0 % 256) }
    else if a7 == 2 then record { devices = with_key_taken d clock; regs = set_reg regs 10 (key_answer (due_key d clock)); answer = Done }
    else if a7 == 8 then record { devices = d; regs = regs; answer = Shutdown }
    else if a7 == 0x54494D45 && a6 == 0 then record { devices = with_timer d v a0; regs = answered regs 0 0; answer = Done }
    else if a7 == 0x735049 && a6 == 0 then record { devices = sent d a0 a1; regs = answered regs (if is_known d a0 a1 then 0 else 2 ^ 64 - 3) 0; answer = Done }
    else record { devices = d; regs = answered regs (2 ^ 64 - 2) 0; answer = Done }
