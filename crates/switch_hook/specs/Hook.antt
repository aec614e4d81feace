-- The name of the app that a guest kernel switches to, as it stands in the guest's memory: bytes up to a zero byte, 16 at most.
use Rattle.std.specs.Prelude.{ℕ, ◌+◌, ◌%◌, ◌^◌, Bool, not, false, nat_eq, if◌then◌else◌, Option, Some, None, List, [], ◌∷◌, map, option_and_then}
use Rattle.std.specs.List.{range_with_len, take_while}
use Rattle.std.specs.Option.{option_map}
use Rattle.std.specs.Result.{result_ok}
use Rattle.fc_numbers.specs.Names.{is_app_name}
use Rattle.fc_numbers.specs.declared.name.TheConstants.{NAME_MOST}
use Rattle.fc_numbers.specs.declared.machine.Mode.TheVariants.{Vs}
use Rattle.fc_numbers.specs.declared.machine.Access.TheVariants.{Load}
use Rattle.fc_numbers.specs.declared.machine.Width.TheVariants.{Byte}
use Rattle.guest_ram.specs.Ram.{Ram, loaded}
use Rattle.rv_csr.specs.Csrs.{Csrs}
use Rattle.sv39_walk.specs.Walk.{place_for}

-- the byte that a load in supervisor mode reads at an address; none where the load faults, goes outside memory or meets
-- a table in text
unfoldable pub byte_at : Ram → Csrs → ℕ → Option ℕ
byte_at ram csr va = option_and_then (λ place. result_ok (loaded ram place Byte)) (place_for ram csr Vs Load va)

-- the address so many bytes after another; after the last address comes the first
abbrev pub address_after : ℕ → ℕ → ℕ
address_after at n = (at + n) % 2 ^ 64

-- what loads of the 16 bytes from an address on read
abbrev pub bytes_at : Ram → Csrs → ℕ → List (Option ℕ)
bytes_at ram csr at = map (λ k. byte_at ram csr (address_after at k)) (range_with_len 0 NAME_MOST)

-- it is a byte that was read as zero
abbrev pub is_zero_byte : Option ℕ → Bool
is_zero_byte (Some byte) = nat_eq byte 0
is_zero_byte None = false

-- the bytes, where each of the loads read one
abbrev pub all_bytes : List (Option ℕ) → Option (List ℕ)
all_bytes [] = Some []
all_bytes (None ∷ loads) = None
all_bytes (Some byte ∷ loads) = option_map (λ bytes. byte ∷ bytes) (all_bytes loads)

-- bytes that are the name of an app
abbrev pub as_name : List ℕ → Option (List ℕ)
as_name bytes = if is_app_name bytes then Some bytes else None

-- the name of the app at an address: the bytes before the first zero byte, or all 16, where each of them can be loaded and
-- they are the name of an app
abbrev pub name_at_address : Ram → Csrs → ℕ → Option (List ℕ)
name_at_address ram csr at =
    option_and_then as_name (all_bytes (take_while (λ load. not (is_zero_byte load)) (bytes_at ram csr at)))

-- the name of the app that the kernel switches to: a1 is the address of the next task, and the name stands name_at bytes on
abbrev pub app_name_of : Ram → Csrs → ℕ → ℕ → Option (List ℕ)
app_name_of ram csr a1 name_at = name_at_address ram csr (address_after a1 name_at)
