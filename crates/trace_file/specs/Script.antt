-- Scripts: digits 0 to 7, each one event of that vCPU, with spaces and newlines between them.
use Rattle.std.specs.Prelude.{ℕ, ◌-◌, ◌==◌, ◌||◌, ◌&&◌, Bool, not, nat_lt, nat_le, if◌then◌else◌, List, map, filter, slice_index, Option, Some, None, Result, Ok, Err, position}
use Rattle.trace_file.specs.declared.fault.TraceFault.{TraceFault}
use Rattle.trace_file.specs.declared.fault.TraceFault.TheVariants.{NotScript, BadVcpu}

-- a space or a newline
abbrev pub is_blank : ℕ → Bool
is_blank byte = (byte == 0x20) || (byte == 0x0a)

-- '0' to '7'
abbrev pub is_digit : ℕ → Bool
is_digit byte = nat_le 0x30 byte && nat_le byte 0x37

abbrev pub vcpu_of_byte : ℕ → ℕ
vcpu_of_byte byte = byte - 0x30

-- neither blank nor the digit of one of so many vCPUs
abbrev pub is_wrong : ℕ → ℕ → Bool
is_wrong vcpus byte = not (is_blank byte || (is_digit byte && nat_lt (vcpu_of_byte byte) vcpus))

abbrev pub by_first : List ℕ → Option ℕ → Result (List ℕ) TraceFault
by_first bytes None = Ok (map (λ byte. vcpu_of_byte byte) (filter (λ byte. is_digit byte) bytes))
by_first bytes (Some at) = Err (if is_digit (slice_index bytes at) then BadVcpu at else NotScript at)

-- the vCPUs of the digits, or the fault of the first wrong byte
abbrev pub script_of : ℕ → List ℕ → Result (List ℕ) TraceFault
script_of vcpus bytes = by_first bytes (position (λ byte. is_wrong vcpus byte) bytes)
