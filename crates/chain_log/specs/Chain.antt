-- The call chain of a vCPU: the return address, then the return addresses that the frame pointers lead to.
-- By the RISC-V calling convention ("Frame Pointer Convention") x1 is the return address and x8 the frame pointer f; the caller's return address stands at f - 8 and its frame pointer at f - 16.
use Rattle.std.specs.Prelude.{ℕ, ◌+◌, ◌-◌, ◌%◌, ◌^◌, ◌==◌, nat_lt, if◌then◌else◌, Option, Some, None, List, [], ◌∷◌, ◌++◌, length, option_and_then}
use Rattle.std.proofs.Common.{zero, suc}
use Rattle.std.specs.Option.{option_to_list}
use Rattle.fc_numbers.specs.declared.machine.Mode.{Mode}
use Rattle.fc_numbers.specs.declared.machine.Access.TheVariants.{Fetch, Load}
use Rattle.fc_numbers.specs.declared.machine.Width.TheVariants.{Doubleword}
use Rattle.fc_numbers.specs.Numbers.{get_reg}
use Rattle.guest_ram.specs.Ram.{Ram, is_inside, is_text, value}
use Rattle.rv_csr.specs.Csrs.{Csrs}
use Rattle.sv39_walk.specs.Walk.{place_for}
use Rattle.chain_log.specs.declared.entry.TheConstants.{CHAIN_MOST}
use Rattle.chain_log.specs.declared.chain.Frame.{Frame}
use Rattle.fc_numbers.specs.declared.regs.TheConstants.{RA, FP}

-- the place in text that an address is executed from
unfoldable pub code_at : Ram → Csrs → Mode → ℕ → Option ℕ
code_at ram csr mode va = option_and_then (λ place. if is_text ram place then Some place else None) (place_for ram csr mode Fetch va)

-- the 8 bytes at an address
unfoldable pub doubleword_at : Ram → Csrs → Mode → ℕ → Option ℕ
doubleword_at ram csr mode va = option_and_then (λ place. if is_inside ram place then Some (value ram place Doubleword) else None) (place_for ram csr mode Load va)

-- so many bytes below an address
abbrev pub address_below : ℕ → ℕ → ℕ
address_below f n = (f + (2 ^ 64 - n)) % 2 ^ 64

abbrev pub framed : ℕ → Option ℕ → Option Frame
framed up (Some place) = Some (record { place = place; up = up })
framed up None = None

-- where both words can be loaded and the first is code in text
abbrev pub by_words : Ram → Csrs → Mode → Option ℕ → Option ℕ → Option Frame
by_words ram csr mode (Some ra) (Some up) = framed up (code_at ram csr mode ra)
by_words ram csr mode (Some ra) None = None
by_words ram csr mode None up = None

-- the frame of frame pointer f
unfoldable pub frame_at : Ram → Csrs → Mode → ℕ → Option Frame
frame_at ram csr mode f = if f % 8 == 0 then by_words ram csr mode (doubleword_at ram csr mode (address_below f 8)) (doubleword_at ram csr mode (address_below f 16)) else None

-- the places of these frames: one, and those above it where the next frame pointer is above this one
abbrev pub places_of : ℕ → (ℕ → List ℕ) → Option Frame → List ℕ
places_of f rest None = []
places_of f rest (Some frame) = frame.place ∷ (if nat_lt f frame.up then rest frame.up else [])

-- the places of the frame of f and of those above it, n at most
unfoldable pub frame_places_from : Ram → Csrs → Mode → ℕ → ℕ → List ℕ
frame_places_from ram csr mode zero f = []
frame_places_from ram csr mode (suc n) f = places_of f (frame_places_from ram csr mode n) (frame_at ram csr mode f)

abbrev pub with_frames : Ram → Csrs → Mode → ℕ → List ℕ → List ℕ
with_frames ram csr mode f first = first ++ frame_places_from ram csr mode (CHAIN_MOST - length first) f

-- the chain: the return address where it is code in text, then the frames, CHAIN_MOST places in all at most
unfoldable pub chain_of : Ram → Csrs → Mode → List ℕ → List ℕ
chain_of ram csr mode regs = with_frames ram csr mode (get_reg regs FP) (option_to_list (code_at ram csr mode (get_reg regs RA)))
