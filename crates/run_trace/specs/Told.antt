-- What a trace tells of a run: of its vCPUs, of its memory and of its views.
-- The format is this project's own; SHA-256 is that of FIPS 180-4.
use Rattle.std.specs.Prelude.{◌≡◌, ℕ, ◌^◌, ◌<◌, ◌≤◌, if◌then◌else◌, Some, List, length, map}
use Rattle.std.specs.List.{AllByRecursion, flat_map, range_with_len}
use Rattle.std.specs.Int.{w16, to_le_bytes}
use Rattle.sha2.specs.Sha256.{sha256}
use Rattle.fc_numbers.specs.Numbers.{get_reg}
use Rattle.guest_ram.specs.Ram.{Ram}
use Rattle.device_feed.specs.Devices.{soft_of, timer_of}
use Rattle.view_store.specs.Paged.{PagedView, mask_of}
use Rattle.chain_log.specs.declared.entry.LogEntry.{LogEntry}
use Rattle.chain_log.specs.declared.entry.TheConstants.{CHAIN_MOST}
use Rattle.guest_board.specs.Board.{Seat, State, vcpu_of}
use Rattle.trace_file.specs.declared.trace.TheConstants.{STEPS_MOST}
use Rattle.trace_file.specs.Lawful.{IsDigest, IsState}
use Rattle.trace_file.specs.Trace.{Told}
use Rattle.trace_file.specs.declared.state.State.{State as VcpuState}

-- vCPU i of a machine, as a trace keeps it
unfoldable pub vcpu_state : State → ℕ → VcpuState
vcpu_state s i = record {
  x1 = get_reg (vcpu_of s i).regs 1;
  x2 = get_reg (vcpu_of s i).regs 2;
  x3 = get_reg (vcpu_of s i).regs 3;
  x4 = get_reg (vcpu_of s i).regs 4;
  x5 = get_reg (vcpu_of s i).regs 5;
  x6 = get_reg (vcpu_of s i).regs 6;
  x7 = get_reg (vcpu_of s i).regs 7;
  x8 = get_reg (vcpu_of s i).regs 8;
  x9 = get_reg (vcpu_of s i).regs 9;
  x10 = get_reg (vcpu_of s i).regs 10;
  x11 = get_reg (vcpu_of s i).regs 11;
  x12 = get_reg (vcpu_of s i).regs 12;
  x13 = get_reg (vcpu_of s i).regs 13;
  x14 = get_reg (vcpu_of s i).regs 14;
  x15 = get_reg (vcpu_of s i).regs 15;
  x16 = get_reg (vcpu_of s i).regs 16;
  x17 = get_reg (vcpu_of s i).regs 17;
  x18 = get_reg (vcpu_of s i).regs 18;
  x19 = get_reg (vcpu_of s i).regs 19;
  x20 = get_reg (vcpu_of s i).regs 20;
  x21 = get_reg (vcpu_of s i).regs 21;
  x22 = get_reg (vcpu_of s i).regs 22;
  x23 = get_reg (vcpu_of s i).regs 23;
  x24 = get_reg (vcpu_of s i).regs 24;
  x25 = get_reg (vcpu_of s i).regs 25;
  x26 = get_reg (vcpu_of s i).regs 26;
  x27 = get_reg (vcpu_of s i).regs 27;
  x28 = get_reg (vcpu_of s i).regs 28;
  x29 = get_reg (vcpu_of s i).regs 29;
  x30 = get_reg (vcpu_of s i).regs 30;
  x31 = get_reg (vcpu_of s i).regs 31;
  pc = (vcpu_of s i).pc;
  mode = (vcpu_of s i).mode;
  sstatus = (vcpu_of s i).csr.sstatus;
  sie = (vcpu_of s i).csr.sie;
  stvec = (vcpu_of s i).csr.stvec;
  scounteren = (vcpu_of s i).csr.scounteren;
  sscratch = (vcpu_of s i).csr.sscratch;
  sepc = (vcpu_of s i).csr.sepc;
  scause = (vcpu_of s i).csr.scause;
  stval = (vcpu_of s i).csr.stval;
  satp = (vcpu_of s i).csr.satp;
  soft = if soft_of s.devices i then 1 else 0;
  timer = timer_of s.devices i;
}

-- all vCPUs, by number
abbrev pub vcpu_states : State → List VcpuState
vcpu_states s = map (vcpu_state s) (range_with_len 0 (length s.slots))

-- the digest of the memory, with the original text in it
abbrev pub memory_digest : Ram → List ℕ
memory_digest ram = sha256 ram.bytes

-- the pages of a view as bytes, the lower byte of each halfword first
abbrev pub bytes_of_halves : List ℕ → List ℕ
bytes_of_halves halves = flat_map (λ half. to_le_bytes w16 half) halves

-- the digest of the pages of a view
abbrev pub pages_digest : PagedView → List ℕ
pages_digest p = sha256 (bytes_of_halves (mask_of p))

-- the trace tells this board, whose run has ended, and these views, in their order
pub record IsToldBy (board : Seat) (views : List PagedView) (t : Told) : Type 0 where
  pub vcpus : t.vcpus ≡ length board.state.slots
  pub schedule : t.schedule ≡ board.schedule
  pub entries : t.entries ≡ flat_map (λ p. p.log) views
  pub ended : board.state.end ≡ Some t.end
  pub states : t.states ≡ vcpu_states board.state
  pub memory : t.memory ≡ memory_digest board.state.ram
  pub pages : t.pages ≡ map pages_digest views

-- the places of an entry are addresses, and its chain is no longer than a log keeps
pub record IsEntryInRange (e : LogEntry) : Type 0 where
  pub pc : e.pc < 2 ^ 64
  pub chain : length e.chain.items ≤ CHAIN_MOST
  pub places : AllByRecursion (λ p. p < 2 ^ 64) e.chain.items

-- each number of the trace is in the range of its type, and no run is longer than a setup may ask for
pub record IsInRange (t : Told) : Type 0 where
  pub steps : length t.schedule ≤ STEPS_MOST
  pub entries : AllByRecursion IsEntryInRange t.entries
  pub states : AllByRecursion IsState t.states
  pub memory : IsDigest t.memory
  pub pages : AllByRecursion IsDigest t.pages
