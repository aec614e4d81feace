-- A store and a sink in memory, that fail exactly where they are told to.
-- The rules are this project's own.
use Rattle.std.specs.Prelude.{◌≡◌, ℕ, ◌+◌, ◌-◌, ◌^◌, ◌==◌, ◌&&◌, ◌||◌, Bool, true, false, not, nat_lt, nat_le, min, Option, Some, None, is_none, is_some, ◌≤◌, List, [], ◌∷◌, ◌++◌, length, take, slice_index_or, slice_set, ◌<◌, if◌then◌else◌, Result, Ok, Err, Vec}
use Rattle.std.specs.List.{list_any}
use Rattle.std.specs.Option.{option_and_then}
use Rattle.std.specs.Str.{bytes_eq}
use Rattle.std.specs.declared.alloc.Global.{Global}
use Rattle.fc_outside.specs.declared.outside.ReadNo.{ReadNo}
use Rattle.fc_outside.specs.declared.outside.ReadNo.TheVariants.{Failed, TooLong, NoMemory}
use Rattle.fc_outside.specs.Outside.{Faults, one_more, risen}

-- a name, what it holds, and for how many bytes it has room
pub record File : Type 0 where
  pub name : List ℕ
  pub held : Option (List ℕ)
  pub room : ℕ

-- the calls of one kind: the numbers, from 1, of those that are to fail, how many were made, and the faults
pub record Calls : Type 0 where
  pub failing : List ℕ
  pub made : ℕ
  pub faults : Faults

-- no calls yet
abbrev pub first_calls : List ℕ → Calls
first_calls failing = record { failing = failing; made = 0; faults = record { count = 0; last = [] } }

-- a store in memory
pub record Memory : Type 0 where
  pub files : List File
  pub reads : Calls
  pub writes : Calls

-- the first file of this name
abbrev pub file_named : List File → List ℕ → Option File
file_named [] q = None
file_named (f ∷ fs) q = if bytes_eq q f.name then Some f else file_named fs q

-- what a name holds
abbrev pub held_at : List File → List ℕ → Option (List ℕ)
held_at files q = option_and_then (λ f. f.held) (file_named files q)

-- the files, with this one in the place of the first of its name, or at the end where there is none
abbrev pub with_file : List File → File → List File
with_file [] f = f ∷ []
with_file (g ∷ gs) f = if bytes_eq f.name g.name then f ∷ gs else g ∷ with_file gs f

-- the store, where the name holds these bytes, or nothing, and has room for so many
abbrev pub with_room : Memory → List ℕ → Option (List ℕ) → ℕ → Memory
with_room m name held most = record m { files = with_file m.files (record { name = name; held = held; room = most }) }

-- the next call is one of those that are to fail
abbrev pub is_listed : Calls → Bool
is_listed calls = nat_lt calls.made (2 ^ 64 - 1) && list_any (λ n. n == calls.made + 1) calls.failing

-- whether a read answered that it failed
abbrev pub has_failed : Result (Vec ℕ Global) ReadNo → Bool
has_failed (Ok bytes) = false
has_failed (Err Failed) = true
has_failed (Err TooLong) = false
has_failed (Err NoMemory) = false

-- the calls after one more, which failed at this name or did not fail
abbrev pub calls_after : Calls → List ℕ → Bool → Calls
calls_after calls name failed = record {
  failing = calls.failing;
  made = one_more calls.made;
  faults = if failed then risen calls.faults name else calls.faults;
}

-- a read fails where it is listed or the name holds nothing
abbrev pub read_fails : Memory → List ℕ → Bool
read_fails m name = is_listed m.reads || is_none (held_at m.files name)

-- whether the file has room for so many bytes
abbrev pub has_room : Option File → ℕ → Bool
has_room None size = false
has_room (Some f) size = nat_le size f.room

-- a write fails where it is listed, the name was never given room, or the bytes are more than its room
abbrev pub write_fails : Memory → List ℕ → ℕ → Bool
write_fails m name size = is_listed m.writes || not (has_room (file_named m.files name) size)

-- the store after a read
abbrev pub after_read : Memory → List ℕ → Memory
after_read m name = record m { reads = calls_after m.reads name (read_fails m name) }

-- the file with other bytes
abbrev pub file_with_bytes : File → List ℕ → File
file_with_bytes f bytes = record { name = f.name; held = Some bytes; room = f.room }

-- the files after these bytes are written to a name that has room
abbrev pub written_files : List File → List ℕ → List ℕ → List File
written_files [] name bytes = []
written_files (f ∷ fs) name bytes = if bytes_eq name f.name then file_with_bytes f bytes ∷ fs else f ∷ written_files fs name bytes

-- the store after a write
abbrev pub after_write : Memory → List ℕ → List ℕ → Memory
after_write m name bytes = record {
  files = if write_fails m name (length bytes) then m.files else written_files m.files name bytes;
  reads = m.reads;
  writes = calls_after m.writes name (write_fails m name (length bytes));
}

-- a sink in memory: its bytes, its room, the puts that are to fail with how many bytes each takes, how many were made, the count of faults
pub record Poured : Type 0 where
  pub bytes : List ℕ
  pub most : ℕ
  pub failing : List (ℕ × ℕ)
  pub made : ℕ
  pub faults : ℕ

-- how many bytes the put of this number is to take, by the first entry for it
abbrev pub listed_part : List (ℕ × ℕ) → ℕ → Option ℕ
listed_part [] number = None
listed_part (e ∷ es) number = if e.0 == number then Some e.1 else listed_part es number

-- the same for the next put
abbrev pub next_part : Poured → Option ℕ
next_part s = if nat_lt s.made (2 ^ 64 - 1) then listed_part s.failing (s.made + 1) else None

-- the next put fails where it is listed or the piece does not fit
abbrev pub put_fails : Poured → List ℕ → Bool
put_fails s piece = is_some (next_part s) || nat_lt (s.most - length s.bytes) (length piece)

-- how many bytes of a piece a sink takes: the listed part, cut to the room and to the piece; else all that fit, or none
abbrev pub part_size : Option ℕ → ℕ → ℕ → ℕ
part_size (Some part) room size = min (min part room) size
part_size None room size = if nat_le size room then size else 0

-- the sink after a piece was put
abbrev pub put_in : Poured → List ℕ → Poured
put_in s piece = record {
  bytes = s.bytes ++ take (part_size (next_part s) (s.most - length s.bytes) (length piece)) piece;
  most = s.most;
  failing = s.failing;
  made = one_more s.made;
  faults = if put_fails s piece then one_more s.faults else s.faults;
}

-- the file at this index is the first of the name: it is the named one, and a write or another file of the name takes its place
pub record IsPlace (files : List File) (name : List ℕ) (i : ℕ) : Type 0 where
  pub inside : i < length files
  pub file : (d : File) → file_named files name ≡ Some (slice_index_or files i d)
  pub put : (f : File) → f.name ≡ name → slice_set files i f ≡ with_file files f
  pub written : (d : File) (bytes : List ℕ) → slice_set files i (file_with_bytes (slice_index_or files i d) bytes) ≡ written_files files name bytes

-- no file has the name: another file of the name goes to the end
pub record IsMissing (files : List File) (name : List ℕ) : Type 0 where
  pub none : file_named files name ≡ None
  pub put : (f : File) → f.name ≡ name → files ++ f ∷ [] ≡ with_file files f

-- a sink's bytes are within its room, and its room within what it has
pub record IsRoomy (len most capacity made faults : ℕ) : Type 0 where
  pub within : len ≤ most
  pub room : most ≤ capacity
  pub made_fits : made < 2 ^ 64
  pub faults_fit : faults < 2 ^ 64
