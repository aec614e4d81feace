-- What a call of a store or of a sink gives, leaves and counts, for every store and sink.
-- The rules are this project's own: a fault is answered only where the object counted one.
use Rattle.std.specs.Prelude.{◌≡◌, ◌≢◌, ℕ, ◌+◌, ◌-◌, ◌^◌, ◌<◌, ◌≤◌, min, Option, Some, List, ◌++◌, length, take, if◌then◌else◌, Result, Ok, Err, Vec, IsSomeAnd}
use Rattle.std.specs.Option.{option_map}
use Rattle.std.specs.Str.{bytes_eq}
use Rattle.std.specs.declared.alloc.Global.{Global}
use Rattle.fc_outside.specs.declared.outside.ReadNo.{ReadNo}
use Rattle.fc_outside.specs.declared.outside.ReadNo.TheVariants.{Failed, TooLong, NoMemory}

-- what each name holds, if anything, in a store that tells it
abbrev pub Files : Type 0
Files = Option (List ℕ → Option (List ℕ))

-- what the files have under one name
abbrev pub file_at : List ℕ → Files → Option (Option (List ℕ))
file_at name files = option_map (λ at. at name) files

-- the same files, but that the name holds these bytes
abbrev pub holding : List ℕ → List ℕ → Files → Files
holding name bytes files = option_map (λ at. λ q. if bytes_eq q name then Some bytes else at q) files

-- each other name has what it had
abbrev pub SameBut : List ℕ → Files → Files → Type 0
SameBut name before after = (q : List ℕ) → q ≢ name → file_at q after ≡ file_at q before

-- a name as it is kept of a fault: its first 4,096 bytes
abbrev pub kept_fault_name : List ℕ → List ℕ
kept_fault_name name = take 4096 name

-- how many faults there were, and the name at the last one
pub record Faults : Type 0 where
  pub count : ℕ
  pub last : List ℕ

-- one more, up to the greatest number of 64 bits
abbrev pub one_more : ℕ → ℕ
one_more n = min (n + 1) (2 ^ 64 - 1)

-- one more fault, of this name
abbrev pub risen : Faults → List ℕ → Faults
risen faults name = record { count = one_more faults.count; last = kept_fault_name name }

-- a count has risen where it is greater than before, or is the greatest, where it stays
abbrev pub Rose : ℕ → ℕ → Type 0
Rose before after = one_more before ≤ after

-- the count rose by one, or stayed at the greatest, with this name as the last
pub record IsFaultOf (name : List ℕ) (before after : Faults) : Type 0 where
  pub later : before.count ≤ after.count
  pub once : after.count ≤ before.count + 1
  pub rose : Rose before.count after.count
  pub last : after.last ≡ kept_fault_name name

-- what a read answers of what the name holds, where the store tells it
abbrev pub ReadGives : Option (List ℕ) → ℕ → Result (Vec ℕ Global) ReadNo → Type 0
ReadGives held limit (Ok bytes) = held ≡ Some bytes.items
ReadGives held limit (Err Failed) = Unit {0}
ReadGives held limit (Err TooLong) = IsSomeAnd held (λ bytes. limit < length bytes)
ReadGives held limit (Err NoMemory) = IsSomeAnd held (λ bytes. length bytes ≤ limit)

-- a read counts a fault where it failed, and nowhere else
abbrev pub CountsRead : List ℕ → Faults → Faults → Result (Vec ℕ Global) ReadNo → Type 0
CountsRead name before after (Ok bytes) = after ≡ before
CountsRead name before after (Err Failed) = IsFaultOf name before after
CountsRead name before after (Err TooLong) = after ≡ before
CountsRead name before after (Err NoMemory) = after ≡ before

-- a write counts a fault where it failed, and nowhere else
abbrev pub CountsWrite : {E : Type 0} → List ℕ → Faults → Faults → Result Unit E → Type 0
CountsWrite name before after (Ok done) = after ≡ before
CountsWrite name before after (Err failed) = IsFaultOf name before after

-- the bytes so far, where a sink tells them, and then these
abbrev pub with_more : List ℕ → Option (List ℕ) → Option (List ℕ)
with_more piece written = option_map (λ bytes. bytes ++ piece) written

-- the bytes so far grew by a front part of the piece
pub record GrewByPart (piece : List ℕ) (before after : Option (List ℕ)) : Type 0 where
  pub size : ℕ
  pub grown : after ≡ with_more (take size piece) before

-- the count of a sink rose by one, or stayed at the greatest
pub record IsFault (before after : ℕ) : Type 0 where
  pub later : before ≤ after
  pub once : after ≤ before + 1
  pub rose : Rose before after

-- a put counts a fault where it failed, and nowhere else
abbrev pub CountsPut : {E : Type 0} → ℕ → ℕ → Result Unit E → Type 0
CountsPut before after (Ok done) = after ≡ before
CountsPut before after (Err failed) = IsFault before after
