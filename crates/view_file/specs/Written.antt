-- What a views file writes: {"apps":[{"functions":[[0,0],[1,12]],"name":"sh"}],"shared":[[0,28]],"text":"<64 digits>","version":2}.
-- Version 1 writes a function as its offset alone, which is one in range 0.
-- The form is this project's own; JSON is RFC 8259, as serde_json reads it. Keys, functions and apps come in any order.
use Rattle.std.specs.Prelude.{◌≡◌, ℕ, ◌^◌, ◌==◌, ◌&&◌, nat_lt, nat_le, Bool, if◌then◌else◌, List, [], ◌∷◌, length, map, codes, Option, Some, None, option_and_then, Result, Ok, Err}
use Rattle.std.specs.List.{list_all}
use Rattle.std.specs.Result.{result_ok}
use Rattle.std.specs.Set.{distinct_count}
use Rattle.std.specs.Str.{bytes_eq}
use Rattle.hex.specs.Hex.{decode_sized}
use Rattle.serde_json.specs.Data.{Data}
use Rattle.fc_numbers.specs.Names.{is_app_name}
use Rattle.fc_numbers.specs.declared.spans.TheConstants.{RANGES_MOST}
use Rattle.guest_input.specs.declared.image.Start.{Start}
use Rattle.json_fields.specs.Fields.{json_of, has_only_keys, whole_of, string_of, array_of, pair_of, each_of}
use Rattle.json_fields.specs.Members.{member_as}
use Rattle.view_file.specs.declared.views.TheConstants.{APPS_MOST}
use Rattle.view_file.specs.declared.fault.ViewFault.{ViewFault}
use Rattle.view_file.specs.declared.fault.ViewFault.TheVariants.{NotJson, Shape, OtherText, UnknownFunction, BadName, TooManyApps, NoMemory}
use Rattle.view_file.specs.declared.written.Version.{Version}
use Rattle.view_file.specs.declared.written.Version.TheVariants.{One, Two}
use Rattle.view_file.specs.declared.written.Written.{Written}
use Rattle.view_file.specs.declared.written.WrittenApp.{WrittenApp}

-- a step that is taken where the step before gave something
infixl 10 ◌>>=◌
abbrev pub ◌>>=◌ : {A B : Type 0} → Option A → (A → Option B) → Option B
None >>= f = None
(Some x) >>= f = f x

abbrev pub when : Bool → Option Bool
when b = if b then Some b else None

-- the start of this range and offset, where there may be so many ranges, and the offset fits 32 bits
abbrev pub start_in : ℕ → ℕ → Option Start
start_in range offset = if nat_lt range RANGES_MOST && nat_lt offset (2 ^ 32) then Some (record { range = range; offset = offset }) else None

abbrev pub start_of_both : Data × Data → Option Start
start_of_both both = do
  range ← whole_of both.0
  offset ← whole_of both.1
  start_in range offset

-- a function: an offset in range 0, or a range and an offset in it
unfoldable pub written_start : Version → Data → Option Start
written_start One d = option_and_then (start_in 0) (whole_of d)
written_start Two d = option_and_then start_of_both (pair_of d)

unfoldable pub written_starts : Version → Data → Option (List Start)
written_starts version d = option_and_then (each_of (written_start version)) (array_of d)

-- the 32 bytes of 64 hexadecimal digits
unfoldable pub written_digest : Data → Option (List ℕ)
written_digest d = option_and_then (λ digits. result_ok (decode_sized digits 32)) (string_of d)

-- an app: its name, whatever it is, and its functions
unfoldable pub app_of : Version → Data → Option WrittenApp
app_of version d = do
  known ← when (has_only_keys (codes "functions" ∷ codes "name" ∷ []) d)
  name ← member_as string_of (codes "name") d
  functions ← member_as (written_starts version) (codes "functions") d
  Some (record { name = name; functions = functions })

unfoldable pub apps_of : Version → Data → Option (List WrittenApp)
apps_of version d = option_and_then (each_of (app_of version)) (array_of d)

abbrev pub version_numbered : ℕ → Option Version
version_numbered n = if n == 1 then Some One else (if n == 2 then Some Two else None)

abbrev pub version_of : Data → Option Version
version_of d = option_and_then version_numbered (whole_of d)

-- a views file of version 1 or 2
unfoldable pub written_of : Data → Option Written
written_of d = do
  known ← when (has_only_keys (codes "apps" ∷ codes "shared" ∷ codes "text" ∷ codes "version" ∷ []) d)
  version ← member_as version_of (codes "version") d
  text ← member_as written_digest (codes "text") d
  shared ← member_as (written_starts version) (codes "shared") d
  apps ← member_as (apps_of version) (codes "apps") d
  Some (record { text = text; shared = shared; apps = apps })

abbrev pub written_names : List WrittenApp → List (List ℕ)
written_names apps = map (λ app. app.name) apps

-- app names, each of them once
abbrev pub are_names : List (List ℕ) → Bool
are_names names = list_all is_app_name names && (distinct_count bytes_eq names == length names)

abbrev pub or_shape : Option Written → Result Written ViewFault
or_shape None = Err Shape
or_shape (Some w) = Ok w

abbrev pub or_not_json : Option Data → Result Written ViewFault
or_not_json None = Err NotJson
or_not_json (Some d) = or_shape (written_of d)

-- what the bytes write, whatever the names are
unfoldable pub shaped_of : List ℕ → Result Written ViewFault
shaped_of bytes = or_not_json (json_of bytes)

-- the same where each app has a name of its own and there are few enough apps
abbrev pub named_well : Result Written ViewFault → Result Written ViewFault
named_well (Err fault) = Err fault
named_well (Ok w) = if are_names (written_names w.apps) then (if nat_le (length w.apps) APPS_MOST then Ok w else Err TooManyApps) else Err BadName

-- what the bytes write, or the first fault
abbrev pub writing_of : List ℕ → Result Written ViewFault
writing_of bytes = named_well (shaped_of bytes)

-- a call that failed: by this fault, which is the first one, or for want of memory
abbrev pub Fails : ViewFault → Result Written ViewFault → Type 0
Fails NotJson written = written ≡ Err NotJson
Fails Shape written = written ≡ Err Shape
Fails BadName written = written ≡ Err BadName
Fails TooManyApps written = written ≡ Err TooManyApps
Fails NoMemory written = Unit {0}
Fails OtherText written = ⊥
Fails (UnknownFunction at) written = ⊥
