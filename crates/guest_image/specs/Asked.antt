-- What a setup file asks for: an object with vcpus, ram and steps, and optionally hook, name_at, start, events
-- ([[clock,"key",byte],[clock,"raise",vcpu],[clock,"drop",vcpu],..]) and gstage. The form is this project's own.
use Rattle.std.specs.Prelude.{ℕ, nat_lt, List, [], ◌∷◌, codes, Bool, if◌then◌else◌, Option, Some, None, option_map, option_and_then, bytes_eq, Result, Ok}
use Rattle.serde_json.specs.Data.{Data}
use Rattle.fc_numbers.specs.Names.{is_app_name}
use Rattle.json_fields.specs.Fields.{is_object, is_null, whole_of, string_of, array_of, triple_of, each_of, has_only_keys}
use Rattle.fc_numbers.specs.declared.machine.GKind.{GKind}
use Rattle.fc_numbers.specs.declared.machine.GKind.TheVariants.{Sv39x4, Sv48x4}
use Rattle.elf_read.specs.Steps.{◌>>=◌, must, or_fault}
use Rattle.json_fields.specs.Members.{member_as, member_or}
use Rattle.guest_image.specs.declared.image.Field.TheVariants as key
use Rattle.guest_image.specs.declared.setup.SetupFault.{SetupFault}
use Rattle.guest_image.specs.declared.setup.SetupFault.TheVariants.{Shape}
use Rattle.guest_image.specs.declared.setup_file.AskedWhat.{AskedWhat}
use Rattle.guest_image.specs.declared.setup_file.AskedWhat.TheVariants.{Key, Raise, Drop}
use Rattle.guest_image.specs.declared.setup_file.AskedEvent.{AskedEvent}
use Rattle.guest_image.specs.declared.setup_file.Asked.{Asked}

-- null, or what f reads
abbrev pub null_or : {A : Type 0} → (Data → Option A) → Data → Option (Option A)
null_or f d = if is_null d then Some None else option_map Some (f d)

unfoldable pub hook_of : Data → Option (Option (List ℕ))
hook_of d = null_or string_of d

abbrev pub if_app_name : List ℕ → Option (List ℕ)
if_app_name name = if is_app_name name then Some name else None

-- a text that is an app name
unfoldable pub asked_app_name : Data → Option (List ℕ)
asked_app_name d = option_and_then if_app_name (string_of d)

unfoldable pub asked_start : Data → Option (Option (List ℕ))
asked_start d = null_or asked_app_name d

-- what the word and the number of an event ask for
unfoldable pub what_of : List ℕ → ℕ → Option AskedWhat
what_of word n =
    if bytes_eq word (codes "key") then (if nat_lt n 256 then Some (Key n) else None)
    else if bytes_eq word (codes "raise") then Some (Raise n)
    else if bytes_eq word (codes "drop") then Some (Drop n)
    else None

abbrev pub event_from : Data × Data × Data → Option AskedEvent
event_from t =
    option_and_then (λ at. option_and_then (λ word. option_and_then (λ n. option_map (λ what. record { at = at; what = what }) (what_of word n)) (whole_of t.2)) (string_of t.1)) (whole_of t.0)

-- [clock, word, number]
unfoldable pub event_of : Data → Option AskedEvent
event_of d = option_and_then event_from (triple_of d)

unfoldable pub events_of : Data → Option (List AskedEvent)
events_of d = option_and_then (each_of event_of) (array_of d)

abbrev pub kind_named : List ℕ → Option GKind
kind_named name = if bytes_eq name (codes "sv39x4") then Some Sv39x4 else if bytes_eq name (codes "sv48x4") then Some Sv48x4 else None

-- the name of a kind of second-stage tables
unfoldable pub asked_kind : Data → Option GKind
asked_kind d = option_and_then kind_named (string_of d)

abbrev pub setup_keys : List (List ℕ)
setup_keys = codes "vcpus" ∷ codes "ram" ∷ codes "steps" ∷ codes "hook" ∷ codes "name_at" ∷ codes "start" ∷ codes "events" ∷ codes "gstage" ∷ []

-- no key but those of a setup
unfoldable pub is_setup_known : Data → Bool
is_setup_known d = has_only_keys setup_keys d

-- what the value says, or its first key of another form
unfoldable pub asked_of : Data → Result Asked SetupFault
asked_of d = do
  object ← must (Shape key.Other) (is_object d)
  vcpus ← or_fault (Shape key.Vcpus) (member_as whole_of (codes "vcpus") d)
  ram ← or_fault (Shape key.Ram) (member_as whole_of (codes "ram") d)
  steps ← or_fault (Shape key.Steps) (member_as whole_of (codes "steps") d)
  hook ← or_fault (Shape key.Hook) (member_or hook_of None (codes "hook") d)
  name_at ← or_fault (Shape key.NameAt) (member_or whole_of 0 (codes "name_at") d)
  start ← or_fault (Shape key.Start) (member_or asked_start None (codes "start") d)
  events ← or_fault (Shape key.Events) (member_or events_of [] (codes "events") d)
  gstage ← or_fault (Shape key.Gstage) (member_or asked_kind Sv39x4 (codes "gstage") d)
  known ← must (Shape key.Other) (is_setup_known d)
  Ok (record { vcpus = vcpus; ram = ram; steps = steps; hook = hook; name_at = name_at; start = start; events = events; gstage = gstage })
