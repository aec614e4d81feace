-- The JSON value of bytes and what it says: members, whole numbers, texts, arrays, pairs and triples.
-- JSON is RFC 8259; of what the standard leaves open (depth, size of numbers, repeated keys) serde_json decides.
use Rattle.std.specs.Prelude.{ℕ, List, [], ◌∷◌, Bool, false, Option, Some, None, option_map, option_and_then, is_some, if◌then◌else◌, bytes_eq}
use Rattle.std.specs.List.{list_all, list_any}
use Rattle.std.specs.Str.{is_utf8}
use Rattle.serde_json.specs.Data.{Data, Items, no_items, item, Members, no_members, member}
use Rattle.serde_json.specs.Find.{as_null, as_number, as_u64, as_str, as_array, as_object}
use Rattle.serde_json.specs.Read.{read}

-- the value of the bytes, which are UTF-8 and one JSON text
unfoldable pub json_of : List ℕ → Option Data
json_of bytes = if is_utf8 bytes then read bytes else None

abbrev pub is_object : Data → Bool
is_object d = is_some (as_object d)

abbrev pub is_null : Data → Bool
is_null d = is_some (as_null d)

-- a number written without sign, fraction and exponent, below 2 ^ 64
abbrev pub whole_of : Data → Option ℕ
whole_of d = option_and_then as_u64 (as_number d)

-- the bytes of a string
abbrev pub string_of : Data → Option (List ℕ)
string_of d = as_str d

abbrev pub list_of : Items → List Data
list_of no_items = []
list_of (item d ds) = d ∷ list_of ds

-- the items of an array
abbrev pub array_of : Data → Option (List Data)
array_of d = option_map list_of (as_array d)

abbrev pub two_of : List Data → Option (Data × Data)
two_of (a ∷ b ∷ []) = Some (a, b)
two_of _ = None

-- an array of two items
abbrev pub pair_of : Data → Option (Data × Data)
pair_of d = option_and_then two_of (array_of d)

abbrev pub three_of : List Data → Option (Data × Data × Data)
three_of (a ∷ b ∷ c ∷ []) = Some (a, b, c)
three_of _ = None

-- an array of three items
abbrev pub triple_of : Data → Option (Data × Data × Data)
triple_of d = option_and_then three_of (array_of d)

abbrev pub names_of : Members → List (List ℕ)
names_of no_members = []
names_of (member k d ms) = k ∷ names_of ms

abbrev pub is_among : List (List ℕ) → List ℕ → Bool
is_among keys name = list_any (λ key. bytes_eq key name) keys

abbrev pub only_keys : List (List ℕ) → Option Members → Bool
only_keys keys None = false
only_keys keys (Some ms) = list_all (is_among keys) (names_of ms)

-- an object with no key but these
abbrev pub has_only_keys : List (List ℕ) → Data → Bool
has_only_keys keys d = only_keys keys (as_object d)

-- what f makes of each item, where it makes something of every one
abbrev pub each_of : {A B : Type 0} → (A → Option B) → List A → Option (List B)
each_of f [] = Some []
each_of f (x ∷ xs) = option_and_then (λ y. option_map (λ ys. y ∷ ys) (each_of f xs)) (f x)
