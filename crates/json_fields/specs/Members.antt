-- The members of a JSON object by their forms.
-- JSON is RFC 8259, as serde_json reads it: of a key that comes twice the last value counts.
use Rattle.std.specs.Prelude.{ℕ, List, Option, Some, None, option_and_then}
use Rattle.serde_json.specs.Data.{Data}
use Rattle.serde_json.specs.Find.{get}

-- the member that must be there, in the form that f reads
abbrev pub member_as : {A : Type 0} → (Data → Option A) → List ℕ → Data → Option A
member_as f key d = option_and_then f (get key d)

abbrev pub default_or : {A : Type 0} → (Data → Option A) → A → Option Data → Option A
default_or f default None = Some default
default_or f default (Some d) = f d

-- the member in the form that f reads, or the default where there is none
abbrev pub member_or : {A : Type 0} → (Data → Option A) → A → List ℕ → Data → Option A
member_or f default key d = default_or f default (get key d)
