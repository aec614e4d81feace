-- A loop over the values of an array that stops at the first one of another form.
use Rattle.std.proofs.Common.{◌≡◌, ℕ, ◌+◌, ◌<◌, List, [], ◌∷◌, ◌++◌, map, take, length, Option, Some, None, Bool, option_map, sym, ap, ◌∙◌}
use Rattle.std.specs.Prelude.{slice_index_or, if◌then◌else◌}
use Rattle.std.specs.List.{filter}
use Rattle.serde_json.specs.Data.{Data}
use Rattle.serde_json.specs.View.{view}
use Rattle.serde_json.specs.declared.value.Value.{Value}
use Rattle.json_fields.specs.Fields.{each_of}
use Rattle.json_fields.proofs.Lists.{each_of-more, each_of-more_filtered, each_of-missing}

pub each_of-next : {B : Type 0} (f : Data → Option B) (vs : List Value) (i : ℕ) (v : Value) (ys : List B) (y : B)
    → i < length vs → v ≡ slice_index_or vs i v → each_of f (map view (take i vs)) ≡ Some ys → f (view v) ≡ Some y
    → each_of f (map view (take (i + 1) vs)) ≡ Some (ys ++ y ∷ [])
each_of-next f vs i v ys y within is done here = each_of-more view f vs i v ys y within done (ap (λ w. f (view w)) (sym is) ∙ here)

pub each_of-stop : {B : Type 0} (f : Data → Option B) (vs : List Value) (i : ℕ) (v : Value)
    → i < length vs → v ≡ slice_index_or vs i v → f (view v) ≡ None → each_of f (map view vs) ≡ None
each_of-stop f vs i v within is here = each_of-missing view f vs i v within (ap (λ w. f (view w)) (sym is) ∙ here)

-- the same for the items that pass a test
pub each_of-next_filtered : {B : Type 0} (f : Data → Option B) (p : B → Bool) (vs : List Value) (i : ℕ) (v : Value) (ys : List B) (y : B)
    → i < length vs → v ≡ slice_index_or vs i v → option_map (filter p) (each_of f (map view (take i vs))) ≡ Some ys → f (view v) ≡ Some y
    → option_map (filter p) (each_of f (map view (take (i + 1) vs))) ≡ Some (if p y then ys ++ y ∷ [] else ys)
each_of-next_filtered f p vs i v ys y within is done here = each_of-more_filtered view f p vs i v ys y within done (ap (λ w. f (view w)) (sym is) ∙ here)
