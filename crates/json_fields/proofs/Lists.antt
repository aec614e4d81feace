-- The items of an array as a list, and what a loop over them finds.
use Rattle.std.proofs.Common.{◌≡◌, ℕ, zero, suc, ◌+◌, ◌<◌, List, [], ◌∷◌, ◌++◌, length, map, get_or, take, Option, Some, None, option_map, option_and_then, String, Global, string_bytes, Bool, true, false, cond, ◌&&◌, ◌||◌, refl, ap, ◌∙◌, arith}
use Rattle.std.specs.List.{list_all, list_any, filter}
use Rattle.std.proofs.lemmas.List.{map_more, append-nil}
use Rattle.std.proofs.lemmas.List.Elements.{filter-append}
use Rattle.std.specs.Map.{keys_of}
use Rattle.std.proofs.lemmas.Option.{none-some, same_Some}
use Rattle.serde_json.specs.View.{view, items_view, members_view}
use Rattle.serde_json.specs.declared.value.Value.{Value}
use Rattle.json_fields.specs.Fields.{list_of, each_of, names_of}

pub list_of-items_view : (vs : List Value) → list_of (items_view vs) ≡ map view vs
list_of-items_view [] = refl
list_of-items_view (v ∷ vs) = ap (λ ds. view v ∷ ds) (list_of-items_view vs)

pub list_any-map : {A B : Type 0} (p : B → Bool) (f : A → B) (xs : List A) → list_any (λ x. p (f x)) xs ≡ list_any p (map f xs)
list_any-map p f [] = refl
list_any-map p f (x ∷ xs) = ap (λ b. p (f x) || b) (list_any-map p f xs)

pub list_all-names : (p : List ℕ → Bool) (es : List (String Global × Value)) → list_all (λ k. p (string_bytes k)) (keys_of es) ≡ list_all p (names_of (members_view es))
list_all-names p [] = refl
list_all-names p (e ∷ es) = ap (λ b. p (string_bytes e.0) && b) (list_all-names p es)

nothing : {B C : Type 0} (o : Option B) → option_and_then {U = C} (λ (y : B). None) o ≡ None
nothing None = refl
nothing (Some y) = refl

push_step : {B : Type 0} (o : Option B) (r s : Option (List B)) (ys : List B) (y : B) → ((ws : List B) → r ≡ Some ws → s ≡ Some (ws ++ y ∷ []))
    → option_and_then (λ w. option_map (λ ws. w ∷ ws) r) o ≡ Some ys → option_and_then (λ w. option_map (λ ws. w ∷ ws) s) o ≡ Some (ys ++ y ∷ [])
push_step None r s ys y more done = absurd (none-some ys done)
push_step (Some w) None s ys y more done = absurd (none-some ys done)
push_step (Some w) (Some ws) s ys y more done = rw (more ws refl) (ap (λ l. Some (l ++ y ∷ [])) (same_Some _ _ done))

-- one more item that f makes something of
pub each_of-push : {A B : Type 0} (f : A → Option B) (xs : List A) (ys : List B) (x : A) (y : B)
    → each_of f xs ≡ Some ys → f x ≡ Some y → each_of f (xs ++ x ∷ []) ≡ Some (ys ++ y ∷ [])
each_of-push f [] ys x y done here = rw here (ap (λ l. Some (l ++ y ∷ [])) (same_Some _ _ done))
each_of-push f (z ∷ xs) ys x y done here = push_step (f z) _ _ ys y (λ ws h. each_of-push f xs ws x y h here) done

-- what f makes of the items g x, as far as a loop over the x has come
pub each_of-more : {A B C : Type 0} (g : C → A) (f : A → Option B) (xs : List C) (i : ℕ) (d : C) (ys : List B) (y : B)
    → i < length xs → each_of f (map g (take i xs)) ≡ Some ys → f (g (get_or xs i d)) ≡ Some y → each_of f (map g (take (i + 1) xs)) ≡ Some (ys ++ y ∷ [])
each_of-more g f xs i d ys y within done here = ap (each_of f) (map_more g xs i d within) ∙ each_of-push f (map g (take i xs)) ys (g (get_or xs i d)) y done here

-- an item that f makes nothing of
pub each_of-missing : {A B C : Type 0} (g : C → A) (f : A → Option B) (xs : List C) (i : ℕ) (d : C) → i < length xs → f (g (get_or xs i d)) ≡ None → each_of f (map g xs) ≡ None
each_of-missing g f [] i d within here = absurd (omega arith)
each_of-missing g f (x ∷ xs) zero d within here = rw here
each_of-missing g f (x ∷ xs) (suc i) d within here = rw (each_of-missing g f xs i d (omega arith) here) (nothing (f (g x)))

kept_one : {B : Type 0} (b : Bool) (ys : List B) (y : B) → ys ++ cond b (y ∷ []) [] ≡ cond b (ys ++ y ∷ []) ys
kept_one true ys y = refl
kept_one false ys y = append-nil ys

filtered_at : {A B : Type 0} (f : A → Option B) (p : B → Bool) (xs : List A) (ys : List B) (x : A) (y : B) (r : Option (List B))
    → each_of f xs ≡ r → option_map (filter p) r ≡ Some ys → f x ≡ Some y → option_map (filter p) (each_of f (xs ++ x ∷ [])) ≡ Some (cond (p y) (ys ++ y ∷ []) ys)
filtered_at f p xs ys x y None is done here = absurd (none-some ys done)
filtered_at f p xs ys x y (Some ws) is done here =
    ap (option_map (filter p)) (each_of-push f xs ws x y is here) ∙ ap Some (filter-append p ws (y ∷ []) ∙ ap (λ l. l ++ filter p (y ∷ [])) (same_Some _ _ done) ∙ kept_one (p y) ys y)

-- the same for the items that pass a test
pub each_of-more_filtered : {A B C : Type 0} (g : C → A) (f : A → Option B) (p : B → Bool) (xs : List C) (i : ℕ) (d : C) (ys : List B) (y : B)
    → i < length xs → option_map (filter p) (each_of f (map g (take i xs))) ≡ Some ys → f (g (get_or xs i d)) ≡ Some y
    → option_map (filter p) (each_of f (map g (take (i + 1) xs))) ≡ Some (cond (p y) (ys ++ y ∷ []) ys)
each_of-more_filtered g f p xs i d ys y within done here =
    ap (λ l. option_map (filter p) (each_of f l)) (map_more g xs i d within) ∙ filtered_at f p (map g (take i xs)) ys (g (get_or xs i d)) y _ refl done here
