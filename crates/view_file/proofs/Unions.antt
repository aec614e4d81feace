-- Apps of two lists, joined under their names.
use Rattle.std.proofs.Common.{◌≡◌, ℕ, ◌+◌, ◌<◌, Bool, true, false, ◌||◌, List, [], ◌∷◌, ◌++◌, map, length, take, get_or, refl, sym, ap, subst, ◌∙◌, arith}
use Rattle.std.specs.Prelude.{slice_index_or, if◌then◌else◌}
use Rattle.std.specs.List.{IsDistinct, list_any}
use Rattle.std.specs.List.Sorted.{IsPermutation, IsSortedByKey}
use Rattle.std.specs.Ordering.{nat_cmp}
use Rattle.std.specs.Cmp.Lexicographic.{slice_cmp, nat_list_eq_equiv}
use Rattle.std.specs.Str.{bytes_eq}
use Rattle.std.proofs.lemmas.Grind.{flat_map-append}
use Rattle.std.proofs.lemmas.List.{append-nil, get_or-map, length-map, map-append, take_more}
use Rattle.std.proofs.lemmas.List.Elements.{All-push}
use Rattle.std.proofs.lemmas.List.Folds.{list_any-append, list_any_more}
use Rattle.std.proofs.lemmas.List.Sorted.{All-permutation, IsPermutation-map, list_any-IsPermutation}
use Rattle.std.proofs.lemmas.Map.Keys.{IsDistinct-IsPermutation, IsDistinct-push, apart_from_distinct}
use Rattle.std.proofs.lemmas.Slice.Eq.{bytes_eq-Decides}
use Rattle.guest_input.specs.declared.image.Start.{Start}
use Rattle.view_file.specs.declared.views.App.{App}
use Rattle.view_file.specs.Union.{AreJoined, AreUnion, HasBoth, has_app, listed_under}
use Rattle.view_file.proofs.Apart.{ordered}

abbrev names_in : List App → List (List ℕ)
names_in apps = map (λ app. app.name) apps

flips : (a b : List ℕ) → bytes_eq a b ≡ bytes_eq b a
flips a b = nat_list_eq_equiv.symm a b

among_names : (apps : List App) (name : List ℕ) → list_any (bytes_eq name) (names_in apps) ≡ has_app apps name
among_names [] name = refl
among_names (app ∷ apps) name = rw (flips name app.name, among_names apps name) refl

pub none_joined : (a b : List App) → AreJoined a b []
unfolding IsDistinct
none_joined a b = record { once = tt; functions = λ k d within. absurd (omega arith) }

-- one more app, of a name that none has
pub joined_next : (a b apps : List App) (app : App) → AreJoined a b apps → has_app apps app.name ≡ false → HasBoth a b app → AreJoined a b (apps ++ app ∷ [])
joined_next a b apps app joined new both = record {
  once = subst (IsDistinct bytes_eq) (sym (map-append (λ (x : App). x.name) apps (app ∷ [])))
      (IsDistinct-push nat_list_eq_equiv (names_in apps) app.name joined.once (among_names apps app.name ∙ new));
  functions = All-push (HasBoth a b) apps app joined.functions both;
}

or_true : (b : Bool) → (b || true) ≡ true
or_true true = refl
or_true false = refl

or_false : (b : Bool) → (b || false) ≡ b
or_false true = refl
or_false false = refl

or_assoc : (a b c : Bool) → ((a || b) || c) ≡ (a || (b || c))
or_assoc true b c = refl
or_assoc false b c = refl

-- a loop over apps: the names that are joined are those before and those so far
pub names_pushed : (before apps : List App) (joined : List App) (i : ℕ) (app new : App) (name : List ℕ) → i < length apps → app ≡ slice_index_or apps i app → new.name ≡ app.name
    → has_app joined name ≡ (has_app before name || has_app (take i apps) name) → has_app (joined ++ new ∷ []) name ≡ (has_app before name || has_app (take (i + 1) apps) name)
names_pushed before apps joined i app new name within is same so =
    list_any-append (λ (x : App). bytes_eq x.name name) joined (new ∷ []) ∙ ap (λ b. has_app joined name || b) (or_false (bytes_eq new.name name))
    ∙ ap (λ b. b || bytes_eq new.name name) so ∙ or_assoc (has_app before name) (has_app (take i apps) name) (bytes_eq new.name name)
    ∙ ap (λ n. has_app before name || (has_app (take i apps) name || bytes_eq n name)) (same ∙ ap (λ (x : App). x.name) is)
    ∙ ap (λ b. has_app before name || b) (sym (list_any_more (λ (x : App). bytes_eq x.name name) apps i app within))

known_by : (a b joined here : Bool) → joined ≡ (a || b) → (here ≡ true → joined ≡ true) → joined ≡ (a || (b || here))
known_by a b joined true is known = known refl ∙ sym (ap (λ c. a || c) (or_true b) ∙ or_true a)
known_by a b joined false is known = is ∙ ap (λ c. a || c) (sym (or_false b))

pub names_known : (before apps : List App) (joined : List App) (i : ℕ) (app : App) (name : List ℕ) → i < length apps → app ≡ slice_index_or apps i app → has_app joined app.name ≡ true
    → has_app joined name ≡ (has_app before name || has_app (take i apps) name) → has_app joined name ≡ (has_app before name || has_app (take (i + 1) apps) name)
names_known before apps joined i app name within is known so =
    known_by (has_app before name) (has_app (take i apps) name) (has_app joined name) (bytes_eq (slice_index_or apps i app).name name) so
    (λ h. ap (has_app joined) (sym ((bytes_eq-Decides _ _).0 h) ∙ ap (λ (x : App). x.name) (sym is)) ∙ known)
    ∙ ap (λ b. has_app before name || b) (sym (list_any_more (λ (x : App). bytes_eq x.name name) apps i app within))

-- joined apps of all names, sorted
pub union_sorted : (a b joined apps : List App) → AreJoined a b joined → ((name : List ℕ) → has_app joined name ≡ (has_app a name || has_app b name))
    → IsPermutation joined apps → IsSortedByKey (λ (app : App). app.name) (slice_cmp nat_cmp) apps → AreUnion a b apps
union_sorted a b joined apps good names moved up =
    let once : IsDistinct bytes_eq (names_in apps) = IsDistinct-IsPermutation bytes_eq flips (names_in joined) (names_in apps) (IsPermutation-map (λ (app : App). app.name) joined apps moved) good.once in
    record {
      names = λ name. sym (list_any-IsPermutation (λ (app : App). bytes_eq app.name name) joined apps moved) ∙ names name;
      functions = All-permutation (HasBoth a b) joined apps moved good.functions;
      ascending = ordered apps up (λ k d within same.
          let first : get_or (names_in apps) k [] ≡ (slice_index_or apps k d).name = get_or-map (λ (app : App). app.name) apps k d [] (omega arith) in
          let next : get_or (names_in apps) (k + 1) [] ≡ (slice_index_or apps (k + 1) d).name = get_or-map (λ (app : App). app.name) apps (k + 1) d [] within in
          let inside : k + 1 < length (names_in apps) = subst (λ n. k + 1 < n) (sym (length-map apps (λ (app : App). app.name))) within in
          let other : bytes_eq (get_or (names_in apps) k []) (get_or (names_in apps) (k + 1) []) ≡ false = apart_from_distinct bytes_eq (names_in apps) k (k + 1) [] once (omega arith) inside in
          let equal : get_or (names_in apps) k [] ≡ get_or (names_in apps) (k + 1) [] = first ∙ same ∙ sym next in
          let t : true ≡ false = sym ((bytes_eq-Decides _ _).1 equal) ∙ other in cc);
    }

-- a loop over apps: the functions under a name so far
pub under_next : (apps : List App) (i : ℕ) (app : App) (name : List ℕ) (starts : List Start) (here : Bool) → i < length apps → app ≡ slice_index_or apps i app → here ≡ bytes_eq app.name name
    → starts ≡ listed_under (take i apps) name → starts ++ (if here then app.functions else []) ≡ listed_under (take (i + 1) apps) name
under_next apps i app name starts here within is test so =
    ap (λ l. l ++ (if here then app.functions else [])) so ∙ ap (λ b. listed_under (take i apps) name ++ (if b then app.functions else [])) test
    ∙ ap (λ (x : App). listed_under (take i apps) name ++ (if bytes_eq x.name name then x.functions else [])) is
    ∙ ap (λ l. listed_under (take i apps) name ++ l) (sym (append-nil (if bytes_eq (slice_index_or apps i app).name name then (slice_index_or apps i app).functions else [])))
    ∙ sym (flat_map-append (λ (x : App). if bytes_eq x.name name then x.functions else []) (take i apps) (slice_index_or apps i app ∷ []))
    ∙ ap (λ l. listed_under l name) (sym (take_more apps i app within))

pub under_both : (a b : List App) (name : List ℕ) → listed_under a name ++ listed_under b name ≡ listed_under (a ++ b) name
under_both a b name = sym (flat_map-append (λ (x : App). if bytes_eq x.name name then x.functions else []) a b)
