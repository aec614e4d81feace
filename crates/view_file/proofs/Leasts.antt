-- The least unknown start of two lists, and of lists with the same members.
use Rattle.std.proofs.Common.{◌≡◌, ℕ, ◌+◌, ◌<◌, Bool, true, false, ◌&&◌, ◌||◌, List, [], ◌∷◌, ◌++◌, Option, Some, None, Err, take, length, refl, sym, ap, subst, ◌∙◌, arith, append_assoc}
use Rattle.std.specs.Prelude.{cond, not, slice_index_or}
use Rattle.std.specs.Ordering.{is_lt, ordering_reverse}
use Rattle.std.specs.declared.cmp.Ordering.{Ordering}
use Rattle.std.specs.declared.cmp.Ordering.TheVariants.{Less, Equal, Greater}
use Rattle.std.proofs.lemmas.Cmp.{alike_right}
use Rattle.guest_input.specs.declared.image.Start.{Start}
use Rattle.guest_input.specs.Starts.{is_same, start_cmp}
use Rattle.guest_input.proofs.Starts.{starts_ordered, equal_one}
use Rattle.std.specs.List.{list_any, list_all, flat_map, AllZip}
use Rattle.std.proofs.lemmas.Bool.Decides.{nat_tests}
use Rattle.std.proofs.lemmas.Grind.{flat_map-append}
use Rattle.std.proofs.lemmas.List.{take_more, append-nil}
use Rattle.std.proofs.lemmas.List.Folds.{list_any-append, list_all-append}
use Rattle.std.proofs.lemmas.List.Sorted.{list_any-IsPermutation}
use Rattle.std.proofs.lemmas.Slice.Eq.{bytes_eq-Decides}
use Rattle.std.specs.Str.{bytes_eq}
use Rattle.view_file.proofs.Functions.{both-left, both-right}
use Rattle.view_file.specs.declared.views.App.{App}
use Rattle.view_file.specs.declared.views.Views.{Views}
use Rattle.view_file.specs.declared.written.Written.{Written}
use Rattle.view_file.specs.declared.written.WrittenApp.{WrittenApp}
use Rattle.view_file.specs.Base.{all_listed}
use Rattle.guest_input.specs.declared.image.Image.{Image}
use Rattle.view_file.specs.declared.fault.ViewFault.{ViewFault}
use Rattle.view_file.specs.declared.fault.ViewFault.TheVariants.{NotJson, Shape, OtherText, UnknownFunction, TooManyApps, BadName, NoMemory}
use Rattle.view_file.specs.Fits.{IsAppOf, IsViewsOf, all_written, Parses, Reads}
use Rattle.view_file.specs.Least.{contains, IsLeastUnknown, IsLeastOf, lesser_of}

-- ---- the order of starts

abbrev IsBelow : Start → Start → Type 0
IsBelow a b = start_cmp a b ≡ Less

tied : (a b : Start) → is_same a b ≡ true → start_cmp a b ≡ Equal
tied a b h = grind (arith, nat_tests)

-- what is the same start is one
one_start : (a b : Start) → is_same a b ≡ true → a ≡ b
one_start a b h = equal_one a b (tied a b h)

itself : (a : Start) → is_same a a ≡ true
itself a = grind (arith, nat_tests)

not_below : (a b : Start) → IsBelow a b → is_same a b ≡ false
not_below a b h = grind (arith, nat_tests)

-- below one that is not above another
below_by : (a b c : Start) (r : Ordering) → start_cmp c b ≡ r → is_lt r ≡ false → IsBelow a b → IsBelow a c
below_by a b c Less is upto below = cc
below_by a b c Equal is upto below = alike_right starts_ordered c b a is ∙ below
below_by a b c Greater is upto below = starts_ordered.trans a b c below (starts_ordered.antisymm b c ∙ ap ordering_reverse is)

below_upto : (a b c : Start) → is_lt (start_cmp c b) ≡ false → IsBelow a b → IsBelow a c
below_upto a b c upto below = below_by a b c (start_cmp c b) refl upto below

-- ---- two lists

not_itself : (a b : Start) → IsBelow a b → contains (b ∷ []) a ≡ true → ⊥
not_itself a b below one = let other : is_same a b ≡ false = not_below a b below in let same : (is_same a b || false) ≡ true = one in grind (arith, other, same)

each_passes : (p : Start → Bool) (at : Start) (xs : List Start) → list_all p xs ≡ true → contains xs at ≡ true → p at ≡ true
each_passes p at [] all one = cc
each_passes p at (x ∷ xs) all one =
    elim (is_same at x) as (λ b. is_same at x ≡ b → p at ≡ true) [
      | true ↦ λ is. ap p (one_start at x is) ∙ both-left (p x) (list_all p xs) all
      | false ↦ λ not. each_passes p at xs (both-right (p x) (list_all p xs) all) (ap (λ b. b || contains xs at) (sym not) ∙ one)
    ] refl

abbrev Below : Start → Option Start → Type 0
Below at None = Unit {0}
Below at (Some least) = IsBelow at least

-- every listed start below the least unknown one is known
known_below : (known : Start → Bool) (xs : List Start) (o : Option Start) (at : Start) → IsLeastOf known xs o → Below at o → contains xs at ≡ true → known at ≡ true
known_below known xs None at least below one = each_passes known at xs least one
known_below known xs (Some n) at least below one = least.least at below one

in_either : (at : Start) (xs ys : List Start) → contains (xs ++ ys) at ≡ true → (p : Bool) → (contains xs at ≡ true → p ≡ true) → (contains ys at ≡ true → p ≡ true) → p ≡ true
in_either at xs ys one p left right =
    let parts : contains (xs ++ ys) at ≡ (contains xs at || contains ys at) = list_any-append (is_same at) xs ys in
    grind (arith, parts, left, right)

from_left : (at : Start) (xs ys : List Start) → contains xs at ≡ true → contains (xs ++ ys) at ≡ true
from_left at xs ys one = list_any-append (is_same at) xs ys ∙ ap (λ b. b || contains ys at) one

or_true : (b : Bool) → (b || true) ≡ true
or_true true = refl
or_true false = refl

from_right : (at : Start) (xs ys : List Start) → contains ys at ≡ true → contains (xs ++ ys) at ≡ true
from_right at xs ys one = list_any-append (is_same at) xs ys ∙ ap (λ b. contains xs at || b) one ∙ or_true (contains xs at)

less : (r : Ordering) → is_lt r ≡ true → r ≡ Less
less Less h = refl
less Equal h = cc
less Greater h = cc

-- the least of both is the lesser one: the second where it is below the first
lesser_by : (known : Start → Bool) (xs ys : List Start) (a b : Start) (second : Bool) → is_lt (start_cmp b a) ≡ second
    → IsLeastUnknown known xs a → IsLeastUnknown known ys b → IsLeastUnknown known (xs ++ ys) (cond second b a)
lesser_by known xs ys a b true is one two = record {
  one = from_right b xs ys two.one;
  unknown = two.unknown;
  least = λ at below in_one. in_either at xs ys in_one _ (λ h. one.least at (starts_ordered.trans at b a below (less (start_cmp b a) is)) h) (λ h. two.least at below h);
}
lesser_by known xs ys a b false is one two = record {
  one = from_left a xs ys one.one;
  unknown = one.unknown;
  least = λ at below in_one. in_either at xs ys in_one _ (λ h. one.least at below h) (λ h. two.least at (below_upto at a b is below) h);
}

-- the least of two lists
pub least_append : (known : Start → Bool) (xs ys : List Start) (a b : Option Start) → IsLeastOf known xs a → IsLeastOf known ys b → IsLeastOf known (xs ++ ys) (lesser_of a b)
least_append known xs ys None None one two = list_all-append known xs ys ∙ rw (one, two) refl
least_append known xs ys None (Some b) one two = record {
  one = from_right b xs ys two.one;
  unknown = two.unknown;
  least = λ at below in_one. in_either at xs ys in_one _ (λ h. known_below known xs None at one tt h) (λ h. two.least at below h);
}
least_append known xs ys (Some a) None one two = record {
  one = from_left a xs ys one.one;
  unknown = one.unknown;
  least = λ at below in_one. in_either at xs ys in_one _ (λ h. one.least at below h) (λ h. known_below known ys None at two tt h);
}
least_append known xs ys (Some a) (Some b) one two = lesser_by known xs ys a b (is_lt (start_cmp b a)) refl one two

-- one start alone
pub least_one : (known : Start → Bool) (at : Start) → known at ≡ false → IsLeastOf known (at ∷ []) (Some at)
least_one known at other = record {
  one = ap (λ b. b || false) (itself at);
  unknown = other;
  least = λ other below one. absurd (not_itself other at below one);
}

pub none_one : (known : Start → Bool) (at : Start) → known at ≡ true → IsLeastOf known (at ∷ []) None
none_one known at is = ap (λ b. b && true) is

lesser_of-None : (a : Option Start) → lesser_of a None ≡ a
lesser_of-None None = refl
lesser_of-None (Some m) = refl

grown : (xs : List Start) (i : ℕ) (x : Start) → i < length xs → x ≡ slice_index_or xs i x → take i xs ++ x ∷ [] ≡ take (i + 1) xs
grown xs i x within is = ap (λ y. take i xs ++ y ∷ []) is ∙ sym (take_more xs i x within)

-- a loop over starts: one more that is known, and one that is not
pub least_known : (known : Start → Bool) (xs : List Start) (i : ℕ) (x : Start) (a : Option Start) → i < length xs → x ≡ slice_index_or xs i x → known x ≡ true
    → IsLeastOf known (take i xs) a → IsLeastOf known (take (i + 1) xs) a
least_known known xs i x a within is here least =
    subst (λ l. IsLeastOf known l a) (grown xs i x within is)
    (subst (IsLeastOf known (take i xs ++ x ∷ [])) (lesser_of-None a) (least_append known (take i xs) (x ∷ []) a None least (none_one known x here)))

pub least_unknown : (known : Start → Bool) (xs : List Start) (i : ℕ) (x : Start) (a : Option Start) → i < length xs → x ≡ slice_index_or xs i x → known x ≡ false
    → IsLeastOf known (take i xs) a → IsLeastOf known (take (i + 1) xs) (lesser_of a (Some x))
least_unknown known xs i x a within is other least =
    subst (λ l. IsLeastOf known l (lesser_of a (Some x))) (grown xs i x within is) (least_append known (take i xs) (x ∷ []) a (Some x) least (least_one known x other))

abbrev functions_in : List App → List Start
functions_in apps = flat_map (λ app. app.functions) apps

-- a loop over apps
pub least_app : (known : Start → Bool) (shared : List Start) (apps : List App) (i : ℕ) (app : App) (a b : Option Start) → i < length apps → app ≡ slice_index_or apps i app
    → IsLeastOf known (shared ++ functions_in (take i apps)) a → IsLeastOf known app.functions b → IsLeastOf known (shared ++ functions_in (take (i + 1) apps)) (lesser_of a b)
least_app known shared apps i app a b within is one two =
    let more : functions_in (take (i + 1) apps) ≡ functions_in (take i apps) ++ app.functions =
    ap functions_in (take_more apps i app within) ∙ flat_map-append (λ (a : App). a.functions) (take i apps) (slice_index_or apps i app ∷ [])
    ∙ ap (λ (a : App). functions_in (take i apps) ++ (a.functions ++ [])) (sym is) ∙ ap (λ l. functions_in (take i apps) ++ l) (append-nil app.functions) in
    subst (λ l. IsLeastOf known l (lesser_of a b)) (append_assoc shared (functions_in (take i apps)) app.functions ∙ ap (λ l. shared ++ l) (sym more))
    (least_append known (shared ++ functions_in (take i apps)) app.functions a b one two)

twice : (b : Bool) → false ≡ not b → b ≡ true
twice true e = refl
twice false e = e

-- ---- lists with the same members

pub least_same : (known : Start → Bool) (xs ys : List Start) (at : Start) → ((other : Start) → contains xs other ≡ contains ys other)
    → IsLeastUnknown known xs at → IsLeastUnknown known ys at
least_same known xs ys at same least = record {
  one = sym (same at) ∙ least.one;
  unknown = least.unknown;
  least = λ other below one. least.least other below (same other ∙ one);
}

contains-flat_map : {A : Type 0} (f : A → List Start) (n : Start) (xs : List A) → contains (flat_map f xs) n ≡ list_any (λ x. contains (f x) n) xs
contains-flat_map f n [] = refl
contains-flat_map f n (x ∷ xs) = list_any-append (is_same n) (f x) (flat_map f xs) ∙ ap (λ b. contains (f x) n || b) (contains-flat_map f n xs)

found_same : (n : Start) (written : List WrittenApp) (found : List App) → AllZip IsAppOf written found
    → list_any (λ (app : App). contains app.functions n) found ≡ list_any (λ (app : WrittenApp). contains app.functions n) written
found_same n [] [] all = refl
found_same n [] (y ∷ ys) all = absurd all
found_same n (x ∷ xs) [] all = absurd all
found_same n (x ∷ xs) (y ∷ ys) all = rw (all.0.functions.same n, found_same n xs ys all.1) refl

-- views list what the file lists
pub listed_same : (w : Written) (v : Views) (n : Start) → IsViewsOf w v → contains (all_listed v) n ≡ contains (all_written w) n
listed_same w v n of =
    let apps : list_any (λ (app : App). contains app.functions n) v.apps ≡ list_any (λ (app : WrittenApp). contains app.functions n) w.apps =
    sym (list_any-IsPermutation (λ (app : App). contains app.functions n) of.apps.found v.apps of.apps.order) ∙ found_same n w.apps of.apps.found of.apps.each in
    let listed : contains (functions_in v.apps) n ≡ contains (flat_map (λ (app : WrittenApp). app.functions) w.apps) n =
    contains-flat_map (λ (app : App). app.functions) n v.apps ∙ apps ∙ sym (contains-flat_map (λ (app : WrittenApp). app.functions) n w.apps) in
    list_any-append (is_same n) v.shared (functions_in v.apps) ∙ rw (of.shared.same n, listed) refl
    ∙ sym (list_any-append (is_same n) w.shared (flat_map (λ (app : WrittenApp). app.functions) w.apps))

-- what parsing refuses, reading refuses alike
pub fails_read : (bytes : List ℕ) (i : Image) (fault : ViewFault) → Parses bytes (Err fault) → Reads bytes i (Err fault)
fails_read bytes i NotJson h = h
fails_read bytes i Shape h = h
fails_read bytes i OtherText h = absurd h
fails_read bytes i (UnknownFunction n) h = absurd h
fails_read bytes i TooManyApps h = h
fails_read bytes i BadName h = h
fails_read bytes i NoMemory h = h

-- two texts that a test does not tell apart
pub text_same : (xs ys : List ℕ) → false ≡ not (bytes_eq xs ys) → xs ≡ ys
text_same xs ys e = (bytes_eq-Decides xs ys).0 (twice (bytes_eq xs ys) e)
