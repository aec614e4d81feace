-- What bytes give as views for an image is one: the views, or the fault.
use Rattle.std.proofs.Common.{◌≡◌, ◌≢◌, ℕ, zero, suc, ◌<◌, true, false, Bool, arith, refl, ◌∙◌, sym, ap, subst, Ok, Err, List, [], ◌∷◌, length, map, ◌⊎◌, inl, inr}
use Rattle.std.specs.Prelude.{slice_index_or, ◌&&◌, ◌||◌, Result}
use Rattle.std.specs.List.{AllZip, AllByRecursion, Contains, list_all}
use Rattle.std.specs.List.Sorted.{IsPermutation, IsStrictlySortedBy}
use Rattle.std.specs.Ordering.{ordering_reverse, nat_cmp}
use Rattle.std.specs.declared.cmp.Ordering.{Ordering}
use Rattle.std.specs.declared.cmp.Ordering.TheVariants.{Less, Equal, Greater}
use Rattle.std.specs.Cmp.{IsTotalOrder}
use Rattle.std.specs.Cmp.Lexicographic.{slice_cmp, nat_list_cmp_total}
use Rattle.std.proofs.lemmas.Bool.Decides.{nat_tests}
use Rattle.std.proofs.lemmas.List.Sorted.{Contains-permutation, IsPermutation-sym}
use Rattle.guest_input.specs.declared.image.Image.{Image}
use Rattle.guest_input.specs.declared.image.Start.{Start}
use Rattle.guest_input.specs.Starts.{is_same, start_cmp}
use Rattle.guest_input.proofs.Starts.{equal_one, starts_ordered}
use Rattle.function_table.specs.Groups.{groups_of, is_function}
use Rattle.view_file.specs.declared.views.App.{App}
use Rattle.view_file.specs.declared.views.Views.{Views}
use Rattle.view_file.specs.declared.fault.ViewFault.{ViewFault}
use Rattle.view_file.specs.declared.fault.ViewFault.TheVariants.{NotJson, Shape, OtherText, UnknownFunction, TooManyApps, BadName, NoMemory}
use Rattle.view_file.specs.declared.written.Written.{Written}
use Rattle.view_file.specs.declared.written.WrittenApp.{WrittenApp}
use Rattle.view_file.specs.Base.{all_listed}
use Rattle.view_file.specs.Fits.{IsInOrder, IsAppOf, AreAppsOf, IsViewsOf, Parses, Reads, all_written}
use Rattle.view_file.specs.Least.{contains, IsLeastUnknown}
use Rattle.view_file.specs.Once.{ReadsOnce, ParsesOnce}
use Rattle.view_file.specs.Written.{writing_of}
use Rattle.view_file.proofs.Leasts.{listed_same}

or_true : (b : Bool) → (b || true) ≡ true
or_true true = refl
or_true false = refl

and_left : (a b : Bool) → (a && b) ≡ true → a ≡ true
and_left true b h = refl
and_left false b h = h

and_right : (a b : Bool) → (a && b) ≡ true → b ≡ true
and_right true b h = h
and_right false b h = absurd (cc h)

abbrev In : {X : Type 0} → X → List X → Type 0
In x [] = ⊥
In x (y ∷ ys) = (x ≡ y) ⊎ In x ys

module _ (X : Type 0) (K : Type 0) (key : X → K) (R : K → K → Ordering) (total : IsTotalOrder R) where
  -- each key is below those after it
  abbrev Up : List X → Type 0
  Up [] = Unit {0}
  Up (x ∷ xs) = AllByRecursion (λ y. R (key x) (key y) ≡ Less) xs × Up xs

  not-both : (k l : K) → R k l ≡ Less → R l k ≡ Less → ⊥
  not-both k l a b = absurd (cc (sym a ∙ total.antisymm k l ∙ ap ordering_reverse b))

  not-itself : (x z : X) → z ≡ x → R (key x) (key z) ≡ Less → ⊥
  not-itself x z e a = let b : R (key x) (key x) ≡ Less = subst (λ w. R (key x) (key w) ≡ Less) e a in not-both (key x) (key x) b b

  above : (x z : X) (xs : List X) → AllByRecursion (λ y. R (key x) (key y) ≡ Less) xs → In z xs → R (key x) (key z) ≡ Less
  above x z [] all i = absurd i
  above x z (y ∷ ys) all i = elim i [ inl e ↦ subst (λ w. R (key x) (key w) ≡ Less) (sym e) all.0 | inr i ↦ above x z ys all.1 i ]

  same-members : (xs ys : List X) → Up xs → Up ys → ((x : X) → In x xs → In x ys) → ((x : X) → In x ys → In x xs) → xs ≡ ys
  same-members [] [] u v to from = refl
  same-members [] (y ∷ ys) u v to from = absurd (from y (inl refl))
  same-members (x ∷ xs) [] u v to from = absurd (to x (inl refl))
  same-members (x ∷ xs) (y ∷ ys) u v to from =
      let head : x ≡ y = elim (to x (inl refl)) [
        | inl e ↦ e
        | inr i ↦ elim (from y (inl refl)) [ inl e ↦ sym e | inr j ↦ absurd (not-both (key x) (key y) (above x y xs u.0 j) (above y x ys v.0 i)) ]
      ] in
      let rest : xs ≡ ys = same-members xs ys u.1 v.1
      (λ z i. elim (to z (inr i)) [ inl e ↦ absurd (not-itself x z (e ∙ sym head) (above x z xs u.0 i)) | inr k ↦ k ])
      (λ z i. elim (from z (inr i)) [ inl e ↦ absurd (not-itself y z (e ∙ head) (above y z ys v.0 i)) | inr k ↦ k ]) in
      rw (head, rest) refl

  alls : (P : K → Type 0) (xs : List X) → AllByRecursion P (map key xs) → AllByRecursion (λ y. P (key y)) xs
  alls P [] all = tt
  alls P (x ∷ xs) all = (all.0, alls P xs all.1)

  up-of : (xs : List X) → IsStrictlySortedBy R (map key xs) → Up xs
  unfolding IsStrictlySortedBy
  up-of [] s = tt
  up-of (x ∷ xs) s = (alls (λ k. R (key x) k ≡ Less) xs s.0, up-of xs s.1)

map-itself : (xs : List Start) → map (λ n. n) xs ≡ xs
map-itself [] = refl
map-itself (x ∷ xs) = ap (λ l. x ∷ l) (map-itself xs)

same_start : (a b : Start) → is_same a b ≡ true → a ≡ b
same_start a b h = let tied : start_cmp a b ≡ Equal = grind (arith, nat_tests) in equal_one a b tied

start_itself : (a : Start) → is_same a a ≡ true
start_itself a = grind (arith, nat_tests)

in-from : (n : Start) (xs : List Start) → contains xs n ≡ true → In n xs
in-from n [] has = absurd (cc has)
in-from n (x ∷ xs) has =
    elim (is_same n x) as (λ b. is_same n x ≡ b → In n (x ∷ xs)) [
      | true ↦ λ is. inl (same_start n x is)
      | false ↦ λ not. inr (in-from n xs (ap (λ b. b || contains xs n) (sym not) ∙ has))
    ] refl

in-to : (n : Start) (xs : List Start) → In n xs → contains xs n ≡ true
in-to n [] i = absurd i
in-to n (x ∷ xs) i = elim i [
  | inl e ↦ let same : is_same n x ≡ true = subst (λ y. is_same n y ≡ true) e (start_itself n) in ap (λ b. b || contains xs n) same
  | inr i ↦ let rest : contains xs n ≡ true = in-to n xs i in rw rest (or_true (is_same n x))
]

one-order : (given xs ys : List Start) → IsInOrder given xs → IsInOrder given ys → xs ≡ ys
one-order given xs ys a b = same-members Start Start (λ n. n) start_cmp starts_ordered xs ys
    (up-of Start Start (λ n. n) start_cmp starts_ordered xs (subst (IsStrictlySortedBy start_cmp) (sym (map-itself xs)) a.ascending))
    (up-of Start Start (λ n. n) start_cmp starts_ordered ys (subst (IsStrictlySortedBy start_cmp) (sym (map-itself ys)) b.ascending))
    (λ n i. in-from n ys (b.same n ∙ sym (a.same n) ∙ in-to n xs i))
    (λ n i. in-from n xs (a.same n ∙ sym (b.same n) ∙ in-to n ys i))

one-app : (w : WrittenApp) (a b : App) → IsAppOf w a → IsAppOf w b → a ≡ b
one-app w a b p q =
    let name : a.name ≡ b.name = p.name ∙ sym q.name in
    let functions : a.functions ≡ b.functions = one-order w.functions a.functions b.functions p.functions q.functions in
    let first : a ≡ record { name = b.name; functions = a.functions } = ap (λ n. record { name = n; functions = a.functions }) name in
    first ∙ ap (λ fs. record { name = b.name; functions = fs }) functions

one-found : (ws : List WrittenApp) (f g : List App) → AllZip IsAppOf ws f → AllZip IsAppOf ws g → f ≡ g
one-found [] [] [] p q = refl
one-found [] [] (y ∷ g) p q = absurd q
one-found [] (x ∷ f) g p q = absurd p
one-found (w ∷ ws) [] g p q = absurd p
one-found (w ∷ ws) (x ∷ f) [] p q = absurd q
one-found (w ∷ ws) (x ∷ f) (y ∷ g) p q = rw (one-app w x y p.0 q.0, one-found ws f g p.1 q.1) refl

to-contains : (x : App) (xs : List App) → In x xs → Contains xs x
to-contains x [] i = absurd i
to-contains x (y ∷ ys) i = elim i [
  | inl e ↦ (0, omega arith, sym e)
  | inr i ↦ let there = to-contains x ys i in (suc there.0, omega (arith, there.1), there.2)
]

from-contains : (x : App) (xs : List App) (k : ℕ) → k < length xs → slice_index_or xs k x ≡ x → In x xs
from-contains x [] k within is = absurd (omega (arith, within))
from-contains x (y ∷ ys) zero within is = inl (sym is)
from-contains x (y ∷ ys) (suc k) within is = inr (from-contains x ys k (omega (arith, within)) is)

moved : (found xs ys : List App) → IsPermutation found xs → IsPermutation found ys → (x : App) → In x xs → In x ys
moved found xs ys p q x i =
    let there = Contains-permutation found ys x q (Contains-permutation xs found x (IsPermutation-sym found xs p) (to-contains x xs i)) in
    from-contains x ys there.0 there.1 there.2

one-apps : (ws : List WrittenApp) (xs ys : List App) → AreAppsOf ws xs → AreAppsOf ws ys → xs ≡ ys
one-apps ws xs ys p q =
    let found : p.found ≡ q.found = one-found ws p.found q.found p.each q.each in
    let order : IsPermutation q.found xs = subst (λ f. IsPermutation f xs) found p.order in
    same-members App (List ℕ) (λ (a : App). a.name) (slice_cmp nat_cmp) nat_list_cmp_total xs ys
    (up-of App (List ℕ) (λ (a : App). a.name) (slice_cmp nat_cmp) nat_list_cmp_total xs p.ascending)
    (up-of App (List ℕ) (λ (a : App). a.name) (slice_cmp nat_cmp) nat_list_cmp_total ys q.ascending)
    (moved q.found xs ys order q.order)
    (moved q.found ys xs q.order order)

one-views : (w : Written) (u v : Views) → IsViewsOf w u → IsViewsOf w v → u ≡ v
one-views w u v p q =
    let text : u.text ≡ v.text = p.text ∙ sym q.text in
    let shared : u.shared ≡ v.shared = one-order w.shared u.shared v.shared p.shared q.shared in
    let apps : u.apps ≡ v.apps = one-apps w.apps u.apps v.apps p.apps q.apps in
    let first : u ≡ record { text = v.text; shared = u.shared; apps = u.apps } = ap (λ t. record { text = t; shared = u.shared; apps = u.apps }) text in
    let second : u ≡ record { text = v.text; shared = v.shared; apps = u.apps } = first ∙ ap (λ s. record { text = v.text; shared = s; apps = u.apps }) shared in
    second ∙ ap (λ a. record { text = v.text; shared = v.shared; apps = a }) apps

ok-or-err : {T E : Type 0} (r : Result T E) (t : T) (e : E) → r ≡ Ok t → r ≡ Err e → ⊥
ok-or-err r t e a b = absurd (cc (sym a ∙ b))

passes : (p : Start → Bool) (n : Start) (xs : List Start) → list_all p xs ≡ true → contains xs n ≡ true → p n ≡ true
passes p n [] all has = absurd (cc has)
passes p n (x ∷ xs) all has =
    elim (is_same n x) as (λ b. is_same n x ≡ b → (b || contains xs n) ≡ true → p n ≡ true) [
      | true ↦ λ is some. ap p (same_start n x is) ∙ and_left (p x) (list_all p xs) all
      | false ↦ λ is some. passes p n xs (and_right (p x) (list_all p xs) all) some
    ] refl has

reads-apart : (bytes : List ℕ) (i : Image) (v : Views) (why : ViewFault) → why ≢ NoMemory → Reads bytes i (Ok v) → Reads bytes i (Err why) → ⊥
reads-apart bytes i v NotJson other a b = ok-or-err (writing_of bytes) a.0 NotJson a.1 b
reads-apart bytes i v Shape other a b = ok-or-err (writing_of bytes) a.0 Shape a.1 b
reads-apart bytes i v BadName other a b = ok-or-err (writing_of bytes) a.0 BadName a.1 b
reads-apart bytes i v TooManyApps other a b = ok-or-err (writing_of bytes) a.0 TooManyApps a.1 b
reads-apart bytes i v NoMemory other a b = other refl
reads-apart bytes i v OtherText other a b =
    let same : b.0 ≡ a.0 = cc (sym b.1 ∙ a.1) in
    b.2 (ap (λ (w : Written). w.text) same ∙ sym a.2.text ∙ a.3.text)
reads-apart bytes i v (UnknownFunction n) other a b =
    let same : b.0 ≡ a.0 = cc (sym b.1 ∙ a.1) in
    let has : contains (all_listed v) n ≡ true = listed_same a.0 v n a.2 ∙ ap (λ (w : Written). contains (all_written w) n) (sym same) ∙ b.3.one in
    let known : is_function (groups_of i) n ≡ true = passes (is_function (groups_of i)) n (all_listed v) a.3.listed has in
    absurd (cc (sym known ∙ b.3.unknown))

-- what is written is refused for this reason
abbrev IsLate : Written → Image → ViewFault → Type 0
IsLate w i OtherText = w.text ≡ i.digest → ⊥
IsLate w i (UnknownFunction n) = (w.text ≡ i.digest) × IsLeastUnknown (is_function (groups_of i)) (all_written w) n
IsLate w i other = ⊥

when-refused : (bytes : List ℕ) (i : Image) (f : ViewFault) → f ≢ NoMemory → Reads bytes i (Err f) → (writing_of bytes ≡ Err f) ⊎ ((w : Written) × (writing_of bytes ≡ Ok w) × IsLate w i f)
when-refused bytes i NotJson other a = inl a
when-refused bytes i Shape other a = inl a
when-refused bytes i BadName other a = inl a
when-refused bytes i TooManyApps other a = inl a
when-refused bytes i NoMemory other a = absurd (other refl)
when-refused bytes i OtherText other a = inr (a.0, a.1, a.2)
when-refused bytes i (UnknownFunction n) other a = inr (a.0, a.1, (a.2, a.3))

not-less : (fs : Start → Bool) (xs : List Start) (m n : Start) → IsLeastUnknown fs xs m → IsLeastUnknown fs xs n → start_cmp m n ≡ Less → ⊥
not-less fs xs m n a b less = absurd (cc (sym (b.least m less a.one) ∙ a.unknown))

one-least : (fs : Start → Bool) (xs : List Start) (m n : Start) → IsLeastUnknown fs xs m → IsLeastUnknown fs xs n → m ≡ n
one-least fs xs m n a b =
    elim (start_cmp m n) as (λ o. start_cmp m n ≡ o → m ≡ n) [
      | Less ↦ λ e. absurd (not-less fs xs m n a b e)
      | Equal ↦ λ e. equal_one m n e
      | Greater ↦ λ e. absurd (not-less fs xs n m b a (starts_ordered.antisymm n m ∙ ap ordering_reverse e))
    ] refl

one-late : (w : Written) (i : Image) (f g : ViewFault) → IsLate w i f → IsLate w i g → f ≡ g
one-late w i OtherText OtherText a b = refl
one-late w i OtherText (UnknownFunction n) a b = absurd (a b.0)
one-late w i (UnknownFunction m) OtherText a b = absurd (b a.0)
one-late w i (UnknownFunction m) (UnknownFunction n) a b = ap UnknownFunction (one-least (is_function (groups_of i)) (all_written w) m n a.1 b.1)
one-late w i NotJson g a b = absurd a
one-late w i Shape g a b = absurd a
one-late w i BadName g a b = absurd a
one-late w i TooManyApps g a b = absurd a
one-late w i NoMemory g a b = absurd a
one-late w i f NotJson a b = absurd b
one-late w i f Shape a b = absurd b
one-late w i f BadName a b = absurd b
one-late w i f TooManyApps a b = absurd b
one-late w i f NoMemory a b = absurd b

one-reading : (bytes : List ℕ) (i : Image) (f g : ViewFault) → f ≢ NoMemory → g ≢ NoMemory → Reads bytes i (Err f) → Reads bytes i (Err g) → f ≡ g
one-reading bytes i f g other another a b =
    elim (when-refused bytes i f other a) [
      | inl x ↦ elim (when-refused bytes i g another b) [ inl y ↦ cc (sym x ∙ y) | inr y ↦ absurd (cc (sym x ∙ y.1)) ]
      | inr x ↦ elim (when-refused bytes i g another b) [
        | inl y ↦ absurd (cc (sym x.1 ∙ y))
        | inr y ↦ let same : x.0 ≡ y.0 = cc (sym x.1 ∙ y.1) in one-late y.0 i f g (subst (λ w. IsLate w i f) same x.2) y.2
      ]
    ]

same-views : (bytes : List ℕ) (i : Image) (u v : Views) → Reads bytes i (Ok u) → Reads bytes i (Ok v) → u ≡ v
same-views bytes i u v a b =
    let written : a.0 ≡ b.0 = cc (sym a.1 ∙ b.1) in
    one-views b.0 u v (subst (λ (w : Written). IsViewsOf w u) written a.2) b.2

pub reads_once : ReadsOnce
reads_once bytes i (Ok u) (Ok v) a b m n = ap Ok (same-views bytes i u v a b)
reads_once bytes i (Ok u) (Err g) a b m n = absurd (reads-apart bytes i u g (λ e. n (ap Err e)) a b)
reads_once bytes i (Err f) (Ok v) a b m n = absurd (reads-apart bytes i v f (λ e. m (ap Err e)) b a)
reads_once bytes i (Err f) (Err g) a b m n = ap Err (one-reading bytes i f g (λ e. m (ap Err e)) (λ e. n (ap Err e)) a b)

-- a fault of parsing is that of what is written
when-unparsed : (bytes : List ℕ) (f : ViewFault) → f ≢ NoMemory → Parses bytes (Err f) → writing_of bytes ≡ Err f
when-unparsed bytes NotJson other a = a
when-unparsed bytes Shape other a = a
when-unparsed bytes BadName other a = a
when-unparsed bytes TooManyApps other a = a
when-unparsed bytes NoMemory other a = absurd (other refl)
when-unparsed bytes OtherText other a = absurd a
when-unparsed bytes (UnknownFunction n) other a = absurd a

pub parses_once : ParsesOnce
parses_once bytes (Ok u) (Ok v) a b m n =
    let written : a.0 ≡ b.0 = cc (sym a.1 ∙ b.1) in
    ap Ok (one-views b.0 u v (subst (λ (w : Written). IsViewsOf w u) written a.2) b.2)
parses_once bytes (Ok u) (Err g) a b m n = absurd (ok-or-err (writing_of bytes) a.0 g a.1 (when-unparsed bytes g (λ e. n (ap Err e)) b))
parses_once bytes (Err f) (Ok v) a b m n = absurd (ok-or-err (writing_of bytes) b.0 f b.1 (when-unparsed bytes f (λ e. m (ap Err e)) a))
parses_once bytes (Err f) (Err g) a b m n =
    let same : f ≡ g = cc (sym (when-unparsed bytes f (λ e. m (ap Err e)) a) ∙ when-unparsed bytes g (λ e. n (ap Err e)) b) in
    ap Err same
