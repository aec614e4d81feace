-- Forms made of forms are forms.
use Rattle.std.proofs.Common.{◌≡◌, ℕ, zero, suc, eqb, true, false, Bool, cond, List, [], ◌∷◌, ◌++◌, length, take, drop, Option, Some, None, Result, Ok, Err, refl, sym, ap, subst, ◌∙◌, append_assoc}
use Rattle.std.specs.Cmp.Lexicographic.{pointwise}
use Rattle.std.specs.List.{AllByRecursion}
use Rattle.std.proofs.lemmas.List.{take_at, drop_at, take-append-drop}
use Rattle.std.proofs.lemmas.Bool.{eqb-true, eq-eqb, and_parts, and_from}
use Rattle.trace_file.specs.declared.fault.TraceFault.{TraceFault}
use Rattle.trace_file.specs.declared.halt.Halt.{Halt}
use Rattle.trace_file.specs.declared.halt.Halt.TheVariants.{Memory, Short, Fault}
use Rattle.trace_file.specs.Form.{Form, ◌>>=◌, both, unless, checked, seen, behind, short_is, whole, spell_items, read_items, items, repeated_form, counted_items}
use Rattle.trace_file.proofs.IsForm.{IsBytes, IsForm}
use Rattle.trace_file.proofs.Numbers.{IsBytes-drop}

-- the value of a step that did not fail
pub bind_ok : {A B : Type 0} (r : Result A Halt) (f : A → Result B Halt) (y : B) → (r >>= f) ≡ Ok y → (x : A) × (r ≡ Ok x) × (f x ≡ Ok y)
bind_ok (Ok x) f y e = (x, refl, e)
bind_ok (Err d) f y e = absurd cc

abbrev pub done : {A : Type 0} → A → Result A Halt
done x = Ok x

pub ok_is : {A : Type 0} (x y : A) → done x ≡ done y → x ≡ y
ok_is x y e = cc

pub unless_ok : {A : Type 0} (o : Option TraceFault) (x y : A) → unless o x ≡ Ok y → (o ≡ None) × (x ≡ y)
unless_ok None x y e = (refl, cc)
unless_ok (Some d) x y e = absurd cc

module _ {A B : Type 0} (p : A → Type 0) (q : A → B → Type 0) (f : Form A) (g : A → Form B) (is : IsForm p f) (each : (a : A) → IsForm (q a) (g a)) where
  abbrev pub BothFit : A × B → Type 0
  BothFit x = p x.0 × q x.0 x.1

  pub both_form : IsForm BothFit (both f g)
  both_form = record {
    again = λ x rest k.
        ap (λ bytes. f.read bytes >>= λ a. (g a.0).read a.1 >>= λ b. Ok ((a.0, b.0), b.1)) (append_assoc (f.spell x.0) ((g x.0).spell x.1) rest)
        ∙ ap (λ r. r >>= λ a. (g a.0).read a.1 >>= λ b. Ok ((a.0, b.0), b.1)) (is.again x.0 ((g x.0).spell x.1 ++ rest) k.0)
        ∙ ap (λ r. r >>= λ b. Ok ((x.0, b.0), b.1)) ((each x.0).again x.1 rest k.1);
    spelt = λ bytes x rest low e.
        let u = bind_ok (f.read bytes) (λ a. (g a.0).read a.1 >>= λ b. Ok ((a.0, b.0), b.1)) (x, rest) e in
        let v = bind_ok ((g u.0.0).read u.0.1) (λ b. Ok ((u.0.0, b.0), b.1)) (x, rest) u.2 in
        let one : bytes ≡ f.spell u.0.0 ++ u.0.1 = is.spelt bytes u.0.0 u.0.1 low u.1 in
        let two : u.0.1 ≡ (g u.0.0).spell v.0.0 ++ v.0.1 = (each u.0.0).spelt u.0.1 v.0.0 v.0.1 (is.fit bytes u.0.0 u.0.1 low u.1).1 v.1 in
        let whole : bytes ≡ (f.spell u.0.0 ++ (g u.0.0).spell v.0.0) ++ v.0.1 = one ∙ ap (λ z. f.spell u.0.0 ++ z) two ∙ sym (append_assoc (f.spell u.0.0) ((g u.0.0).spell v.0.0) v.0.1) in
        subst (λ (y : (A × B) × List ℕ). bytes ≡ (f.spell y.0.0 ++ (g y.0.0).spell y.0.1) ++ y.1) (ok_is ((u.0.0, v.0.0), v.0.1) (x, rest) v.2) whole;
    fit = λ bytes x rest low e.
        let u = bind_ok (f.read bytes) (λ a. (g a.0).read a.1 >>= λ b. Ok ((a.0, b.0), b.1)) (x, rest) e in
        let v = bind_ok ((g u.0.0).read u.0.1) (λ b. Ok ((u.0.0, b.0), b.1)) (x, rest) u.2 in
        let one = is.fit bytes u.0.0 u.0.1 low u.1 in
        let two = (each u.0.0).fit u.0.1 v.0.0 v.0.1 one.1 v.1 in
        subst (λ (y : (A × B) × List ℕ). BothFit y.0 × IsBytes y.1) (ok_is ((u.0.0, v.0.0), v.0.1) (x, rest) v.2) ((one.0, two.0), two.1);
  }

module _ {A : Type 0} (p : A → Type 0) (fault : A → Option TraceFault) (f : Form A) (is : IsForm p f) where
  abbrev pub CheckedFit : A → Type 0
  CheckedFit a = p a × (fault a ≡ None)

  pub checked_form : IsForm CheckedFit (checked fault f)
  checked_form = record {
    again = λ a rest k. ap (λ r. r >>= λ x. unless (fault x.0) x) (is.again a rest k.0) ∙ ap (λ o. unless o (a, rest)) k.1;
    spelt = λ bytes a rest low e.
        let u = bind_ok (f.read bytes) (λ x. unless (fault x.0) x) (a, rest) e in
        let v = unless_ok (fault u.0.0) u.0 (a, rest) u.2 in
        subst (λ (y : A × List ℕ). bytes ≡ f.spell y.0 ++ y.1) v.1 (is.spelt bytes u.0.0 u.0.1 low u.1);
    fit = λ bytes a rest low e.
        let u = bind_ok (f.read bytes) (λ x. unless (fault x.0) x) (a, rest) e in
        let v = unless_ok (fault u.0.0) u.0 (a, rest) u.2 in
        let w = is.fit bytes u.0.0 u.0.1 low u.1 in
        subst (λ (y : A × List ℕ). CheckedFit y.0 × IsBytes y.1) v.1 ((w.0, v.0), w.1);
  }

module _ {A B : Type 0} (p : A → Type 0) (make : A → B) (parts : B → A) (f : Form A) (is : IsForm p f) (back : (b : B) → make (parts b) ≡ b) (forth : (a : A) → p a → parts (make a) ≡ a) where
  abbrev pub SeenFit : B → Type 0
  SeenFit b = p (parts b)

  pub seen_form : IsForm SeenFit (seen make parts f)
  seen_form = record {
    again = λ b rest k.
        ap (λ r. r >>= λ a. Ok (make a.0, a.1)) (is.again (parts b) rest k) ∙ ap (λ x. Ok (x, rest)) (back b);
    spelt = λ bytes b rest low e.
        let u = bind_ok (f.read bytes) (λ a. Ok (make a.0, a.1)) (b, rest) e in
        let w = is.fit bytes u.0.0 u.0.1 low u.1 in
        let one : bytes ≡ f.spell (parts (make u.0.0)) ++ u.0.1 = is.spelt bytes u.0.0 u.0.1 low u.1 ∙ ap (λ a. f.spell a ++ u.0.1) (sym (forth u.0.0 w.0)) in
        subst (λ (y : B × List ℕ). bytes ≡ f.spell (parts y.0) ++ y.1) (ok_is (make u.0.0, u.0.1) (b, rest) u.2) one;
    fit = λ bytes b rest low e.
        let u = bind_ok (f.read bytes) (λ a. Ok (make a.0, a.1)) (b, rest) e in
        let w = is.fit bytes u.0.0 u.0.1 low u.1 in
        let one : p (parts (make u.0.0)) = subst p (sym (forth u.0.0 w.0)) w.0 in
        subst (λ (y : B × List ℕ). SeenFit y.0 × IsBytes y.1) (ok_is (make u.0.0, u.0.1) (b, rest) u.2) (one, w.1);
  }

same_true : (xs ys : List ℕ) → pointwise eqb xs ys ≡ true → xs ≡ ys
same_true [] [] e = refl
same_true [] (y ∷ ys) e = absurd cc
same_true (x ∷ xs) [] e = absurd cc
same_true (x ∷ xs) (y ∷ ys) e =
    let h = and_parts (eqb x y) (pointwise eqb xs ys) e in
    ap (λ z. z ∷ xs) (eqb-true x y h.0) ∙ ap (λ zs. y ∷ zs) (same_true xs ys h.1)

same_self : (xs : List ℕ) → pointwise eqb xs xs ≡ true
same_self [] = refl
same_self (x ∷ xs) = and_from (eqb x x) (pointwise eqb xs xs) (eq-eqb x x refl) (same_self xs)

module _ {A : Type 0} (p : A → Type 0) (text : List ℕ) (fault : TraceFault) (f : Form A) (is : IsForm p f) where
  abbrev begun : List ℕ → Bool
  begun bytes = pointwise eqb (take (length text) bytes) text

  guarded : (b : Bool) (r : Result (A × List ℕ) Halt) (y : A × List ℕ) → cond b r (Err (Fault fault)) ≡ Ok y → (b ≡ true) × (r ≡ Ok y)
  guarded true r y e = (refl, e)
  guarded false r y e = absurd cc

  pub behind_form : IsForm p (behind text fault f)
  behind_form = record {
    again = λ a rest k.
        let one = append_assoc text (f.spell a) rest in
        let begins : begun ((text ++ f.spell a) ++ rest) ≡ true = ap begun one ∙ ap (λ z. pointwise eqb z text) (take_at text (f.spell a ++ rest) (length text) refl) ∙ same_self text in
        let two : drop (length text) ((text ++ f.spell a) ++ rest) ≡ f.spell a ++ rest = ap (drop (length text)) one ∙ drop_at text (f.spell a ++ rest) (length text) refl in
        rw (begins, two) (is.again a rest k);
    spelt = λ bytes a rest low e.
        let u = guarded (begun bytes) (f.read (drop (length text) bytes)) (a, rest) e in
        let begins : bytes ≡ text ++ drop (length text) bytes = sym (take-append-drop (length text) bytes) ∙ ap (λ z. z ++ drop (length text) bytes) (same_true (take (length text) bytes) text u.0) in
        begins ∙ ap (λ z. text ++ z) (is.spelt (drop (length text) bytes) a rest (IsBytes-drop (length text) bytes low) u.1) ∙ sym (append_assoc text (f.spell a) rest);
    fit = λ bytes a rest low e.
        let u = guarded (begun bytes) (f.read (drop (length text) bytes)) (a, rest) e in
        is.fit (drop (length text) bytes) a rest (IsBytes-drop (length text) bytes low) u.1;
  }

module _ {A : Type 0} (p : A → Type 0) (fault : TraceFault) (f : Form A) (is : IsForm p f) where
  was_ok : (r : Result (A × List ℕ) Halt) (y : A × List ℕ) → short_is fault r ≡ Ok y → r ≡ Ok y
  was_ok (Ok x) y e = e
  was_ok (Err Memory) y e = absurd cc
  was_ok (Err Short) y e = absurd cc
  was_ok (Err (Fault d)) y e = absurd cc

  pub whole_form : IsForm p (whole fault f)
  whole_form = record {
    again = λ a rest k. ap (short_is fault) (is.again a rest k);
    spelt = λ bytes a rest low e. is.spelt bytes a rest low (was_ok (f.read bytes) (a, rest) e);
    fit = λ bytes a rest low e. is.fit bytes a rest low (was_ok (f.read bytes) (a, rest) e);
  }

module _ {A S : Type 0} (p : ℕ → S → A → Type 0) (item : ℕ → S → Form A) (next : S → A → S) (each : (k : ℕ) (s : S) → IsForm (p k s) (item k s)) where
  abbrev pub AllFit : ℕ → S → List A → Type 0
  AllFit k s [] = Unit {0}
  AllFit k s (a ∷ xs) = p k s a × AllFit (suc k) (next s a) xs

  abbrev pub ItemsFit : ℕ → ℕ → S → List A → Type 0
  ItemsFit n k s xs = (length xs ≡ n) × AllFit k s xs

  items_again : (k : ℕ) (s : S) (xs : List A) (rest : List ℕ) → AllFit k s xs → read_items item next (length xs) k s (spell_items item next k s xs ++ rest) ≡ Ok (xs, rest)
  unfolding read_items spell_items
  items_again k s [] rest h = refl
  items_again k s (a ∷ xs) rest h =
      ap (λ bytes. (item k s).read bytes >>= λ x. read_items item next (length xs) (suc k) (next s x.0) x.1 >>= λ y. Ok (x.0 ∷ y.0, y.1)) (append_assoc ((item k s).spell a) (spell_items item next (suc k) (next s a) xs) rest)
      ∙ ap (λ r. r >>= λ x. read_items item next (length xs) (suc k) (next s x.0) x.1 >>= λ y. Ok (x.0 ∷ y.0, y.1)) ((each k s).again a (spell_items item next (suc k) (next s a) xs ++ rest) h.0)
      ∙ ap (λ r. r >>= λ y. Ok (a ∷ y.0, y.1)) (items_again (suc k) (next s a) xs rest h.1)

  items_spelt : (n k : ℕ) (s : S) (bytes : List ℕ) (x : List A × List ℕ) → IsBytes bytes → read_items item next n k s bytes ≡ Ok x
      → (bytes ≡ spell_items item next k s x.0 ++ x.1) × (length x.0 ≡ n) × AllFit k s x.0 × IsBytes x.1
  unfolding read_items spell_items
  items_spelt zero k s bytes x low e =
      subst (λ (y : List A × List ℕ). (bytes ≡ spell_items item next k s y.0 ++ y.1) × (length y.0 ≡ 0) × AllFit k s y.0 × IsBytes y.1) (ok_is ([], bytes) x e) (refl, refl, tt, low)
  items_spelt (suc n) k s bytes x low e =
      let u = bind_ok ((item k s).read bytes) (λ a. read_items item next n (suc k) (next s a.0) a.1 >>= λ y. Ok (a.0 ∷ y.0, y.1)) x e in
      let v = bind_ok (read_items item next n (suc k) (next s u.0.0) u.0.1) (λ y. Ok (u.0.0 ∷ y.0, y.1)) x u.2 in
      let here = (each k s).spelt bytes u.0.0 u.0.1 low u.1 in
      let fits = (each k s).fit bytes u.0.0 u.0.1 low u.1 in
      let more = items_spelt n (suc k) (next s u.0.0) u.0.1 v.0 fits.1 v.1 in
      subst (λ (y : List A × List ℕ). (bytes ≡ spell_items item next k s y.0 ++ y.1) × (length y.0 ≡ suc n) × AllFit k s y.0 × IsBytes y.1) (ok_is (u.0.0 ∷ v.0.0, v.0.1) x v.2)
      (here ∙ ap (λ z. (item k s).spell u.0.0 ++ z) more.0 ∙ sym (append_assoc ((item k s).spell u.0.0) (spell_items item next (suc k) (next s u.0.0) v.0.0) v.0.1), ap suc more.1, (fits.0, more.2), more.3)

  pub items_form : (n k : ℕ) (s : S) → IsForm (ItemsFit n k s) (items item next n k s)
  items_form n k s = record {
    again = λ xs rest h. ap (λ m. read_items item next m k s (spell_items item next k s xs ++ rest)) (sym h.0) ∙ items_again k s xs rest h.1;
    spelt = λ bytes xs rest low e. (items_spelt n k s bytes (xs, rest) low e).0;
    fit = λ bytes xs rest low e. let t = items_spelt n k s bytes (xs, rest) low e in ((t.1, t.2), t.3);
  }

module _ {A : Type 0} (p : A → Type 0) (f : Form A) (is : IsForm p f) where
  abbrev pub TimesFit : ℕ → List A → Type 0
  TimesFit n xs = ItemsFit {S = Unit {0}} (λ _ _. p) (λ _ _. f) (λ _ _. tt) (λ _ _. is) n 0 tt xs

  pub times_form : (n : ℕ) → IsForm (TimesFit n) (repeated_form n f)
  times_form n = items_form {S = Unit {0}} (λ _ _. p) (λ _ _. f) (λ _ _. tt) (λ _ _. is) n 0 tt

module _ {A S : Type 0} (c : ℕ → Type 0) (count : Form ℕ) (counts : IsForm c count) (p : ℕ → S → A → Type 0) (item : ℕ → S → Form A) (next : S → A → S) (each : (k : ℕ) (s : S) → IsForm (p k s) (item k s)) (s : S) where
  abbrev pub CountedFit : List A → Type 0
  CountedFit xs = c (length xs) × ItemsFit p item next each (length xs) 0 s xs

  pub counted_form : IsForm CountedFit (counted_items count item next s)
  counted_form = seen_form (BothFit c (λ n xs. ItemsFit p item next each n 0 s xs) count (λ n. items item next n 0 s) counts (λ n. items_form p item next each n 0 s)) (λ x. x.1) (λ xs. (length xs, xs))
      (both count (λ n. items item next n 0 s)) (both_form c (λ n xs. ItemsFit p item next each n 0 s xs) count (λ n. items item next n 0 s) counts (λ n. items_form p item next each n 0 s))
      (λ xs. refl) (λ x h. ap (λ n. (n, x.1)) h.1.0)

-- ---- the same, with what the parts show left out

pub both_is : {A B : Type 0} {p : A → Type 0} {q : A → B → Type 0} {f : Form A} {g : A → Form B} (is : IsForm p f) (each : (a : A) → IsForm (q a) (g a)) → IsForm (λ x. p x.0 × q x.0 x.1) (both f g)
both_is {A} {B} {p} {q} {f} {g} is each = both_form p q f g is each

pub checked_is : {A : Type 0} {p : A → Type 0} {f : Form A} (fault : A → Option TraceFault) (is : IsForm p f) → IsForm (λ a. p a × (fault a ≡ None)) (checked fault f)
checked_is {A} {p} {f} fault is = checked_form p fault f is

pub seen_is : {A B : Type 0} {p : A → Type 0} {f : Form A} (make : A → B) (parts : B → A) (is : IsForm p f) (back : (b : B) → make (parts b) ≡ b) (forth : (a : A) → p a → parts (make a) ≡ a) → IsForm (λ b. p (parts b)) (seen make parts f)
seen_is {A} {B} {p} {f} make parts is back forth = seen_form p make parts f is back forth

-- ---- parts that do not hang on those before

module _ {A S : Type 0} (p : A → Type 0) (f : Form A) (is : IsForm p f) (next : S → A → S) where
  abbrev pub EachFit : ℕ → S → List A → Type 0
  EachFit k s xs = AllFit {S = S} (λ _ _. p) (λ _ _. f) next (λ _ _. is) k s xs

  pub all_from_each : (k : ℕ) (s : S) (xs : List A) → EachFit k s xs → AllByRecursion p xs
  all_from_each k s [] h = tt
  all_from_each k s (x ∷ xs) h = (h.0, all_from_each (suc k) (next s x) xs h.1)

  pub each_from_all : (k : ℕ) (s : S) (xs : List A) → AllByRecursion p xs → EachFit k s xs
  each_from_all k s [] h = tt
  each_from_all k s (x ∷ xs) h = (h.0, each_from_all (suc k) (next s x) xs h.1)
