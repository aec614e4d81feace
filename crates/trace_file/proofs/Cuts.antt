-- What is read of a text that breaks off: the bytes end inside a part.
use Rattle.std.proofs.Common.{◌≡◌, ℕ, suc, ◌^◌, ◌<◌, ◌≤◌, ltb, Bool, cond, List, [], ◌∷◌, ◌++◌, length, take, drop, Option, None, Result, Ok, Err, refl, sym, ap, ◌∙◌, arith, inl, inr, ◌⊎◌}
use Rattle.std.specs.Prelude.{slice_index}
use Rattle.std.specs.Int.{Width, w8, w16, w32, w64, byte_len, from_le_bytes}
use Rattle.std.proofs.lemmas.Bool.{lt-ltb}
use Rattle.std.proofs.lemmas.List.{length-append}
use Rattle.trace_file.specs.declared.fault.TraceFault.{TraceFault}
use Rattle.trace_file.specs.declared.halt.Halt.{Halt}
use Rattle.trace_file.specs.declared.halt.Halt.TheVariants.{Short}
use Rattle.trace_file.specs.Form.{Form, ◌>>=◌, number, raw, both, unless, checked, seen, spell_items, read_items, items}
use Rattle.trace_file.proofs.IsForm.{IsForm}
use Rattle.trace_file.proofs.Forms.{AllFit, ItemsFit}
use Rattle.trace_file.proofs.Numbers.{IsWide, wide8, wide16, wide32, wide64, RawFit}

-- of a text that breaks off nothing is read
pub record CutsShort {A : Type 0} (fits : A → Type 0) (f : Form A) : Type 0 where
  pub cut : (a : A) (front back : List ℕ) → fits a → f.spell a ≡ front ++ back → 1 ≤ length back → f.read front ≡ Err Short

abbrev pub Ends : List ℕ → List ℕ → List ℕ → List ℕ → Type 0
Ends xs ys zs ws = ((b : List ℕ) × (xs ≡ zs ++ b) × (1 ≤ length b)) ⊎ ((m : List ℕ) × (zs ≡ xs ++ m) × (ys ≡ m ++ ws))

head_of : (x z : ℕ) (xs zs : List ℕ) → x ∷ xs ≡ z ∷ zs → (x ≡ z) × (xs ≡ zs)
head_of x z xs zs e = (ap (λ (l : List ℕ). slice_index l 0) e, ap (λ (l : List ℕ). drop 1 l) e)

longer : (x z : ℕ) (xs ys zs ws : List ℕ) → x ≡ z → Ends xs ys zs ws → Ends (x ∷ xs) ys (z ∷ zs) ws
longer x z xs ys zs ws e (inl h) = inl (h.0, ap (λ (l : List ℕ). x ∷ l) h.1 ∙ ap (λ (n : ℕ). n ∷ (zs ++ h.0)) e, h.2)
longer x z xs ys zs ws e (inr h) = inr (h.0, ap (λ (l : List ℕ). z ∷ l) h.1 ∙ ap (λ (n : ℕ). n ∷ (xs ++ h.0)) (sym e), h.2)

-- zs ends inside xs, or behind it
pub ends_in : (xs ys zs ws : List ℕ) → xs ++ ys ≡ zs ++ ws → Ends xs ys zs ws
ends_in [] ys zs ws e = inr (zs, refl, e)
ends_in (x ∷ xs) ys [] ws e = inl (x ∷ xs, refl, omega arith)
ends_in (x ∷ xs) ys (z ∷ zs) ws e =
    let h = head_of x z (xs ++ ys) (zs ++ ws) e in
    longer x z xs ys zs ws h.0 (ends_in xs ys zs ws h.1)

pub short_of : {A : Type 0} (n m : ℕ) (r : Result A Halt) → n < m → cond (ltb n m) (Err Short) r ≡ Err Short
short_of n m r lt = ap (λ (b : Bool). cond b (Err Short) r) (lt-ltb n m lt)

pub number_cut : (w : Width) (limit : ℕ) → IsWide w limit → CutsShort (λ n. n < limit) (number w)
number_cut w limit wide = record {
  cut = λ n front back h e some. short_of (length front) (byte_len w) (Ok (from_le_bytes w (take (byte_len w) front), drop (byte_len w) front)) (omega (arith, wide.len n, ap length e, length-append front back));
}

pub raw_cut : (size : ℕ) → CutsShort (RawFit size) (raw size)
raw_cut size = record {
  cut = λ d front back h e some. short_of (length front) size (Ok (take size front, drop size front)) (let len = h.0 in omega (arith, ap length e, length-append front back));
}

pub both_cut : {A B : Type 0} {p : A → Type 0} {q : A → B → Type 0} {f : Form A} {g : A → Form B} (is : IsForm p f) → CutsShort p f → ((a : A) → CutsShort (q a) (g a)) → CutsShort (λ x. p x.0 × q x.0 x.1) (both f g)
both_cut {A} {B} {p} {q} {f} {g} is one two = record {
  cut = λ x front back h e some. elim (ends_in (f.spell x.0) ((g x.0).spell x.1) front back e) [
    | inl k ↦ ap (λ r. r >>= λ a. (g a.0).read a.1 >>= λ b. Ok ((a.0, b.0), b.1)) (one.cut x.0 front k.0 h.0 k.1 k.2)
    | inr k ↦
        ap (λ bytes. f.read bytes >>= λ a. (g a.0).read a.1 >>= λ b. Ok ((a.0, b.0), b.1)) k.1
        ∙ ap (λ r. r >>= λ a. (g a.0).read a.1 >>= λ b. Ok ((a.0, b.0), b.1)) (is.again x.0 k.0 h.0)
        ∙ ap (λ r. r >>= λ b. Ok ((x.0, b.0), b.1)) ((two x.0).cut x.1 k.0 back h.1 k.2 some)
  ];
}

pub checked_cut : {A : Type 0} {p : A → Type 0} {f : Form A} (fault : A → Option TraceFault) → CutsShort p f → CutsShort (λ a. p a × (fault a ≡ None)) (checked fault f)
checked_cut {A} {p} {f} fault cuts = record { cut = λ a front back h e some. ap (λ r. r >>= λ x. unless (fault x.0) x) (cuts.cut a front back h.0 e some) }

pub seen_cut : {A B : Type 0} {p : A → Type 0} {f : Form A} (make : A → B) (parts : B → A) → CutsShort p f → CutsShort (λ b. p (parts b)) (seen make parts f)
seen_cut {A} {B} {p} {f} make parts cuts = record { cut = λ b front back h e some. ap (λ r. r >>= λ a. Ok (make a.0, a.1)) (cuts.cut (parts b) front back h e some) }

module _ {A S : Type 0} (p : ℕ → S → A → Type 0) (item : ℕ → S → Form A) (next : S → A → S) (each : (k : ℕ) (s : S) → IsForm (p k s) (item k s)) (cuts : (k : ℕ) (s : S) → CutsShort (p k s) (item k s)) where
  all_cut : (k : ℕ) (s : S) (xs : List A) (front back : List ℕ) → AllFit p item next each k s xs → spell_items item next k s xs ≡ front ++ back → 1 ≤ length back → read_items item next (length xs) k s front ≡ Err Short
  unfolding spell_items read_items
  all_cut k s [] front back h e some = absurd (omega (arith, ap length e, length-append front back))
  all_cut k s (a ∷ xs) front back h e some =
      elim (ends_in ((item k s).spell a) (spell_items item next (suc k) (next s a) xs) front back e) [
        | inl c ↦ ap (λ r. r >>= λ x. read_items item next (length xs) (suc k) (next s x.0) x.1 >>= λ y. Ok (x.0 ∷ y.0, y.1)) ((cuts k s).cut a front c.0 h.0 c.1 c.2)
        | inr c ↦
            ap (λ bytes. (item k s).read bytes >>= λ x. read_items item next (length xs) (suc k) (next s x.0) x.1 >>= λ y. Ok (x.0 ∷ y.0, y.1)) c.1
            ∙ ap (λ r. r >>= λ x. read_items item next (length xs) (suc k) (next s x.0) x.1 >>= λ y. Ok (x.0 ∷ y.0, y.1)) ((each k s).again a c.0 h.0)
            ∙ ap (λ r. r >>= λ y. Ok (a ∷ y.0, y.1)) (all_cut (suc k) (next s a) xs c.0 back h.1 c.2 some)
      ]

  pub items_cut : (n k : ℕ) (s : S) → CutsShort (ItemsFit p item next each n k s) (items item next n k s)
  items_cut n k s = record { cut = λ xs front back h e some. ap (λ m. read_items item next m k s front) (sym h.0) ∙ all_cut k s xs front back h.1 e some }

pub c8 : CutsShort (λ n. n < 2 ^ 8) (number w8)
c8 = number_cut w8 (2 ^ 8) wide8

pub c16 : CutsShort (λ n. n < 2 ^ 16) (number w16)
c16 = number_cut w16 (2 ^ 16) wide16

pub c32 : CutsShort (λ n. n < 2 ^ 32) (number w32)
c32 = number_cut w32 (2 ^ 32) wide32

pub c64 : CutsShort (λ n. n < 2 ^ 64) (number w64)
c64 = number_cut w64 (2 ^ 64) wide64
