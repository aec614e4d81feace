-- Numbers and plain bytes are forms.
use Rattle.std.proofs.Common.{◌≡◌, ℕ, ◌+◌, ◌^◌, ◌<◌, ◌≤◌, true, false, Bool, ltb, cond, List, [], ◌∷◌, ◌++◌, length, take, drop, Ok, Err, refl, sym, ap, subst, arith, inl, inr}
use Rattle.std.specs.Int.{Width, w8, w16, w32, w64, byte_len, from_le_bytes, to_le_bytes}
use Rattle.std.proofs.lemmas.Bool.{cases_lt, ltb-false, le-ltb}
use Rattle.std.proofs.lemmas.List.{take_at, drop_at, take-append-drop, length-append, length-take, get_or-drop, get_or-take, get_or_past}
use Rattle.std.proofs.lemmas.Nat.{le_bytes_2, le_bytes_4, le_bytes_8, from_le_bytes-to_le_bytes_2, from_le_bytes-to_le_bytes_4, from_le_bytes-to_le_bytes_8}
use Rattle.trace_file.specs.declared.halt.Halt.{Halt}
use Rattle.trace_file.specs.declared.halt.Halt.TheVariants.{Short}
use Rattle.trace_file.specs.Form.{number, raw}
use Rattle.trace_file.proofs.IsForm.{IsBytes, IsForm}

pub IsBytes-drop : (n : ℕ) (bytes : List ℕ) → IsBytes bytes → IsBytes (drop n bytes)
IsBytes-drop n bytes h i = rw get_or-drop (h (n + i))

pub IsBytes-take : (n : ℕ) (bytes : List ℕ) → IsBytes bytes → IsBytes (take n bytes)
IsBytes-take n bytes h i =
    elim (cases_lt i n) [
      | inl lt ↦ rw (get_or-take n bytes i 0 lt) (h i)
      | inr le ↦ rw (get_or_past (take n bytes) i 0 (omega (arith, length-take n bytes))) (omega arith)
    ]

-- a test that did not fail
pub guard_ok : {A : Type 0} (b : Bool) (d : Halt) (x y : A) → cond b (Err d) (Ok x) ≡ Ok y → (b ≡ false) × (x ≡ y)
guard_ok true d x y e = absurd cc
guard_ok false d x y e = (refl, cc)

pub record IsWide (w : Width) (limit : ℕ) : Type 0 where
  pub len : (n : ℕ) → length (to_le_bytes w n) ≡ byte_len w
  pub back : (bytes : List ℕ) → length bytes ≡ byte_len w → IsBytes bytes → to_le_bytes w (from_le_bytes w bytes) ≡ bytes
  pub again : (n : ℕ) → n < limit → from_le_bytes w (to_le_bytes w n) ≡ n
  pub below : (bytes : List ℕ) → IsBytes bytes → from_le_bytes w bytes < limit

back8 : (bytes : List ℕ) → length bytes ≡ 1 → IsBytes bytes → to_le_bytes w8 (from_le_bytes w8 bytes) ≡ bytes
back8 [] len fits = absurd (omega arith)
back8 (b ∷ []) len fits = ap (λ n. n ∷ []) (omega (arith, fits 0))
back8 (b ∷ c ∷ bs) len fits = absurd (omega arith)

pub wide8 : IsWide w8 (2 ^ 8)
wide8 = record {
  len = λ n. refl;
  back = back8;
  again = λ n lt. omega arith;
  below = λ bytes fits. omega (arith, fits 0);
}

pub wide16 : IsWide w16 (2 ^ 16)
wide16 = record {
  len = λ n. refl;
  back = λ bytes len fits. le_bytes_2 bytes _ len fits refl;
  again = λ n lt. from_le_bytes-to_le_bytes_2 n lt;
  below = λ bytes fits. omega (arith, fits 0, fits 1);
}

pub wide32 : IsWide w32 (2 ^ 32)
wide32 = record {
  len = λ n. refl;
  back = λ bytes len fits. le_bytes_4 bytes _ len fits refl;
  again = λ n lt. from_le_bytes-to_le_bytes_4 n lt;
  below = λ bytes fits. omega (arith, fits 0, fits 1, fits 2, fits 3);
}

pub wide64 : IsWide w64 (2 ^ 64)
wide64 = record {
  len = λ n. refl;
  back = λ bytes len fits. le_bytes_8 bytes _ len fits refl;
  again = λ n lt. from_le_bytes-to_le_bytes_8 n lt;
  below = λ bytes fits. omega (arith, fits 0, fits 1, fits 2, fits 3, fits 4, fits 5, fits 6, fits 7);
}

module _ (w : Width) (limit : ℕ) (wide : IsWide w limit) where
  number_again : (n : ℕ) (rest : List ℕ) → n < limit → (number w).read (to_le_bytes w n ++ rest) ≡ Ok (n, rest)
  number_again n rest lt =
      let len = wide.len n in
      let long : ltb (length (to_le_bytes w n ++ rest)) (byte_len w) ≡ false = le-ltb _ _ (omega (arith, length-append (to_le_bytes w n) rest)) in
      rw (long, take_at (to_le_bytes w n) rest (byte_len w) len, drop_at (to_le_bytes w n) rest (byte_len w) len, wide.again n lt) refl

  number_takes : (bytes : List ℕ) (n : ℕ) (rest : List ℕ) → IsBytes bytes → (number w).read bytes ≡ Ok (n, rest) → (bytes ≡ to_le_bytes w n ++ rest) × (n < limit) × IsBytes rest
  number_takes bytes n rest fits e =
      let g = guard_ok (ltb (length bytes) (byte_len w)) Short (from_le_bytes w (take (byte_len w) bytes), drop (byte_len w) bytes) (n, rest) e in
      let long : byte_len w ≤ length bytes = ltb-false _ _ g.0 in
      let n-is : from_le_bytes w (take (byte_len w) bytes) ≡ n = ap (λ (p : ℕ × List ℕ). p.0) g.1 in
      let rest-is : drop (byte_len w) bytes ≡ rest = ap (λ (p : ℕ × List ℕ). p.1) g.1 in
      let front : to_le_bytes w n ≡ take (byte_len w) bytes = rw (← n-is) (wide.back (take (byte_len w) bytes) (omega (arith, length-take (byte_len w) bytes)) (IsBytes-take (byte_len w) bytes fits)) in
      (rw (front, ← rest-is) (sym (take-append-drop (byte_len w) bytes)), rw (← n-is) (wide.below (take (byte_len w) bytes) (IsBytes-take (byte_len w) bytes fits)), rw (← rest-is) (IsBytes-drop (byte_len w) bytes fits))

  pub number_form : IsForm (λ n. n < limit) (number w)
  number_form = record {
    again = number_again;
    spelt = λ bytes n rest fits e. (number_takes bytes n rest fits e).0;
    fit = λ bytes n rest fits e. let t = number_takes bytes n rest fits e in (t.1, t.2);
  }

module _ (size : ℕ) where
  abbrev pub RawFit : List ℕ → Type 0
  RawFit d = (length d ≡ size) × IsBytes d

  raw_again : (d rest : List ℕ) → RawFit d → (raw size).read (d ++ rest) ≡ Ok (d, rest)
  raw_again d rest h =
      let len = h.0 in
      let long : ltb (length (d ++ rest)) size ≡ false = le-ltb _ _ (omega (arith, length-append d rest)) in
      rw (long, take_at d rest size len, drop_at d rest size len) refl

  raw_takes : (bytes d rest : List ℕ) → IsBytes bytes → (raw size).read bytes ≡ Ok (d, rest) → (bytes ≡ d ++ rest) × RawFit d × IsBytes rest
  raw_takes bytes d rest fits e =
      let g = guard_ok (ltb (length bytes) size) Short (take size bytes, drop size bytes) (d, rest) e in
      let long : size ≤ length bytes = ltb-false _ _ g.0 in
      let made : List ℕ × List ℕ = (take size bytes, drop size bytes) in
      subst (λ (y : List ℕ × List ℕ). (bytes ≡ y.0 ++ y.1) × RawFit y.0 × IsBytes y.1) g.1 (sym (take-append-drop size bytes), (omega (arith, length-take size bytes), IsBytes-take size bytes fits), IsBytes-drop size bytes fits)

  pub raw_form : IsForm RawFit (raw size)
  raw_form = record {
    again = raw_again;
    spelt = λ bytes d rest fits e. (raw_takes bytes d rest fits e).0;
    fit = λ bytes d rest fits e. let t = raw_takes bytes d rest fits e in (t.1, t.2);
  }

pub n8 : IsForm (λ n. n < 2 ^ 8) (number w8)
n8 = number_form w8 (2 ^ 8) wide8

pub n16 : IsForm (λ n. n < 2 ^ 16) (number w16)
n16 = number_form w16 (2 ^ 16) wide16

pub n32 : IsForm (λ n. n < 2 ^ 32) (number w32)
n32 = number_form w32 (2 ^ 32) wide32

pub n64 : IsForm (λ n. n < 2 ^ 64) (number w64)
n64 = number_form w64 (2 ^ 64) wide64
