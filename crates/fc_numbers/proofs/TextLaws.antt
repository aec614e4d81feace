-- Places and offsets of text: each is the other's.
use Rattle.std.proofs.Common.{◌≡◌, ℕ, ◌+◌, ◌-◌, ◌%◌, ◌<◌, ◌≤◌, true, false, Bool, List, [], ◌∷◌, refl, arith}
use Rattle.std.specs.Prelude.{◌||◌, nat_lt, if◌then◌else◌}
use Rattle.std.proofs.lemmas.Bool.Decides.{nat_tests}
use Rattle.fc_numbers.specs.declared.places.Span.{Span}
use Rattle.fc_numbers.specs.Spans.{size_of, holds, in_text, text_size, offset_in, place_in, end_in, AreRangesFrom}

held : (s : Span) (p : ℕ) → holds s p ≡ true → (s.start ≤ p) × (p < s.end)
held s p e = (grind (arith, nat_tests, e), grind (arith, nat_tests, e))

unheld : (s : Span) (p : ℕ) → s.end ≤ p → holds s p ≡ false
unheld s p h = grind (arith, nat_tests, h)

holding : (s : Span) (p : ℕ) → s.start ≤ p → p < s.end → holds s p ≡ true
holding s p a b = grind (arith, nat_tests, a, b)

rest : (a b : Bool) → a ≡ false → (a || b) ≡ true → b ≡ true
rest true b p e = absurd (cc)
rest false b p e = e

-- places of text are at least the lower bound
pub places_above : (ss : List Span) (n p : ℕ) → AreRangesFrom n ss → in_text ss p ≡ true → n ≤ p
places_above [] n p k e = absurd (cc)
places_above (s ∷ ss) n p k e =
    elim (holds s p) as (λ b. holds s p ≡ b → (b || in_text ss p) ≡ true → n ≤ p) [
      | true ↦ λ h z. omega (arith, k.0, (held s p h).0)
      | false ↦ λ h z. omega (arith, k.0, k.1, places_above ss (s.end + 4096) p k.4 z)
    ] refl e

pub offset_below : (ss : List Span) (n p : ℕ) → AreRangesFrom n ss → in_text ss p ≡ true → offset_in ss p < text_size ss
offset_below [] n p k e = absurd (cc)
offset_below (s ∷ ss) n p k e =
    elim (holds s p) as (λ b. holds s p ≡ b → (b || in_text ss p) ≡ true → (if b then p - s.start else size_of s + offset_in ss p) < text_size (s ∷ ss)) [
      | true ↦ λ h z. let x = held s p h in omega (arith, x.0, x.1)
      | false ↦ λ h z. omega (arith, offset_below ss (s.end + 4096) p k.4 z)
    ] refl e

pub place_offset : (ss : List Span) (n p : ℕ) → AreRangesFrom n ss → in_text ss p ≡ true → place_in ss (offset_in ss p) ≡ p
place_offset [] n p k e = absurd (cc)
place_offset (s ∷ ss) n p k e =
    elim (holds s p) as (λ b. holds s p ≡ b → (b || in_text ss p) ≡ true → place_in (s ∷ ss) (if b then p - s.start else size_of s + offset_in ss p) ≡ p) [
      | true ↦ λ h z. let x = held s p h in
          let t : nat_lt (p - s.start) (size_of s) ≡ true = grind (arith, nat_tests, x.0, x.1) in rw t (omega (arith, x.0))
      | false ↦ λ h z.
          let t : nat_lt (size_of s + offset_in ss p) (size_of s) ≡ false = grind (arith, nat_tests) in
          let m : size_of s + offset_in ss p - size_of s ≡ offset_in ss p = omega arith in
          rw (t, m) (place_offset ss (s.end + 4096) p k.4 z)
    ] refl e

pub place_inside : (ss : List Span) (n o : ℕ) → AreRangesFrom n ss → o < text_size ss → in_text ss (place_in ss o) ≡ true
place_inside [] n o k l = absurd (omega (arith, l))
place_inside (s ∷ ss) n o k l =
    elim (nat_lt o (size_of s)) as (λ b. nat_lt o (size_of s) ≡ b → in_text (s ∷ ss) (if b then s.start + o else place_in ss (o - size_of s)) ≡ true) [
      | true ↦ λ t. let h : holds s (s.start + o) ≡ true = grind (arith, nat_tests, t) in rw h refl
      | false ↦ λ t.
          let more : o - size_of s < text_size ss = grind (arith, nat_tests, t, l) in
          let inside : in_text ss (place_in ss (o - size_of s)) ≡ true = place_inside ss (s.end + 4096) (o - size_of s) k.4 more in
          rw inside (or-true (holds s (place_in ss (o - size_of s))))
    ] refl
  where
    or-true : (b : Bool) → (b || true) ≡ true
    or-true true = refl
    or-true false = refl

pub offset_place : (ss : List Span) (n o : ℕ) → AreRangesFrom n ss → o < text_size ss → offset_in ss (place_in ss o) ≡ o
offset_place [] n o k l = absurd (omega (arith, l))
offset_place (s ∷ ss) n o k l =
    elim (nat_lt o (size_of s)) as (λ b. nat_lt o (size_of s) ≡ b → offset_in (s ∷ ss) (if b then s.start + o else place_in ss (o - size_of s)) ≡ o) [
      | true ↦ λ t. let h : holds s (s.start + o) ≡ true = grind (arith, nat_tests, t) in rw h (omega arith)
      | false ↦ λ t.
          let more : o - size_of s < text_size ss = grind (arith, nat_tests, t, l) in
          let inside : in_text ss (place_in ss (o - size_of s)) ≡ true = place_inside ss (s.end + 4096) (o - size_of s) k.4 more in
          let above : s.end + 4096 ≤ place_in ss (o - size_of s) = places_above ss (s.end + 4096) (place_in ss (o - size_of s)) k.4 inside in
          let h : holds s (place_in ss (o - size_of s)) ≡ false = unheld s (place_in ss (o - size_of s)) (omega (arith, above)) in
          let back : offset_in ss (place_in ss (o - size_of s)) ≡ o - size_of s = offset_place ss (s.end + 4096) (o - size_of s) k.4 more in
          rw (h, back) (grind (arith, nat_tests, t))
    ] refl

-- two places of text that are less than a page apart are of one range
pub offset_near : (ss : List Span) (n p d : ℕ) → AreRangesFrom n ss → d < 4096 → in_text ss p ≡ true → in_text ss (p + d) ≡ true → offset_in ss (p + d) ≡ offset_in ss p + d
offset_near [] n p d k small e f = absurd (cc)
offset_near (s ∷ ss) n p d k small e f =
    elim (holds s p) as (λ b. holds s p ≡ b → (b || in_text ss p) ≡ true → offset_in (s ∷ ss) (p + d) ≡ (if b then p - s.start else size_of s + offset_in ss p) + d) [
      | true ↦ λ h z. let x = held s p h in
          elim (holds s (p + d)) as (λ b. holds s (p + d) ≡ b → (b || in_text ss (p + d)) ≡ true → (if b then p + d - s.start else size_of s + offset_in ss (p + d)) ≡ p - s.start + d) [
            | true ↦ λ g y. omega (arith, x.0)
            | false ↦ λ g y. let above : s.end + 4096 ≤ p + d = places_above ss (s.end + 4096) (p + d) k.4 y in absurd (omega (arith, above, x.1, small))
          ] refl f
      | false ↦ λ h z.
          let above : s.end + 4096 ≤ p = places_above ss (s.end + 4096) p k.4 z in
          let g : holds s (p + d) ≡ false = unheld s (p + d) (omega (arith, above)) in
          let more : in_text ss (p + d) ≡ true = rest (holds s (p + d)) (in_text ss (p + d)) g f in
          rw g (omega (arith, offset_near ss (s.end + 4096) p d k.4 small z more))
    ] refl e

-- offsets rise with places
pub offset_rises : (ss : List Span) (n p q : ℕ) → AreRangesFrom n ss → p < q → in_text ss p ≡ true → in_text ss q ≡ true → offset_in ss p < offset_in ss q
offset_rises [] n p q k l e f = absurd (cc)
offset_rises (s ∷ ss) n p q k l e f =
    elim (holds s p) as (λ b. holds s p ≡ b → (b || in_text ss p) ≡ true → (if b then p - s.start else size_of s + offset_in ss p) < offset_in (s ∷ ss) q) [
      | true ↦ λ h z. let x = held s p h in
          elim (holds s q) as (λ b. holds s q ≡ b → (b || in_text ss q) ≡ true → p - s.start < (if b then q - s.start else size_of s + offset_in ss q)) [
            | true ↦ λ g y. omega (arith, x.0, l)
            | false ↦ λ g y. omega (arith, x.0, x.1)
          ] refl f
      | false ↦ λ h z.
          let above : s.end + 4096 ≤ p = places_above ss (s.end + 4096) p k.4 z in
          let g : holds s q ≡ false = unheld s q (omega (arith, above, l)) in
          let more : in_text ss q ≡ true = rest (holds s q) (in_text ss q) g f in
          rw g (omega (arith, offset_rises ss (s.end + 4096) p q k.4 l z more))
    ] refl e

-- within a range, places and bytes go on together
pub place_near : (ss : List Span) (n o d : ℕ) → AreRangesFrom n ss → o < text_size ss → o + d < end_in ss o → place_in ss (o + d) ≡ place_in ss o + d
place_near [] n o d k l h = absurd (omega (arith, l))
place_near (s ∷ ss) n o d k l h =
    elim (nat_lt o (size_of s)) as (λ b. nat_lt o (size_of s) ≡ b → o + d < (if b then size_of s else size_of s + end_in ss (o - size_of s)) → place_in (s ∷ ss) (o + d) ≡ (if b then s.start + o else place_in ss (o - size_of s)) + d) [
      | true ↦ λ t z. let u : nat_lt (o + d) (size_of s) ≡ true = grind (arith, nat_tests, z) in rw u (omega arith)
      | false ↦ λ t z.
          let over : size_of s ≤ o = grind (arith, nat_tests, t) in
          let u : nat_lt (o + d) (size_of s) ≡ false = grind (arith, nat_tests, over) in
          let m : o + d - size_of s ≡ o - size_of s + d = omega (arith, over) in
          rw (u, m) (place_near ss (s.end + 4096) (o - size_of s) d k.4 (omega (arith, l, over)) (omega (arith, z, over)))
    ] refl h

-- a range begins at a page in both countings
pub offset_page : (ss : List Span) (n p : ℕ) → AreRangesFrom n ss → in_text ss p ≡ true → offset_in ss p % 4096 ≡ p % 4096
offset_page [] n p k e = absurd (cc)
offset_page (s ∷ ss) n p k e =
    elim (holds s p) as (λ b. holds s p ≡ b → (b || in_text ss p) ≡ true → (if b then p - s.start else size_of s + offset_in ss p) % 4096 ≡ p % 4096) [
      | true ↦ λ h z. let x = held s p h in omega (arith, x.0, k.2)
      | false ↦ λ h z. omega (arith, k.1, k.2, k.3, offset_page ss (s.end + 4096) p k.4 z)
    ] refl e

-- the end of a range lies behind its bytes, and not behind text
pub end_near : (ss : List Span) (n o : ℕ) → AreRangesFrom n ss → o < text_size ss → (o < end_in ss o) × (end_in ss o ≤ text_size ss)
end_near [] n o k l = absurd (omega (arith, l))
end_near (s ∷ ss) n o k l =
    elim (nat_lt o (size_of s)) as (λ b. nat_lt o (size_of s) ≡ b → (o < (if b then size_of s else size_of s + end_in ss (o - size_of s))) × ((if b then size_of s else size_of s + end_in ss (o - size_of s)) ≤ text_size (s ∷ ss))) [
      | true ↦ λ t. (grind (arith, nat_tests, t), omega arith)
      | false ↦ λ t.
          let over : size_of s ≤ o = grind (arith, nat_tests, t) in
          let x = end_near ss (s.end + 4096) (o - size_of s) k.4 (omega (arith, l, over)) in
          (omega (arith, over, x.0), omega (arith, x.1))
    ] refl

-- text has whole pages
pub size_pages : (ss : List Span) (n : ℕ) → AreRangesFrom n ss → text_size ss % 4096 ≡ 0
size_pages [] n k = refl
size_pages (s ∷ ss) n k = omega (arith, k.1, k.2, k.3, size_pages ss (s.end + 4096) k.4)
