-- Ascending lists of numbers: two of them with the same members are one list.
use Rattle.std.proofs.Common.{◌≡◌, ℕ, ◌<◌, ◌≤◌, true, false, Bool, cond, List, [], ◌∷◌, ◌++◌, refl, sym, ap, ◌∙◌, arith, ◌⊎◌, inl, inr}
use Rattle.std.specs.List.{filter}

-- x is a member
abbrev pub Among : {X : Type 0} → X → List X → Type 0
Among x [] = ⊥
Among x (y ∷ ys) = (x ≡ y) ⊎ Among x ys

-- each is above n
abbrev pub AllAbove : ℕ → List ℕ → Type 0
AllAbove n [] = Unit {0}
AllAbove n (x ∷ xs) = (n < x) × AllAbove n xs

-- each is below the next
abbrev pub AreAscending : List ℕ → Type 0
AreAscending [] = Unit {0}
AreAscending (x ∷ xs) = AllAbove x xs × AreAscending xs

pub above-member : (n x : ℕ) (xs : List ℕ) → AllAbove n xs → Among x xs → n < x
above-member n x [] all m = absurd m
above-member n x (y ∷ ys) all m = elim m [ inl e ↦ omega (arith, all.0, e) | inr r ↦ above-member n x ys all.1 r ]

head-least : (x y : ℕ) (ys : List ℕ) → AllAbove y ys → Among x (y ∷ ys) → y ≤ x
head-least x y ys all m = elim m [ inl e ↦ omega (arith, e) | inr r ↦ omega (arith, above-member y x ys all r) ]

-- a member of the rest of one list is in the rest of the other
in-rest : (z x y : ℕ) (xs ys : List ℕ) → x ≡ y → AllAbove x xs → Among z xs → Among z (y ∷ ys) → Among z ys
in-rest z x y xs ys e all m n = elim n [ inl s ↦ absurd (omega (arith, above-member x z xs all m, e, s)) | inr r ↦ r ]

pub same-members : (xs ys : List ℕ) → AreAscending xs → AreAscending ys → ((x : ℕ) → Among x xs → Among x ys) → ((x : ℕ) → Among x ys → Among x xs) → xs ≡ ys
same-members [] [] a b f g = refl
same-members [] (y ∷ ys) a b f g = absurd (g y (inl refl))
same-members (x ∷ xs) [] a b f g = absurd (f x (inl refl))
same-members (x ∷ xs) (y ∷ ys) a b f g =
    let first : x ≡ y = omega (arith, head-least x y ys b.0 (f x (inl refl)), head-least y x xs a.0 (g y (inl refl))) in
    ap (λ z. z ∷ xs) first ∙ ap (λ z. y ∷ z) (same-members xs ys a.1 b.1
    (λ z m. in-rest z x y xs ys first a.0 m (f z (inr m)))
    (λ z m. in-rest z y x ys xs (sym first) b.0 m (g z (inr m))))

-- with one more member at the end
pub among-push : {X : Type 0} (x y : X) (xs : List X) → Among x xs → Among x (xs ++ y ∷ [])
among-push x y [] m = absurd m
among-push x y (z ∷ zs) m = elim m [ inl e ↦ inl e | inr r ↦ inr (among-push x y zs r) ]

pub among-last : {X : Type 0} (x : X) (xs : List X) → Among x (xs ++ x ∷ [])
among-last x [] = inl refl
among-last x (z ∷ zs) = inr (among-last x zs)

pub push-among : {X : Type 0} (x y : X) (xs : List X) → Among x (xs ++ y ∷ []) → Among x xs ⊎ (x ≡ y)
push-among x y [] m = elim m [ inl e ↦ inr e | inr r ↦ absurd r ]
push-among x y (z ∷ zs) m = elim m [
  | inl e ↦ inl (inl e)
  | inr r ↦ elim (push-among x y zs r) [ inl a ↦ inl (inr a) | inr e ↦ inr e ]
]

above-push : (n y : ℕ) (xs : List ℕ) → AllAbove n xs → n < y → AllAbove n (xs ++ y ∷ [])
above-push n y [] all h = (h, tt)
above-push n y (x ∷ xs) all h = (all.0, above-push n y xs all.1 h)

pub ascending-push : (y : ℕ) (xs : List ℕ) → AreAscending xs → ((x : ℕ) → Among x xs → x < y) → AreAscending (xs ++ y ∷ [])
ascending-push y [] a below = (tt, tt)
ascending-push y (x ∷ xs) a below = (above-push x y xs a.0 (below x (inl refl)), ascending-push y xs a.1 (λ z m. below z (inr m)))

-- the members that a test keeps
above-filter : (p : ℕ → Bool) (n : ℕ) (xs : List ℕ) → AllAbove n xs → AllAbove n (filter p xs)
above-filter p n [] all = tt
above-filter p n (x ∷ xs) all = elim (p x) as (λ b. AllAbove n (cond b (x ∷ filter p xs) (filter p xs))) [
  | true ↦ (all.0, above-filter p n xs all.1)
  | false ↦ above-filter p n xs all.1
]

pub ascending-filter : (p : ℕ → Bool) (xs : List ℕ) → AreAscending xs → AreAscending (filter p xs)
ascending-filter p [] a = tt
ascending-filter p (x ∷ xs) a = elim (p x) as (λ b. AreAscending (cond b (x ∷ filter p xs) (filter p xs))) [
  | true ↦ (above-filter p x xs a.0, ascending-filter p xs a.1)
  | false ↦ ascending-filter p xs a.1
]

pub among-filter : (p : ℕ → Bool) (x : ℕ) (xs : List ℕ) → Among x xs → p x ≡ true → Among x (filter p xs)
among-filter p x [] m t = absurd m
among-filter p x (y ∷ ys) m t =
    elim (p y) as (λ b. p y ≡ b → Among x (cond b (y ∷ filter p ys) (filter p ys))) [
      | true ↦ λ k. elim m [ inl e ↦ inl e | inr r ↦ inr (among-filter p x ys r t) ]
      | false ↦ λ k. elim m [ inl e ↦ (let no : true ≡ false = sym t ∙ ap p e ∙ k in absurd (cc)) | inr r ↦ among-filter p x ys r t ]
    ] refl

pub filter-among : (p : ℕ → Bool) (x : ℕ) (xs : List ℕ) → Among x (filter p xs) → Among x xs × (p x ≡ true)
filter-among p x [] m = absurd m
filter-among p x (y ∷ ys) m =
    elim (p y) as (λ b. p y ≡ b → Among x (cond b (y ∷ filter p ys) (filter p ys)) → Among x (y ∷ ys) × (p x ≡ true)) [
      | true ↦ λ k n. elim n [
        | inl e ↦ (inl e, ap p e ∙ k)
        | inr r ↦ (inr (filter-among p x ys r).0, (filter-among p x ys r).1)
      ]
      | false ↦ λ k n. (inr (filter-among p x ys n).0, (filter-among p x ys n).1)
    ] refl m

pub filter-all : (p : ℕ → Bool) (xs : List ℕ) → ((x : ℕ) → Among x xs → p x ≡ true) → filter p xs ≡ xs
filter-all p [] all = refl
filter-all p (x ∷ xs) all = rw (all x (inl refl)) (ap (λ z. x ∷ z) (filter-all p xs (λ y m. all y (inr m))))
