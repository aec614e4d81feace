-- Each line of the guest is an instruction whose fields are in their ranges.
use Rattle.std.proofs.Common.{◌≡◌, ℕ, zero, suc, ◌+◌, ◌-◌, ◌*◌, ◌%◌, ◌^◌, ◌<◌, ◌≤◌, Bool, true, false, ◌&&◌, ℤ, pos, negsuc, neg_ℤ, ◌+ℤ◌, ◌-ℤ◌, List, [], ◌∷◌, ◌++◌, length, Option, Some, None, ◌≤ℤ◌, ◌<ℤ◌, cond, refl, sym, ap, subst, ◌∙◌, arith, length-append, append_assoc}
use Rattle.std.specs.Prelude.{flat_map, nat_lt, nat_eq, is_some, IsSome, if◌then◌else◌, slice_index_or}
use Rattle.std.specs.List.{list_all}
use Rattle.std.proofs.lemmas.Int.{ints}
use Rattle.std.proofs.lemmas.Bool.Decides.{nat_tests}
use Rattle.std.proofs.lemmas.Grind.{flat_map-append}
use Rattle.std.proofs.lemmas.List.Folds.{list_all-append}
use Rattle.rv_words.specs.Words.{encode_of, fits_signed, wrapped, word_i, word_j, word_b}
use Rattle.guest_input.specs.declared.image.Function.{Function}
use Rattle.guest_maker.specs.declared.line.Line.{Line}
use Rattle.guest_maker.specs.declared.line.Line.TheVariants.{Plain, AddDistance, Jump, BranchIfEqual}
use Rattle.guest_maker.specs.declared.line.Label.{Label}
use Rattle.guest_maker.specs.declared.line.Label.TheVariants.{Trap, SwitchTo, Red, Blue, First, Second, Third, Fourth, Numbered}
use Rattle.guest_maker.specs.Text.{instruction_of_line, distance, AllFit}

pub both : (a b : Bool) → (a && b) ≡ true → (a ≡ true) × (b ≡ true)
both true b h = (refl, h)
both false b h = absurd cc

ltb_true : (a b : ℕ) → nat_lt a b ≡ true → a < b
ltb_true a b h = grind (arith, nat_tests)

true_ltb : (a b : ℕ) → a < b → nat_lt a b ≡ true
true_ltb a b h = grind (arith, nat_tests)

true_eq : (a b : ℕ) → a ≡ b → nat_eq a b ≡ true
true_eq a b h = grind (arith, nat_tests)

conj : (a b : Bool) → a ≡ true → b ≡ true → (a && b) ≡ true
conj true b h k = k
conj false b h k = absurd cc

some_if : {A : Type 0} (b : Bool) (x : A) → b ≡ true → IsSome (if b then Some x else None)
some_if true x h = refl
some_if false x h = absurd cc

-- ---- distances

fits_12 : (z : ℤ) → neg_ℤ (pos 2048) ≤ℤ z → z <ℤ pos 2048 → fits_signed 11 z ≡ true
fits_12 (pos n) low high = true_ltb n 2048 (omega (arith, ints))
fits_12 (negsuc n) low high = true_ltb n 2048 (omega (arith, ints))

fits_13 : (z : ℤ) → neg_ℤ (pos 4096) ≤ℤ z → z <ℤ pos 4096 → fits_signed 12 z ≡ true
fits_13 (pos n) low high = true_ltb n 4096 (omega (arith, ints))
fits_13 (negsuc n) low high = true_ltb n 4096 (omega (arith, ints))

fits_21 : (z : ℤ) → neg_ℤ (pos 1048576) ≤ℤ z → z <ℤ pos 1048576 → fits_signed 20 z ≡ true
fits_21 (pos n) low high = true_ltb n 1048576 (omega (arith, ints))
fits_21 (negsuc n) low high = true_ltb n 1048576 (omega (arith, ints))

even_13 : (z : ℤ) (from to : ℕ) → z +ℤ pos from ≡ pos to → from % 2 ≡ 0 → to % 2 ≡ 0 → nat_eq (wrapped 12 z % 2) 0 ≡ true
even_13 (pos n) from to h a b = true_eq (n % 2) 0 (omega (arith, ints))
even_13 (negsuc n) from to h a b = true_eq ((2 ^ 13 - 1 - n) % 2) 0 (omega (arith, ints))

even_21 : (z : ℤ) (from to : ℕ) → z +ℤ pos from ≡ pos to → from % 2 ≡ 0 → to % 2 ≡ 0 → nat_eq (wrapped 20 z % 2) 0 ≡ true
even_21 (pos n) from to h a b = true_eq (n % 2) 0 (omega (arith, ints))
even_21 (negsuc n) from to h a b = true_eq ((2 ^ 21 - 1 - n) % 2) 0 (omega (arith, ints))

back : (from to : ℕ) → distance from to +ℤ pos from ≡ pos to
back from to = omega (arith, ints)

fits_add : (v rd rs1 from to : ℕ) → rd < 32 → rs1 < 32 → from < 2048 → to < 2040 → IsSome (word_i v rd rs1 (distance from to +ℤ pos 4))
fits_add v rd rs1 from to d s low high =
    let imm : fits_signed 11 (distance from to +ℤ pos 4) ≡ true = fits_12 (distance from to +ℤ pos 4) (omega (arith, ints)) (omega (arith, ints)) in
    some_if _ _ (conj _ _ (true_ltb rd 32 d) (conj _ _ (true_ltb rs1 32 s) imm))

fits_jump : (v rd from to : ℕ) → rd < 32 → from < 16384 → to < 16384 → from % 2 ≡ 0 → to % 2 ≡ 0 → IsSome (word_j v rd (distance from to))
fits_jump v rd from to d low high a b =
    let imm : fits_signed 20 (distance from to) ≡ true = fits_21 (distance from to) (omega (arith, ints)) (omega (arith, ints)) in
    some_if _ _ (conj _ _ (true_ltb rd 32 d) (conj _ _ imm (even_21 (distance from to) from to (back from to) a b)))

fits_branch : (v rs1 rs2 from to : ℕ) → rs1 < 32 → rs2 < 32 → from < 2048 → to < 2040 → from % 2 ≡ 0 → to % 2 ≡ 0 → IsSome (word_b v rs1 rs2 (distance from to))
fits_branch v rs1 rs2 from to c d low high a b =
    let imm : fits_signed 12 (distance from to) ≡ true = fits_13 (distance from to) (omega (arith, ints)) (omega (arith, ints)) in
    some_if _ _ (conj _ _ (true_ltb rs1 32 c) (conj _ _ (true_ltb rs2 32 d) (conj _ _ imm (even_13 (distance from to) from to (back from to) a b))))

-- ---- lines

-- where functions stand, as far as lines depend on it
pub record AreTargets (target : Label → ℕ) : Type 0 where
  pub trap : target Trap < 2040
  pub red : target Red < 2040
  pub blue : target Blue < 2040
  pub low : (to : Label) → target to < 16384
  pub even : (to : Label) → target to % 2 ≡ 0

-- the functions that are named where a distance has 12 or 13 bits
unfoldable pub is_near : Label → Bool
is_near Trap = true
is_near SwitchTo = false
is_near Red = true
is_near Blue = true
is_near First = false
is_near Second = false
is_near Third = false
is_near Fourth = false
is_near (Numbered k) = false

near_low : (target : Label → ℕ) → AreTargets target → (to : Label) → is_near to ≡ true → target to < 2040
unfolding is_near
near_low target t Trap h = t.trap
near_low target t SwitchTo h = absurd cc
near_low target t Red h = t.red
near_low target t Blue h = t.blue
near_low target t First h = absurd cc
near_low target t Second h = absurd cc
near_low target t Third h = absurd cc
near_low target t Fourth h = absurd cc
near_low target t (Numbered k) h = absurd cc

-- a line at an offset has a word, wherever functions stand
abbrev pub is_fine : ℕ → Line → Bool
is_fine at (Plain inst) = is_some (encode_of inst)
is_fine at (AddDistance rd rs1 to) = nat_lt rd 32 && (nat_lt rs1 32 && (nat_lt at 2048 && is_near to))
is_fine at (Jump rd to) = nat_lt rd 32 && nat_lt at 16384
is_fine at (BranchIfEqual rs1 rs2 to) = nat_lt rs1 32 && (nat_lt rs2 32 && (nat_lt at 2048 && is_near to))

fine_fits : (target : Label → ℕ) → AreTargets target → (at : ℕ) → at % 2 ≡ 0 → (l : Line) → is_fine at l ≡ true → IsSome (encode_of (instruction_of_line target at l))
unfolding encode_of
fine_fits target t at even (Plain inst) h = h
fine_fits target t at even (AddDistance rd rs1 to) h =
    let a = both (nat_lt rd 32) (nat_lt rs1 32 && (nat_lt at 2048 && is_near to)) h in
    let b = both (nat_lt rs1 32) (nat_lt at 2048 && is_near to) a.1 in
    let c = both (nat_lt at 2048) (is_near to) b.1 in
    fits_add 0x13 rd rs1 at (target to) (ltb_true rd 32 a.0) (ltb_true rs1 32 b.0) (ltb_true at 2048 c.0) (near_low target t to c.1)
fine_fits target t at even (Jump rd to) h =
    let a = both (nat_lt rd 32) (nat_lt at 16384) h in
    fits_jump 0x6f rd at (target to) (ltb_true rd 32 a.0) (ltb_true at 16384 a.1) (t.low to) even (t.even to)
fine_fits target t at even (BranchIfEqual rs1 rs2 to) h =
    let a = both (nat_lt rs1 32) (nat_lt rs2 32 && (nat_lt at 2048 && is_near to)) h in
    let b = both (nat_lt rs2 32) (nat_lt at 2048 && is_near to) a.1 in
    let c = both (nat_lt at 2048) (is_near to) b.1 in
    fits_branch 0x63 rs1 rs2 at (target to) (ltb_true rs1 32 a.0) (ltb_true rs2 32 b.0) (ltb_true at 2048 c.0) (near_low target t to c.1) even (t.even to)

abbrev pub are_fine : ℕ → List Line → Bool
are_fine at [] = true
are_fine at (l ∷ ls) = is_fine at l && are_fine (at + 4) ls

pub all_fit : (target : Label → ℕ) → AreTargets target → (at : ℕ) → at % 2 ≡ 0 → (ls : List Line) → are_fine at ls ≡ true → AllFit target at ls
all_fit target t at even [] h = tt
all_fit target t at even (l ∷ ls) h =
    let a = both (is_fine at l) (are_fine (at + 4) ls) h in
    (fine_fits target t at even l a.0, all_fit target t (at + 4) (omega arith) ls a.1)

-- ---- lines without a distance of few bits

abbrev pub is_far : Line → Bool
is_far (Plain inst) = is_some (encode_of inst)
is_far (AddDistance rd rs1 to) = false
is_far (Jump rd to) = nat_lt rd 32
is_far (BranchIfEqual rs1 rs2 to) = false

far_fine : (at : ℕ) (l : Line) → at < 16384 → is_far l ≡ true → is_fine at l ≡ true
far_fine at (Plain inst) low h = h
far_fine at (AddDistance rd rs1 to) low h = absurd cc
far_fine at (Jump rd to) low h = conj (nat_lt rd 32) (nat_lt at 16384) h (true_ltb at 16384 low)
far_fine at (BranchIfEqual rs1 rs2 to) low h = absurd cc

pub far_all_fine : (at : ℕ) (ls : List Line) → at + 4 * length ls ≤ 16384 → list_all is_far ls ≡ true → are_fine at ls ≡ true
far_all_fine at [] low h = refl
far_all_fine at (l ∷ ls) low h =
    let a = both (is_far l) (list_all is_far ls) h in
    conj (is_fine at l) (are_fine (at + 4) ls) (far_fine at l (omega arith) a.0) (far_all_fine (at + 4) ls (omega arith) a.1)

pub are_fine-append : (at : ℕ) (ls more : List Line) → are_fine at ls ≡ true → are_fine (at + 4 * length ls) more ≡ true → are_fine at (ls ++ more) ≡ true
are_fine-append at [] more h k = subst (λ n. are_fine n more ≡ true) (omega arith) k
are_fine-append at (l ∷ ls) more h k =
    let a = both (is_fine at l) (are_fine (at + 4) ls) h in
    conj (is_fine at l) (are_fine (at + 4) (ls ++ more)) a.0
    (are_fine-append (at + 4) ls more a.1 (subst (λ n. are_fine n more ≡ true) (omega arith) k))
