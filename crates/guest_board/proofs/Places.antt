-- What a fetch in text read: the place is in text, and the halfwords are those of the memory.
use Rattle.std.proofs.Common.{◌≡◌, ℕ, ◌+◌, ◌%◌, ◌^◌, true, false, Bool, refl, subst, arith, Some}
use Rattle.std.specs.Prelude.{◌==◌, if◌then◌else◌}
use Rattle.std.proofs.lemmas.Bool.Decides.{nat_tests}
use Rattle.fc_numbers.specs.declared.machine.Access.TheVariants.{Fetch}
use Rattle.fc_numbers.specs.declared.machine.Mode.{Mode}
use Rattle.fc_numbers.specs.declared.machine.Mode.TheVariants.{Vu, Vs}
use Rattle.guest_ram.specs.Ram.{Ram, is_inside, is_text}
use Rattle.sv39_walk.specs.declared.Walked.{Walked}
use Rattle.sv39_walk.specs.declared.Walked.TheVariants as walk
use Rattle.sv39_walk.specs.Walk.{walked, asked}
use Rattle.rv_csr.specs.Csr.{is_set}
use Rattle.rv_step.specs.declared.vcpu.Vcpu.{Vcpu}
use Rattle.rv_step.specs.declared.resolve.Resolved.TheVariants as place
use Rattle.rv_step.specs.Site.{resolved, resolve_walked}
use Rattle.guest_board.specs.declared.fetch.HalfPlace.{HalfPlace}
use Rattle.guest_board.specs.declared.fetch.HalfPlace.TheVariants as half
use Rattle.guest_board.specs.declared.fetch.Fetched.{Fetched}
use Rattle.guest_board.specs.declared.fetch.Fetched.TheVariants.{Short, Long, Faults, Stops}
use Rattle.guest_board.specs.Fetch.{half_by, half_place, half_at, outside_text, with_first, with_second, second_place, is_split, fetched, text_place, with_halves}

-- a halfword is found in text exactly where it says so
abbrev pub HalfIs : Ram → HalfPlace → Type 0
HalfIs ram (half.In text p) = is_text ram p ≡ text
HalfIs ram (half.Faults cause tval) = Unit {0}
HalfIs ram (half.Stops stop) = Unit {0}

outside-is : (ram : Ram) (mode : Mode) (p : ℕ) → is_text ram p ≡ false → HalfIs ram (outside_text mode p)
outside-is ram Vs p e = tt
outside-is ram Vu p e = e

inside-is : (ram : Ram) (mode : Mode) (va p : ℕ) (b : Bool) → is_text ram p ≡ false → HalfIs ram (half_by mode va (if b then place.Ram p else place.AccessFault))
inside-is ram mode va p true e = outside-is ram mode p e
inside-is ram mode va p false e = tt

text-is : (ram : Ram) (mode : Mode) (va p : ℕ) (b : Bool) → is_text ram p ≡ b
    → HalfIs ram (half_by mode va (if b then place.Text p else if is_inside ram p then place.Ram p else place.AccessFault))
text-is ram mode va p true e = e
text-is ram mode va p false e = inside-is ram mode va p (is_inside ram p) e

walked-is : (ram : Ram) (mode : Mode) (va : ℕ) (w : Walked) → HalfIs ram (half_by mode va (resolve_walked ram w))
walked-is ram mode va (walk.At p) = text-is ram mode va p (is_text ram p) refl
walked-is ram mode va walk.PageFault = tt
walked-is ram mode va walk.AccessFault = tt
walked-is ram mode va walk.TableInText = tt

pub half-is : (v : Vcpu) (ram : Ram) (va : ℕ) → HalfIs ram (half_place v ram va)
unfolding half_place resolved
half-is v ram va = walked-is ram v.mode va (walked ram v.csr.satp (asked v.mode (is_set v.csr.sstatus 18) (is_set v.csr.sstatus 19) Fetch va))

-- the second halfword of a wide instruction in text stands in text behind the first
pub record IsBehind (ram : Ram) (p g : ℕ) : Type 0 where
  pub place : ℕ
  pub behind : place ≡ (p + 2) % 2 ^ 64
  pub text : is_text ram place ≡ true
  pub half : g ≡ half_at ram place

pub record IsLong (ram : Ram) (text : Bool) (p h g : ℕ) : Type 0 where
  pub text_is : is_text ram p ≡ text
  pub first : h ≡ half_at ram p
  pub wide : h % 4 ≡ 3
  pub second : text ≡ true → IsBehind ram p g

pub record IsShort (ram : Ram) (text : Bool) (p h : ℕ) : Type 0 where
  pub text_is : is_text ram p ≡ text
  pub first : h ≡ half_at ram p

abbrev pub HalvesAre : Ram → Fetched → Type 0
HalvesAre ram (Short text p h) = IsShort ram text p h
HalvesAre ram (Long text p h g) = IsLong ram text p h g
HalvesAre ram (Faults cause tval) = Unit {0}
HalvesAre ram (Stops stop) = Unit {0}

split-second : (ram : Ram) (text text2 : Bool) (p q : ℕ) → is_text ram q ≡ text2 → is_split text p text2 q ≡ false → text ≡ true → IsBehind ram p (half_at ram q)
split-second ram true true p q e s t = record { place = q; behind = grind (arith, nat_tests, s); text = e; half = refl }
split-second ram true false p q e s t = absurd (cc)
split-second ram false text2 p q e s t = absurd (cc)

long-by : (ram : Ram) (text text2 : Bool) (p q : ℕ) (b : Bool) → is_split text p text2 q ≡ b → is_text ram p ≡ text → is_text ram q ≡ text2 → half_at ram p % 4 ≡ 3
    → HalvesAre ram (if b then Stops Rattle.fc_numbers.specs.declared.machine.Stop.TheVariants.TextSplit else Long text p (half_at ram p) (half_at ram q))
long-by ram text text2 p q true s e e2 w = tt
long-by ram text text2 p q false s e e2 w = record { text_is = e; first = refl; wide = w; second = split-second ram text text2 p q e2 s }

second-is : (ram : Ram) (text : Bool) (p : ℕ) (h : HalfPlace) → is_text ram p ≡ text → HalfIs ram h → half_at ram p % 4 ≡ 3 → HalvesAre ram (with_second ram text p h)
second-is ram text p (half.Faults cause tval) e e2 w = tt
second-is ram text p (half.Stops stop) e e2 w = tt
second-is ram text p (half.In text2 q) e e2 w = long-by ram text text2 p q (is_split text p text2 q) refl e e2 w

length-is : (v : Vcpu) (ram : Ram) (text : Bool) (p : ℕ) (b : Bool) → (half_at ram p % 4 == 3) ≡ b → is_text ram p ≡ text
    → HalvesAre ram (if b then with_second ram text p (second_place v ram) else Short text p (half_at ram p))
length-is v ram text p true w e = second-is ram text p (second_place v ram) e (half-is v ram ((v.pc + 2) % 2 ^ 64)) (grind (arith, nat_tests, w))
length-is v ram text p false w e = record { text_is = e; first = refl }

first-is : (v : Vcpu) (ram : Ram) (h : HalfPlace) → HalfIs ram h → HalvesAre ram (with_first v ram h)
first-is v ram (half.Faults cause tval) e = tt
first-is v ram (half.Stops stop) e = tt
first-is v ram (half.In text p) e = length-is v ram text p (half_at ram p % 4 == 3) refl e

-- what a fetch comes to has the halfwords of the memory
pub fetched-halves : (v : Vcpu) (ram : Ram) → HalvesAre ram (fetched v ram)
unfolding fetched
fetched-halves v ram = first-is v ram (half_place v ram v.pc) (half-is v ram v.pc)

place-if : (ram : Ram) (text : Bool) (q p : ℕ) → is_text ram q ≡ text → Rattle.guest_board.specs.Fetch.place_if text q ≡ Some p → is_text ram p ≡ true
place-if ram true q p e h = let same : q ≡ p = cc in subst (λ x. is_text ram x ≡ true) same e
place-if ram false q p e h = absurd (cc)

-- a place that is fetched in text is in text
pub text_place-is : (ram : Ram) (got : Fetched) (p : ℕ) → HalvesAre ram got → text_place got ≡ Some p → is_text ram p ≡ true
text_place-is ram (Short text q h) p k e = place-if ram text q p k.text_is e
text_place-is ram (Long text q h g) p k e = place-if ram text q p k.text_is e
text_place-is ram (Faults cause tval) p k e = absurd (cc)
text_place-is ram (Stops stop) p k e = absurd (cc)
