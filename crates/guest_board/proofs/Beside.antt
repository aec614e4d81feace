-- Halfwords of one page lie beside each other: what is found for the first tells where the second is.
use Rattle.std.proofs.Common.{◌≡◌, ℕ, ◌+◌, ◌-◌, ◌%◌, ◌^◌, ◌<◌, ◌≤◌, Bool, true, false, List, [], ◌∷◌, length, refl, sym, ap, subst, ◌∙◌, arith}
use Rattle.std.specs.Prelude.{nat_le, nat_lt, if◌then◌else◌}
use Rattle.std.proofs.lemmas.Bool.Decides.{nat_tests}
use Rattle.fc_numbers.specs.declared.machine.Access.TheVariants.{Fetch}
use Rattle.fc_numbers.specs.declared.machine.Mode.{Mode}
use Rattle.fc_numbers.specs.declared.machine.Mode.TheVariants.{Vu, Vs}
use Rattle.fc_numbers.specs.declared.places.Span.{Span}
use Rattle.fc_numbers.specs.declared.places.TheConstants.{RAM_START}
use Rattle.fc_numbers.specs.Spans.{AreRangesFrom, in_text}
use Rattle.guest_ram.specs.Ram.{IsLaid, Ram, is_inside, is_text}
use Rattle.rv_csr.specs.Csr.{is_set}
use Rattle.rv_csr.specs.declared.TheConstants.{MXR_BIT, SUM_BIT}
use Rattle.sv39_walk.specs.declared.Walked.{Walked}
use Rattle.sv39_walk.specs.declared.Walked.TheVariants as walk
use Rattle.sv39_walk.specs.Laws.{TranslationsGoByPage, TranslationsKeepLowBits}
use Rattle.sv39_walk.specs.Page.{in_page, page_start}
use Rattle.sv39_walk.specs.Walk.{KeepsLow, asked, walked}
use Rattle.rv_step.specs.declared.vcpu.Vcpu.{Vcpu}
use Rattle.rv_step.specs.declared.resolve.Resolved.TheVariants as place
use Rattle.rv_step.specs.Site.{resolve_walked, resolved}
use Rattle.guest_board.specs.declared.fetch.HalfPlace.TheVariants as half
use Rattle.guest_board.specs.Fetch.{half_by, half_place, outside_text, second_place}
use Rattle.guest_board.specs.FetchFacts.{HalfInside}

-- where a page begins, both halfwords are above or neither is
same_above : (start p : ℕ) → start % 4096 ≡ 0 → p % 4096 < 4094 → nat_le start (p + 2) ≡ nat_le start p
same_above start p whole few =
    elim (nat_le start p) as (λ b. nat_le start p ≡ b → nat_le start (p + 2) ≡ b) [
      | true ↦ λ t. grind (arith, nat_tests, t)
      | false ↦ λ t. (let less : p < start = grind (arith, nat_tests, t) in let more : p + 2 < start = omega (arith, whole, few, less) in grind (arith, nat_tests, more))
    ] refl

same_below : (end p : ℕ) → end % 4096 ≡ 0 → p % 4096 < 4094 → nat_lt (p + 2) end ≡ nat_lt p end
same_below end p whole few =
    elim (nat_lt p end) as (λ b. nat_lt p end ≡ b → nat_lt (p + 2) end ≡ b) [
      | true ↦ λ t. (let less : p < end = grind (arith, nat_tests, t) in let more : p + 2 < end = omega (arith, whole, few, less) in grind (arith, nat_tests, more))
      | false ↦ λ t. grind (arith, nat_tests, t)
    ] refl

same_text : (ss : List Span) (low p : ℕ) → AreRangesFrom low ss → p % 4096 < 4094 → in_text ss (p + 2) ≡ in_text ss p
same_text [] low p ranges few = refl
same_text (s ∷ ss) low p ranges few =
    rw (same_above s.start p ranges.2 few, same_below s.end p ranges.3 few, same_text ss (s.end + 4096) p ranges.4 few) refl

same_inside : (ram : Ram) (p : ℕ) → IsLaid ram → p % 4096 < 4094 → is_inside ram p ≡ true → is_inside ram (p + 2) ≡ true
same_inside ram p laid few inside =
    let low : RAM_START ≤ p = grind (arith, nat_tests, inside) in
    let high : p - RAM_START < length ram.bytes = grind (arith, nat_tests, inside) in
    let more : p + 2 - RAM_START < length ram.bytes = omega (arith, low, high, few, laid.lawful.pages) in
    grind (arith, nat_tests, low, more)

-- the place of a halfword that is found is the place of the translation
place_outside : (mode : Mode) (q p : ℕ) (text : Bool) → outside_text mode q ≡ half.In text p → q ≡ p
place_outside Vs q p text e = absurd (cc)
place_outside Vu q p text e = cc

place_inside : (mode : Mode) (va q p : ℕ) (text b : Bool) → half_by mode va (if b then place.Ram q else place.AccessFault) ≡ half.In text p → q ≡ p
place_inside mode va q p text true e = place_outside mode q p text e
place_inside mode va q p text false e = absurd (cc)

place_by : (ram : Ram) (mode : Mode) (va q p : ℕ) (text b : Bool) → half_by mode va (if b then place.Text q else if is_inside ram q then place.Ram q else place.AccessFault) ≡ half.In text p → q ≡ p
place_by ram mode va q p text true e = cc
place_by ram mode va q p text false e = place_inside mode va q p text (is_inside ram q) e

low_found : (ram : Ram) (mode : Mode) (va p : ℕ) (w : Walked) (text : Bool) → KeepsLow va w → half_by mode va (resolve_walked ram w) ≡ half.In text p → p % 4096 ≡ va % 4096
low_found ram mode va p (walk.At q) text low e = subst (λ (n : ℕ). n % 4096 ≡ va % 4096) (place_by ram mode va q p text (is_text ram q) e) low
low_found ram mode va p walk.PageFault text low e = absurd (cc)
low_found ram mode va p walk.AccessFault text low e = absurd (cc)
low_found ram mode va p walk.TableInText text low e = absurd (cc)

-- a place that is found gives the place beside it
next_outside : (mode : Mode) (q p : ℕ) (text : Bool) → outside_text mode q ≡ half.In text p → outside_text mode (q + 2) ≡ half.In text (p + 2)
next_outside Vs q p text e = absurd (cc)
next_outside Vu q p text e = let same : q ≡ p = cc in let is : false ≡ text = cc in subst (λ (b : Bool). half.In false (q + 2) ≡ half.In b (p + 2)) is (ap (λ (n : ℕ). half.In false (n + 2)) same)

next_inside : (ram : Ram) (mode : Mode) (va vb q p : ℕ) (text b : Bool) → IsLaid ram → q % 4096 < 4094 → is_inside ram q ≡ b
    → half_by mode va (if b then place.Ram q else place.AccessFault) ≡ half.In text p
    → half_by mode vb (if is_inside ram (q + 2) then place.Ram (q + 2) else place.AccessFault) ≡ half.In text (p + 2)
next_inside ram mode va vb q p text true laid few t e = rw (same_inside ram q laid few t) (next_outside mode q p text e)
next_inside ram mode va vb q p text false laid few t e = absurd (cc)

next_by : (ram : Ram) (mode : Mode) (va vb q p : ℕ) (text b : Bool) → IsLaid ram → q % 4096 < 4094
    → half_by mode va (if b then place.Text q else if is_inside ram q then place.Ram q else place.AccessFault) ≡ half.In text p
    → half_by mode vb (if b then place.Text (q + 2) else if is_inside ram (q + 2) then place.Ram (q + 2) else place.AccessFault) ≡ half.In text (p + 2)
next_by ram mode va vb q p text true laid few e = let same : q ≡ p = cc in let is : true ≡ text = cc in subst (λ (b : Bool). half.In true (q + 2) ≡ half.In b (p + 2)) is (ap (λ (n : ℕ). half.In true (n + 2)) same)
next_by ram mode va vb q p text false laid few e = next_inside ram mode va vb q p text (is_inside ram q) laid few refl e

next_at : (ram : Ram) (mode : Mode) (va vb q p : ℕ) (text : Bool) → IsLaid ram → q % 4096 < 4094
    → half_by mode va (resolve_walked ram (walk.At q)) ≡ half.In text p → half_by mode vb (resolve_walked ram (walk.At (q + 2))) ≡ half.In text (p + 2)
next_at ram mode va vb q p text laid few e =
    subst (λ (b : Bool). half_by mode vb (if b then place.Text (q + 2) else if is_inside ram (q + 2) then place.Ram (q + 2) else place.AccessFault) ≡ half.In text (p + 2))
    (sym (same_text ram.text RAM_START q laid.lawful.text.ranges few)) (next_by ram mode va vb q p text (is_text ram q) laid few e)

next_walked : (ram : Ram) (mode : Mode) (va vb offset p : ℕ) (w : Walked) (text : Bool) → IsLaid ram → KeepsLow va (in_page w offset) → va % 4096 < 4094
    → half_by mode va (resolve_walked ram (in_page w offset)) ≡ half.In text p → half_by mode vb (resolve_walked ram (in_page w (offset + 2))) ≡ half.In text (p + 2)
next_walked ram mode va vb offset p (walk.At q) text laid low few e =
    let same : q + offset + 2 ≡ q + (offset + 2) = omega arith in
    subst (λ (n : ℕ). half_by mode vb (resolve_walked ram (walk.At n)) ≡ half.In text (p + 2)) same
    (next_at ram mode va vb (q + offset) p text laid (omega (arith, low, few)) e)
next_walked ram mode va vb offset p walk.PageFault text laid low few e = absurd (cc)
next_walked ram mode va vb offset p walk.AccessFault text laid low few e = absurd (cc)
next_walked ram mode va vb offset p walk.TableInText text laid low few e = absurd (cc)

-- on the page of the first halfword the second is found beside it
pub beside : (v : Vcpu) (ram : Ram) (p : ℕ) (text : Bool) → TranslationsGoByPage → TranslationsKeepLowBits → IsLaid ram → v.pc % 4096 < 4094 → v.pc < 2 ^ 64
    → half_place v ram v.pc ≡ half.In text p → second_place v ram ≡ half.In text (p + 2)
unfolding half_place resolved
beside v ram p text by_page low_bits laid few small e =
    let sum = is_set v.csr.sstatus SUM_BIT in
    let mxr = is_set v.csr.sstatus MXR_BIT in
    let first = walked ram v.csr.satp (asked v.mode sum mxr Fetch (page_start v.pc)) in
    let here : walked ram v.csr.satp (asked v.mode sum mxr Fetch v.pc) ≡ in_page first (v.pc % 4096) = by_page ram v.csr.satp v.mode sum mxr Fetch v.pc in
    let next : v.pc + 2 ≡ (v.pc + 2) % 2 ^ 64 = omega (arith, few, small) in
    let one : page_start (v.pc + 2) ≡ page_start v.pc = omega (arith, few) in
    let on : (v.pc + 2) % 4096 ≡ v.pc % 4096 + 2 = omega (arith, few) in
    let there : walked ram v.csr.satp (asked v.mode sum mxr Fetch (v.pc + 2)) ≡ in_page first (v.pc % 4096 + 2) =
    by_page ram v.csr.satp v.mode sum mxr Fetch (v.pc + 2)
    ∙ ap (λ (n : ℕ). in_page (walked ram v.csr.satp (asked v.mode sum mxr Fetch n)) ((v.pc + 2) % 4096)) one
    ∙ ap (λ (n : ℕ). in_page first n) on in
    let low : KeepsLow v.pc (in_page first (v.pc % 4096)) = subst (λ (w : Walked). KeepsLow v.pc w) here (low_bits ram v.csr.satp (asked v.mode sum mxr Fetch v.pc)) in
    let found : half_by v.mode v.pc (resolve_walked ram (in_page first (v.pc % 4096))) ≡ half.In text p = subst (λ (w : Walked). half_by v.mode v.pc (resolve_walked ram w) ≡ half.In text p) here e in
    let behind : half_by v.mode (v.pc + 2) (resolve_walked ram (walked ram v.csr.satp (asked v.mode sum mxr Fetch (v.pc + 2)))) ≡ half.In text (p + 2) =
    subst (λ (w : Walked). half_by v.mode (v.pc + 2) (resolve_walked ram w) ≡ half.In text (p + 2)) (sym there)
    (next_walked ram v.mode v.pc (v.pc + 2) (v.pc % 4096) p first text laid low few found) in
    subst (λ (n : ℕ). half_by v.mode n (resolve_walked ram (walked ram v.csr.satp (asked v.mode sum mxr Fetch n))) ≡ half.In text (p + 2)) next behind

-- and it lies in RAM, in text as the first does
pub beside_inside : (v : Vcpu) (ram : Ram) (p : ℕ) (text : Bool) → TranslationsKeepLowBits → IsLaid ram → v.pc % 4096 < 4094
    → half_place v ram v.pc ≡ half.In text p → HalfInside ram (half.In text p) → HalfInside ram (half.In text (p + 2))
unfolding half_place resolved
beside_inside v ram p text low_bits laid few e inside =
    let q = asked v.mode (is_set v.csr.sstatus SUM_BIT) (is_set v.csr.sstatus MXR_BIT) Fetch v.pc in
    let low : p % 4096 ≡ v.pc % 4096 = low_found ram v.mode v.pc p (walked ram v.csr.satp q) text (low_bits ram v.csr.satp q) e in
    let near : p % 4096 < 4094 = omega (arith, low, few) in
    (same_inside ram p laid near inside.0, same_text ram.text RAM_START p laid.lawful.text.ranges near ∙ inside.1)
