-- A place that an address leads to is in RAM and has the address's low 12 bits.
use Rattle.std.proofs.Common.{◌≡◌, ℕ, ◌%◌, Bool, true, false, if◌then◌else◌, List, arith, refl, subst}
use Rattle.std.proofs.lemmas.Bool.Decides.{nat_tests}
use Rattle.fc_numbers.specs.declared.machine.Access.{Access}
use Rattle.fc_numbers.specs.declared.places.Span.{Span}
use Rattle.fc_numbers.specs.Spans.{in_text}
use Rattle.fc_numbers.proofs.TextLaws.{places_above}
use Rattle.gstage.specs.declared.stage.Placed.TheVariants as placed_in
use Rattle.gstage.specs.Stage.{IsFor, in_span, placed_among}
use Rattle.guest_ram.specs.Ram.{Ram, is_inside, is_text, IsLaid}
use Rattle.sv39_walk.specs.declared.Walked.{Walked}
use Rattle.sv39_walk.specs.declared.Walked.TheVariants.{At, PageFault, AccessFault, TableInText}
use Rattle.sv39_walk.specs.Walk.{asked, walked_for, KeepsLow}
use Rattle.sv39_walk.proofs.LowBits.{low_walked}
use Rattle.rv_csr.specs.Csr.{is_set}
use Rattle.rv_csr.specs.declared.TheConstants.{MXR_BIT, SUM_BIT}
use Rattle.rv_step.specs.declared.vcpu.Vcpu.{Vcpu}
use Rattle.rv_step.specs.declared.resolve.Resolved.TheVariants as place
use Rattle.rv_step.specs.Site.{resolved, resolve_walked, IsPlaced}

pub text_is_inside : (ram : Ram) (p : ℕ) → IsLaid ram → is_text ram p ≡ true → is_inside ram p ≡ true
text_is_inside ram p laid text =
    let low = places_above ram.text 2147483648 p laid.lawful.text.ranges text in
    let high = laid.lawful.text.high p text in
    grind (arith, nat_tests, low, high)

placed_text : (text : List Span) (span : Span) (p : ℕ) (b : Bool) → in_text text p ≡ b → placed_in.Text ≡ (if b then placed_in.Text else if in_span span p then placed_in.Ram else placed_in.Outside) → b ≡ true
placed_text text span p true inside is = refl
placed_text text span p false outside is =
    elim (in_span span p) as (λ b. placed_in.Text ≡ (if b then placed_in.Ram else placed_in.Outside) → false ≡ true) [
      | true ↦ λ h. absurd (cc)
      | false ↦ λ h. absurd (cc)
    ] is

-- a place that a stage of this memory finds in text is in the text of the memory
pub text_found : {text : List Span} {span : Span} (ram : Ram) (p : ℕ) → IsFor text span ram → placed_in.Text ≡ placed_among text span p → is_text ram p ≡ true
text_found {text = text} {span = span} ram p stage is =
    subst (λ (ss : List Span). in_text ss p ≡ true) stage.same_text (placed_text text span p (in_text text p) refl is)

choice_is_placed : (ram : Ram) (va p : ℕ) (text inside : Bool) → IsLaid ram → is_text ram p ≡ text → is_inside ram p ≡ inside → p % 4096 ≡ va % 4096 → IsPlaced ram va (if text then place.Text p else if inside then place.Ram p else place.AccessFault)
choice_is_placed ram va p true inside laid t i low = (text_is_inside ram p laid t, t, low)
choice_is_placed ram va p false true laid t i low = (i, t, low)
choice_is_placed ram va p false false laid t i low = tt

walked_is_placed : (ram : Ram) (va : ℕ) (w : Walked) → IsLaid ram → KeepsLow va w → IsPlaced ram va (resolve_walked ram w)
walked_is_placed ram va (At p) laid low = choice_is_placed ram va p (is_text ram p) (is_inside ram p) laid refl refl low
walked_is_placed ram va PageFault laid low = tt
walked_is_placed ram va AccessFault laid low = tt
walked_is_placed ram va TableInText laid low = tt

pub resolved_is_placed : (v : Vcpu) (ram : Ram) (access : Access) (va : ℕ) → IsLaid ram → IsPlaced ram va (resolved v ram access va)
unfolding resolved
resolved_is_placed v ram access va laid =
    walked_is_placed ram va (walked_for ram v.csr v.mode access va) laid
    (low_walked ram v.csr.satp (asked v.mode (is_set v.csr.sstatus SUM_BIT) (is_set v.csr.sstatus MXR_BIT) access va))
