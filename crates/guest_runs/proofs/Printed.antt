-- What a justified entry names lies in text.
use Rattle.std.proofs.Common.{◌≡◌, ℕ, zero, suc, ◌-◌, ◌%◌, true, false, Option, Some, None, List, [], ◌∷◌, length, arith, refl, ◌∙◌, sym, subst}
use Rattle.std.specs.Prelude.{All, ◌==◌, nat_lt, if◌then◌else◌, slice_index_or, take, option_and_then}
use Rattle.std.specs.Option.{option_to_list}
use Rattle.std.proofs.lemmas.List.Elements.{All-append, All-cons}
use Rattle.fc_numbers.specs.declared.machine.Mode.{Mode}
use Rattle.fc_numbers.specs.declared.machine.Access.TheVariants.{Fetch}
use Rattle.fc_numbers.specs.Numbers.{get_reg}
use Rattle.function_table.specs.Groups.{in_groups_text}
use Rattle.function_table.proofs.GroupLemmas.{group-below}
use Rattle.guest_ram.specs.Ram.{Ram, is_text}
use Rattle.rv_csr.specs.Csrs.{Csrs}
use Rattle.chain_log.specs.declared.entry.LogEntry.{LogEntry}
use Rattle.chain_log.specs.declared.entry.TheConstants.{CHAIN_MOST}
use Rattle.chain_log.specs.declared.chain.Frame.{Frame}
use Rattle.fc_numbers.specs.declared.regs.TheConstants.{RA, FP}
use Rattle.chain_log.specs.Chain.{chain_of, frame_places_from, places_of, frame_at, by_words, framed, doubleword_at, address_below, code_at}
use Rattle.sv39_walk.specs.Walk.{place_for}
use Rattle.guest_board.specs.Board.{State, vcpu_of}
use Rattle.run_evidence.proofs.Steps.{next-text}
use Rattle.run_evidence.specs.Config.{Config, IsConfig, image_groups, full, full_at}
use Rattle.run_evidence.specs.Evidence.{IsJustified, AllJustified, chain_in}
use Rattle.vcpu_core.proofs.Run.{full-texted}
use Rattle.guest_runs.specs.Log.{IsPrintable}

module _ {A : Type 0} (P : A → Type 0) where
  all-none : All P []
  all-none k d within = absurd (omega (arith, within))

-- a place of an option that is in text wherever there is one
abbrev IsInside : Ram → Option ℕ → Type 0
IsInside ram o = (p : ℕ) → o ≡ Some p → is_text ram p ≡ true

abbrev IsFrameInside : Ram → Option Frame → Type 0
IsFrameInside ram o = (f : Frame) → o ≡ Some f → is_text ram f.place ≡ true

code-inside : (ram : Ram) (csr : Csrs) (mode : Mode) (va : ℕ) → IsInside ram (code_at ram csr mode va)
unfolding code_at
code-inside ram csr mode va = inside (place_for ram csr mode Fetch va)
  where
    inside : (o : Option ℕ) → IsInside ram (option_and_then (λ place. if is_text ram place then Some place else None) o)
    inside None p e = absurd (cc e)
    inside (Some q) p e =
        elim (is_text ram q) as (λ b. is_text ram q ≡ b → (if b then Some q else None) ≡ Some p → is_text ram p ≡ true) [
          | true ↦ λ t h. subst (λ x. is_text ram x ≡ true) (cc h) t
          | false ↦ λ t h. absurd (cc h)
        ] refl e

framed-inside : (ram : Ram) (up : ℕ) (o : Option ℕ) → IsInside ram o → IsFrameInside ram (framed up o)
framed-inside ram up None k f e = absurd (cc e)
framed-inside ram up (Some p) k f e = let same : p ≡ f.place = cc e in subst (λ x. is_text ram x ≡ true) same (k p refl)

words-inside : (ram : Ram) (csr : Csrs) (mode : Mode) (ra up : Option ℕ) → IsFrameInside ram (by_words ram csr mode ra up)
words-inside ram csr mode None up f e = absurd (cc e)
words-inside ram csr mode (Some ra) None f e = absurd (cc e)
words-inside ram csr mode (Some ra) (Some up) f e = framed-inside ram up (code_at ram csr mode ra) (code-inside ram csr mode ra) f e

frame-inside : (ram : Ram) (csr : Csrs) (mode : Mode) (f : ℕ) → IsFrameInside ram (frame_at ram csr mode f)
unfolding frame_at
frame-inside ram csr mode f =
    elim (f % 8 == 0) as (λ b. IsFrameInside ram (if b then by_words ram csr mode (doubleword_at ram csr mode (address_below f 8)) (doubleword_at ram csr mode (address_below f 16)) else None)) [
      | true ↦ words-inside ram csr mode (doubleword_at ram csr mode (address_below f 8)) (doubleword_at ram csr mode (address_below f 16))
      | false ↦ λ g e. absurd (cc e)
    ]

-- the places of frames, and of a whole chain
places-inside : (ram : Ram) (f : ℕ) (rest : ℕ → List ℕ) (o : Option Frame) → IsFrameInside ram o → ((up : ℕ) → All (λ p. is_text ram p ≡ true) (rest up))
    → All (λ p. is_text ram p ≡ true) (places_of f rest o)
places-inside ram f rest None k more = all-none (λ p. is_text ram p ≡ true)
places-inside ram f rest (Some frame) k more =
    All-cons (λ p. is_text ram p ≡ true) frame.place (if nat_lt f frame.up then rest frame.up else []) (k frame refl)
    (elim (nat_lt f frame.up) as (λ b. All (λ p. is_text ram p ≡ true) (if b then rest frame.up else [])) [
      | true ↦ more frame.up
      | false ↦ all-none (λ p. is_text ram p ≡ true)
    ])

frames-inside : (ram : Ram) (csr : Csrs) (mode : Mode) (n f : ℕ) → All (λ p. is_text ram p ≡ true) (frame_places_from ram csr mode n f)
unfolding frame_places_from
frames-inside ram csr mode zero f = all-none (λ p. is_text ram p ≡ true)
frames-inside ram csr mode (suc n) f = places-inside ram f (frame_places_from ram csr mode n) (frame_at ram csr mode f) (frame-inside ram csr mode f) (frames-inside ram csr mode n)

first-inside : (ram : Ram) (o : Option ℕ) → IsInside ram o → All (λ p. is_text ram p ≡ true) (option_to_list o)
first-inside ram None k = all-none (λ p. is_text ram p ≡ true)
first-inside ram (Some p) k = All-cons (λ p. is_text ram p ≡ true) p [] (k p refl) (all-none (λ p. is_text ram p ≡ true))

chain-inside : (ram : Ram) (csr : Csrs) (mode : Mode) (regs : List ℕ) → All (λ p. is_text ram p ≡ true) (chain_of ram csr mode regs)
unfolding chain_of
chain-inside ram csr mode regs =
    All-append (λ p. is_text ram p ≡ true) (option_to_list (code_at ram csr mode (get_reg regs RA))) _
    (first-inside ram (code_at ram csr mode (get_reg regs RA)) (code-inside ram csr mode (get_reg regs RA)))
    (frames-inside ram csr mode (CHAIN_MOST - length (option_to_list (code_at ram csr mode (get_reg regs RA)))) (get_reg regs FP))

-- a place is in the memory's text where it is in the text's groups, in every state of a run
pub text-of-run : (c : Config) → IsConfig c → (schedule : List ℕ) (p : ℕ) → is_text (full c schedule).ram p ≡ in_groups_text (image_groups c) p
text-of-run c ok schedule p = rw ((full-texted c schedule ok).has.same) refl

printed-one : (c : Config) → IsConfig c → (schedule : List ℕ) (e : LogEntry) → IsJustified c schedule e → IsPrintable (image_groups c) e
printed-one c ok schedule e j =
    let s : State = full_at c schedule e.at in
    let same : (p : ℕ) → is_text s.ram p ≡ in_groups_text (image_groups c) p = text-of-run c ok (take e.at schedule) in
    let chain : All (λ p. is_text s.ram p ≡ true) (chain_in s e.vcpu) = chain-inside s.ram (vcpu_of s e.vcpu).csr (vcpu_of s e.vcpu).mode (vcpu_of s e.vcpu).regs in
    record {
      group = rw j.group (group-below (image_groups c) e.pc);
      pc = sym (same e.pc) ∙ next-text s e.vcpu e.pc j.next;
      chain = rw j.chain (λ k d within. sym (same (slice_index_or (chain_in s e.vcpu) k d)) ∙ chain k d within);
    }

pub printed : (c : Config) → IsConfig c → (schedule : List ℕ) (log : List LogEntry) → AllJustified c schedule log → All (IsPrintable (image_groups c)) log
printed c ok schedule [] all = all-none (IsPrintable (image_groups c))
printed c ok schedule (e ∷ es) all = All-cons (IsPrintable (image_groups c)) e es (printed-one c ok schedule e all.0) (printed c ok schedule es all.1)
