-- The full kernel's run of a schedule: its memory has the kernel text, and its clock counts the steps.
use Rattle.std.proofs.Common.{◌≡◌, ℕ, ◌+◌, ◌-◌, ◌<◌, ◌≤◌, true, false, List, [], ◌∷◌, ◌++◌, length, refl, sym, ap, subst, ◌∙◌, arith, ◌⊎◌, inl, inr, get_or, length-append}
use Rattle.std.specs.Prelude.{Bool, replicate, ◌&&◌, ◌||◌, nat_le, nat_lt, slice_index_or}
use Rattle.std.specs.List.{list_all}
use Rattle.std.proofs.lemmas.List.{get_or_append_left}
use Rattle.std.proofs.lemmas.Bool.Decides.{nat_tests}
use Rattle.std.proofs.lemmas.Grind.{common_steps}
use Rattle.fc_numbers.specs.declared.places.Span.{Span}
use Rattle.fc_numbers.specs.declared.places.TheConstants.{RAM_START}
use Rattle.fc_numbers.specs.Spans.{AreRangesFrom, holds, in_text, place_in, size_of, text_size}
use Rattle.fc_numbers.proofs.TextLaws.{place_inside, places_above}
use Rattle.guest_input.specs.Text.{Range, bytes_of, span_of, spans_of}
use Rattle.guest_input.specs.Accepted.{AllParts, PartsEndBy, is_apart}
use Rattle.guest_ram.specs.Ram.{Ram, IsLaid, IsLawful as IsLawfulRam, is_text, placed, zero_ram}
use Rattle.guest_ram.proofs.Laws.{placed-text, placed_is_laid, length-placed, placed-within, placed-other, zero_ram_is_laid}
use Rattle.rv_step.specs.Kept.{KeepsText}
use Rattle.guest_board.specs.declared.rules.Rules.{Rules}
use Rattle.guest_board.specs.Board.{State, next_start, run_from, step_of}
use Rattle.guest_board.specs.First.{first_state, first_ram, with_parts, text_of, text_parts}
use Rattle.guest_board.specs.OpenFacts.{LieBelow}
use Rattle.guest_board.proofs.Parts.{lie_below}
use Rattle.run_evidence.specs.Config.{Config, IsConfig, full, image_groups, rules_in}
use Rattle.run_evidence.proofs.Steps.{step-is, step-keeps, step-laid, stepped-clock}
use Rattle.vcpu_core.specs.Rows.{StagesServe}
use Rattle.vcpu_core.specs.Stages.{IsStageFor}
use Rattle.vcpu_core.proofs.Truth.{HasText}

-- a memory after the data parts: laid as before, with the same text and the same bytes in it
record IsParted (ranges : List Span) (ram new : Ram) : Type 0 where
  pub laid : IsLaid new
  pub text : new.text ≡ ram.text
  pub bytes : (p : ℕ) → in_text ranges p ≡ true → get_or new.bytes (p - RAM_START) 0 ≡ get_or ram.bytes (p - RAM_START) 0

or-cases : (a b : Bool) → (a || b) ≡ true → (a ≡ true) ⊎ (b ≡ true)
or-cases true b e = inl refl
or-cases false b e = inr e

both : (a b : Bool) → (a && b) ≡ true → (a ≡ true) × (b ≡ true)
both true b e = (refl, e)
both false b e = absurd (cc)

-- a part that is apart from all ranges has no place of text
apart-place : (ranges : List Span) (part : ℕ × List ℕ) (p : ℕ) → list_all (is_apart part) ranges ≡ true → in_text ranges p ≡ true → (p < part.0) ⊎ (part.0 + length part.1 ≤ p)
apart-place [] part p all here = absurd (cc)
apart-place (s ∷ ss) part p all here =
    let each = both (is_apart part s) (list_all (is_apart part) ss) all in
    elim (or-cases (holds s p) (in_text ss p) here) [
      | inl e ↦ one s e each.0
      | inr e ↦ apart-place ss part p each.1 e
    ]
  where
    one : (s : Span) → holds s p ≡ true → is_apart part s ≡ true → (p < part.0) ⊎ (part.0 + length part.1 ≤ p)
    one s e apart =
        let low : s.start ≤ p = grind (arith, nat_tests, e) in
        let high : p < s.end = grind (arith, nat_tests, e) in
        elim (or-cases (nat_le (part.0 + length part.1) s.start) (nat_le s.end part.0) apart) [
          | inl below ↦ let under : part.0 + length part.1 ≤ s.start = grind (arith, nat_tests, below) in inr (omega (arith, under, low))
          | inr above ↦ let over : s.end ≤ part.0 = grind (arith, nat_tests, above) in inl (omega (arith, over, high))
        ]

apart-index : (p at n : ℕ) → RAM_START ≤ p → RAM_START ≤ at → (p < at) ⊎ (at + n ≤ p) → (p - RAM_START < at - RAM_START) ⊎ (at - RAM_START + n ≤ p - RAM_START)
apart-index p at n low low' (inl h) = inl (omega (arith, low, low', h))
apart-index p at n low low' (inr h) = inr (omega (arith, low, low', h))

parted : (ranges : List Span) (ram : Ram) (parts : List (ℕ × List ℕ)) → AreRangesFrom RAM_START ranges → IsLaid ram → AllParts ranges parts → PartsEndBy (RAM_START + length ram.bytes) parts
    → IsParted ranges ram (with_parts ram parts)
parted ranges ram [] k laid all ends = record { laid = laid; text = refl; bytes = λ p h. refl }
parted ranges ram (part ∷ parts) k laid all ends =
    let long : length (placed ram part.0 part.1).bytes ≡ length ram.bytes = length-placed ram part.0 part.1 all.0.low ends.0 in
    let next : IsLaid (placed ram part.0 part.1) = placed_is_laid ram part.0 part.1 all.0.low ends.0 laid in
    let rest : IsParted ranges (placed ram part.0 part.1) (with_parts (placed ram part.0 part.1) parts) =
    parted ranges (placed ram part.0 part.1) parts k next all.1 (subst (λ n. PartsEndBy (RAM_START + n) parts) (sym long) ends.1) in
    record {
      laid = rest.laid;
      text = rest.text ∙ placed-text ram part.0 part.1;
      bytes = λ p h. rest.bytes p h ∙ placed-other ram part.0 part.1 (p - RAM_START) all.0.low ends.0
          (apart-index p part.0 (length part.1) (places_above ranges RAM_START p k h) all.0.low (apart-place ranges part p all.0.apart h));
    }

-- a memory after the ranges of text from a place on: laid as before, the same below that place, and with the text
record IsTexted (ranges : List Range) (low : ℕ) (ram new : Ram) : Type 0 where
  pub laid : IsLaid new
  pub text : new.text ≡ ram.text
  pub long : length new.bytes ≡ length ram.bytes
  pub below : (p : ℕ) → RAM_START ≤ p → p < low → get_or new.bytes (p - RAM_START) 0 ≡ get_or ram.bytes (p - RAM_START) 0
  pub bytes : (k : ℕ) → k < length (bytes_of ranges) → get_or new.bytes (place_in (spans_of ranges) k - RAM_START) 0 ≡ get_or (bytes_of ranges) k 0

behind-at : (xs ys : List ℕ) (n : ℕ) → length xs ≤ n → get_or (xs ++ ys) n 0 ≡ get_or ys (n - length xs) 0
behind-at xs ys n over = grind (arith, common_steps, over)

texted : (ranges : List Range) (low : ℕ) (ram : Ram) → RAM_START ≤ low → AreRangesFrom low (spans_of ranges) → LieBelow (RAM_START + length ram.bytes) (spans_of ranges) → IsLaid ram
    → IsTexted ranges low ram (with_parts ram (text_parts ranges))
texted [] low ram above k lie laid = record { laid = laid; text = refl; long = refl; below = λ p a b. refl; bytes = λ n h. absurd (omega (arith, h)) }
texted (r ∷ rs) low ram above k lie laid =
    let from : RAM_START ≤ r.base = lie.0 in
    let high : r.base + length r.bytes ≤ RAM_START + length ram.bytes = lie.2 in
    let long : length (placed ram r.base r.bytes).bytes ≡ length ram.bytes = length-placed ram r.base r.bytes from high in
    let next : IsLaid (placed ram r.base r.bytes) = placed_is_laid ram r.base r.bytes from high laid in
    let size : size_of (span_of r) ≡ length r.bytes = omega arith in
    let rest : IsTexted rs (r.base + length r.bytes + 4096) (placed ram r.base r.bytes) (with_parts (placed ram r.base r.bytes) (text_parts rs)) =
    texted rs (r.base + length r.bytes + 4096) (placed ram r.base r.bytes) (omega (arith, from)) k.4 (subst (λ n. LieBelow (RAM_START + n) (spans_of rs)) (sym long) lie.3) next in
    record {
      laid = rest.laid;
      text = rest.text ∙ placed-text ram r.base r.bytes;
      long = rest.long ∙ long;
      below = λ p a b. rest.below p a (omega (arith, b, k.0)) ∙ placed-other ram r.base r.bytes (p - RAM_START) from high (inl (omega (arith, a, b, k.0, from)));
      bytes = λ n h. byte r rs low ram from high size rest n h;
    }
  where
    byte : (r : Range) (rs : List Range) (low : ℕ) (ram : Ram) (from : RAM_START ≤ r.base) (high : r.base + length r.bytes ≤ RAM_START + length ram.bytes) (size : size_of (span_of r) ≡ length r.bytes)
        (rest : IsTexted rs (r.base + length r.bytes + 4096) (placed ram r.base r.bytes) (with_parts (placed ram r.base r.bytes) (text_parts rs))) (n : ℕ) → n < length (bytes_of (r ∷ rs))
        → get_or (with_parts ram (text_parts (r ∷ rs))).bytes (place_in (spans_of (r ∷ rs)) n - RAM_START) 0 ≡ get_or (bytes_of (r ∷ rs)) n 0
    byte r rs low ram from high size rest n h =
        elim (nat_lt n (length r.bytes)) as (λ b. nat_lt n (length r.bytes) ≡ b → get_or (with_parts ram (text_parts (r ∷ rs))).bytes (place_in (spans_of (r ∷ rs)) n - RAM_START) 0 ≡ get_or (r.bytes ++ bytes_of rs) n 0) [
          | true ↦ λ t.
              let here : n < length r.bytes = grind (arith, nat_tests, t) in
              let test : nat_lt n (size_of (span_of r)) ≡ true = rw size t in
              let index : r.base + n - RAM_START ≡ r.base - RAM_START + n = omega (arith, from) in
              let kept : get_or (with_parts (placed ram r.base r.bytes) (text_parts rs)).bytes (r.base + n - RAM_START) 0 ≡ get_or (placed ram r.base r.bytes).bytes (r.base + n - RAM_START) 0 =
              rest.below (r.base + n) (omega (arith, from)) (omega (arith, here)) in
              let put : get_or (placed ram r.base r.bytes).bytes (r.base + n - RAM_START) 0 ≡ get_or r.bytes n 0 =
              ap (λ x. get_or (placed ram r.base r.bytes).bytes x 0) index ∙ placed-within ram r.base r.bytes n from high here in
              rw test (kept ∙ put ∙ sym (get_or_append_left r.bytes (bytes_of rs) 0 n here))
          | false ↦ λ t.
              let over : length r.bytes ≤ n = grind (arith, nat_tests, t) in
              let test : nat_lt n (size_of (span_of r)) ≡ false = rw size t in
              let all : length (bytes_of (r ∷ rs)) ≡ length r.bytes + length (bytes_of rs) = length-append r.bytes (bytes_of rs) in
              let more : n - length r.bytes < length (bytes_of rs) = omega (arith, h, all, over) in
              let behind : get_or (r.bytes ++ bytes_of rs) n 0 ≡ get_or (bytes_of rs) (n - length r.bytes) 0 = behind-at r.bytes (bytes_of rs) n over in
              rw (test, size) (rest.bytes (n - length r.bytes) more ∙ sym behind)
        ] refl

lawful-text : (c : Config) → IsConfig c → IsLawfulRam c.setup.ram (text_of c.image)
lawful-text c ok = record {
  least = ok.setup.setup.ram_some;
  most = ok.setup.setup.ram_most;
  pages = ok.setup.setup.ram_whole;
  text = ok.setup.text;
}

zeros-long : (n : ℕ) → length {A = ℕ} (replicate n 0) ≡ n
zeros-long n = grind (arith, common_steps)

pub first-memory : (c : Config) → IsConfig c → IsLaid (first_ram c.image c.setup.ram) × HasText (first_ram c.image c.setup.ram) (spans_of c.image.ranges) (bytes_of c.image.ranges)
unfolding first_ram
first-memory c ok =
    let laid : IsLaid (zero_ram c.setup.ram (text_of c.image)) = zero_ram_is_laid c.setup.ram (text_of c.image) (lawful-text c ok) in
    let long : length (zero_ram c.setup.ram (text_of c.image)).bytes ≡ c.setup.ram = zeros-long c.setup.ram in
    let lie : LieBelow (RAM_START + c.setup.ram) (spans_of c.image.ranges) =
    lie_below RAM_START (RAM_START + c.setup.ram) (spans_of c.image.ranges) (omega arith) ok.setup.text.ranges ok.setup.text.high in
    let text : IsTexted c.image.ranges RAM_START (zero_ram c.setup.ram (text_of c.image)) (with_parts (zero_ram c.setup.ram (text_of c.image)) (text_parts c.image.ranges)) =
    texted c.image.ranges RAM_START (zero_ram c.setup.ram (text_of c.image)) (omega arith) ok.setup.text.ranges (subst (λ n. LieBelow (RAM_START + n) (spans_of c.image.ranges)) (sym long) lie) laid in
    let done : IsParted (spans_of c.image.ranges) (with_parts (zero_ram c.setup.ram (text_of c.image)) (text_parts c.image.ranges))
    (with_parts (with_parts (zero_ram c.setup.ram (text_of c.image)) (text_parts c.image.ranges)) c.image.parts) =
    parted (spans_of c.image.ranges) (with_parts (zero_ram c.setup.ram (text_of c.image)) (text_parts c.image.ranges)) c.image.parts ok.setup.text.ranges text.laid ok.image.parts
    (subst (λ n. PartsEndBy (RAM_START + n) c.image.parts) (sym (text.long ∙ long)) ok.setup.parts) in (
      done.laid,
      record {
        same = done.text ∙ text.text;
        below = ok.image.text.below;
        long = ok.image.text.long;
        bytes = λ k h. done.bytes (place_in (spans_of c.image.ranges) k) (place_inside (spans_of c.image.ranges) RAM_START k ok.setup.text.ranges (omega (arith, h, ok.image.text.long))) ∙ text.bytes k h;
      },
    )

-- the same text in a memory after a step
has-text-kept : (old new : Ram) (ranges : List Span) (text : List ℕ) → KeepsText old new → HasText old ranges text → HasText new ranges text
has-text-kept old new ranges text kept k = record {
  same = kept.text ∙ k.same;
  below = k.below;
  long = k.long;
  bytes = λ n h.
      let within : n < text_size ranges = omega (arith, k.long, h) in
      let inside : is_text old (place_in ranges n) ≡ true = subst (λ t. in_text t (place_in ranges n) ≡ true) (sym k.same) (place_inside ranges RAM_START n k.below.ranges within) in
      kept.bytes (place_in ranges n) inside ∙ k.bytes n h;
}

-- the memory is laid lawfully, and has this text
pub record IsTextedRam (ram : Ram) (ranges : List Span) (text : List ℕ) : Type 0 where
  pub laid : IsLaid ram
  pub has : HasText ram ranges text

run-texted : (rules : Rules) (s : State) (schedule : List ℕ) (ranges : List Span) (text : List ℕ) → IsTextedRam s.ram ranges text → IsTextedRam (run_from rules s schedule).ram ranges text
run-texted rules s [] ranges text k = k
run-texted rules s (i ∷ is) ranges text k =
    run-texted rules (step_of rules s i) is ranges text (record {
      laid = step-laid rules s i k.laid;
      has = has-text-kept s.ram (step_of rules s i).ram ranges text (step-keeps rules s i k.laid) k.has;
    })

first-texted : (c : Config) → IsConfig c → IsTextedRam (first_state c.image c.setup).ram (image_groups c).text (bytes_of c.image.ranges)
unfolding first_state
first-texted c ok = record { laid = (first-memory c ok).0; has = (first-memory c ok).1 }

-- after any schedule
pub full-texted : (c : Config) (schedule : List ℕ) → IsConfig c → IsTextedRam (full c schedule).ram (image_groups c).text (bytes_of c.image.ranges)
full-texted c schedule ok = run-texted (rules_in c) (first_state c.image c.setup) schedule (image_groups c).text (bytes_of c.image.ranges) (first-texted c ok)

run-clock : (rules : Rules) (s : State) (schedule : List ℕ) → (run_from rules s schedule).clock ≡ s.clock + length schedule
run-clock rules s [] = omega arith
run-clock rules s (i ∷ is) =
    let one : (step_of rules s i).clock ≡ s.clock + 1 = ap (λ (x : State). x.clock) (step-is rules s i) ∙ stepped-clock rules s i (next_start s i) in
    let rest : (run_from rules (step_of rules s i) is).clock ≡ (step_of rules s i).clock + length is = run-clock rules (step_of rules s i) is in
    omega (arith, one, rest)

first-clock : (c : Config) → (first_state c.image c.setup).clock ≡ 0
unfolding first_state
first-clock c = refl

pub full-clock : (c : Config) (schedule : List ℕ) → (full c schedule).clock ≡ length schedule
full-clock c schedule =
    let run : (full c schedule).clock ≡ (first_state c.image c.setup).clock + length schedule = run-clock (rules_in c) (first_state c.image c.setup) schedule in
    omega (arith, run, first-clock c)

-- a run keeps the size of memory
run-size : (rules : Rules) (s : State) (schedule : List ℕ) → IsLaid s.ram → length (run_from rules s schedule).ram.bytes ≡ length s.ram.bytes
run-size rules s [] laid = refl
run-size rules s (i ∷ is) laid = run-size rules (step_of rules s i) is (step-laid rules s i laid) ∙ (step-keeps rules s i laid).size

pub full-size : (c : Config) (schedule : List ℕ) → IsConfig c → length (full c schedule).ram.bytes ≡ length (first_state c.image c.setup).ram.bytes
full-size c schedule ok = run-size (rules_in c) (first_state c.image c.setup) schedule (first-texted c ok).laid

pub stages_serve : StagesServe
stages_serve c schedule later views stages ok all =
    let text : (full c schedule).ram.text ≡ (full c later).ram.text = (full-texted c schedule ok).has.same ∙ sym (full-texted c later ok).has.same in
    let size : length (full c schedule).ram.bytes ≡ length (full c later).ram.bytes = full-size c schedule ok ∙ sym (full-size c later ok) in
    record {
      count = all.count;
      each = λ v d h.
          let one : IsStageFor (full c schedule).ram v (slice_index_or stages v d) = all.each v d h in
          record { of_view = one.of_view; placing = record { same_text = one.placing.same_text ∙ text; start = one.placing.start; end = rw (← size) one.placing.end } };
    }
