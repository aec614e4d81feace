-- Memory in which the entries of a walk are the same has the same walk.
use Rattle.std.proofs.Common.{◌≡◌, ℕ, zero, suc, ◌-◌, ◌*◌, ◌%◌, ◌==◌, true, false, if◌then◌else◌, [], ◌∷◌, length, refl, sym, ap, ◌∙◌, arith}
use Rattle.std.specs.Prelude.{All, ◌&&◌, nat_le, nat_lt}
use Rattle.std.proofs.lemmas.List.Elements.{All-head, All-tail}
use Rattle.std.proofs.lemmas.Grind.{common_steps}
use Rattle.fc_numbers.specs.declared.machine.Width.TheVariants.{Doubleword}
use Rattle.guest_ram.specs.Ram.{Ram, frame_of, is_inside, is_text, value}
use Rattle.sv39_walk.specs.declared.Asked.{Asked}
use Rattle.sv39_walk.specs.declared.Walked.TheVariants.{At, PageFault}
use Rattle.page_table.specs.Entry.{ppn}
use Rattle.page_table.specs.Mode.{is_canonical, levels_of, satp_mode}
use Rattle.fc_numbers.specs.declared.places.TheConstants.{RAM_START}
use Rattle.fc_numbers.specs.Spans.{in_text}
use Rattle.sv39_walk.specs.Walk.{entry_place, leads_on, ends_in, table_of, walk_from, walked, root_of}
use Rattle.sv39_walk.specs.Cache.{is_read}
use Rattle.sv39_walk.specs.ReadFacts.{frames_from, frames_read}

-- the same places are memory and text
pub record IsSameShape (a b : Ram) : Type 0 where
  pub size : length a.bytes ≡ length b.bytes
  pub text : a.text ≡ b.text

-- the doublewords of a frame that stand at whole places are the same
abbrev pub IsSameIn : Ram → Ram → ℕ → Type 0
IsSameIn a b frame = (at : ℕ) → frame_of at ≡ frame → is_inside a at ≡ true → at % 8 ≡ 0 → value b at Doubleword ≡ value a at Doubleword

inside_same : (a b : Ram) (at : ℕ) → IsSameShape a b → is_inside b at ≡ is_inside a at
inside_same a b at shape = ap (λ n. nat_le RAM_START at && nat_lt (at - RAM_START) n) (sym shape.size)

text_same : (a b : Ram) (at : ℕ) → IsSameShape a b → is_text b at ≡ is_text a at
text_same a b at shape = ap (λ t. in_text t at) (sym shape.text)

read_same : (a b : Ram) (at : ℕ) → IsSameShape a b → is_read b at ≡ is_read a at
read_same a b at shape = rw (inside_same a b at shape, text_same a b at shape) refl

leads_same : (a b : Ram) (q : Asked) (level at : ℕ) → IsSameShape a b → value b at Doubleword ≡ value a at Doubleword → leads_on b q level at ≡ leads_on a q level at
leads_same a b q level at shape val = rw (inside_same a b at shape, text_same a b at shape, val) refl

ends_same : (a b : Ram) (q : Asked) (level at : ℕ) → IsSameShape a b → value b at Doubleword ≡ value a at Doubleword → ends_in b q level at ≡ ends_in a q level at
unfolding ends_in
ends_same a b q level at shape val = rw (inside_same a b at shape, text_same a b at shape, val) refl

-- an entry that is not read leads nowhere, and what it answers hangs on its place alone
unread_leads : (ram : Ram) (q : Asked) (level at : ℕ) → is_read ram at ≡ false → leads_on ram q level at ≡ false
unread_leads ram q level at unread = grind (arith, common_steps, unread)

unread_ends : (a b : Ram) (q : Asked) (level at : ℕ) → IsSameShape a b → is_read a at ≡ false → ends_in b q level at ≡ ends_in a q level at
unfolding ends_in
unread_ends a b q level at shape unread = rw (inside_same a b at shape, text_same a b at shape) (grind (arith, common_steps, unread))

leads_inside : (ram : Ram) (q : Asked) (level at : ℕ) → leads_on ram q level at ≡ true → is_inside ram at ≡ true
leads_inside ram q level at leads = grind (arith, common_steps, leads)

read_inside : (ram : Ram) (at : ℕ) → is_read ram at ≡ true → is_inside ram at ≡ true
read_inside ram at read = grind (arith, common_steps, read)

aligned : (q : Asked) (level table : ℕ) → table % 4096 ≡ 0 → entry_place q level table % 8 ≡ 0
aligned q level table page = omega (arith, page)

pub same_walk : (a b : Ram) (q : Asked) (levels table : ℕ) → IsSameShape a b → table % 4096 ≡ 0 → All (IsSameIn a b) (frames_from a q levels table)
    → (walk_from b q levels table ≡ walk_from a q levels table) × (frames_from b q levels table ≡ frames_from a q levels table)
unfolding walk_from frames_from
same_walk a b q zero table shape page same = (refl, refl)
same_walk a b q (suc level) table shape page same =
    let at = entry_place q level table in
    elim (leads_on a q level at) as
    (λ x. leads_on a q level at ≡ x → All (IsSameIn a b) (if x then frame_of at ∷ frames_from a q level (table_of a at) else if is_read a at then frame_of at ∷ [] else [])
    → ((if leads_on b q level at then walk_from b q level (table_of b at) else ends_in b q level at) ≡ (if x then walk_from a q level (table_of a at) else ends_in a q level at))
    × ((if leads_on b q level at then frame_of at ∷ frames_from b q level (table_of b at) else if is_read b at then frame_of at ∷ [] else [])
    ≡ (if x then frame_of at ∷ frames_from a q level (table_of a at) else if is_read a at then frame_of at ∷ [] else []))) [
      | true ↦ λ leads s.
          (let val = All-head (IsSameIn a b) (frame_of at) (frames_from a q level (table_of a at)) s at refl (leads_inside a q level at leads) (aligned q level table page) in
          let leads_b : leads_on b q level at ≡ true = leads_same a b q level at shape val ∙ leads in
          let table_b : table_of b at ≡ table_of a at = ap (λ n. ppn n * 4096) val in
          let rest = same_walk a b q level (table_of a at) shape (omega arith) (All-tail (IsSameIn a b) (frame_of at) (frames_from a q level (table_of a at)) s) in
          rw (leads_b, table_b) (rest.0, ap (λ xs. frame_of at ∷ xs) rest.1))
      | false ↦ λ leads s.
          elim (is_read a at) as
          (λ y. is_read a at ≡ y → All (IsSameIn a b) (if y then frame_of at ∷ [] else [])
          → ((if leads_on b q level at then walk_from b q level (table_of b at) else ends_in b q level at) ≡ ends_in a q level at)
          × ((if leads_on b q level at then frame_of at ∷ frames_from b q level (table_of b at) else if is_read b at then frame_of at ∷ [] else [])
          ≡ (if y then frame_of at ∷ [] else []))) [
            | true ↦ λ read t.
                (let val = All-head (IsSameIn a b) (frame_of at) [] t at refl (read_inside a at read) (aligned q level table page) in
                let leads_b : leads_on b q level at ≡ false = leads_same a b q level at shape val ∙ leads in
                let read_b : is_read b at ≡ true = read_same a b at shape ∙ read in
                rw (leads_b, read_b) (ends_same a b q level at shape val, refl))
            | false ↦ λ read t.
                (let read_b : is_read b at ≡ false = read_same a b at shape ∙ read in
                let leads_b : leads_on b q level at ≡ false = unread_leads b q level at read_b in
                rw (leads_b, read_b) (unread_ends a b q level at shape read, refl))
          ]
          refl s
    ]
    refl same

-- memory in which the frames that a translation reads are the same has the same translation
pub same_walked : (a b : Ram) (satp : ℕ) (q : Asked) → IsSameShape a b → All (IsSameIn a b) (frames_read a satp q)
    → (walked b satp q ≡ walked a satp q) × (frames_read b satp q ≡ frames_read a satp q)
unfolding walked
same_walked a b satp q shape same =
    elim (satp_mode satp == 0) as
    (λ x. All (IsSameIn a b) (if x then [] else if is_canonical (levels_of satp) q.va then frames_from a q (levels_of satp) (root_of satp) else [])
    → ((if x then At q.va else if is_canonical (levels_of satp) q.va then walk_from b q (levels_of satp) (root_of satp) else PageFault)
    ≡ (if x then At q.va else if is_canonical (levels_of satp) q.va then walk_from a q (levels_of satp) (root_of satp) else PageFault))
    × ((if x then [] else if is_canonical (levels_of satp) q.va then frames_from b q (levels_of satp) (root_of satp) else [])
    ≡ (if x then [] else if is_canonical (levels_of satp) q.va then frames_from a q (levels_of satp) (root_of satp) else []))) [
      | true ↦ λ s. (refl, refl)
      | false ↦ λ s.
          elim (is_canonical (levels_of satp) q.va) as
          (λ y. All (IsSameIn a b) (if y then frames_from a q (levels_of satp) (root_of satp) else [])
          → ((if y then walk_from b q (levels_of satp) (root_of satp) else PageFault) ≡ (if y then walk_from a q (levels_of satp) (root_of satp) else PageFault))
          × ((if y then frames_from b q (levels_of satp) (root_of satp) else []) ≡ (if y then frames_from a q (levels_of satp) (root_of satp) else []))) [
            | true ↦ λ t. same_walk a b q (levels_of satp) (root_of satp) shape (omega arith) t
            | false ↦ λ t. (refl, refl)
          ]
          s
    ]
    same
