-- The frames that are noted level by level are those of the entries of the walk.
use Rattle.std.proofs.Common.{◌≡◌, ◌≢◌, ℕ, zero, suc, ◌-◌, ◌==◌, true, false, List, [], ◌∷◌, map, refl, sym, ap, subst, ◌∙◌, arith}
use Rattle.std.specs.Prelude.{All, Contains, filter, if◌then◌else◌}
use Rattle.std.proofs.lemmas.Bool.Decides.{nat_tests}
use Rattle.std.proofs.lemmas.Grind.{common_steps}
use Rattle.std.proofs.lemmas.List.Elements.{All-nil}
use Rattle.guest_ram.specs.Ram.{Ram, frame_of}
use Rattle.page_table.specs.Mode.{is_canonical, levels_of, satp_mode}
use Rattle.sv39_walk.specs.declared.Asked.{Asked}
use Rattle.sv39_walk.specs.declared.Walked.{Walked}
use Rattle.sv39_walk.specs.declared.cache.Kept.{Kept}
use Rattle.sv39_walk.specs.Walk.{IsWalk, entry_place, leads_on, root_of, table_of}
use Rattle.sv39_walk.specs.Cache.{IsTrue, frames_in, frames_of, is_read}
use Rattle.sv39_walk.specs.ReadFacts.{frames_from, frames_read}
use Rattle.sv39_walk.proofs.Sequence.{shorter, walked_is_translation}

read_leads : (ram : Ram) (q : Asked) (level at : ℕ) → leads_on ram q level at ≡ true → is_read ram at ≡ true
read_leads ram q level at leads = grind (arith, common_steps, leads)

more_frames : (ram : Ram) (at : ℕ) (entries : List ℕ) → is_read ram at ≡ true → frames_in ram (at ∷ entries) ≡ frame_of at ∷ frames_in ram entries
more_frames ram at entries read = ap (λ b. map frame_of (if b then at ∷ filter (is_read ram) entries else filter (is_read ram) entries)) read

one_frame : (ram : Ram) (at : ℕ) → frames_in ram (at ∷ []) ≡ (if is_read ram at then frame_of at ∷ [] else [])
one_frame ram at = elim (is_read ram at) as (λ b. map frame_of (if b then at ∷ [] else []) ≡ (if b then frame_of at ∷ [] else [])) [ true ↦ refl | false ↦ refl ]

pub walk_frames : (ram : Ram) (q : Asked) (levels table : ℕ) (entries : List ℕ) (w : Walked) → IsWalk ram q levels table entries w → frames_in ram entries ≡ frames_from ram q levels table
unfolding frames_from
walk_frames ram q zero table entries w walk = absurd (omega (arith, walk.some, walk.most))
walk_frames ram q (suc level) table [] w walk = absurd (omega (arith, walk.some))
walk_frames ram q (suc level) table (e ∷ []) w walk =
    let one : suc level - 1 ≡ level = omega arith in
    let place : e ≡ entry_place q level table = rw one at walk.first in
    let last : leads_on ram q level e ≡ false = rw one at walk.last in
    rw (sym place) (rw last (one_frame ram e))
walk_frames ram q (suc level) table (e ∷ f ∷ rest) w walk =
    let one : suc level - 1 ≡ level = omega arith in
    let top : suc level - 1 - 0 ≡ level = omega arith in
    let place : e ≡ entry_place q level table = rw one at walk.first in
    let leads : leads_on ram q level e ≡ true = rw top at (walk.leads 0 (omega arith)) in
    let next = walk_frames ram q level (table_of ram e) (f ∷ rest) w (shorter ram q level table e f rest w walk) in
    let more : frames_in ram (e ∷ f ∷ rest) ≡ frame_of e ∷ frames_from ram q level (table_of ram e) =
    more_frames ram e (f ∷ rest) (read_leads ram q level e leads) ∙ ap (λ (xs : List ℕ). frame_of e ∷ xs) next in
    rw (sym place) (rw leads more)

-- what is known of the frames that are noted, told of the entries
pub reads_noted : (ram : Ram) (k : Kept) → All (λ frame. Contains (frames_of k) frame) (frames_read ram k.satp k.asked) → (entries : List ℕ) → satp_mode k.satp ≢ 0 → is_canonical (levels_of k.satp) k.asked.va ≡ true
    → IsWalk ram k.asked (levels_of k.satp) (root_of k.satp) entries k.answer → All (λ frame. Contains (frames_of k) frame) (frames_in ram entries)
reads_noted ram k all entries paged sign walk =
    let same : frames_read ram k.satp k.asked ≡ frames_from ram k.asked (levels_of k.satp) (root_of k.satp) = grind (arith, nat_tests, paged, sign) in
    subst (λ (xs : List ℕ). All (λ frame. Contains (frames_of k) frame) xs) (same ∙ sym (walk_frames ram k.asked (levels_of k.satp) (root_of k.satp) entries k.answer walk)) all

-- and back
pub noted_reads : (ram : Ram) (k : Kept) → IsTrue ram k → All (λ frame. Contains (frames_of k) frame) (frames_read ram k.satp k.asked)
noted_reads ram k is =
    let P : ℕ → Type 0 = λ frame. Contains (frames_of k) frame in
    elim (satp_mode k.satp == 0) as
    (λ b. (satp_mode k.satp == 0) ≡ b → All P (if b then [] else if is_canonical (levels_of k.satp) k.asked.va then frames_from ram k.asked (levels_of k.satp) (root_of k.satp) else [])) [
      | true ↦ λ bare. All-nil P
      | false ↦ λ paged.
          (let has_mode : satp_mode k.satp ≢ 0 = grind (arith, nat_tests, paged) in
          elim (is_canonical (levels_of k.satp) k.asked.va) as
          (λ b. is_canonical (levels_of k.satp) k.asked.va ≡ b → All P (if b then frames_from ram k.asked (levels_of k.satp) (root_of k.satp) else [])) [
            | true ↦ λ sign.
                (let found = (walked_is_translation ram k.satp k.asked).walk has_mode sign in
                let walk : IsWalk ram k.asked (levels_of k.satp) (root_of k.satp) found.0 k.answer = subst (λ (w : Walked). IsWalk ram k.asked (levels_of k.satp) (root_of k.satp) found.0 w) (sym is.answer) found.1 in
                subst (λ (xs : List ℕ). All P xs) (walk_frames ram k.asked (levels_of k.satp) (root_of k.satp) found.0 k.answer walk) (is.reads found.0 has_mode sign walk))
            | false ↦ λ sign. All-nil P
          ]
          refl)
    ]
    refl
