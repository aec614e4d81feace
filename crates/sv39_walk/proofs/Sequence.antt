-- The sequence of entries has exactly one answer, which is the computed one.
use Rattle.std.proofs.Common.{◌≡◌, ℕ, zero, suc, ◌+◌, ◌-◌, ◌<◌, ◌==◌, true, false, if◌then◌else◌, List, [], ◌∷◌, length, get_or, refl, sym, ◌∙◌, ap, arith}
use Rattle.std.proofs.lemmas.Bool.Decides.{nat_tests}
use Rattle.guest_ram.specs.Ram.{Ram}
use Rattle.sv39_walk.specs.declared.Asked.{Asked}
use Rattle.sv39_walk.specs.declared.Walked.{Walked}
use Rattle.sv39_walk.specs.declared.Walked.TheVariants.{At, PageFault}
use Rattle.page_table.specs.Mode.{is_canonical, levels_of, satp_mode}
use Rattle.sv39_walk.specs.Walk.{entry_place, leads_on, ends_in, table_of, walk_from, walked, root_of, IsWalk, IsTranslation}
use Rattle.sv39_walk.proofs.Steps.{above_zero}

-- the second number of a list stands first in its rest
get_or-cons_one : (x : ℕ) (xs : List ℕ) (k : ℕ) → get_or (x ∷ xs) (k + 1) 0 ≡ get_or xs k 0
get_or-cons_one x xs k = let same : k + 1 ≡ suc k = omega arith in rw same refl

get_or-cons_last : (x : ℕ) (xs : List ℕ) → 0 < length xs → get_or (x ∷ xs) (length (x ∷ xs) - 1) 0 ≡ get_or xs (length xs - 1) 0
get_or-cons_last x xs some = let same : length (x ∷ xs) - 1 ≡ length xs - 1 + 1 = omega arith in rw same (get_or-cons_one x xs (length xs - 1))

leads_longer : (ram : Ram) (q : Asked) (level table : ℕ) (entries : List ℕ) (w : Walked) (k : ℕ) → leads_on ram q level (entry_place q level table) ≡ true → IsWalk ram q level (table_of ram (entry_place q level table)) entries w → k + 1 < length (entry_place q level table ∷ entries) → leads_on ram q (suc level - 1 - k) (get_or (entry_place q level table ∷ entries) k 0) ≡ true
leads_longer ram q level table entries w zero leads walk h =
    let same : suc level - 1 - zero ≡ level = omega arith in rw same leads
leads_longer ram q level table entries w (suc k) leads walk h =
    let same : suc level - 1 - suc k ≡ level - 1 - k = omega arith in rw same (walk.leads k (omega (arith, h)))

next_longer : (ram : Ram) (q : Asked) (level table : ℕ) (entries : List ℕ) (w : Walked) (k : ℕ) → IsWalk ram q level (table_of ram (entry_place q level table)) entries w → k + 1 < length (entry_place q level table ∷ entries) → get_or (entry_place q level table ∷ entries) (k + 1) 0 ≡ entry_place q (suc level - 2 - k) (table_of ram (get_or (entry_place q level table ∷ entries) k 0))
next_longer ram q level table entries w zero walk h =
    let same : suc level - 2 - zero ≡ level - 1 = omega arith in
    rw same (get_or-cons_one (entry_place q level table) entries zero ∙ walk.first)
next_longer ram q level table entries w (suc k) walk h =
    let same : suc level - 2 - suc k ≡ level - 2 - k = omega arith in
    let next : get_or entries (suc k) 0 ≡ entry_place q (level - 2 - k) (table_of ram (get_or entries k 0)) =
    (let one : suc k ≡ k + 1 = omega arith in rw one (walk.next k (omega (arith, h)))) in
    rw same (get_or-cons_one (entry_place q level table) entries (suc k) ∙ next)

-- one more entry in front of a walk
longer : (ram : Ram) (q : Asked) (level table : ℕ) (entries : List ℕ) (w : Walked) → leads_on ram q level (entry_place q level table) ≡ true → IsWalk ram q level (table_of ram (entry_place q level table)) entries w → IsWalk ram q (suc level) table (entry_place q level table ∷ entries) w
longer ram q level table entries w leads walk =
    let at = entry_place q level table in
    let left : suc level - length (at ∷ entries) ≡ level - length entries = omega arith in
    let end = get_or-cons_last at entries walk.some in
    record {
      some = omega arith;
      most = omega (arith, walk.most);
      first = ap (λ n. entry_place q n table) (omega arith);
      leads = λ k h. leads_longer ram q level table entries w k leads walk h;
      next = λ k h. next_longer ram q level table entries w k walk h;
      last = rw (left, end) walk.last;
      ends = rw (left, end) walk.ends;
    }

-- a walk of one entry
alone : (ram : Ram) (q : Asked) (level table : ℕ) → leads_on ram q level (entry_place q level table) ≡ false → IsWalk ram q (suc level) table (entry_place q level table ∷ []) (ends_in ram q level (entry_place q level table))
alone ram q level table ends =
    let left : suc level - 1 ≡ level = omega arith in
    record {
      some = omega arith;
      most = omega arith;
      first = ap (λ n. entry_place q n table) (omega arith);
      leads = λ k h. absurd (omega (arith, h));
      next = λ k h. absurd (omega (arith, h));
      last = rw left ends;
      ends = rw left refl;
    }

-- the computed answer is that of a walk
pub walk_from_is_walk : (ram : Ram) (q : Asked) (levels table : ℕ) → 0 < levels → (entries : List ℕ) × IsWalk ram q levels table entries (walk_from ram q levels table)
unfolding walk_from
walk_from_is_walk ram q zero table some = absurd (omega arith)
walk_from_is_walk ram q (suc level) table some =
    elim (leads_on ram q level (entry_place q level table)) as
    (λ b. leads_on ram q level (entry_place q level table) ≡ b → (entries : List ℕ) × IsWalk ram q (suc level) table entries (if b then walk_from ram q level (table_of ram (entry_place q level table)) else ends_in ram q level (entry_place q level table))) [
      | true ↦ λ leads.
          (let rest = walk_from_is_walk ram q level (table_of ram (entry_place q level table)) (above_zero ram q level (entry_place q level table) leads) in
          (entry_place q level table ∷ rest.0, longer ram q level table rest.0 (walk_from ram q level (table_of ram (entry_place q level table))) leads rest.1))
      | false ↦ λ ends. (entry_place q level table ∷ [], alone ram q level table ends)
    ]
    refl

-- a walk without its first entry
pub shorter : (ram : Ram) (q : Asked) (level table e f : ℕ) (rest : List ℕ) (w : Walked) → IsWalk ram q (suc level) table (e ∷ f ∷ rest) w → IsWalk ram q level (table_of ram e) (f ∷ rest) w
shorter ram q level table e f rest w walk =
    let left : suc level - length (e ∷ f ∷ rest) ≡ level - length (f ∷ rest) = omega arith in
    let end = get_or-cons_last e (f ∷ rest) (omega arith) in
    record {
      some = omega arith;
      most = omega (arith, walk.most);
      first = (let one : suc level - 2 - 0 ≡ level - 1 = omega arith in rw one at (walk.next 0 (omega arith)));
      leads = λ k h. (let one : suc level - 1 - suc k ≡ level - 1 - k = omega arith in rw one at (walk.leads (suc k) (omega (arith, h))));
      next = λ k h.
          (let one : suc level - 2 - suc k ≡ level - 2 - k = omega arith in
          let two : suc k + 1 ≡ k + 1 + 1 = omega arith in
          sym (get_or-cons_one e (f ∷ rest) (k + 1)) ∙ rw (one, two) at (walk.next (suc k) (omega (arith, h))));
      last = rw (left, end) at walk.last;
      ends = rw (left, end) at walk.ends;
    }

-- a walk has the computed answer
pub is_walk_from : (ram : Ram) (q : Asked) (levels table : ℕ) (entries : List ℕ) (w : Walked) → IsWalk ram q levels table entries w → w ≡ walk_from ram q levels table
unfolding walk_from
is_walk_from ram q zero table entries w walk = absurd (omega (arith, walk.some, walk.most))
is_walk_from ram q (suc level) table [] w walk = absurd (omega (arith, walk.some))
is_walk_from ram q (suc level) table (e ∷ []) w walk =
    let one : suc level - 1 ≡ level = omega arith in
    let place : e ≡ entry_place q level table = rw one at walk.first in
    let last : leads_on ram q level e ≡ false = rw one at walk.last in
    let ends : w ≡ ends_in ram q level e = rw one at walk.ends in
    rw (sym place) (rw last ends)
is_walk_from ram q (suc level) table (e ∷ f ∷ rest) w walk =
    let one : suc level - 1 ≡ level = omega arith in
    let top : suc level - 1 - 0 ≡ level = omega arith in
    let place : e ≡ entry_place q level table = rw one at walk.first in
    let leads : leads_on ram q level e ≡ true = rw top at (walk.leads 0 (omega arith)) in
    let next = is_walk_from ram q level (table_of ram e) (f ∷ rest) w (shorter ram q level table e f rest w walk) in
    rw (sym place) (rw leads next)

some_levels : (satp : ℕ) → 0 < levels_of satp
some_levels satp = grind (arith, nat_tests)

-- the computed answer is that of a translation
pub walked_is_translation : (ram : Ram) (satp : ℕ) (q : Asked) → IsTranslation ram satp q (walked ram satp q)
unfolding walked
walked_is_translation ram satp q = record {
  bare = λ bare. grind (arith, nat_tests, bare);
  sign = λ paged sign. grind (arith, nat_tests, paged, sign);
  walk = λ paged sign.
      (let same : walked ram satp q ≡ walk_from ram q (levels_of satp) (root_of satp) = grind (arith, nat_tests, paged, sign) in
      let entries = walk_from_is_walk ram q (levels_of satp) (root_of satp) (some_levels satp) in
      (entries.0, rw same entries.1));
}

-- a translation has the computed answer, so there is one alone
pub one_translation : (ram : Ram) (satp : ℕ) (q : Asked) (w : Walked) → IsTranslation ram satp q w → w ≡ walked ram satp q
unfolding walked
one_translation ram satp q w is =
    elim (satp_mode satp == 0) as
    (λ b. (satp_mode satp == 0) ≡ b → w ≡ (if b then At q.va else if is_canonical (levels_of satp) q.va then walk_from ram q (levels_of satp) (root_of satp) else PageFault)) [
      | true ↦ λ bare. is.bare (grind (arith, nat_tests, bare))
      | false ↦ λ paged.
          elim (is_canonical (levels_of satp) q.va) as
          (λ b. is_canonical (levels_of satp) q.va ≡ b → w ≡ (if b then walk_from ram q (levels_of satp) (root_of satp) else PageFault)) [
            | true ↦ λ sign.
                (let walk = is.walk (grind (arith, nat_tests, paged)) sign in is_walk_from ram q (levels_of satp) (root_of satp) walk.0 w walk.1)
            | false ↦ λ sign. is.sign (grind (arith, nat_tests, paged)) sign
          ]
          refl
    ]
    refl
