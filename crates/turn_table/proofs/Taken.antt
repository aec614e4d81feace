-- The board and the views, taken out of the slots one after another.
use Rattle.std.proofs.Common.{◌≡◌, ℕ, suc, ◌+◌, ◌<◌, ◌≤◌, Bool, true, false, Option, Some, None, List, [], ◌∷◌, ◌++◌, length, map, get_or, set, sym, refl, ap, ◌∙◌, subst, arith, append_assoc, length-append, get_or-set_same}
use Rattle.std.specs.Prelude.{slice_index_or}
use Rattle.std.proofs.lemmas.List.{append-nil, length-map, get_or-set_other}
use mathlib.Core.Logic.{dite}
use mathlib.Core.Option.{some, some-injective}
use native.Mathlib.Decide.{ℕ_discrete}
use lib.ListN.{get_elem?}
use Rattle.guest_board.specs.Board.{Seat}
use Rattle.view_store.specs.Paged.{PagedView}
use Rattle.turn_table.specs.declared.known.Guarded.{Guarded}
use Rattle.turn_table.specs.declared.known.Guarded.TheVariants.{Board, View}
use Rattle.turn_table.specs.Rule.{view_slot, slots_of, AreSlots}

-- the board b and the views ps are out of the first i slots
pub record Taking (xs items : List (Option Guarded)) (filled : List Bool) (len i : ℕ) (b : Seat) (ps : List PagedView) (room : ℕ) : Type 0 where
  pub same : items ≡ xs
  pub full : (k : ℕ) → i ≤ k → k < len → slice_index_or filled k false ≡ true
  pub gone : (k : ℕ) → k < i → slice_index_or filled k false ≡ false
  pub count : i ≡ suc (length ps)
  pub left : (rest : List PagedView) × (xs ≡ slots_of b (ps ++ rest)) × (length (ps ++ rest) ≤ room)

abbrev found_seat : Option Guarded → Seat → Seat
found_seat None d = d
found_seat (Some (Board b)) d = b
found_seat (Some (View p)) d = d

abbrev found_view : Option Guarded → PagedView → PagedView
found_view None d = d
found_view (Some (Board b)) d = d
found_view (Some (View p)) d = p

laid_long : (b : Seat) (ps : List PagedView) → length (slots_of b ps) ≡ suc (length ps)
laid_long b ps = ap suc (length-map ps view_slot)

thing_at : (ps rest : List PagedView) (p : PagedView) → get_elem? (map view_slot (ps ++ p ∷ rest)) (length ps) ≡ some (view_slot p)
thing_at [] rest p = refl
thing_at (q ∷ ps) rest p = thing_at ps rest p

unset : (filled : List Bool) (i k : ℕ) → i < length filled → ((j : ℕ) → j < i → get_or filled j false ≡ false) → k < i + 1 → get_or (set filled i false) k false ≡ false
unset filled i k within gone lt = dite (ℕ_discrete k i)
    (λ q. subst (λ (z : ℕ). get_or (set filled i false) z false ≡ false) (sym q) (get_or-set_same filled i false false within))
    (λ d. get_or-set_other filled i k false false d ∙ gone k (omega arith))

pub begins : (xs items : List (Option Guarded)) (filled later : List Bool) (len room : ℕ) (x : Option Guarded) (b : Seat) (ps : List PagedView) → AreSlots xs room → ps ≡ []
    → ((k : ℕ) → 0 ≤ k → k < len → slice_index_or filled k false ≡ true) → 0 < length filled → later ≡ set filled 0 false → items ≡ xs → get_elem? xs 0 ≡ some x → x ≡ Some (Board b) → Taking xs items later len 1 b ps room
begins xs items filled later len room x b ps t none full within e same at_0 is =
    let found : get_elem? (slots_of t.0 t.1) 0 ≡ some (Some (Board b)) = subst (λ z. get_elem? z 0 ≡ some (Some (Board b))) t.2 (at_0 ∙ ap some is) in
    let first : Some (Board t.0) ≡ Some (Board b) = some-injective _ _ found in
    let board : t.0 ≡ b = ap (λ y. found_seat y b) first in record {
      same = same;
      full = λ k le lt. subst (λ z. get_or z k false ≡ true) (sym e) (get_or-set_other filled 0 k false false (λ q. omega arith) ∙ full k (omega arith) lt);
      gone = λ k lt. subst (λ z. get_or z k false ≡ false) (sym e) (unset filled 0 k within (λ j h. absurd (omega arith)) (omega arith));
      count = subst (λ z. 1 ≡ suc (length z)) (sym none) refl;
      left = subst (λ z. (rest : List PagedView) × (xs ≡ slots_of b (z ++ rest)) × (length (z ++ rest) ≤ room)) (sym none) (t.1, t.2 ∙ ap (λ d. slots_of d t.1) board, t.3);
    }

module _ (xs items : List (Option Guarded)) (filled : List Bool) (len i : ℕ) (b : Seat) (ps : List PagedView) (room : ℕ) where
  there_by : (rest : List PagedView) → xs ≡ slots_of b (ps ++ rest) → i ≡ suc (length ps) → i < length xs → (p : PagedView) × (more : List PagedView) × (rest ≡ p ∷ more) × (get_elem? xs i ≡ some (Some (View p)))
  there_by [] e count lt = absurd (let a = ap length e in let z = laid_long b (ps ++ []) in let n = ap length (append-nil ps) in omega arith)
  there_by (p ∷ rest) e count lt = (p, rest, refl, (λ k. get_elem? (e k) (count k)) ∙ thing_at ps rest p)

  next_by : (t : Taking xs items filled len i b ps room) → i < len → len ≡ length items → (p : PagedView) × (more : List PagedView) × (t.left.0 ≡ p ∷ more) × (get_elem? xs i ≡ some (Some (View p)))
  next_by t lt long = there_by t.left.0 t.left.1 t.count (let s = ap length t.same in omega arith)

  pub next_view : Taking xs items filled len i b ps room → i < len → len ≡ length items → (x : Option Guarded) → get_elem? items i ≡ some x → (p : PagedView) × (x ≡ Some (View p))
  next_view t lt long x e = let n = next_by t lt long in (n.0, some-injective x (Some (View n.0)) (sym e ∙ (ap (λ z. get_elem? z i) t.same ∙ n.3)))

  pub room_left : Taking xs items filled len i b ps room → i < len → len ≡ length items → length ps < room
  room_left t lt long = let n = next_by t lt long in let a = ap length t.left.1 in let c = laid_long b (ps ++ t.left.0) in let d = length-append ps t.left.0 in
      let fits = t.left.2 in let one = ap length n.2 in omega arith

  pub steps : (later : List Bool) (items' : List (Option Guarded)) (p : PagedView) (qs : List PagedView) (n : ℕ) → Taking xs items filled len i b ps room → i < len → len ≡ length items → len ≡ length filled
      → get_elem? items i ≡ some (Some (View p)) → items' ≡ items → later ≡ set filled i false → qs ≡ ps ++ p ∷ [] → n ≡ room → Taking xs items' later len (i + 1) b qs n
  steps later items' p qs n t lt long wide at_i same unfilled grown fits =
      let x = next_by t lt long in
      let is : Some (View x.0) ≡ Some (View p) = some-injective _ _ (sym x.3 ∙ (ap (λ z. get_elem? z i) (sym t.same) ∙ at_i)) in
      let here : x.0 ≡ p = ap (λ y. found_view y p) is in
      let whole : ps ++ t.left.0 ≡ (ps ++ p ∷ []) ++ x.1 = ap (λ z. ps ++ z) (x.2 ∙ ap (λ z. z ∷ x.1) here) ∙ sym (append_assoc ps (p ∷ []) x.1) in record {
        same = same ∙ t.same;
        full = λ k le h. subst (λ z. get_or z k false ≡ true) (sym unfilled) (get_or-set_other filled i k false false (λ q. omega arith) ∙ t.full k (omega arith) h);
        gone = λ k h. subst (λ z. get_or z k false ≡ false) (sym unfilled) (unset filled i k (omega arith) t.gone h);
        count = let a = ap length grown in let c = length-append ps (p ∷ []) in let d = t.count in omega arith;
        left = (x.1, t.left.1 ∙ ap (slots_of b) (whole ∙ ap (λ z. z ++ x.1) (sym grown)), let a = ap length whole in let c = ap (λ z. length (z ++ x.1)) grown in let d = t.left.2 in omega arith);
      }

  ends_by : (rest : List PagedView) → xs ≡ slots_of b (ps ++ rest) → i ≡ suc (length ps) → length xs ≤ i → xs ≡ slots_of b ps
  ends_by [] e count le = e ∙ ap (slots_of b) (append-nil ps)
  ends_by (p ∷ rest) e count le = absurd (let a = ap length e in let z = laid_long b (ps ++ p ∷ rest) in let n = length-append ps (p ∷ rest) in omega arith)

  pub ends : Taking xs items filled len i b ps room → len ≤ i → len ≡ length items → xs ≡ slots_of b ps
  ends t le long = ends_by t.left.0 t.left.1 t.count (let s = ap length t.same in omega arith)
