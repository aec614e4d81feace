-- The list of external lines says of each vCPU what the events say.
use Rattle.std.proofs.Common.{◌≡◌, ◌∙◌, ℕ, zero, suc, ◌+◌, ◌-◌, ◌<◌, ◌≤◌, Bool, true, false, eqb, cond, List, [], ◌∷◌, length, get_or, set, take, drop, ap, refl, arith, length-set}
use Rattle.std.proofs.lemmas.Grind.{common_steps}
use Rattle.std.proofs.lemmas.List.{drop_more, length-replicate, get_or-replicate}
use Rattle.guest_input.specs.declared.setup.Event.{Event}
use Rattle.guest_input.specs.declared.setup.What.{What}
use Rattle.guest_input.specs.declared.setup.What.TheVariants.{Key, Raise, Drop}
use Rattle.device_feed.specs.Devices.{line_after, line_after_all}
use Rattle.device_feed.specs.Lists.{levels_after, levels_from, no_levels}

-- one item of a list after a write
set_at_one : (n v : ℕ) (levels : List Bool) (b : Bool) → v < length levels → get_or (set levels n b) v false ≡ cond (eqb n v) b (get_or levels v false)
set_at_one n v levels b m = grind (arith, common_steps)

pub length-levels_after : (levels : List Bool) (w : What) → length (levels_after levels w) ≡ length levels
length-levels_after levels (Key byte) = refl
length-levels_after levels (Raise n) = length-set levels n true
length-levels_after levels (Drop n) = length-set levels n false

pub line_at : (v : ℕ) (levels : List Bool) (w : What) → v < length levels → get_or (levels_after levels w) v false ≡ line_after v (get_or levels v false) w
line_at v levels (Key byte) m = refl
line_at v levels (Raise n) m = set_at_one n v levels true m
line_at v levels (Drop n) m = set_at_one n v levels false m

pub length-levels_from : (levels : List Bool) (es : List Event) → length (levels_from levels es) ≡ length es
unfolding levels_from
length-levels_from levels [] = refl
length-levels_from levels (e ∷ es) = ap suc (length-levels_from (levels_after levels e.what) es)

-- item i of the list says what the first i + 1 events leave
pub lines_at : (v : ℕ) (levels : List Bool) (es : List Event) (i : ℕ) (d : List Bool) → v < length levels → i < length es → get_or (get_or (levels_from levels es) i d) v false ≡ line_after_all v (get_or levels v false) (take (suc i) es)
unfolding levels_from
lines_at v levels [] i d m n = absurd (omega arith)
lines_at v levels (e ∷ es) zero d m n = line_at v levels e.what m
lines_at v levels (e ∷ es) (suc i) d m n =
    let next = levels_after levels e.what in
    let long : v < length next = omega (arith, length-levels_after levels e.what) in
    lines_at v next es i d long (omega arith) ∙ ap (λ up. line_after_all v up (take (suc i) es)) (line_at v levels e.what m)

-- the list grows by one
pub levels_more : (levels : List Bool) (es : List Event) → (i : ℕ) (e : Event) → i < length es → e ≡ get_or es i e → levels_from levels (drop i es) ≡ levels_after levels e.what ∷ levels_from (levels_after levels e.what) (drop (i + 1) es)
unfolding levels_from
levels_more levels es i e m is = rw (drop_more es i e m, ← is) refl

pub levels_from_none : (levels : List Bool) → levels_from levels [] ≡ []
unfolding levels_from
levels_from_none levels = refl

-- what the list says after the first n events
pub raised_at : (v n : ℕ) (es : List Event) (levels : List (List Bool)) (x : List Bool) → levels ≡ levels_from no_levels es → 0 < n → n ≤ length es → v < 8 → x ≡ get_or levels (n - 1) x → get_or x v false ≡ line_after_all v false (take n es)
raised_at v zero es levels x made some m few is = absurd (omega arith)
raised_at v (suc i) es levels x made some m few is =
    let before : suc i - 1 ≡ i = omega arith in
    let here : x ≡ get_or (levels_from no_levels es) i x = rw (made, before) at is in
    let long : v < length no_levels = omega (arith, length-replicate 8 false) in
    ap (λ l. get_or l v false) here ∙ lines_at v no_levels es i x long (omega arith) ∙ ap (λ up. line_after_all v up (take (suc i) es)) (get_or-replicate 8 v false false few)
