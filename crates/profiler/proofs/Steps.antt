-- A schedule with one step more: its steps are those before, and the new one.
use Rattle.std.proofs.Common.{◌≡◌, ◌≢◌, ℕ, zero, suc, ◌+◌, ◌<◌, ◌≤◌, List, [], ◌∷◌, ◌++◌, length, arith, refl, ◌∙◌, sym, ap, subst, inl, inr, ◌⊎◌, length-append}
use Rattle.std.specs.Prelude.{slice_index, nat_lt, Bool, true, false}
use Rattle.std.proofs.lemmas.List.{take-append-le, get_or_append_left, take_all}
use Rattle.std.proofs.Math.Seq.{get_or-append_seam}
use Rattle.std.proofs.lemmas.Bool.Decides.{nat_tests}
use Rattle.guest_board.specs.Board.{State}
use Rattle.run_evidence.specs.Config.{Config, full, full_at}
use Rattle.profiler.specs.Profile.{SomeStep}

pub state-front : (c : Config) (h : List ℕ) (i t : ℕ) → t ≤ length h → full_at c (h ++ i ∷ []) t ≡ full_at c h t
state-front c h i t within = ap (λ x. full c x) (take-append-le t h (i ∷ []) within)

pub state-now : (c : Config) (h : List ℕ) → full_at c h (length h) ≡ full c h
state-now c h = ap (λ x. full c x) (take_all (length h) h (omega arith))

pub member-front : (h : List ℕ) (i t : ℕ) → t < length h → slice_index (h ++ i ∷ []) t ≡ slice_index h t
member-front h i t within = get_or_append_left h (i ∷ []) 0 t within

pub member-last : (h : List ℕ) (i : ℕ) → slice_index (h ++ i ∷ []) (length h) ≡ i
member-last h i = get_or-append_seam h i [] 0

pub longer : (h : List ℕ) (i : ℕ) → length (h ++ i ∷ []) ≡ length h + 1
longer h i = length-append h (i ∷ [])

-- a step of the longer schedule is one of those before, or the new one
pub old-or-new : (c : Config) (h : List ℕ) (i : ℕ) (Is : State → ℕ → Type 0) → SomeStep c (h ++ i ∷ []) Is → SomeStep c h Is ⊎ Is (full c h) i
old-or-new c h i Is some =
    let long : length (h ++ i ∷ []) ≡ length h + 1 = longer h i in
    elim (nat_lt some.step (length h)) as (λ b. nat_lt some.step (length h) ≡ b → SomeStep c h Is ⊎ Is (full c h) i) [
      | true ↦ λ e.
          let within : some.step < length h = grind (arith, nat_tests, e) in
          let before : full_at c (h ++ i ∷ []) some.step ≡ full_at c h some.step = state-front c h i some.step (omega (arith, within)) in
          let same : slice_index (h ++ i ∷ []) some.step ≡ slice_index h some.step = member-front h i some.step within in
          inl (record { step = some.step; within = within; is = rw (before, same) at some.is })
      | false ↦ λ e.
          let last : some.step ≡ length h = let over : length h ≤ some.step = grind (arith, nat_tests, e) in let low = some.within in omega (arith, long, over, low) in
          let now : full_at c (h ++ i ∷ []) some.step ≡ full c h =
          ap (λ t. full_at c (h ++ i ∷ []) t) last ∙ state-front c h i (length h) (omega arith) ∙ state-now c h in
          let is : slice_index (h ++ i ∷ []) some.step ≡ i = ap (λ t. slice_index (h ++ i ∷ []) t) last ∙ member-last h i in
          inr (rw (now, is) at some.is)
    ] refl

pub from-old : (c : Config) (h : List ℕ) (i : ℕ) (Is : State → ℕ → Type 0) → SomeStep c h Is → SomeStep c (h ++ i ∷ []) Is
from-old c h i Is some =
    let long : length (h ++ i ∷ []) ≡ length h + 1 = longer h i in
    let within : some.step < length h = some.within in
    let before : full_at c (h ++ i ∷ []) some.step ≡ full_at c h some.step = state-front c h i some.step (omega (arith, within)) in
    let same : slice_index (h ++ i ∷ []) some.step ≡ slice_index h some.step = member-front h i some.step within in
    record { step = some.step; within = omega (arith, long, within); is = rw (before, same) some.is }

pub from-new : (c : Config) (h : List ℕ) (i : ℕ) (Is : State → ℕ → Type 0) → Is (full c h) i → SomeStep c (h ++ i ∷ []) Is
from-new c h i Is here =
    let long : length (h ++ i ∷ []) ≡ length h + 1 = longer h i in
    let now : full_at c (h ++ i ∷ []) (length h) ≡ full c h = state-front c h i (length h) (omega arith) ∙ state-now c h in
    let is : slice_index (h ++ i ∷ []) (length h) ≡ i = member-last h i in
    record { step = length h; within = omega (arith, long); is = rw (now, is) here }
