-- What a verdict says of the place about to be fetched, and of the step that it lets go.
use Rattle.std.proofs.Common.{◌≡◌, ◌≢◌, ℕ, ◌+◌, List, true, false, refl, sym, ap, subst, ◌∙◌, arith, Option, Some, None, ◌⊎◌, inl, inr}
use Rattle.std.specs.Prelude.{◌&&◌, not, nat_eq, slice_index, if◌then◌else◌}
use Rattle.std.proofs.lemmas.Bool.Decides.{nat_tests}
use Rattle.fc_numbers.specs.declared.places.Span.{Span}
use Rattle.fc_numbers.specs.declared.window.Window.{Window}
use Rattle.guest_board.specs.declared.fetch.Fetched.{Fetched}
use Rattle.guest_board.specs.declared.rules.Rules.{Rules}
use Rattle.guest_board.specs.declared.step.StepStart.{StepStart}
use Rattle.guest_board.specs.declared.step.StepStart.TheVariants.{Interrupt, Fetches}
use Rattle.guest_board.specs.declared.seen.Windows.{Windows}
use Rattle.guest_board.specs.declared.seen.Verdict.TheVariants.{Idle, Needs, Zeroes, Goes}
use Rattle.guest_board.specs.Fetch.{text_place, with_halves}
use Rattle.guest_board.specs.Step.{place_of}
use Rattle.guest_board.specs.Board.{State, may, next_start}
use Rattle.guest_board.specs.Seen.{verdict_of, by_start, by_place, by_window, by_halves, half_in_line, line_no, is_cleared, window_at}

-- where a vCPU may step, its verdict goes by what its next step begins with
pub verdict-may : (rules : Rules) (s : State) (i : ℕ) (w : Windows) → may rules s i ≡ true → verdict_of rules s i w ≡ by_start s.ram.text w (next_start s i)
unfolding verdict_of
verdict-may rules s i w m = rw m refl

-- where it may not, nothing is done
pub verdict-stuck : (rules : Rules) (s : State) (i : ℕ) (w : Windows) → may rules s i ≡ false → verdict_of rules s i w ≡ Idle
unfolding verdict_of
verdict-stuck rules s i w m = rw m refl

halves-needs : (cleared : Option Span) (got : Fetched) (p n first second : ℕ) → by_halves cleared got p first second ≢ Needs n
halves-needs cleared got p n first second = λ e. grind (arith, nat_tests, e)

halves-idle : (cleared : Option Span) (got : Fetched) (p first second : ℕ) → by_halves cleared got p first second ≢ Idle
halves-idle cleared got p first second = λ e. grind (arith, nat_tests, e)

halves-zeroes : (cleared : Option Span) (got : Fetched) (p q first second : ℕ) → by_halves cleared got p first second ≡ Zeroes q
    → (q ≡ p) × (first ≡ 0) × (is_cleared cleared p ≡ false)
halves-zeroes cleared got p q first second e = (grind (arith, nat_tests, e), grind (arith, nat_tests, e), grind (arith, nat_tests, e))

halves-goes : (cleared : Option Span) (got : Fetched) (p first second : ℕ) (r : StepStart) → by_halves cleared got p first second ≡ Goes r
    → (r ≡ Fetches (with_halves got first second)) × (first ≡ 0 → is_cleared cleared p ≡ true)
halves-goes cleared got p first second r e =
    elim (nat_eq first 0 && not (is_cleared cleared p)) as (λ b. (nat_eq first 0 && not (is_cleared cleared p)) ≡ b
    → (if b then Zeroes p else Goes (Fetches (with_halves got first second))) ≡ Goes r
    → (r ≡ Fetches (with_halves got first second)) × (first ≡ 0 → is_cleared cleared p ≡ true)) [
      | true ↦ λ t h. absurd (cc)
      | false ↦ λ t h. let same : Fetches (with_halves got first second) ≡ r = cc in (sym same, λ z. grind (arith, nat_tests, t, z))
    ] refl e

-- the halfwords of a window at a place and behind it
abbrev pub first_in : List Span → ℕ → Window → ℕ
first_in text p win = slice_index win.halves (half_in_line text p)

abbrev pub second_in : List Span → ℕ → Window → ℕ
second_in text p win = slice_index win.halves (half_in_line text p + 1)

-- a need, by what the step begins with: no window of the line of its place is held
pub record IsNeed (text : List Span) (w : Windows) (n : ℕ) (r : StepStart) : Type 0 where
  pub place : ℕ
  pub next : place_of r ≡ Some place
  pub number : n ≡ line_no text place
  pub unheld : window_at (line_no text place) w.held.items ≡ None

window-needs : (text : List Span) (w : Windows) (got : Fetched) (p n : ℕ) (found : Option Window) → window_at (line_no text p) w.held.items ≡ found → text_place got ≡ Some p
    → by_window text w.cleared got p found ≡ Needs n → IsNeed text w n (Fetches got)
window-needs text w got p n None h t e = record { place = p; next = t; number = (let same : line_no text p ≡ n = cc in sym same); unheld = h }
window-needs text w got p n (Some win) h t e = absurd (halves-needs w.cleared got p n (first_in text p win) (second_in text p win) e)

place-needs : (text : List Span) (w : Windows) (got : Fetched) (n : ℕ) (o : Option ℕ) → text_place got ≡ o → by_place text w got o ≡ Needs n → IsNeed text w n (Fetches got)
place-needs text w got n None t e = absurd (cc)
place-needs text w got n (Some p) t e = window-needs text w got p n (window_at (line_no text p) w.held.items) refl t e

pub start-needs : (text : List Span) (w : Windows) (r : StepStart) (n : ℕ) → by_start text w r ≡ Needs n → IsNeed text w n r
start-needs text w (Interrupt code) n e = absurd (cc)
start-needs text w (Fetches got) n e = place-needs text w got n (text_place got) refl e

-- a trap on a zero: a window of the line of the place is held, its halfword there is zero, and the place is not cleared
pub record IsZero (text : List Span) (w : Windows) (p : ℕ) : Type 0 where
  pub window : Window
  pub held : window_at (line_no text p) w.held.items ≡ Some window
  pub zero : first_in text p window ≡ 0
  pub uncleared : is_cleared w.cleared p ≡ false

window-zeroes : (text : List Span) (w : Windows) (got : Fetched) (p q : ℕ) (found : Option Window) → window_at (line_no text p) w.held.items ≡ found
    → by_window text w.cleared got p found ≡ Zeroes q → (q ≡ p) × IsZero text w p
window-zeroes text w got p q None h e = absurd (cc)
window-zeroes text w got p q (Some win) h e =
    let k : (q ≡ p) × (first_in text p win ≡ 0) × (is_cleared w.cleared p ≡ false) = halves-zeroes w.cleared got p q (first_in text p win) (second_in text p win) e in
    (k.0, record { window = win; held = h; zero = k.1; uncleared = k.2 })

place-zeroes : (text : List Span) (w : Windows) (got : Fetched) (p : ℕ) (o : Option ℕ) → text_place got ≡ o → by_place text w got o ≡ Zeroes p → (text_place got ≡ Some p) × IsZero text w p
place-zeroes text w got p None t e = absurd (cc)
place-zeroes text w got p (Some q) t e =
    let k : (p ≡ q) × IsZero text w q = window-zeroes text w got q p (window_at (line_no text q) w.held.items) refl e in
    (t ∙ ap (λ x. Some x) (sym k.0), subst (λ x. IsZero text w x) (sym k.0) k.1)

pub start-zeroes : (text : List Span) (w : Windows) (r : StepStart) (p : ℕ) → by_start text w r ≡ Zeroes p → (place_of r ≡ Some p) × IsZero text w p
start-zeroes text w (Interrupt code) p e = absurd (cc)
start-zeroes text w (Fetches got) p e = place-zeroes text w got p (text_place got) refl e

-- a step that reads the window of its place's line
pub record IsRead (text : List Span) (w : Windows) (begins goes : StepStart) : Type 0 where
  pub place : ℕ
  pub got : Fetched
  pub window : Window
  pub begin : begins ≡ Fetches got
  pub next : text_place got ≡ Some place
  pub held : window_at (line_no text place) w.held.items ≡ Some window
  pub reads : goes ≡ Fetches (with_halves got (first_in text place window) (second_in text place window))
  pub zero_cleared : first_in text place window ≡ 0 → is_cleared w.cleared place ≡ true

-- a step that reads nothing in text
pub record IsPlain (begins goes : StepStart) : Type 0 where
  pub same : goes ≡ begins
  pub none : place_of begins ≡ None

window-goes : (text : List Span) (w : Windows) (got : Fetched) (p : ℕ) (r : StepStart) (found : Option Window) → text_place got ≡ Some p
    → window_at (line_no text p) w.held.items ≡ found → by_window text w.cleared got p found ≡ Goes r → IsRead text w (Fetches got) r
window-goes text w got p r None n h e = absurd (cc)
window-goes text w got p r (Some win) n h e =
    let k : (r ≡ Fetches (with_halves got (first_in text p win) (second_in text p win))) × (first_in text p win ≡ 0 → is_cleared w.cleared p ≡ true) =
    halves-goes w.cleared got p (first_in text p win) (second_in text p win) r e in
    record { place = p; got = got; window = win; begin = refl; next = n; held = h; reads = k.0; zero_cleared = k.1 }

place-goes : (text : List Span) (w : Windows) (got : Fetched) (r : StepStart) (o : Option ℕ) → text_place got ≡ o → by_place text w got o ≡ Goes r
    → IsPlain (Fetches got) r ⊎ IsRead text w (Fetches got) r
place-goes text w got r None t e = let same : Fetches got ≡ r = cc in inl (record { same = sym same; none = t })
place-goes text w got r (Some p) t e = inr (window-goes text w got p r (window_at (line_no text p) w.held.items) t refl e)

-- a step that goes reads nothing in text, or reads the window of its place's line
pub start-goes : (text : List Span) (w : Windows) (begins goes : StepStart) → by_start text w begins ≡ Goes goes → IsPlain begins goes ⊎ IsRead text w begins goes
start-goes text w (Interrupt code) r e = let same : Interrupt code ≡ r = cc in inl (record { same = sym same; none = refl })
start-goes text w (Fetches got) r e = place-goes text w got r (text_place got) refl e

idle-window : (text : List Span) (w : Windows) (got : Fetched) (p : ℕ) (found : Option Window) → by_window text w.cleared got p found ≢ Idle
idle-window text w got p None = λ e. absurd (cc)
idle-window text w got p (Some win) = halves-idle w.cleared got p (first_in text p win) (second_in text p win)

idle-place : (text : List Span) (w : Windows) (got : Fetched) (o : Option ℕ) → by_place text w got o ≢ Idle
idle-place text w got None = λ e. absurd (cc)
idle-place text w got (Some p) = idle-window text w got p (window_at (line_no text p) w.held.items)

-- a vCPU that may step does something
pub start-busy : (text : List Span) (w : Windows) (r : StepStart) → by_start text w r ≢ Idle
start-busy text w (Interrupt code) = λ e. absurd (cc)
start-busy text w (Fetches got) = idle-place text w got (text_place got)
