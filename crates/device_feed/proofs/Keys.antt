-- The list of keys says which keys are due.
use Rattle.std.proofs.Common.{◌≡◌, ℕ, zero, suc, ◌+◌, ◌<◌, ◌≤◌, Bool, true, false, leb, None, List, [], ◌∷◌, length, get_or, drop, sym, refl, arith, slice_get}
use Rattle.std.proofs.lemmas.List.{drop_more}
use Rattle.guest_input.specs.Accepted.{AreEvents}
use Rattle.guest_input.specs.declared.setup.Event.{Event}
use Rattle.guest_input.specs.declared.setup.What.{What}
use Rattle.guest_input.specs.declared.setup.What.TheVariants.{Key, Raise, Drop}
use Rattle.device_feed.specs.declared.lists.DueKey.{DueKey}
use Rattle.device_feed.specs.Devices.{due_events, keys_of, with_key}
use Rattle.device_feed.specs.Lists.{due_keys_of, with_due_key, if_due}

-- where the first event is not due, none is
pub none_due : (vcpus low clock : ℕ) (es : List Event) → AreEvents vcpus low es → clock < low → due_events clock es ≡ []
none_due vcpus low clock [] h m = refl
none_due vcpus low clock (e ∷ es) h m =
    let first : low ≤ e.at = h.0 in
    let fail : leb e.at clock ≡ false = grind arith in
    rw fail (none_due vcpus e.at clock es h.2 (omega arith))

late_key : (clock at : ℕ) (w : What) (keys : List DueKey) (n : ℕ) → clock < at → ((k : ℕ) → if_due clock (slice_get keys k) ≡ None) → if_due clock (slice_get (with_due_key at w keys) n) ≡ None
late_key clock at (Key byte) keys zero m rest = let fail : leb at clock ≡ false = grind arith in rw fail refl
late_key clock at (Key byte) keys (suc n) m rest = rest n
late_key clock at (Raise v) keys n m rest = rest n
late_key clock at (Drop v) keys n m rest = rest n

-- where the first event is not due, no key is
late : (vcpus low clock : ℕ) (es : List Event) (n : ℕ) → AreEvents vcpus low es → clock < low → if_due clock (slice_get (due_keys_of es) n) ≡ None
unfolding due_keys_of
late vcpus low clock [] n h m = refl
late vcpus low clock (e ∷ es) n h m =
    let first : low ≤ e.at = h.0 in
    let more : clock < e.at = omega arith in
    late_key clock e.at e.what (due_keys_of es) n more (λ k. late vcpus e.at clock es k h.2 more)

due_here : (clock at : ℕ) (w : What) (now : List ℕ) (keys : List DueKey) (n : ℕ) → leb at clock ≡ true → ((k : ℕ) → slice_get now k ≡ if_due clock (slice_get keys k)) → slice_get (with_key w now) n ≡ if_due clock (slice_get (with_due_key at w keys) n)
due_here clock at (Key byte) now keys zero pass rest = rw pass refl
due_here clock at (Key byte) now keys (suc n) pass rest = rest n
due_here clock at (Raise v) now keys n pass rest = rest n
due_here clock at (Drop v) now keys n pass rest = rest n

due_cases : (b : Bool) (vcpus low clock : ℕ) (e : Event) (es : List Event) (n : ℕ) → leb e.at clock ≡ b → AreEvents vcpus low (e ∷ es) → ((k : ℕ) → slice_get (keys_of (due_events clock es)) k ≡ if_due clock (slice_get (due_keys_of es) k)) → slice_get (keys_of (due_events clock (e ∷ es))) n ≡ if_due clock (slice_get (due_keys_of (e ∷ es)) n)
unfolding due_keys_of
due_cases true vcpus low clock e es n pass h rest = rw pass (due_here clock e.at e.what (keys_of (due_events clock es)) (due_keys_of es) n pass rest)
due_cases false vcpus low clock e es n fail h rest =
    let more : clock < e.at = grind arith in
    let none : due_events clock es ≡ [] = none_due vcpus e.at clock es h.2 more in
    rw (fail, none) (sym (late_key clock e.at e.what (due_keys_of es) n more (λ k. late vcpus e.at clock es k h.2 more)))

-- the first due key that was not taken stands after those that were
pub due_key_at : (vcpus low clock : ℕ) (es : List Event) (n : ℕ) → AreEvents vcpus low es → slice_get (keys_of (due_events clock es)) n ≡ if_due clock (slice_get (due_keys_of es) n)
unfolding due_keys_of
due_key_at vcpus low clock [] n h = refl
due_key_at vcpus low clock (e ∷ es) n h = due_cases (leb e.at clock) vcpus low clock e es n refl h (λ k. due_key_at vcpus e.at clock es k h.2)

-- the keys of the events from i on
pub keys_more : (es : List Event) (i : ℕ) (e : Event) → i < length es → e ≡ get_or es i e → due_keys_of (drop i es) ≡ with_due_key e.at e.what (due_keys_of (drop (i + 1) es))
unfolding due_keys_of
keys_more es i e m is = rw (drop_more es i e m, ← is) refl

pub due_keys_of_none : due_keys_of [] ≡ []
unfolding due_keys_of
due_keys_of_none = refl
