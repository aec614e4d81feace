-- What is accepted has the facts of an accepted setup; and events as far as a loop has come.
use Rattle.std.proofs.Common.{◌≡◌, ℕ, zero, suc, ◌+◌, ◌*◌, ◌%◌, ◌<◌, ◌≤◌, ◌==◌, nat_le, nat_lt, Bool, true, false, cond, not, ◌&&◌, List, [], ◌∷◌, ◌++◌, length, take, get_or, Option, Some, None, option_map, option_and_then, is_some, Result, Ok, Err, ◌||◌, refl, sym, ap, ◌∙◌, subst, arith}
use Rattle.std.specs.List.{list_all}
use Rattle.std.proofs.lemmas.List.{take_more}
use Rattle.std.proofs.lemmas.Option.{none-some, same_Some}
use Rattle.std.proofs.lemmas.Bool.Decides.{nat_tests}
use Rattle.fc_numbers.specs.declared.places.TheConstants.{RAM_START, RAM_MOST, PAGE}
use Rattle.json_fields.specs.Fields.{json_of, each_of}
use Rattle.json_fields.proofs.Lists.{each_of-push}
use Rattle.fc_numbers.specs.declared.places.Span.{Span}
use Rattle.fc_numbers.specs.Spans.{holds, in_text, IsTextBelow}
use Rattle.guest_input.specs.declared.limits.TheConstants.{VCPUS_MOST, STEPS_MOST, NAME_AT_MOST, EVENTS_MOST}
use Rattle.guest_input.specs.declared.image.Start.{Start}
use Rattle.guest_input.specs.declared.image.Image.{Image}
use Rattle.guest_input.specs.declared.setup.Event.{Event}
use Rattle.guest_input.specs.declared.setup.What.{What}
use Rattle.guest_input.specs.declared.setup.Setup.{Setup}
use Rattle.guest_input.specs.Text.{AreRanges, spans_of, bytes_of}
use Rattle.guest_input.specs.Accepted.{IsForVcpu, AreEvents, PartsEndBy, IsSetupFor}
use Rattle.guest_image.specs.declared.setup_file.AskedWhat.{AskedWhat}
use Rattle.guest_image.specs.declared.setup_file.AskedWhat.TheVariants as asked
use Rattle.guest_image.specs.declared.setup_file.AskedEvent.{AskedEvent}
use Rattle.guest_image.specs.declared.setup_file.Asked.{Asked}
use Rattle.elf_read.specs.Steps.{◌>>=◌, must, or_fault}
use Rattle.guest_image.specs.Asked.{asked_of}
use Rattle.guest_image.specs.Limits.{is_ram_size, are_steps, what_for, event_for, events_for, hook_at, out_of_order, unless_out, ends_by, holds_image, accepted_setup, setup_of}
use Rattle.guest_image.specs.declared.image.Field.TheVariants as key
use Rattle.guest_input.specs.declared.setup.What.TheVariants as what
use Rattle.guest_image.specs.declared.setup.SetupFault.TheVariants.{NotJson, Limit, ImageOutsideRam}

bind_ok : {A B E : Type 0} (r : Result A E) (f : A → Result B E) (y : B) → (r >>= f) ≡ Ok y → (x : A) × (r ≡ Ok x) × (f x ≡ Ok y)
bind_ok (Ok x) f y h = (x, refl, h)
bind_ok (Err e) f y h = absurd cc

must_ok : {E : Type 0} (e : E) (b x : Bool) → must e b ≡ Ok x → b ≡ true
must_ok e true x h = refl
must_ok e false x h = absurd cc

same_Ok : {A E : Type 0} (x y : A) → ◌≡◌ {A = Result A E} (Ok x) (Ok y) → x ≡ y
same_Ok x y h = cc

both : (a b : Bool) → (a && b) ≡ true → (a ≡ true) × (b ≡ true)
both true b h = (refl, h)
both false b h = absurd cc

passes : {A : Type 0} (b : Bool) (x : A) (o : Option A) → cond b (Some x) o ≡ None → (b ≡ false) × (o ≡ None)
passes true x o h = absurd (none-some x (sym h))
passes false x o h = (refl, h)

eqb_true : (a b : ℕ) → (a == b) ≡ true → a ≡ b
eqb_true a b h = grind (arith, nat_tests)

leb_true : (a b : ℕ) → nat_le a b ≡ true → a ≤ b
leb_true a b h = grind (arith, nat_tests)

ltb_true : (a b : ℕ) → nat_lt a b ≡ true → a < b
ltb_true a b h = grind (arith, nat_tests)

ltb_false : (a b : ℕ) → nat_lt a b ≡ false → b ≤ a
ltb_false a b h = grind (arith, nat_tests)

-- one more event
pub each_of-next : {A B : Type 0} (f : A → Option B) (xs : List A) (i : ℕ) (d : A) (ys : List B) (y : B)
    → i < length xs → each_of f (take i xs) ≡ Some ys → f (get_or xs i d) ≡ Some y → each_of f (take (i + 1) xs) ≡ Some (ys ++ y ∷ [])
each_of-next f xs i d ys y within done here = ap (each_of f) (take_more xs i d within) ∙ each_of-push f (take i xs) ys (get_or xs i d) y done here

nothing : {A B : Type 0} (o : Option A) → option_and_then {U = B} (λ (y : A). None) o ≡ None
nothing None = refl
nothing (Some y) = refl

-- an event that f makes nothing of
pub each_of-gap : {A B : Type 0} (f : A → Option B) (xs : List A) (i : ℕ) (d : A) → i < length xs → f (get_or xs i d) ≡ None → each_of f xs ≡ None
each_of-gap f [] i d within here = absurd (omega arith)
each_of-gap f (x ∷ xs) zero d within here = rw here
each_of-gap f (x ∷ xs) (suc i) d within here = rw (each_of-gap f xs i d (omega arith) here) (nothing (f x))

same_length : {B : Type 0} (n : ℕ) (o : Option B) (r : Option (List B)) (ys : List B) → ((ws : List B) → r ≡ Some ws → length ws ≡ n)
    → option_and_then (λ y. option_map (λ ys. y ∷ ys) r) o ≡ Some ys → length ys ≡ suc n
same_length n None r ys ih h = absurd (none-some ys h)
same_length n (Some y) None ys ih h = absurd (none-some ys h)
same_length n (Some y) (Some ws) ys ih h = ap length (sym (same_Some (y ∷ ws) ys h)) ∙ ap suc (ih ws refl)

pub each_of-length : {A B : Type 0} (f : A → Option B) (xs : List A) (ys : List B) → each_of f xs ≡ Some ys → length ys ≡ length xs
each_of-length f [] ys h = ap length (sym (same_Some [] ys h))
each_of-length f (x ∷ xs) ys h = same_length (length xs) (f x) (each_of f xs) ys (λ ws. each_of-length f xs ws) h

few_at : (b : Bool) (vcpus : ℕ) (asked : List AskedEvent) (events : List Event) → nat_lt EVENTS_MOST (length asked) ≡ b
    → cond b None (each_of (event_for vcpus) asked) ≡ Some events → length events ≤ EVENTS_MOST
few_at true vcpus asked events is h = absurd (none-some events h)
few_at false vcpus asked events is h =
    let same = each_of-length (event_for vcpus) asked events h in
    let few : length asked ≤ EVENTS_MOST = grind (arith, nat_tests) in
    omega arith

pub events_for-few : (vcpus : ℕ) (asked : List AskedEvent) (events : List Event) → events_for vcpus asked ≡ Some events → length events ≤ EVENTS_MOST
unfolding events_for
events_for-few vcpus asked events h = few_at (nat_lt EVENTS_MOST (length asked)) vcpus asked events refl h

pub event_for-some : (vcpus : ℕ) (a : AskedEvent) (w : What) → what_for vcpus a.what ≡ Some w → event_for vcpus a ≡ Some (record { at = a.at; what = w })
unfolding event_for
event_for-some vcpus a w h = ap (option_map (λ (w : What). let e : Event = record { at = a.at; what = w } in e)) h

pub event_for-none : (vcpus : ℕ) (a : AskedEvent) → what_for vcpus a.what ≡ None → event_for vcpus a ≡ None
unfolding event_for
event_for-none vcpus a h = ap (option_map (λ (w : What). let e : Event = record { at = a.at; what = w } in e)) h

pub none_either : {A : Type 0} (b : Bool) (x : Option A) → x ≡ None → cond b None x ≡ None
none_either true x h = refl
none_either false x h = h

-- ---- the events of an accepted setup

abbrev AllFor : ℕ → List Event → Type 0
AllFor vcpus [] = Unit {0}
AllFor vcpus (e ∷ es) = IsForVcpu vcpus e.what × AllFor vcpus es

below : (b : Bool) (vcpus n : ℕ) (v w : What) → nat_lt n vcpus ≡ b → (n < vcpus → IsForVcpu vcpus v) → cond b (Some v) None ≡ Some w → IsForVcpu vcpus w
below true vcpus n v w is holds h = subst (IsForVcpu vcpus) (same_Some v w h) (holds (ltb_true n vcpus is))
below false vcpus n v w is holds h = absurd (none-some w h)

what_law : (vcpus : ℕ) (a : AskedWhat) (w : What) → what_for vcpus a ≡ Some w → IsForVcpu vcpus w
what_law vcpus (asked.Key byte) w h = subst (IsForVcpu vcpus) (same_Some (what.Key byte) w h) tt
what_law vcpus (asked.Raise n) w h = below (nat_lt n vcpus) vcpus n (what.Raise n) w refl (λ l. l) h
what_law vcpus (asked.Drop n) w h = below (nat_lt n vcpus) vcpus n (what.Drop n) w refl (λ l. l) h

mapped_law : (vcpus at : ℕ) (o : Option What) (e : Event) → ((w : What) → o ≡ Some w → IsForVcpu vcpus w)
    → option_map (λ (w : What). let e : Event = record { at = at; what = w } in e) o ≡ Some e → IsForVcpu vcpus e.what
mapped_law vcpus at None e holds h = absurd (none-some e h)
mapped_law vcpus at (Some w) e holds h = subst (λ (e : Event). IsForVcpu vcpus e.what) (same_Some (record { at = at; what = w }) e h) (holds w refl)

event_law : (vcpus : ℕ) (a : AskedEvent) (e : Event) → event_for vcpus a ≡ Some e → IsForVcpu vcpus e.what
unfolding event_for
event_law vcpus a e h = mapped_law vcpus a.at (what_for vcpus a.what) e (what_law vcpus a.what) h

step_law : (vcpus : ℕ) (o : Option Event) (r : Option (List Event)) (events : List Event) → ((e : Event) → o ≡ Some e → IsForVcpu vcpus e.what)
    → ((es : List Event) → r ≡ Some es → AllFor vcpus es) → option_and_then (λ y. option_map (λ ys. y ∷ ys) r) o ≡ Some events → AllFor vcpus events
step_law vcpus None r events one more h = absurd (none-some events h)
step_law vcpus (Some e) None events one more h = absurd (none-some events h)
step_law vcpus (Some e) (Some es) events one more h = subst (AllFor vcpus) (same_Some (e ∷ es) events h) (one e refl, more es refl)

each_law : (vcpus : ℕ) (asked : List AskedEvent) (events : List Event) → each_of (event_for vcpus) asked ≡ Some events → AllFor vcpus events
each_law vcpus [] events h = subst (AllFor vcpus) (same_Some [] events h) tt
each_law vcpus (a ∷ asked) events h = step_law vcpus (event_for vcpus a) (each_of (event_for vcpus) asked) events (event_law vcpus a) (each_law vcpus asked) h

events_at : (b : Bool) (vcpus : ℕ) (asked : List AskedEvent) (events : List Event) → cond b None (each_of (event_for vcpus) asked) ≡ Some events → AllFor vcpus events
events_at true vcpus asked events h = absurd (none-some events h)
events_at false vcpus asked events h = each_law vcpus asked events h

events_law : (vcpus : ℕ) (asked : List AskedEvent) (events : List Event) → events_for vcpus asked ≡ Some events → AllFor vcpus events
unfolding events_for
events_law vcpus asked events h = events_at (nat_lt EVENTS_MOST (length asked)) vcpus asked events h

order_law : (vcpus low k : ℕ) (es : List Event) → AllFor vcpus es → out_of_order low k es ≡ None → AreEvents vcpus low es
order_law vcpus low k [] all h = tt
order_law vcpus low k (e ∷ es) all h =
    let split = passes (nat_lt e.at low) k (out_of_order e.at (k + 1) es) h in
    (ltb_false e.at low split.0, all.0, order_law vcpus e.at (k + 1) es all.1 split.1)

-- ---- the setup

or_fault_ok : {A E : Type 0} (e : E) (o : Option A) (x : A) → or_fault e o ≡ Ok x → o ≡ Some x
or_fault_ok e None x h = absurd cc
or_fault_ok e (Some y) x h = ap Some (same_Ok y x h)

unless_out_ok : (o : Option ℕ) (b : Bool) → unless_out o ≡ Ok b → o ≡ None
unless_out_ok None b h = refl
unless_out_ok (Some k) b h = absurd cc

ends_law : (end : ℕ) (parts : List (ℕ × List ℕ)) → list_all (λ part. ends_by end part.0 (length part.1)) parts ≡ true → PartsEndBy end parts
ends_law end [] h = tt
ends_law end (p ∷ ps) h =
    let split = both (ends_by end p.0 (length p.1)) (list_all (λ part. ends_by end part.0 (length part.1)) ps) h in
    (leb_true (p.0 + length p.1) end split.0, ends_law end ps split.1)

below_end : (end : ℕ) (ss : List Span) (place : ℕ) → list_all (λ s. nat_le s.end end) ss ≡ true → in_text ss place ≡ true → place < end
below_end end [] place k h = absurd cc
below_end end (s ∷ ss) place k h =
    let split = both (nat_le s.end end) (list_all (λ s. nat_le s.end end) ss) k in
    elim (holds s place) as (λ b. holds s place ≡ b → (b || in_text ss place) ≡ true → place < end) [
      | true ↦ λ is _.
          let inside = both (nat_le s.start place) (nat_lt place s.end) is in
          let less : place < s.end = ltb_true place s.end inside.1 in
          let most : s.end ≤ end = leb_true s.end end split.0 in
          omega (arith, less, most)
      | false ↦ λ is more. below_end end ss place split.1 more
    ] refl h

text_below : (end : ℕ) (ss : List Span) (bytes : List ℕ) → AreRanges ss bytes → list_all (λ s. nat_le s.end end) ss ≡ true → IsTextBelow end ss
text_below end ss bytes lawful h = record { few = lawful.below.few; ranges = lawful.below.ranges; size = lawful.below.size; high = λ place inside. below_end end ss place h inside }

-- the tests that an accepted setup passed
record Passed (i : Image) (a : Asked) (events : List Event) : Type 0 where
  vcpus : (nat_le 1 a.vcpus && nat_le a.vcpus VCPUS_MOST) ≡ true
  ram : is_ram_size a.ram ≡ true
  steps : are_steps a.vcpus a.steps ≡ true
  name_at : nat_le a.name_at NAME_AT_MOST ≡ true
  events_are : events_for a.vcpus a.events ≡ Some events
  order : out_of_order 0 0 events ≡ None
  inside : holds_image a.ram i ≡ true

abbrev setup_with : Asked → Option Start → List Event → Setup
setup_with a hook events = record { vcpus = a.vcpus; ram = a.ram; steps = a.steps; hook = hook; name_at = a.name_at; start = a.start; events = events; gstage = a.gstage }

passed_law : (i : Image) (a : Asked) (events : List Event) (hook : Option Start) → AreRanges (spans_of i.ranges) (bytes_of i.ranges) → Passed i a events → IsSetupFor i (setup_with a hook events)
passed_law i a events hook lawful p =
    let vcpus = both (nat_le 1 a.vcpus) (nat_le a.vcpus VCPUS_MOST) p.vcpus in
    let ram = both (nat_le PAGE a.ram && nat_le a.ram RAM_MOST) (a.ram % PAGE == 0) p.ram in
    let size = both (nat_le PAGE a.ram) (nat_le a.ram RAM_MOST) ram.0 in
    let steps = both (nat_le 1 a.steps) (nat_le (a.vcpus * a.steps) STEPS_MOST) p.steps in
    let inside = both (list_all (λ s. nat_le s.end (RAM_START + a.ram)) (spans_of i.ranges)) (list_all (λ part. ends_by (RAM_START + a.ram) part.0 (length part.1)) i.parts) p.inside in
    record {
      setup = record {
        some = leb_true 1 a.vcpus vcpus.0;
        eight = leb_true a.vcpus VCPUS_MOST vcpus.1;
        ram_some = leb_true PAGE a.ram size.0;
        ram_most = leb_true a.ram RAM_MOST size.1;
        ram_whole = eqb_true (a.ram % PAGE) 0 ram.1;
        steps_some = leb_true 1 a.steps steps.0;
        steps_most = leb_true (a.vcpus * a.steps) STEPS_MOST steps.1;
        name_at = leb_true a.name_at NAME_AT_MOST p.name_at;
        events_most = events_for-few a.vcpus a.events events p.events_are;
        events = order_law a.vcpus 0 0 events (events_law a.vcpus a.events events p.events_are) p.order;
      };
      text = text_below (RAM_START + a.ram) (spans_of i.ranges) (bytes_of i.ranges) lawful inside.0;
      parts = ends_law (RAM_START + a.ram) i.parts inside.1;
    }

accepted_law : (i : Image) (a : Asked) (s : Setup) → AreRanges (spans_of i.ranges) (bytes_of i.ranges) → accepted_setup i a ≡ Ok s → IsSetupFor i s
unfolding accepted_setup
accepted_law i a s lawful h =
    let vcpus = bind_ok (must (Limit key.Vcpus) (nat_le 1 a.vcpus && nat_le a.vcpus VCPUS_MOST)) _ s h in
    let ram = bind_ok (must (Limit key.Ram) (is_ram_size a.ram)) _ s vcpus.2 in
    let steps = bind_ok (must (Limit key.Steps) (are_steps a.vcpus a.steps)) _ s ram.2 in
    let name_at = bind_ok (must (Limit key.NameAt) (nat_le a.name_at NAME_AT_MOST)) _ s steps.2 in
    let events = bind_ok (or_fault (Limit key.Events) (events_for a.vcpus a.events)) _ s name_at.2 in
    let hook = bind_ok (hook_at a.hook i.functions) _ s events.2 in
    let order = bind_ok (unless_out (out_of_order 0 0 events.0)) _ s hook.2 in
    let inside = bind_ok (must ImageOutsideRam (holds_image a.ram i)) _ s order.2 in
    subst (IsSetupFor i) (same_Ok (setup_with a hook.0 events.0) s inside.2)
    (passed_law i a events.0 hook.0 lawful (record {
      vcpus = must_ok (Limit key.Vcpus) (nat_le 1 a.vcpus && nat_le a.vcpus VCPUS_MOST) vcpus.0 vcpus.1;
      ram = must_ok (Limit key.Ram) (is_ram_size a.ram) ram.0 ram.1;
      steps = must_ok (Limit key.Steps) (are_steps a.vcpus a.steps) steps.0 steps.1;
      name_at = must_ok (Limit key.NameAt) (nat_le a.name_at NAME_AT_MOST) name_at.0 name_at.1;
      events_are = or_fault_ok (Limit key.Events) (events_for a.vcpus a.events) events.0 events.1;
      order = unless_out_ok (out_of_order 0 0 events.0) order.0 order.1;
      inside = must_ok ImageOutsideRam (holds_image a.ram i) inside.0 inside.1;
    }))

-- what the bytes give is a setup for the image
pub setup_law : (i : Image) (bytes : List ℕ) (s : Setup) → AreRanges (spans_of i.ranges) (bytes_of i.ranges) → setup_of i bytes ≡ Ok s → IsSetupFor i s
unfolding setup_of
setup_law i bytes s lawful h =
    let value = bind_ok (or_fault NotJson (json_of bytes)) _ s h in
    let wanted = bind_ok (asked_of value.0) _ s value.2 in
    accepted_law i wanted.0 s lawful wanted.2
