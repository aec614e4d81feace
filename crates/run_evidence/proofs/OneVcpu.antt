-- A run of one vCPU: each step is of vCPU 0, without a hook under the view of its name, and an ended run has an entry
-- for steps alone.
use Rattle.std.proofs.Common.{◌≡◌, ℕ, ◌<◌, ◌≤◌, true, List, [], ◌∷◌, length, refl, sym, ap, subst, ◌∙◌, arith, Option, Some, None, take}
use Rattle.std.specs.Prelude.{is_none, IsSome, slice_index}
use Rattle.std.proofs.lemmas.List.FromFn.{get_or-map-range_with_len, length-map-range_with_len}
use Rattle.chain_log.specs.declared.entry.LogEntry.{LogEntry}
use Rattle.fc_numbers.specs.declared.machine.End.{End}
use Rattle.guest_input.specs.declared.image.Image.{Image}
use Rattle.guest_input.specs.declared.setup.Setup.{Setup}
use Rattle.view_file.specs.Named.{view_named}
use Rattle.guest_board.specs.declared.rules.Rules.{Rules}
use Rattle.guest_board.specs.declared.slot.Slot.{Slot}
use Rattle.guest_board.specs.Board.{State, may, name_of, next_start, no_slot, run_from, step_of}
use Rattle.guest_board.specs.First.{first_slot, first_slots, first_state, hook_place, text_of}
use Rattle.run_evidence.specs.Config.{Config, rules_in, full, full_at, IsLawfulSchedule, view_at}
use Rattle.run_evidence.specs.Evidence.{IsJustified, AllJustified}
use Rattle.run_evidence.proofs.Runs.{full_at-now}
use Rattle.run_evidence.proofs.Logged.{IsOfStep, AllOfSteps}
use Rattle.run_evidence.proofs.Steps.{step-is, stepped-slots, step-name, may-slot, may-none}

-- a run keeps the number of vCPUs
run-vcpus : (rules : Rules) (s : State) (schedule : List ℕ) → length (run_from rules s schedule).slots ≡ length s.slots
run-vcpus rules s [] = refl
run-vcpus rules s (i ∷ is) = run-vcpus rules (step_of rules s i) is ∙ ap (λ (x : State). length x.slots) (step-is rules s i) ∙ stepped-slots rules s i (next_start s i)

first-vcpus : (image : Image) (setup : Setup) → length (first_state image setup).slots ≡ setup.vcpus
unfolding first_state first_slots
first-vcpus image setup = length-map-range_with_len (first_slot image.entry setup.start) 0 setup.vcpus

pub full-vcpus : (c : Config) (schedule : List ℕ) → length (full c schedule).slots ≡ c.setup.vcpus
full-vcpus c schedule = run-vcpus (rules_in c) (first_state c.image c.setup) schedule ∙ first-vcpus c.image c.setup

-- where no step is a hook step, a run keeps every name
run-name : (rules : Rules) (s : State) (schedule : List ℕ) (k : ℕ) → rules.hook ≡ None → name_of (run_from rules s schedule) k ≡ name_of s k
run-name rules s [] k unhooked = refl
run-name rules s (i ∷ is) k unhooked = run-name rules (step_of rules s i) is k unhooked ∙ step-name rules s i k unhooked

first-name : (image : Image) (setup : Setup) (k : ℕ) → k < setup.vcpus → name_of (first_state image setup) k ≡ setup.start
unfolding first_state first_slots
first-name image setup k within = ap (λ (x : Slot). x.name) (get_or-map-range_with_len (first_slot image.entry setup.start) 0 setup.vcpus k k no_slot within (omega arith))

full-name : (c : Config) (schedule : List ℕ) (k : ℕ) → c.setup.hook ≡ None → k < c.setup.vcpus → name_of (full c schedule) k ≡ c.setup.start
full-name c schedule k unhooked within =
    run-name (rules_in c) (first_state c.image c.setup) schedule k (ap (λ h. hook_place (text_of c.image) h) unhooked) ∙ first-name c.image c.setup k within

-- nobody may step once the run has ended
none-some : (e : Option End) → is_none e ≡ true → IsSome e → ⊥
none-some None n s = absurd (cc)
none-some (Some e) n s = absurd (cc)

module _ (c : Config) (one : c.setup.vcpus ≡ 1) where
  alone : (schedule : List ℕ) (i : ℕ) → may (rules_in c) (full c schedule) i ≡ true → i ≡ 0
  alone schedule i m = omega (arith, may-slot (rules_in c) (full c schedule) i m, full-vcpus c schedule, one)

  module _ (schedule : List ℕ) (lawful : IsLawfulSchedule c schedule) where
    member-zero : (t : ℕ) → t < length schedule → slice_index schedule t ≡ 0
    member-zero t h = alone (take t schedule) (slice_index schedule t) (lawful t h)

    -- where no step is a hook step, each is under the view of the setup's name
    pub view-first : c.setup.hook ≡ None → (t : ℕ) → t < length schedule → view_at c schedule t ≡ view_named c.views c.setup.start
    view-first unhooked t h =
        ap (λ i. view_named c.views (name_of (full_at c schedule t) i)) (member-zero t h)
        ∙ ap (λ n. view_named c.views n) (full-name c (take t schedule) 0 unhooked (omega (arith, one)))

    -- where the run has ended, each entry was made at one of its steps
    of-step : (e : LogEntry) → IsSome (full c schedule).end → IsJustified c schedule e → IsOfStep schedule e
    of-step e ended j =
        let not_last : e.at ≡ length schedule → ⊥ = λ a.
        let last : may (rules_in c) (full c schedule) e.vcpu ≡ true =
        subst (λ s. may (rules_in c) s e.vcpu ≡ true) (ap (λ n. full_at c schedule n) a ∙ full_at-now c schedule) j.may_step in
        none-some (full c schedule).end (may-none (rules_in c) (full c schedule) e.vcpu last) ended in
        let within : e.at < length schedule = strict e.at (length schedule) j.early not_last in
        record {
          within = within;
          vcpu = alone (take e.at schedule) e.vcpu j.may_step ∙ sym (member-zero e.at within);
        }
      where
        strict : (a b : ℕ) → a ≤ b → (a ≡ b → ⊥) → a < b
        strict a b l n = omega (arith, l, n)

    pub all-of-steps : (log : List LogEntry) → IsSome (full c schedule).end → AllJustified c schedule log → AllOfSteps schedule log
    all-of-steps [] ended all = tt
    all-of-steps (e ∷ es) ended all = (of-step e ended all.0, all-of-steps es ended all.1)
