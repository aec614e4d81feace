-- A trace that breaks off is refused.
use Rattle.std.proofs.Common.{◌≡◌, ℕ, ◌^◌, ◌<◌, ◌≤◌, eqb, ltb, true, false, Bool, cond, List, ◌++◌, length, take, drop, Result, Ok, Err, refl, sym, ap, ◌∙◌, arith, inl, inr}
use Rattle.std.specs.Prelude.{bytes_eq}
use Rattle.std.specs.Int.{w8, w32, w64, from_le_bytes}
use Rattle.std.proofs.lemmas.Bool.{lt-ltb, le-ltb}
use Rattle.std.proofs.lemmas.List.{length-append, length-drop}
use Rattle.fc_numbers.specs.declared.machine.End.{End}
use Rattle.chain_log.specs.declared.entry.LogEntry.{LogEntry}
use Rattle.trace_file.specs.declared.fault.TraceFault.{TraceFault}
use Rattle.trace_file.specs.declared.fault.TraceFault.TheVariants.{NotTrace, Truncated}
use Rattle.trace_file.specs.declared.halt.Halt.{Halt}
use Rattle.trace_file.specs.declared.halt.Halt.TheVariants.{Short, Fault}
use Rattle.trace_file.specs.declared.runs.Before.{Before}
use Rattle.trace_file.specs.declared.state.State.{State}
use Rattle.trace_file.specs.declared.trace.TheConstants.{MARK}
use Rattle.trace_file.specs.Form.{Form, ◌>>=◌, number, both, unless, checked, counted_items, short_is}
use Rattle.trace_file.specs.Runs.{run, run_fault, run_form, runs_form, after_run, at_first, runs_of, schedule_of}
use Rattle.trace_file.specs.Entries.{entry_fault, head_of, head_parts, head_form, entry_of, entry_parts, entry_form, after_entry, entries_form}
use Rattle.trace_file.specs.Values.{values_of, state_of}
use Rattle.trace_file.specs.States.{mode_fault, value_form, values_form, state_form, states_form}
use Rattle.trace_file.specs.Trace.{Told, vcpus_fault, vcpus_form, end_number, end_of, end_fault, end_form, digest_form, pages_fault, pages_form, told_of, parts_of, trace_form, text_of_trace, result_at_end, trace_of}
use Rattle.trace_file.specs.Lawful.{IsLawfulTrace}
use Rattle.trace_file.proofs.Cuts.{CutsShort, short_of, ends_in, raw_cut, both_cut, checked_cut, seen_cut, items_cut, c8, c16, c32, c64}
use Rattle.trace_file.proofs.IsForm.{IsForm}
use Rattle.trace_file.proofs.Forms.{ItemsFit, CountedFit}
use Rattle.trace_file.proofs.Numbers.{n8, n16, n32, n64, RawFit, raw_form}
use Rattle.trace_file.proofs.RunLaws.{RunFit, run_is, RunsFit, runs_is}
use Rattle.trace_file.proofs.EntryLaws.{HeadFit, head_is, PlacesFit, EntryFit, entry_is, EntriesFit, entries_is}
use Rattle.trace_file.proofs.StateLaws.{ByTest, ValueFit, value_is, ValuesFit, StateFit, state_is, StatesFit, states_is}
use Rattle.trace_file.proofs.TraceLaws.{NumberFit, CountFit, count_is, PagesFit, vcpus_is, end_is, lawful_trace}

module _ {A S : Type 0} (c : ℕ → Type 0) (count : Form ℕ) (counts : IsForm c count) (short : CutsShort c count) (p : ℕ → S → A → Type 0) (item : ℕ → S → Form A) (next : S → A → S) (each : (k : ℕ) (s : S) → IsForm (p k s) (item k s))
    (cuts : (k : ℕ) (s : S) → CutsShort (p k s) (item k s)) (s : S) where
  counted_cut : CutsShort (CountedFit c count counts p item next each s) (counted_items count item next s)
  counted_cut = seen_cut (λ x. x.1) (λ xs. (length xs, xs)) (both_cut {q = λ n xs. ItemsFit p item next each n 0 s xs} counts short (λ n. items_cut p item next each cuts n 0 s))

run_cut : (vcpus k : ℕ) (before : Before) → CutsShort (RunFit vcpus k before) (run_form vcpus k before)
unfolding run_form
run_cut vcpus k before = checked_cut (run_fault vcpus k before) (seen_cut (λ x. run x.0 x.1) (λ r. (r.vcpu, r.steps)) (both_cut n8 c8 (λ _. c32)))

runs_cut : (vcpus : ℕ) → CutsShort (RunsFit vcpus) (runs_form vcpus)
unfolding runs_form
runs_cut vcpus = seen_cut schedule_of runs_of (counted_cut (λ n. n < 2 ^ 32) (number w32) n32 c32 (RunFit vcpus) (run_form vcpus) after_run (run_is vcpus) (run_cut vcpus) at_first)

head_cut : (vcpus steps k before : ℕ) → CutsShort (HeadFit vcpus steps k before) (head_form vcpus steps k before)
unfolding head_form
head_cut vcpus steps k before =
    checked_cut (entry_fault vcpus steps k before) (seen_cut head_of head_parts (both_cut n8 c8 (λ _. both_cut n16 c16 (λ _. both_cut n8 c8 (λ _. both_cut n32 c32 (λ _. both_cut n64 c64 (λ _. c8)))))))

entry_cut : (vcpus steps k before : ℕ) → CutsShort (EntryFit vcpus steps k before) (entry_form vcpus steps k before)
unfolding entry_form
entry_cut vcpus steps k before =
    seen_cut entry_of entry_parts (both_cut {q = λ h places. PlacesFit h.places places} (head_is vcpus steps k before) (head_cut vcpus steps k before) (λ h. items_cut {S = Unit {0}} (λ _ _ n. n < 2 ^ 64) (λ _ _. number w64) (λ _ _. tt) (λ _ _. n64) (λ _ _. c64) h.places 0 tt))

entries_cut : (vcpus steps : ℕ) → CutsShort (EntriesFit vcpus steps) (entries_form vcpus steps)
unfolding entries_form
entries_cut vcpus steps = counted_cut (λ n. n < 2 ^ 32) (number w32) n32 c32 (EntryFit vcpus steps) (entry_form vcpus steps) after_entry (entry_is vcpus steps) (entry_cut vcpus steps) 0

end_cut : CutsShort (λ e. NumberFit (end_number e)) end_form
unfolding end_form
end_cut = seen_cut end_of end_number (checked_cut end_fault c8)

by_test : (b : Bool) → CutsShort (ByTest b) (cond b (checked mode_fault (number w8)) (number w64))
by_test true = checked_cut mode_fault c8
by_test false = c64

values_cut : CutsShort ValuesFit values_form
unfolding values_form
values_cut = items_cut {S = Unit {0}} ValueFit value_form (λ s _. s) value_is (λ k s. by_test (eqb k 32)) 44 0 tt

state_cut : CutsShort StateFit state_form
unfolding state_form
state_cut = seen_cut state_of values_of values_cut

states_cut : (n : ℕ) → CutsShort (StatesFit n) (states_form n)
unfolding states_form
states_cut n = items_cut {S = Unit {0}} (λ _ _. StateFit) (λ _ _. state_form) (λ _ _. tt) (λ _ _. state_is) (λ _ _. state_cut) n 0 tt

pages_cut : CutsShort PagesFit pages_form
unfolding pages_form
pages_cut = counted_cut {S = Unit {0}} CountFit (checked pages_fault (number w8)) count_is (checked_cut pages_fault c8) (λ _ _. RawFit 32) (λ _ _. digest_form) (λ s _. s) (λ _ _. raw_form 32) (λ _ _. raw_cut 32) tt

-- ---- the whole

abbrev Rest : Type 0
Rest = List ℕ × (List LogEntry × (End × (List State × (List ℕ × List (List ℕ)))))

-- what stands behind the number of vCPUs
abbrev rest_form : ℕ → Form Rest
rest_form vcpus = both (runs_form vcpus) (λ schedule. both (entries_form vcpus (length schedule)) (λ _. both end_form (λ _. both (states_form vcpus) (λ _. both digest_form (λ _. pages_form)))))

abbrev RestFit : ℕ → Rest → Type 0
RestFit vcpus x = RunsFit vcpus x.0 × (EntriesFit vcpus (length x.0) x.1.0 × (NumberFit (end_number x.1.1.0) × (StatesFit vcpus x.1.1.1.0 × (RawFit 32 x.1.1.1.1.0 × PagesFit x.1.1.1.1.1))))

rest_cut : (vcpus : ℕ) → CutsShort (RestFit vcpus) (rest_form vcpus)
rest_cut vcpus =
    both_cut (runs_is vcpus) (runs_cut vcpus) (λ schedule. both_cut (entries_is vcpus (length schedule)) (entries_cut vcpus (length schedule)) (λ _. both_cut end_is end_cut (λ _. both_cut (states_is vcpus) (states_cut vcpus) (λ _. both_cut (raw_form 32) (raw_cut 32) (λ _. pages_cut)))))

either_way : (b : Bool) (r : Result (ℕ × List ℕ) Halt) → r ≡ Err Short → short_is NotTrace (cond b r (Err (Fault NotTrace))) ≡ Err (Fault NotTrace)
either_way true r e = ap (λ x. short_is NotTrace x) e
either_way false r e = refl

not_begun : (front : List ℕ) → length front ≤ 8 → vcpus_form.read front ≡ Err (Fault NotTrace)
unfolding vcpus_form
not_begun front few =
    let rest : List ℕ = drop 8 front in
    either_way (bytes_eq (take 8 front) MARK) ((checked vcpus_fault (number w8)).read rest)
    (ap (λ r. r >>= λ x. unless (vcpus_fault x.0) x) (short_of (length rest) 1 (Ok (from_le_bytes w8 (take 1 rest), drop 1 rest)) (omega (arith, length-drop 8 front))))

nine : (vcpus : ℕ) → length (vcpus_form.spell vcpus) ≡ 9
unfolding vcpus_form
nine vcpus = refl

abbrev joined : ℕ → Rest × List ℕ → Result ((ℕ × Rest) × List ℕ) Halt
joined vcpus b = Ok ((vcpus, b.0), b.1)

abbrev went_on : Result (ℕ × List ℕ) Halt → Result (Told × List ℕ) Halt
went_on r = (r >>= λ a. (rest_form a.0).read a.1 >>= λ b. joined a.0 b) >>= λ a. Ok (told_of a.0, a.1)

abbrev refused_by : TraceFault → Result Told TraceFault
refused_by fault = Err fault

abbrev pub shorter_fault : List ℕ → TraceFault
shorter_fault front = cond (ltb (length front) 9) NotTrace (Truncated (length front))

pub shorter_refused : (t : Told) (front back : List ℕ) → IsLawfulTrace t → text_of_trace t ≡ front ++ back → 1 ≤ length back → trace_of front ≡ Err (shorter_fault front)
unfolding trace_form
shorter_refused t front back h e some =
    let fits = lawful_trace t h in
    elim (ends_in (vcpus_form.spell t.vcpus) ((rest_form t.vcpus).spell (parts_of t).1) front back e) [
      | inl k ↦
          let few : length front ≤ 8 = omega (arith, nine t.vcpus, ap length k.1, length-append front k.0, k.2) in
          ap (λ r. result_at_end front (went_on r)) (not_begun front few)
          ∙ ap (λ (b : Bool). refused_by (cond b NotTrace (Truncated (length front)))) (sym (lt-ltb (length front) 9 (omega arith)))
      | inr k ↦
          ap (λ bytes. result_at_end front (went_on (vcpus_form.read bytes))) k.1
          ∙ ap (λ r. result_at_end front (went_on r)) (vcpus_is.again t.vcpus k.0 fits.0)
          ∙ ap (λ r. result_at_end front ((r >>= λ b. joined t.vcpus b) >>= λ a. Ok (told_of a.0, a.1))) ((rest_cut t.vcpus).cut (parts_of t).1 k.0 back fits.1 k.2 some)
          ∙ ap (λ (b : Bool). refused_by (cond b NotTrace (Truncated (length front)))) (sym (le-ltb (length front) 9 (omega (arith, nine t.vcpus, ap length k.1, length-append (vcpus_form.spell t.vcpus) k.0))))
    ]
