-- The laws of a trace's text.
use Rattle.std.proofs.Common.{◌≡◌, ℕ, zero, suc, ◌^◌, ◌<◌, ◌≤◌, eqb, ltb, ◌||◌, true, false, Bool, cond, List, [], ◌++◌, length, None, Result, Ok, Err, refl, sym, ap, ◌∙◌, append-nil, arith}
use Rattle.std.specs.List.{AllByRecursion}
use Rattle.std.specs.Int.{w8}
use Rattle.std.proofs.lemmas.Bool.{eqb-true, eqb-false, ne_eqb, ltb-false, le-ltb, or_parts, or_from}
use Rattle.std.proofs.lemmas.List.{nil_from_length}
use Rattle.fc_numbers.specs.declared.machine.End.{End}
use Rattle.fc_numbers.specs.declared.machine.End.TheVariants.{Spent, Shutdown, Stopped}
use Rattle.fc_numbers.specs.declared.machine.Stop.TheVariants.{StoreToText, TableInText, KernelOutsideText, TextSplit}
use Rattle.trace_file.specs.declared.fault.TraceFault.{TraceFault}
use Rattle.trace_file.specs.declared.fault.TraceFault.TheVariants.{NotTrace, BadTail, Trailing}
use Rattle.trace_file.specs.declared.halt.Halt.{Halt}
use Rattle.trace_file.specs.declared.halt.Halt.TheVariants.{Memory, Short, Fault}
use Rattle.std.specs.Prelude.{IfOk}
use Rattle.trace_file.specs.declared.trace.Trace.{Trace}
use Rattle.trace_file.specs.declared.trace.TheConstants.{MARK}
use Rattle.trace_file.specs.Gives.{Answers}
use Rattle.trace_file.specs.Form.{number, checked, behind}
use Rattle.trace_file.proofs.IsForm.{IsBytes, IsForm}
use Rattle.trace_file.specs.Trace.{Told, told_of_trace, vcpus_fault, vcpus_form, end_number, end_of, end_fault, end_form, digest_form, pages_fault, pages_form, told_of, parts_of, trace_form, text_of_trace, result_at_end, trace_of}
use Rattle.trace_file.specs.Lawful.{IsDigest, IsLawfulTrace}
use Rattle.trace_file.proofs.Forms.{both_is, checked_is, seen_is, behind_form, whole_form, CountedFit, counted_form, all_from_each, each_from_all, done, ok_is}
use Rattle.trace_file.proofs.Numbers.{n8, RawFit, raw_form}
use Rattle.trace_file.proofs.NoFault.{none_if, none_from}
use Rattle.trace_file.proofs.RunLaws.{RunsFit, runs_is, runs_lawful, lawful_runs}
use Rattle.trace_file.proofs.EntryLaws.{EntriesFit, entries_is, all_lawful, lawful_all}
use Rattle.trace_file.proofs.StateLaws.{StatesFit, states_is, states_lawful, lawful_states}

-- ---- the number of vCPUs, the end, the digests

abbrev pub VcpusFit : ℕ → Type 0
VcpusFit n = (n < 2 ^ 8) × (vcpus_fault n ≡ None)

pub vcpus_is : IsForm VcpusFit vcpus_form
unfolding vcpus_form
vcpus_is = whole_form VcpusFit NotTrace (behind MARK NotTrace (checked vcpus_fault (number w8))) (behind_form VcpusFit MARK NotTrace (checked vcpus_fault (number w8)) (checked_is vcpus_fault n8))

vcpus_lawful : (n : ℕ) → VcpusFit n → (1 ≤ n) × (n ≤ 8)
vcpus_lawful n h =
    let a = or_parts (eqb n 0) (ltb 8 n) (none_if (eqb n 0 || ltb 8 n) NotTrace None h.1).0 in
    let z = eqb-false n 0 a.0 in
    (omega (arith, z), ltb-false 8 n a.1)

lawful_vcpus : (n : ℕ) → 1 ≤ n → n ≤ 8 → VcpusFit n
lawful_vcpus n some most = (omega arith, none_from (eqb n 0 || ltb 8 n) NotTrace None (or_from (eqb n 0) (ltb 8 n) (ne_eqb n 0 (λ e. omega arith)) (le-ltb 8 n most)) refl)

abbrev pub NumberFit : ℕ → Type 0
NumberFit n = (n < 2 ^ 8) × (end_fault n ≡ None)

end_back : (e : End) → end_of (end_number e) ≡ e
end_back Spent = refl
end_back Shutdown = refl
end_back (Stopped StoreToText) = refl
end_back (Stopped TableInText) = refl
end_back (Stopped KernelOutsideText) = refl
end_back (Stopped TextSplit) = refl

end_forth : (n : ℕ) → n ≤ 5 → end_number (end_of n) ≡ n
end_forth zero h = refl
end_forth (suc zero) h = refl
end_forth (suc (suc zero)) h = refl
end_forth (suc (suc (suc zero))) h = refl
end_forth (suc (suc (suc (suc zero)))) h = refl
end_forth (suc (suc (suc (suc (suc zero))))) h = refl
end_forth (suc (suc (suc (suc (suc (suc n)))))) h = absurd (omega arith)

pub end_is : IsForm (λ e. NumberFit (end_number e)) end_form
unfolding end_form
end_is = seen_is end_of end_number (checked_is end_fault n8) end_back (λ n h. end_forth n (ltb-false 5 n (none_if (ltb 5 n) BadTail None h.1).0))

lawful_end : (e : End) → NumberFit (end_number e)
lawful_end Spent = (omega arith, refl)
lawful_end Shutdown = (omega arith, refl)
lawful_end (Stopped StoreToText) = (omega arith, refl)
lawful_end (Stopped TableInText) = (omega arith, refl)
lawful_end (Stopped KernelOutsideText) = (omega arith, refl)
lawful_end (Stopped TextSplit) = (omega arith, refl)

abbrev pub CountFit : ℕ → Type 0
CountFit n = (n < 2 ^ 8) × (pages_fault n ≡ None)

pub count_is : IsForm CountFit (checked pages_fault (number w8))
count_is = checked_is pages_fault n8

abbrev pub PagesFit : List (List ℕ) → Type 0
PagesFit ps = CountedFit {S = Unit {0}} CountFit (checked pages_fault (number w8)) count_is (λ _ _. RawFit 32) (λ _ _. digest_form) (λ s _. s) (λ _ _. raw_form 32) tt ps

pages_is : IsForm PagesFit pages_form
unfolding pages_form
pages_is = counted_form {S = Unit {0}} CountFit (checked pages_fault (number w8)) count_is (λ _ _. RawFit 32) (λ _ _. digest_form) (λ s _. s) (λ _ _. raw_form 32) tt

pages_lawful : (ps : List (List ℕ)) → PagesFit ps → (1 ≤ length ps) × (length ps ≤ 16) × AllByRecursion IsDigest ps
pages_lawful ps h =
    let a = or_parts (eqb (length ps) 0) (ltb 16 (length ps)) (none_if (eqb (length ps) 0 || ltb 16 (length ps)) BadTail None h.0.1).0 in
    let z = eqb-false (length ps) 0 a.0 in
    (omega (arith, z), ltb-false 16 (length ps) a.1, all_from_each {S = Unit {0}} (RawFit 32) digest_form (raw_form 32) (λ s _. s) 0 tt ps h.1.1)

lawful_pages : (ps : List (List ℕ)) → 1 ≤ length ps → length ps ≤ 16 → AllByRecursion IsDigest ps → PagesFit ps
lawful_pages ps some most h = (
  (omega arith, none_from (eqb (length ps) 0 || ltb 16 (length ps)) BadTail None (or_from (eqb (length ps) 0) (ltb 16 (length ps)) (ne_eqb (length ps) 0 (λ e. omega arith)) (le-ltb 16 (length ps) most)) refl),
  (refl, each_from_all {S = Unit {0}} (RawFit 32) digest_form (raw_form 32) (λ s _. s) 0 tt ps h),
)

-- ---- the whole

abbrev pub TraceFit : Told → Type 0
TraceFit t = VcpusFit t.vcpus × (RunsFit t.vcpus t.schedule × (EntriesFit t.vcpus (length t.schedule) t.entries × (NumberFit (end_number t.end) × (StatesFit t.vcpus t.states × (RawFit 32 t.memory × PagesFit t.pages)))))

pub trace_is : IsForm TraceFit trace_form
unfolding trace_form
trace_is =
    seen_is told_of parts_of
    (both_is vcpus_is (λ vcpus. both_is (runs_is vcpus) (λ schedule. both_is (entries_is vcpus (length schedule)) (λ _. both_is end_is (λ _. both_is (states_is vcpus) (λ _. both_is (raw_form 32) (λ _. pages_is)))))))
    (λ t. refl) (λ x h. refl)

pub trace_lawful : (t : Told) → TraceFit t → IsLawfulTrace t
trace_lawful t h =
    let v = vcpus_lawful t.vcpus h.0 in
    let r = runs_lawful t.vcpus t.schedule h.1.0 in
    let s = states_lawful t.vcpus t.states h.1.1.1.1.0 in
    let p = pages_lawful t.pages h.1.1.1.1.1.1 in
    record {
      some = v.0;
      most = v.1;
      steps = r.1;
      schedule = r.0;
      few = h.1.1.0.0;
      entries = all_lawful t.vcpus (length t.schedule) 0 0 t.entries h.1.1.0.1.1;
      each = s.0;
      states = s.1;
      memory = h.1.1.1.1.1.0;
      views = p.0;
      few_views = p.1;
      pages = p.2;
    }

pub lawful_trace : (t : Told) → IsLawfulTrace t → TraceFit t
lawful_trace t h = (
  lawful_vcpus t.vcpus h.some h.most,
  (
    lawful_runs t.vcpus t.schedule h.most h.steps h.schedule,
    (
      (h.few, (refl, lawful_all t.vcpus (length t.schedule) 0 0 t.entries h.most h.steps h.entries)),
      (lawful_end t.end, (lawful_states t.vcpus t.states h.each h.states, (h.memory, lawful_pages t.pages h.views h.few_views h.pages))),
    ),
  ),
)

-- ---- the laws

read_again : (t : Told) (rest : List ℕ) → IsLawfulTrace t → trace_form.read (text_of_trace t ++ rest) ≡ Ok (t, rest)
read_again t rest h = trace_is.again t rest (lawful_trace t h)

read_text : (t : Told) → IsLawfulTrace t → trace_form.read (text_of_trace t) ≡ Ok (t, [])
read_text t h = ap (λ bytes. trace_form.read bytes) (sym (append-nil (text_of_trace t))) ∙ read_again t [] h

abbrev done_trace : Told → Result Told TraceFault
done_trace t = Ok t

-- what was written is read
pub text_again : (t : Told) → IsLawfulTrace t → trace_of (text_of_trace t) ≡ Ok t
text_again t h = ap (λ r. result_at_end (text_of_trace t) r) (read_text t h)

from_test : (b : Bool) (x : Told × List ℕ) (t : Told) → eqb (length x.1) 0 ≡ b → cond b (done_trace x.0) (Err Trailing) ≡ Ok t → done x ≡ Ok (t, [])
from_test true x t e h =
    let nothing : x.1 ≡ [] = nil_from_length x.1 (eqb-true (length x.1) 0 e) in
    let same : x.0 ≡ t = cc in
    ap (λ (r : List ℕ). done (x.0, r)) nothing ∙ ap (λ (y : Told). done (y, [])) same
from_test false x t e h = absurd cc

ended_ok : (bytes : List ℕ) (r : Result (Told × List ℕ) Halt) (t : Told) → result_at_end bytes r ≡ Ok t → r ≡ Ok (t, [])
ended_ok bytes (Ok x) t e = from_test (eqb (length x.1) 0) x t refl e
ended_ok bytes (Err Memory) t e = absurd cc
ended_ok bytes (Err Short) t e = absurd cc
ended_ok bytes (Err (Fault f)) t e = absurd cc

-- what is read is lawful, and its text
pub text_taken : (bytes : List ℕ) (t : Told) → IsBytes bytes → trace_of bytes ≡ Ok t → IsLawfulTrace t × (bytes ≡ text_of_trace t)
text_taken bytes t low e =
    let r = ended_ok bytes (trace_form.read bytes) t e in
    (trace_lawful t (trace_is.fit bytes t [] low r).0, trace_is.spelt bytes t [] low r ∙ append-nil (text_of_trace t))

-- no text begins another
pub text_apart : (a b : Told) (rest : List ℕ) → IsLawfulTrace a → IsLawfulTrace b → text_of_trace b ≡ text_of_trace a ++ rest → (rest ≡ []) × (a ≡ b)
text_apart a b rest ha hb e =
    let both : done (b, []) ≡ done (a, rest) = sym (read_text b hb) ∙ ap (λ bytes. trace_form.read bytes) e ∙ read_again a rest ha in
    let same = ok_is (b, []) (a, rest) both in
    (sym (ap (λ (x : Told × List ℕ). x.1) same), sym (ap (λ (x : Told × List ℕ). x.0) same))

pub is_found : (bytes : List ℕ) (r : Result Trace TraceFault) → IsBytes bytes → Answers told_of_trace r (trace_of bytes) → IfOk r (λ t. IsLawfulTrace (told_of_trace t) × (bytes ≡ text_of_trace (told_of_trace t)))
is_found bytes (Ok t) low given = text_taken bytes (told_of_trace t) low given
is_found bytes (Err e) low given = tt
