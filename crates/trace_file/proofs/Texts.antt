-- Texts of lists of parts, one after the other.
use Rattle.std.proofs.Common.{◌≡◌, ℕ, suc, ◌+◌, ◌<◌, ◌≤◌, ◌^◌, List, [], ◌∷◌, ◌++◌, length, drop, refl, sym, ap, ◌∙◌, append_assoc, append-nil, arith}
use Rattle.std.specs.Prelude.{slice_index}
use Rattle.std.specs.List.{flat_map}
use Rattle.std.specs.Int.{w8, w16, w32, w64, to_le_bytes}
use Rattle.std.proofs.lemmas.List.{drop_more, drop_all}
use Rattle.std.proofs.lemmas.List.Concat.{flat_map-cons}
use Rattle.chain_log.specs.declared.entry.LogEntry.{LogEntry}
use Rattle.trace_file.specs.declared.runs.Run.{Run}
use Rattle.trace_file.specs.declared.state.State.{State}
use Rattle.trace_file.specs.declared.trace.TheConstants.{MARK}
use Rattle.trace_file.specs.Form.{Form, number, repeated_form, spell_items}
use Rattle.trace_file.specs.Runs.{run_form, runs_form, run_text, runs_of, after_run, at_first}
use Rattle.trace_file.specs.Entries.{head_form, entry_form, entries_form, entry_text, after_entry}
use Rattle.trace_file.specs.States.{value_form, values_form, state_form, states_form, state_text}
use Rattle.trace_file.specs.Values.{values_of}
use Rattle.trace_file.specs.Trace.{Told, vcpus_form, end_form, end_number, digest_form, pages_form, trace_form, text_of_trace}
use Rattle.trace_file.proofs.StateLaws.{mode_of_state}

pub spelled : {A S : Type 0} (item : ℕ → S → Form A) (next : S → A → S) (one : A → List ℕ) → ((k : ℕ) (s : S) (a : A) → (item k s).spell a ≡ one a) → (k : ℕ) (s : S) (xs : List A) → spell_items item next k s xs ≡ flat_map one xs
unfolding spell_items
spelled item next one h k s [] = refl
spelled item next one h k s (x ∷ xs) = ap (λ t. t ++ spell_items item next (suc k) (next s x) xs) (h k s x) ∙ ap (λ t. one x ++ t) (spelled item next one h (suc k) (next s x) xs) ∙ sym (flat_map-cons one x xs)

run_same : (vcpus k : ℕ) (s : Rattle.trace_file.specs.declared.runs.Before.Before) (r : Run) → (run_form vcpus k s).spell r ≡ run_text r
unfolding run_form
run_same vcpus k s r = refl

entry_same : (vcpus steps k before : ℕ) (e : LogEntry) → (entry_form vcpus steps k before).spell e ≡ entry_text e
unfolding entry_form head_form
entry_same vcpus steps k before e = refl

pub places_text : (n : ℕ) (places : List ℕ) → (repeated_form n (number w64)).spell places ≡ flat_map (λ place. to_le_bytes w64 place) places
places_text n places = spelled {S = Unit {0}} (λ _ _. number w64) (λ _ _. tt) (λ place. to_le_bytes w64 place) (λ k s a. refl) 0 tt places

pub entry_pieces : (e : LogEntry) → entry_text e ≡
    (to_le_bytes w8 e.view ++ (to_le_bytes w16 e.group ++ (to_le_bytes w8 e.vcpu ++ (to_le_bytes w32 e.at ++ (to_le_bytes w64 e.pc ++ to_le_bytes w8 (length e.chain.items)))))) ++ flat_map (λ place. to_le_bytes w64 place) e.chain.items
unfolding entry_form head_form
entry_pieces e = ap (λ t. (to_le_bytes w8 e.view ++ (to_le_bytes w16 e.group ++ (to_le_bytes w8 e.vcpu ++ (to_le_bytes w32 e.at ++ (to_le_bytes w64 e.pc ++ to_le_bytes w8 (length e.chain.items)))))) ++ t) (places_text (length e.chain.items) e.chain.items)

pub state_pieces : (s : State) → state_text s ≡ values_form.spell (values_of s)
unfolding state_form
state_pieces s = refl

pub mode_fits : (s : State) → slice_index (values_of s) 32 < 2 ^ 8
mode_fits s = omega (arith, mode_of_state s 32 refl)

-- one value more
pub value-on : (out values whole : List ℕ) (k : ℕ) → k < length values → out ++ spell_items value_form (λ s _. s) k tt (drop k values) ≡ whole
    → (out ++ (value_form k tt).spell (slice_index values k)) ++ spell_items value_form (λ s _. s) (k + 1) tt (drop (k + 1) values) ≡ whole
unfolding spell_items
value-on out values whole k lt h =
    let j : k + 1 ≡ suc k = omega arith in
    let x : ℕ = slice_index values k in
    append_assoc out ((value_form k tt).spell x) (spell_items value_form (λ s _. s) (k + 1) tt (drop (k + 1) values))
    ∙ ap (λ n. out ++ ((value_form k tt).spell x ++ spell_items value_form (λ s _. s) n tt (drop (k + 1) values))) j
    ∙ sym (ap (λ vs. out ++ spell_items value_form (λ s _. s) k tt vs) (drop_more values k 0 lt))
    ∙ h

pub value-end : (out values whole : List ℕ) (k : ℕ) → length values ≤ k → out ++ spell_items value_form (λ s _. s) k tt (drop k values) ≡ whole → out ≡ whole
unfolding spell_items
value-end out values whole k le h = sym (append-nil out) ∙ sym (ap (λ vs. out ++ spell_items value_form (λ s _. s) k tt vs) (drop_all k values le)) ∙ h

-- the text of a trace, piece by piece
pub text_pieces : (t : Told) → text_of_trace t ≡
    (MARK ++ to_le_bytes w8 t.vcpus) ++ ((to_le_bytes w32 (length (runs_of t.schedule)) ++ flat_map run_text (runs_of t.schedule)) ++ ((to_le_bytes w32 (length t.entries) ++ flat_map entry_text t.entries)
    ++ (to_le_bytes w8 (end_number t.end) ++ (flat_map state_text t.states ++ (t.memory ++ (to_le_bytes w8 (length t.pages) ++ flat_map (λ digest. digest) t.pages))))))
unfolding trace_form vcpus_form runs_form entries_form end_form states_form pages_form
text_pieces t =
    let a = spelled (run_form t.vcpus) after_run run_text (run_same t.vcpus) 0 at_first (runs_of t.schedule) in
    let b = spelled (entry_form t.vcpus (length t.schedule)) after_entry entry_text (entry_same t.vcpus (length t.schedule)) 0 0 t.entries in
    let c = spelled {S = Unit {0}} (λ _ _. state_form) (λ _ _. tt) state_text (λ k s x. refl) 0 tt t.states in
    let d = spelled {S = Unit {0}} (λ _ _. digest_form) (λ s _. s) (λ digest. digest) (λ k s x. refl) 0 tt t.pages in
    rw (a, b, c, d) refl

-- ---- what was appended, one after the other

join7 : (o a b c d e f g : List ℕ) → ((((((o ++ a) ++ b) ++ c) ++ d) ++ e) ++ f) ++ g ≡ o ++ ((a ++ (b ++ (c ++ (d ++ (e ++ f))))) ++ g)
join7 o a b c d e f g = simp append_assoc

pub entry_joined : (e : LogEntry) (o p q r s t u v : List ℕ) (n : ℕ) (places : List ℕ) → p ≡ o ++ to_le_bytes w8 e.view → q ≡ p ++ to_le_bytes w16 e.group → r ≡ q ++ to_le_bytes w8 e.vcpu → s ≡ r ++ to_le_bytes w32 e.at → t ≡ s ++ to_le_bytes w64 e.pc
    → u ≡ t ++ to_le_bytes w8 n → v ≡ u ++ flat_map (λ place. to_le_bytes w64 place) places → n ≡ length e.chain.items → places ≡ e.chain.items → v ≡ o ++ entry_text e
entry_joined e o p q r s t u v n places e1 e2 e3 e4 e5 e6 e7 k1 k2 =
    let tail : List ℕ = flat_map (λ place. to_le_bytes w64 place) e.chain.items in
    e7 ∙ ap (λ (x : List ℕ). u ++ flat_map (λ place. to_le_bytes w64 place) x) k2
    ∙ ap (λ (x : List ℕ). x ++ tail) (e6 ∙ ap (λ (k : ℕ). t ++ to_le_bytes w8 k) k1 ∙ ap (λ (x : List ℕ). x ++ to_le_bytes w8 (length e.chain.items)) (e5 ∙ ap (λ (x : List ℕ). x ++ to_le_bytes w64 e.pc) (e4 ∙ ap (λ (x : List ℕ). x ++ to_le_bytes w32 e.at) (e3 ∙ ap (λ (x : List ℕ). x ++ to_le_bytes w8 e.vcpu) (e2 ∙ ap (λ (x : List ℕ). x ++ to_le_bytes w16 e.group) e1)))))
    ∙ join7 o (to_le_bytes w8 e.view) (to_le_bytes w16 e.group) (to_le_bytes w8 e.vcpu) (to_le_bytes w32 e.at) (to_le_bytes w64 e.pc) (to_le_bytes w8 (length e.chain.items)) tail
    ∙ ap (λ (x : List ℕ). o ++ x) (sym (entry_pieces e))

-- a list behind its length
pub counted_joined : (o p q x : List ℕ) (n : ℕ) → p ≡ o ++ to_le_bytes w32 n → q ≡ p ++ x → q ≡ o ++ (to_le_bytes w32 n ++ x)
counted_joined o p q x n e1 e2 = e2 ∙ ap (λ (z : List ℕ). z ++ x) e1 ∙ append_assoc o (to_le_bytes w32 n) x

join6 : (a b c d e f g : List ℕ) → (((((a ++ b) ++ c) ++ d) ++ e) ++ f) ++ g ≡ a ++ (b ++ (c ++ (d ++ (e ++ (f ++ g)))))
join6 a b c d e f g = simp append_assoc

pub trace_joined : (t0 : Told) (p q r s t u v w : List ℕ)
    → p ≡ MARK ++ to_le_bytes w8 t0.vcpus → q ≡ p ++ (to_le_bytes w32 (length (runs_of t0.schedule)) ++ flat_map run_text (runs_of t0.schedule)) → r ≡ q ++ (to_le_bytes w32 (length t0.entries) ++ flat_map entry_text t0.entries)
    → s ≡ r ++ to_le_bytes w8 (end_number t0.end) → t ≡ s ++ flat_map state_text t0.states → u ≡ t ++ t0.memory → v ≡ u ++ to_le_bytes w8 (length t0.pages) → w ≡ v ++ flat_map (λ digest. digest) t0.pages
    → w ≡ text_of_trace t0
trace_joined t0 p q r s t u v w e1 e2 e3 e4 e5 e6 e7 e8 =
    let pages : List ℕ = flat_map (λ digest. digest) t0.pages in
    e8 ∙ ap (λ (x : List ℕ). x ++ pages) e7 ∙ append_assoc u (to_le_bytes w8 (length t0.pages)) pages
    ∙ ap (λ (x : List ℕ). x ++ (to_le_bytes w8 (length t0.pages) ++ pages)) (e6 ∙ ap (λ (x : List ℕ). x ++ t0.memory) (e5 ∙ ap (λ (x : List ℕ). x ++ flat_map state_text t0.states) (e4 ∙ ap (λ (x : List ℕ). x ++ to_le_bytes w8 (end_number t0.end)) (e3 ∙ ap (λ (x : List ℕ). x ++ (to_le_bytes w32 (length t0.entries) ++ flat_map entry_text t0.entries)) (e2 ∙ ap (λ (x : List ℕ). x ++ (to_le_bytes w32 (length (runs_of t0.schedule)) ++ flat_map run_text (runs_of t0.schedule))) e1)))))
    ∙ join6 (MARK ++ to_le_bytes w8 t0.vcpus) (to_le_bytes w32 (length (runs_of t0.schedule)) ++ flat_map run_text (runs_of t0.schedule)) (to_le_bytes w32 (length t0.entries) ++ flat_map entry_text t0.entries) (to_le_bytes w8 (end_number t0.end)) (flat_map state_text t0.states) t0.memory (to_le_bytes w8 (length t0.pages) ++ pages)
    ∙ sym (text_pieces t0)
