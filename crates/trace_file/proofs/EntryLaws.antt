-- Entries that the form reads are those of a lawful trace.
use Rattle.std.proofs.Common.{◌≡◌, ℕ, suc, ◌^◌, ◌<◌, ◌≤◌, eqb, leb, ltb, ◌||◌, List, [], ◌∷◌, length, None, refl, ap, arith}
use Rattle.std.specs.Int.{w32, w64}
use Rattle.std.proofs.lemmas.Bool.{eqb-false, ne_eqb, leb-false, lt-leb, ltb-false, le-ltb, or_parts, or_from}
use Rattle.chain_log.specs.declared.entry.LogEntry.{LogEntry}
use Rattle.trace_file.specs.declared.fault.TraceFault.TheVariants.{BadEntry}
use Rattle.trace_file.specs.declared.entries.Head.{Head}
use Rattle.trace_file.specs.Form.{number}
use Rattle.trace_file.proofs.IsForm.{IsForm}
use Rattle.trace_file.specs.Entries.{entry_fault, head_of, head_parts, head_form, entry_of, head_at, entry_parts, entry_form, after_entry, entries_form}
use Rattle.trace_file.specs.Lawful.{IsEntry, AreEntries}
use Rattle.trace_file.proofs.Forms.{both_is, checked_is, seen_is, AllFit, TimesFit, times_form, all_from_each, each_from_all, CountedFit, counted_form}
use Rattle.trace_file.proofs.Numbers.{n8, n16, n32, n64}
use Rattle.trace_file.proofs.NoFault.{none_if, none_from}

abbrev pub HeadFit : ℕ → ℕ → ℕ → ℕ → Head → Type 0
HeadFit vcpus steps k before h =
    ((h.view < 2 ^ 8) × ((h.group < 2 ^ 16) × ((h.vcpu < 2 ^ 8) × ((h.at < 2 ^ 32) × ((h.pc < 2 ^ 64) × (h.places < 2 ^ 8)))))) × (entry_fault vcpus steps k before h ≡ None)

pub head_is : (vcpus steps k before : ℕ) → IsForm (HeadFit vcpus steps k before) (head_form vcpus steps k before)
unfolding head_form
head_is vcpus steps k before =
    checked_is (entry_fault vcpus steps k before) (seen_is head_of head_parts (both_is n8 (λ _. both_is n16 (λ _. both_is n8 (λ _. both_is n32 (λ _. both_is n64 (λ _. n8)))))) (λ h. refl) (λ x h. refl))

abbrev pub PlacesFit : ℕ → List ℕ → Type 0
PlacesFit n places = TimesFit (λ p. p < 2 ^ 64) (number w64) n64 n places

abbrev pub EntryFit : ℕ → ℕ → ℕ → ℕ → LogEntry → Type 0
EntryFit vcpus steps k before e = HeadFit vcpus steps k before (head_at e) × PlacesFit (length e.chain.items) e.chain.items

pub entry_is : (vcpus steps k before : ℕ) → IsForm (EntryFit vcpus steps k before) (entry_form vcpus steps k before)
unfolding entry_form
entry_is vcpus steps k before =
    seen_is entry_of entry_parts (both_is (head_is vcpus steps k before) (λ h. times_form (λ p. p < 2 ^ 64) (number w64) n64 h.places)) (λ e. refl)
    (λ x h. ap (λ (n : ℕ). let head : Head = record { view = x.0.view; group = x.0.group; vcpu = x.0.vcpu; at = x.0.at; pc = x.0.pc; places = n } in (head, x.1)) h.1.0)

pub record HeadGood (vcpus steps before : ℕ) (h : Head) : Type 0 where
  pub some : 1 ≤ h.view
  pub most : h.view < 16
  pub order : before ≤ h.view
  pub group : h.group < 16384
  pub vcpu : h.vcpu < vcpus
  pub at : h.at ≤ steps
  pub places : h.places ≤ 16

pub head_good : (vcpus steps k before : ℕ) (h : Head) → entry_fault vcpus steps k before h ≡ None → HeadGood vcpus steps before h
head_good vcpus steps k before h e =
    let all = none_if (eqb h.view 0 || leb 16 h.view || ltb h.view before || leb 16384 h.group || leb vcpus h.vcpu || ltb steps h.at || ltb 16 h.places) (BadEntry k) None e in
    let a = or_parts (eqb h.view 0 || leb 16 h.view || ltb h.view before || leb 16384 h.group || leb vcpus h.vcpu || ltb steps h.at) (ltb 16 h.places) all.0 in
    let b = or_parts (eqb h.view 0 || leb 16 h.view || ltb h.view before || leb 16384 h.group || leb vcpus h.vcpu) (ltb steps h.at) a.0 in
    let c = or_parts (eqb h.view 0 || leb 16 h.view || ltb h.view before || leb 16384 h.group) (leb vcpus h.vcpu) b.0 in
    let d = or_parts (eqb h.view 0 || leb 16 h.view || ltb h.view before) (leb 16384 h.group) c.0 in
    let f = or_parts (eqb h.view 0 || leb 16 h.view) (ltb h.view before) d.0 in
    let g = or_parts (eqb h.view 0) (leb 16 h.view) f.0 in
    let z = eqb-false h.view 0 g.0 in
    record {
      some = omega (arith, z);
      most = leb-false 16 h.view g.1;
      order = ltb-false h.view before f.1;
      group = leb-false 16384 h.group d.1;
      vcpu = leb-false vcpus h.vcpu c.1;
      at = ltb-false steps h.at b.1;
      places = ltb-false 16 h.places a.1;
    }

pub head_free : (vcpus steps k before : ℕ) (h : Head) → HeadGood vcpus steps before h → entry_fault vcpus steps k before h ≡ None
head_free vcpus steps k before h g =
    let pos = g.some in
    let a = or_from (eqb h.view 0) (leb 16 h.view) (ne_eqb h.view 0 (λ e. omega arith)) (lt-leb 16 h.view g.most) in
    let b = or_from (eqb h.view 0 || leb 16 h.view) (ltb h.view before) a (le-ltb h.view before g.order) in
    let c = or_from (eqb h.view 0 || leb 16 h.view || ltb h.view before) (leb 16384 h.group) b (lt-leb 16384 h.group g.group) in
    let d = or_from (eqb h.view 0 || leb 16 h.view || ltb h.view before || leb 16384 h.group) (leb vcpus h.vcpu) c (lt-leb vcpus h.vcpu g.vcpu) in
    let e = or_from (eqb h.view 0 || leb 16 h.view || ltb h.view before || leb 16384 h.group || leb vcpus h.vcpu) (ltb steps h.at) d (le-ltb steps h.at g.at) in
    let f = or_from (eqb h.view 0 || leb 16 h.view || ltb h.view before || leb 16384 h.group || leb vcpus h.vcpu || ltb steps h.at) (ltb 16 h.places) e (le-ltb 16 h.places g.places) in
    none_from (eqb h.view 0 || leb 16 h.view || ltb h.view before || leb 16384 h.group || leb vcpus h.vcpu || ltb steps h.at || ltb 16 h.places) (BadEntry k) None f refl

pub entry_lawful : (vcpus steps k before : ℕ) (e : LogEntry) → EntryFit vcpus steps k before e → IsEntry vcpus steps before e
entry_lawful vcpus steps k before e h =
    let g = head_good vcpus steps k before (head_at e) h.0.1 in
    record {
      some = g.some;
      most = g.most;
      order = g.order;
      group = g.group;
      vcpu = g.vcpu;
      at = g.at;
      pc = h.0.0.1.1.1.1.0;
      chain = g.places;
      places = all_from_each {S = Unit {0}} (λ p. p < 2 ^ 64) (number w64) n64 (λ _ _. tt) 0 tt e.chain.items h.1.1;
    }

pub lawful_entry : (vcpus steps k before : ℕ) (e : LogEntry) → vcpus ≤ 8 → steps ≤ 16777216 → IsEntry vcpus steps before e → EntryFit vcpus steps k before e
lawful_entry vcpus steps k before e few most h =
    let a = h.most in
    let b = h.group in
    let c = h.vcpu in
    let d = h.at in
    let f = h.chain in (
      (
        (omega arith, (omega arith, (omega arith, (omega arith, (h.pc, omega arith))))),
        head_free vcpus steps k before (head_at e) (record { some = h.some; most = h.most; order = h.order; group = h.group; vcpu = h.vcpu; at = h.at; places = h.chain }),
      ),
      (refl, each_from_all {S = Unit {0}} (λ p. p < 2 ^ 64) (number w64) n64 (λ _ _. tt) 0 tt e.chain.items h.places),
    )

module _ (vcpus steps : ℕ) where
  abbrev pub AllEntries : ℕ → ℕ → List LogEntry → Type 0
  AllEntries k before es = AllFit (EntryFit vcpus steps) (entry_form vcpus steps) after_entry (entry_is vcpus steps) k before es

  pub all_lawful : (k before : ℕ) (es : List LogEntry) → AllEntries k before es → AreEntries vcpus steps before es
  all_lawful k before [] h = tt
  all_lawful k before (e ∷ es) h = (entry_lawful vcpus steps k before e h.0, all_lawful (suc k) e.view es h.1)

  pub lawful_all : (k before : ℕ) (es : List LogEntry) → vcpus ≤ 8 → steps ≤ 16777216 → AreEntries vcpus steps before es → AllEntries k before es
  lawful_all k before [] few most h = tt
  lawful_all k before (e ∷ es) few most h = (lawful_entry vcpus steps k before e few most h.0, lawful_all (suc k) e.view es few most h.1)

  abbrev pub EntriesFit : List LogEntry → Type 0
  EntriesFit es = CountedFit (λ n. n < 2 ^ 32) (number w32) n32 (EntryFit vcpus steps) (entry_form vcpus steps) after_entry (entry_is vcpus steps) 0 es

  pub entries_is : IsForm EntriesFit (entries_form vcpus steps)
  unfolding entries_form
  entries_is = counted_form (λ n. n < 2 ^ 32) (number w32) n32 (EntryFit vcpus steps) (entry_form vcpus steps) after_entry (entry_is vcpus steps) 0
