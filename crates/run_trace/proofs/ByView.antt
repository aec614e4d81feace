-- Entries that stand by view: the logs of the views from a number on, one after another.
use Rattle.std.proofs.Common.{◌≡◌, ◌≢◌, ℕ, zero, suc, ◌+◌, ◌<◌, ◌≤◌, ◌⊎◌, inl, inr, Bool, true, false, arith, refl, ◌∙◌, sym, ap, subst, List, [], ◌∷◌, ◌++◌, length, length-append, append-nil, eq-eqb}
use Rattle.std.specs.Prelude.{◌==◌, ◌&&◌, ◌||◌, ◌*◌}
use Rattle.std.specs.List.{AllByRecursion, filter, flat_map, list_any, range_with_len}
use Rattle.std.proofs.lemmas.Bool.Decides.{nat_tests}
use Rattle.std.proofs.lemmas.List.Elements.{filter-append}
use Rattle.std.proofs.lemmas.List.Folds.{list_any-append}
use Rattle.chain_log.specs.declared.entry.LogEntry.{LogEntry}
use Rattle.run_evidence.specs.Config.{Config}
use Rattle.run_evidence.specs.Evidence.{IsJustified, AllJustified, AllOfView, IsOnce}
use Rattle.run_trace.specs.Sound.{entries_for, NoneTwice}

own-entries : (v : ℕ) (log : List LogEntry) → AllOfView v log → entries_for log v ≡ log
own-entries v [] all = refl
own-entries v (e ∷ es) all =
    let same : (e.view == v) ≡ true = eq-eqb e.view v all.0 in
    let rest : entries_for es v ≡ es = own-entries v es all.1 in
    rw (same, rest) refl

other-entries : (w v : ℕ) (log : List LogEntry) → AllOfView w log → w ≢ v → entries_for log v ≡ []
other-entries w v [] all apart = refl
other-entries w v (e ∷ es) all apart =
    let differs : (e.view == v) ≡ false = grind (arith, nat_tests, all.0, apart) in
    rw differs (other-entries w v es all.1 apart)

any-weaker : (p q : LogEntry → Bool) (xs : List LogEntry) → ((x : LogEntry) → p x ≡ false → q x ≡ false) → list_any p xs ≡ false → list_any q xs ≡ false
any-weaker p q [] weaker none = refl
any-weaker p q (x ∷ xs) weaker none = elim (p x) as (λ b. p x ≡ b → (b || list_any p xs) ≡ false → list_any q (x ∷ xs) ≡ false) [
  | true ↦ λ is no. absurd (cc no)
  | false ↦ λ is no. let here : q x ≡ false = weaker x is in rw here (any-weaker p q xs weaker no)
] refl none

none-of-view : (w v : ℕ) (log : List LogEntry) → AllOfView w log → w ≢ v → list_any (λ x. x.view == v) log ≡ false
none-of-view w v [] all apart = refl
none-of-view w v (e ∷ es) all apart =
    let differs : (e.view == v) ≡ false = grind (arith, nat_tests, all.0, apart) in
    rw differs (none-of-view w v es all.1 apart)

twice-append : (v : ℕ) (log rest : List LogEntry) → AllOfView v log → IsOnce log → list_any (λ x. x.view == v) rest ≡ false → NoneTwice rest → NoneTwice (log ++ rest)
twice-append v [] rest all once apart none = none
twice-append v (e ∷ es) rest all once apart none =
    let here : list_any (λ x. (x.view == e.view) && (x.group == e.group)) es ≡ false
    = any-weaker (λ x. x.group == e.group) (λ x. (x.view == e.view) && (x.group == e.group)) es (λ x no. grind (arith, nat_tests, no)) once.0 in
    let there : list_any (λ x. (x.view == e.view) && (x.group == e.group)) rest ≡ false
    = any-weaker (λ x. x.view == v) (λ x. (x.view == e.view) && (x.group == e.group)) rest (λ x no. grind (arith, nat_tests, no, all.0)) apart in
    let both : list_any (λ x. (x.view == e.view) && (x.group == e.group)) (es ++ rest) ≡ false
    = list_any-append (λ (x : LogEntry). (x.view == e.view) && (x.group == e.group)) es rest ∙ rw (here, there) refl in
    (both, twice-append v es rest all.1 once.1 apart none)

justified-append : (c : Config) (schedule : List ℕ) (xs ys : List LogEntry) → AllJustified c schedule xs → AllJustified c schedule ys → AllJustified c schedule (xs ++ ys)
justified-append c schedule [] ys a b = b
justified-append c schedule (x ∷ xs) ys a b = (a.0, justified-append c schedule xs ys a.1 b)

-- views do not fall
abbrev pub InOrder : ℕ → List LogEntry → Type 0
InOrder before [] = Unit {0}
InOrder before (e ∷ es) = (before ≤ e.view) × InOrder e.view es

order-append : (before v : ℕ) (log rest : List LogEntry) → before ≤ v → AllOfView v log → ((b : ℕ) → b ≤ v → InOrder b rest) → InOrder before (log ++ rest)
order-append before v [] rest low all next = next before low
order-append before v (e ∷ es) rest low all next = (omega (arith, low, all.0), order-append e.view v es rest (omega (arith, all.0)) all.1 next)

below-append : (v n : ℕ) (log rest : List LogEntry) → v < n → AllOfView v log → AllByRecursion (λ e. e.view < n) rest → AllByRecursion (λ e. e.view < n) (log ++ rest)
below-append v n [] rest low all next = next
below-append v n (e ∷ es) rest low all next = (omega (arith, low, all.0), below-append v n es rest low all.1 next)

module _ (logs : ℕ → List LogEntry) (each : (v : ℕ) → AllOfView v (logs v)) where
  abbrev joined : ℕ → ℕ → List LogEntry
  joined a n = flat_map logs (range_with_len a n)

  none-below : (a n v : ℕ) → v < a → entries_for (joined a n) v ≡ []
  none-below a zero v low = refl
  none-below a (suc n) v low =
      let apart : a ≢ v = omega (arith, low) in
      let here : entries_for (logs a) v ≡ [] = other-entries a v (logs a) (each a) apart in
      let rest : entries_for (joined (a + 1) n) v ≡ [] = none-below (a + 1) n v (omega (arith, low)) in
      filter-append (λ (e : LogEntry). e.view == v) (logs a) (joined (a + 1) n) ∙ rw (here, rest) refl

  pub one-of : (a n v : ℕ) → a ≤ v → v < a + n → entries_for (joined a n) v ≡ logs v
  one-of a zero v low high = absurd (omega (arith, low, high))
  one-of a (suc n) v low high =
      filter-append (λ (e : LogEntry). e.view == v) (logs a) (joined (a + 1) n)
      ∙ elim (a == v) as (λ b. (a == v) ≡ b → entries_for (logs a) v ++ entries_for (joined (a + 1) n) v ≡ logs v) [
        | true ↦ λ is.
            let same : a ≡ v = grind (arith, nat_tests, is) in
            let here : entries_for (logs a) v ≡ logs v = subst (λ w. entries_for (logs a) w ≡ logs w) same (own-entries a (logs a) (each a)) in
            let rest : entries_for (joined (a + 1) n) v ≡ [] = none-below (a + 1) n v (omega (arith, same)) in
            rw (here, rest) (append-nil (logs v))
        | false ↦ λ not.
            let apart : a ≢ v = grind (arith, nat_tests, not) in
            let here : entries_for (logs a) v ≡ [] = other-entries a v (logs a) (each a) apart in
            rw here (one-of (a + 1) n v (omega (arith, low, apart)) (omega (arith, high)))
      ] refl

  none-of-later : (a n v : ℕ) → v < a → list_any (λ x. x.view == v) (joined a n) ≡ false
  none-of-later a zero v low = refl
  none-of-later a (suc n) v low =
      let apart : a ≢ v = omega (arith, low) in
      let here : list_any (λ x. x.view == v) (logs a) ≡ false = none-of-view a v (logs a) (each a) apart in
      let rest : list_any (λ x. x.view == v) (joined (a + 1) n) ≡ false = none-of-later (a + 1) n v (omega (arith, low)) in
      list_any-append (λ (x : LogEntry). x.view == v) (logs a) (joined (a + 1) n) ∙ rw (here, rest) refl

  pub none-twice : (a n : ℕ) → ((v : ℕ) → IsOnce (logs v)) → NoneTwice (joined a n)
  none-twice a zero once = tt
  none-twice a (suc n) once =
      twice-append a (logs a) (joined (a + 1) n) (each a) (once a) (none-of-later (a + 1) n a (omega arith)) (none-twice (a + 1) n once)

  pub all-justified : (c : Config) (schedule : List ℕ) (a n : ℕ) → ((v : ℕ) → AllJustified c schedule (logs v)) → AllJustified c schedule (joined a n)
  all-justified c schedule a zero all = tt
  all-justified c schedule a (suc n) all = justified-append c schedule (logs a) (joined (a + 1) n) (all a) (all-justified c schedule (a + 1) n all)

  pub in-order : (a n before : ℕ) → before ≤ a → InOrder before (joined a n)
  in-order a zero before low = tt
  in-order a (suc n) before low = order-append before a (logs a) (joined (a + 1) n) low (each a) (λ b under. in-order (a + 1) n b (omega (arith, under)))

  pub all-below : (a n m : ℕ) → a + n ≤ m → AllByRecursion (λ e. e.view < m) (joined a n)
  all-below a zero m high = tt
  all-below a (suc n) m high = below-append a m (logs a) (joined (a + 1) n) (omega (arith, high)) (each a) (all-below (a + 1) n m (omega (arith, high)))

  pub few-joined : (a n most : ℕ) → ((v : ℕ) → length (logs v) ≤ most) → length (joined a n) ≤ n * most
  few-joined a zero most few = omega arith
  few-joined a (suc n) most few =
      let rest : length (joined (a + 1) n) ≤ n * most = few-joined (a + 1) n most few in
      let here : length (logs a) ≤ most = few a in
      simp (length-append) (omega (arith, rest, here))
