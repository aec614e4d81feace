-- A log that has no group twice is no longer than there are groups.
use Rattle.std.proofs.Common.{◌≡◌, ◌≢◌, ℕ, zero, suc, ◌+◌, ◌<◌, ◌≤◌, Bool, true, false, arith, refl, ◌∙◌, sym, ap, subst, List, [], ◌∷◌, length}
use Rattle.std.specs.Prelude.{◌==◌, ◌||◌, not}
use Rattle.std.specs.List.{AllByRecursion, filter, list_any}
use Rattle.std.proofs.lemmas.Bool.Decides.{nat_tests}
use Rattle.chain_log.specs.declared.entry.LogEntry.{LogEntry}
use Rattle.run_evidence.specs.Evidence.{IsOnce}

-- the entries that are not of group g
abbrev without : ℕ → List LogEntry → List LogEntry
without g log = filter (λ e. not (e.group == g)) log

abbrev has : ℕ → List LogEntry → Bool
has g log = list_any (λ x. x.group == g) log

without-none : (g : ℕ) (log : List LogEntry) → has g log ≡ false → without g log ≡ log
without-none g [] none = refl
without-none g (e ∷ es) none = elim (e.group == g) as (λ b. (e.group == g) ≡ b → (b || has g es) ≡ false → without g (e ∷ es) ≡ e ∷ es) [
  | true ↦ λ is no. absurd (cc no)
  | false ↦ λ is no. let rest : without g es ≡ es = without-none g es no in rw (is, rest) refl
] refl none

has-without : (g h : ℕ) (log : List LogEntry) → has h log ≡ false → has h (without g log) ≡ false
has-without g h [] none = refl
has-without g h (e ∷ es) none = elim (e.group == h) as (λ b. (e.group == h) ≡ b → (b || has h es) ≡ false → has h (without g (e ∷ es)) ≡ false) [
  | true ↦ λ is no. absurd (cc no)
  | false ↦ λ is no. let rest : has h (without g es) ≡ false = has-without g h es no in
      elim (e.group == g) as (λ b. (e.group == g) ≡ b → has h (without g (e ∷ es)) ≡ false) [
        | true ↦ λ of. rw of rest
        | false ↦ λ of. rw (of, is) rest
      ] refl
] refl none

once-without : (g : ℕ) (log : List LogEntry) → IsOnce log → IsOnce (without g log)
once-without g [] once = tt
once-without g (e ∷ es) once = elim (e.group == g) as (λ b. (e.group == g) ≡ b → IsOnce (without g (e ∷ es))) [
  | true ↦ λ of. rw of (once-without g es once.1)
  | false ↦ λ of. rw of ((has-without g e.group es once.0, once-without g es once.1))
] refl

below-without : (g : ℕ) (log : List LogEntry) → AllByRecursion (λ e. e.group < suc g) log → AllByRecursion (λ e. e.group < g) (without g log)
below-without g [] all = tt
below-without g (e ∷ es) all = elim (e.group == g) as (λ b. (e.group == g) ≡ b → AllByRecursion (λ x. x.group < g) (without g (e ∷ es))) [
  | true ↦ λ of. rw of (below-without g es all.1)
  | false ↦ λ of. let apart : e.group ≢ g = grind (arith, nat_tests, of) in rw of ((omega (arith, all.0, apart), below-without g es all.1))
] refl

one-at-most : (g : ℕ) (log : List LogEntry) → IsOnce log → length log ≤ suc (length (without g log))
one-at-most g [] once = omega arith
one-at-most g (e ∷ es) once = elim (e.group == g) as (λ b. (e.group == g) ≡ b → length (e ∷ es) ≤ suc (length (without g (e ∷ es)))) [
  | true ↦ λ of.
      let same : e.group ≡ g = grind (arith, nat_tests, of) in
      let none : has g es ≡ false = subst (λ h. has h es ≡ false) same once.0 in
      let rest : without g es ≡ es = without-none g es none in
      rw (of, rest) (omega arith)
  | false ↦ λ of. let rest : length es ≤ suc (length (without g es)) = one-at-most g es once.1 in rw of (omega (arith, rest))
] refl

no-room : (log : List LogEntry) → AllByRecursion (λ e. e.group < 0) log → log ≡ []
no-room [] all = refl
no-room (e ∷ es) all = absurd (omega (arith, all.0))

pub few-once : (n : ℕ) (log : List LogEntry) → IsOnce log → AllByRecursion (λ e. e.group < n) log → length log ≤ n
few-once zero log once all = let none : log ≡ [] = no-room log all in rw none (omega arith)
few-once (suc g) log once all =
    let one : length log ≤ suc (length (without g log)) = one-at-most g log once in
    let rest : length (without g log) ≤ g = few-once g (without g log) (once-without g log once) (below-without g log all) in
    omega (arith, one, rest)
