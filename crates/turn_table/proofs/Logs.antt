-- What holds of a schedule and its logs stays when they grow.
use Rattle.std.proofs.Common.{◌≡◌, ◌≢◌, ℕ, ◌<◌, ◌==◌, ◌||◌, Bool, true, false, List, [], ◌∷◌, ◌++◌, length, set, sym, refl, ap, ◌∙◌, subst, eq-eqb, ne_eqb, append_assoc, get_or-set_same}
use Rattle.std.proofs.lemmas.List.{append-nil, get_or-set_other}
use Rattle.std.specs.List.{list_any}
use mathlib.Core.Logic.{dite}
use native.Mathlib.Decide.{ℕ_discrete}
use Rattle.chain_log.specs.declared.entry.LogEntry.{LogEntry}
use Rattle.view_store.specs.Paged.{is_logged}
use Rattle.run_evidence.specs.Config.{Config, IsLawfulSchedule}
use Rattle.run_evidence.specs.Evidence.{IsJustified, AllJustified, AllOfView, IsOnce, log_in}
use Rattle.run_evidence.specs.Growing.{Begins, IsAllowedFrom}
use Rattle.run_evidence.proofs.Growing.{justified_later, allowed_is_from_start, allowed_from_stays, allowed_joins}
use Rattle.turn_table.specs.Sound.{Log, IsEvidence, AreSoundLogs}

pub begins_whole : {X : Type 0} (xs : List X) → Begins xs xs
begins_whole xs = ([], sym (append-nil xs))

pub begins_more : {X : Type 0} (xs ys rest : List X) → Begins xs ys → Begins xs (ys ++ rest)
begins_more xs ys rest b = (b.0 ++ rest, ap (λ z. z ++ rest) b.1 ∙ append_assoc xs b.0 rest)

pub begins_through : {X : Type 0} (xs ys zs : List X) → Begins xs ys → Begins ys zs → Begins xs zs
begins_through {X} xs ys zs a b = subst (λ (z : List X). Begins xs z) (sym b.1) (begins_more xs ys b.0 a)

none_step : (a b d : Bool) → (b ≡ false → d ≡ false) → (a || b) ≡ false → (a || d) ≡ false
none_step true b d f e = e
none_step false b d f e = f e

any_front : {X : Type 0} (f : X → Bool) (xs ys : List X) → list_any f (xs ++ ys) ≡ false → list_any f xs ≡ false
any_front f [] ys e = refl
any_front f (x ∷ xs) ys e = none_step (f x) (list_any f (xs ++ ys)) (list_any f xs) (any_front f xs ys) e

any_push : {X : Type 0} (f : X → Bool) (xs : List X) (y : X) → list_any f xs ≡ false → f y ≡ false → list_any f (xs ++ y ∷ []) ≡ false
any_push f [] y e n = rw n refl
any_push f (x ∷ xs) y e n = none_step (f x) (list_any f xs) (list_any f (xs ++ y ∷ [])) (λ q. any_push f xs y q n) e

both_none : (a b : Bool) → (a || b) ≡ false → (a ≡ false) × (b ≡ false)
both_none true b e = absurd cc
both_none false b e = (refl, e)

eqb_swap : (m n : ℕ) → (m == n) ≡ false → (n == m) ≡ false
eqb_swap m n e = dite (ℕ_discrete n m) (λ q. absurd (let h : (m == n) ≡ true = eq-eqb m n (sym q) in let k : true ≡ false = sym h ∙ e in cc)) (λ d. ne_eqb n m d)

once_front : (log more : Log) → IsOnce (log ++ more) → IsOnce log
once_front [] more once = tt
once_front (e ∷ log) more once = (any_front (λ x. x.group == e.group) log more once.0, once_front log more once.1)

once_push : (log : Log) (e : LogEntry) → IsOnce log → is_logged log e.group ≡ false → IsOnce (log ++ e ∷ [])
once_push [] e once new = (refl, tt)
once_push (x ∷ log) e once new = let t = both_none (x.group == e.group) (is_logged log e.group) new in
    (any_push (λ y. y.group == x.group) log e once.0 (eqb_swap x.group e.group t.0), once_push log e once.1 t.1)

of_view_front : (v : ℕ) (log more : Log) → AllOfView v (log ++ more) → AllOfView v log
of_view_front v [] more all = tt
of_view_front v (e ∷ log) more all = (all.0, of_view_front v log more all.1)

of_view_push : (v : ℕ) (log : Log) (e : LogEntry) → AllOfView v log → e.view ≡ v → AllOfView v (log ++ e ∷ [])
of_view_push v [] e all new = (new, tt)
of_view_push v (x ∷ log) e all new = (all.0, of_view_push v log e all.1 new)

module _ (c : Config) where
  justified_more : (schedule later : List ℕ) (log : Log) → AllJustified c schedule log → AllJustified c (schedule ++ later) log
  justified_more schedule later [] all = tt
  justified_more schedule later (e ∷ log) all = (justified_later c schedule later e all.0, justified_more schedule later log all.1)

  justified_front : (schedule : List ℕ) (log more : Log) → AllJustified c schedule (log ++ more) → AllJustified c schedule log
  justified_front schedule [] more all = tt
  justified_front schedule (e ∷ log) more all = (all.0, justified_front schedule log more all.1)

  justified_push : (schedule : List ℕ) (log : Log) (e : LogEntry) → AllJustified c schedule log → IsJustified c schedule e → AllJustified c schedule (log ++ e ∷ [])
  justified_push schedule [] e all new = (new, tt)
  justified_push schedule (x ∷ log) e all new = (all.0, justified_push schedule log e all.1 new)

  pub justified_begins : (seen schedule : List ℕ) (e : LogEntry) → Begins seen schedule → IsJustified c seen e → IsJustified c schedule e
  justified_begins seen schedule e b j = subst (λ (z : List ℕ). IsJustified c z e) (sym b.1) (justified_later c seen b.0 e j)

  pub evidence_more : (schedule later : List ℕ) (v : ℕ) (log : Log) → IsEvidence c schedule v log → IsEvidence c (schedule ++ later) v log
  evidence_more schedule later v log t = record { of_view = t.of_view; justified = justified_more schedule later log t.justified; once = t.once }

  evidence_front : (schedule : List ℕ) (v : ℕ) (log more : Log) → IsEvidence c schedule v (log ++ more) → IsEvidence c schedule v log
  evidence_front schedule v log more t = record { of_view = of_view_front v log more t.of_view; justified = justified_front schedule log more t.justified; once = once_front log more t.once }

  pub evidence_begins : (schedule : List ℕ) (v : ℕ) (log whole : Log) → Begins log whole → IsEvidence c schedule v whole → IsEvidence c schedule v log
  evidence_begins schedule v log whole b t = evidence_front schedule v log b.0 (subst (λ (z : Log). IsEvidence c schedule v z) b.1 t)

  pub evidence_push : (schedule : List ℕ) (v : ℕ) (log : Log) (e : LogEntry) → IsEvidence c schedule v log → IsJustified c schedule e → e.view ≡ v → is_logged log e.group ≡ false
      → IsEvidence c schedule v (log ++ e ∷ [])
  evidence_push schedule v log e t new of new_group = record { of_view = of_view_push v log e t.of_view of; justified = justified_push schedule log e t.justified new; once = once_push log e t.once new_group }

  pub sound_steps : (schedule later : List ℕ) (logs : List Log) → AreSoundLogs c schedule logs → IsLawfulSchedule c (schedule ++ later) → IsAllowedFrom c logs (schedule ++ later) (length schedule) → AreSoundLogs c (schedule ++ later) logs
  sound_steps schedule later logs s lawful new = record {
    lawful = lawful;
    evidence = λ v. evidence_more schedule later v (log_in logs v) (s.evidence v);
    allowed = allowed_joins c schedule later logs s.allowed new;
  }

  pub log_here : (logs : List Log) (k : ℕ) (log : Log) → k < length logs → log_in (set logs k log) k ≡ log
  log_here logs k log lt = get_or-set_same logs k log [] lt

  pub log_else : (logs : List Log) (k j : ℕ) (log : Log) → j ≢ k → log_in (set logs k log) j ≡ log_in logs j
  log_else logs k j log d = get_or-set_other logs k j log [] d

  -- a fact of each log, where one log is replaced
  pub each_log : (P : ℕ → Log → Type 0) (logs : List Log) (k : ℕ) (log : Log) → k < length logs → P k log → ((j : ℕ) → P j (log_in logs j)) → (j : ℕ) → P j (log_in (set logs k log) j)
  each_log P logs k log lt here all j = dite (ℕ_discrete j k)
      (λ e. subst (λ (z : ℕ). P z (log_in (set logs k log) z)) (sym e) (subst (P k) (sym (log_here logs k log lt)) here))
      (λ d. subst (P j) (sym (log_else logs k j log d)) (all j))

  pub begins_set : (logs : List Log) (k : ℕ) (log : Log) → k < length logs → Begins (log_in logs k) log → (j : ℕ) → Begins (log_in logs j) (log_in (set logs k log) j)
  begins_set logs k log lt b = each_log (λ j z. Begins (log_in logs j) z) logs k log lt b (λ j. begins_whole (log_in logs j))

  pub sound_entries : (schedule : List ℕ) (logs : List Log) (k : ℕ) (log : Log) → k < length logs → Begins (log_in logs k) log → IsEvidence c schedule k log → AreSoundLogs c schedule logs → AreSoundLogs c schedule (set logs k log)
  sound_entries schedule logs k log lt b new s = record {
    lawful = s.lawful;
    evidence = each_log (λ j z. IsEvidence c schedule j z) logs k log lt new s.evidence;
    allowed = let t = allowed_is_from_start c logs schedule in let u = allowed_is_from_start c (set logs k log) schedule in
        u.1 (allowed_from_stays c schedule 0 logs (set logs k log) (begins_set logs k log lt b) (t.0 s.allowed));
  }
