-- Each step keeps the rule.
use Rattle.std.proofs.Common.{◌≡◌, ◌≢◌, ℕ, zero, suc, ◌+◌, ◌-◌, ◌<◌, ◌≤◌, ◌==◌, eqb, Bool, true, false, Option, Some, None, List, [], ◌∷◌, ◌++◌, ◌⊎◌, ⊎_elim, length, get_or, set, replicate, sym, refl, ap, ◌∙◌, subst, arith, eq-eqb, ne_eqb, length-append, length-set, get_or-set_same}
use Rattle.std.specs.Prelude.{MatchBool, if◌then◌else◌}
use Rattle.std.proofs.lemmas.List.{append-nil, length-replicate, get_or-set_other, set-get_or}
use mathlib.Core.Logic.{dite}
use mathlib.Core.Option.{none, some}
use native.Mathlib.Decide.{ℕ_discrete}
use prog.Atomic.{either}
use lib.ListN.{get_elem?}
use Rattle.atomic_table.specs.Table.{State, keeps, takes, gives, step, stepped, rest, Allows}
use Rattle.atomic_table.proofs.Lists.{at_set, set_here, set_else, set_again}
use Rattle.guest_board.specs.Board.{Seat}
use Rattle.view_store.specs.Paged.{is_logged}
use Rattle.run_evidence.specs.Evidence.{IsJustified, log_in}
use Rattle.view_store.specs.Paged.{PagedView}
use Rattle.turn_table.specs.declared.known.Known.{Known}
use Rattle.turn_table.specs.declared.known.Guarded.{Guarded}
use Rattle.turn_table.specs.declared.known.Guarded.TheVariants.{Board, View}
use Rattle.turn_table.specs.Total.{total}
use Rattle.turn_table.specs.Numbers.{at, weight, grown, times}
use Rattle.run_evidence.specs.Config.{Config, IsLawfulSchedule}
use Rattle.run_evidence.specs.Growing.{Begins, IsAllowedFrom, board_of, paged_at, views_count}
use Rattle.run_evidence.proofs.Growing.{allowed_from_stays}
use Rattle.turn_table.specs.Sound.{Log, IsEvidence, AreSoundLogs}
use Rattle.turn_table.specs.Rule.{owns, is_word, holds_word, value_of, config_of, IsTruthfulPass, IsTruthfulOrSpent, IsShared}
use Rattle.turn_table.specs.Steps.{Seated, with_board, tried_board, with_view, TookView, tried_view, own, after_board, after_view, gave, carried}
use Rattle.turn_table.specs.Calls.{IsUnchanged, HasOneMore, IsOwnSteps}
use Rattle.turn_table.proofs.Sums.{two_at, sum_set}
use Rattle.turn_table.proofs.Logs.{begins_whole, begins_more, begins_through, log_here, log_else, each_log, begins_set, sound_steps, sound_entries, evidence_begins, evidence_push, justified_begins}
use Rattle.turn_table.proofs.Owners

word_here : (w : ℕ) → is_word w (Some w) ≡ 1
word_here w = ap (λ b. (if b then 1 else 0)) (eq-eqb w w refl)

word_else : (u w : ℕ) → u ≢ w → is_word u (Some w) ≡ 0
word_else u w d = ap (λ b. (if b then 1 else 0)) (ne_eqb u w d)

set_word : (words : List ℕ) (w x u : ℕ) → u ≢ w → get_or (set words w x) u 0 ≡ get_or words u 0
set_word words w x u d = get_or-set_other words w u x 0 d

module _ (c : Config) where
  pub live_of : (h : List ℕ) (logs : List Log) (v : Known) → v.live ≡ true → IsTruthfulOrSpent c h logs v v.live → IsTruthfulPass c h logs v
  live_of h logs v e k = subst (λ b. IsTruthfulOrSpent c h logs v b) e k

  pub knows_of : (h : List ℕ) (logs : List Log) (v : Known) → v.live ≡ true → IsTruthfulPass c h logs v → IsTruthfulOrSpent c h logs v v.live
  knows_of h logs v e k = subst (λ b. IsTruthfulOrSpent c h logs v b) (sym e) k

  knows_map : (h : List ℕ) (logs : List Log) (h' : List ℕ) (logs' : List Log) (v : Known) → (IsTruthfulPass c h logs v → IsTruthfulPass c h' logs' v) → (b : Bool) → IsTruthfulOrSpent c h logs v b → IsTruthfulOrSpent c h' logs' v b
  knows_map h logs h' logs' v f true x = f x
  knows_map h logs h' logs' v f false x = x

  pub each_set : (h' : List ℕ) (logs' : List Log) (views : List Known) (id : ℕ) (w : Known) → IsTruthfulOrSpent c h' logs' w w.live
      → ((j : ℕ) (u : Known) → j ≢ id → get_elem? views j ≡ some u → IsTruthfulOrSpent c h' logs' u u.live)
      → (j : ℕ) (u : Known) → get_elem? (set views id w) j ≡ some u → IsTruthfulOrSpent c h' logs' u u.live
  each_set h' logs' views id w here others j u e = ⊎_elim (λ t. subst (λ (x : Known). IsTruthfulOrSpent c h' logs' x x.live) t.1 here) (λ t. others j u t.0 t.1) (at_set views id j w u e)

  once_set : (i : ℕ) (views : List Known) (id : ℕ) (v w : Known) → get_elem? views id ≡ some v → owns i w ≡ owns i v → total (owns i) (set views id w) ≡ total (owns i) views
  once_set i views id v w e same = let h = sum_set (owns i) views id v w e in omega arith

  -- a word that was 0 becomes 1, and the pass holds its value
  out_taken : (words : List ℕ) (views : List Known) (id w : ℕ) (v n : Known) → get_elem? views id ≡ some v → v.holds ≡ None → n.holds ≡ Some w → w < length words → get_or words w 0 ≡ 0
      → ((u : ℕ) → total (holds_word u) views ≡ get_or words u 0) → (u : ℕ) → total (holds_word u) (set views id n) ≡ get_or (set words w 1) u 0
  out_taken words views id w v n e free gets lt hit out u =
      let sums = sum_set (holds_word u) views id v n e in let old = out u in let none_held : holds_word u v ≡ 0 = ap (is_word u) free in
      dite (ℕ_discrete u w)
      (λ q. let one : holds_word u n ≡ 1 = ap (is_word u) gets ∙ subst (λ (z : ℕ). is_word z (Some w) ≡ 1) (sym q) (word_here w) in
      let there : get_or (set words w 1) u 0 ≡ 1 = subst (λ (z : ℕ). get_or (set words w 1) z 0 ≡ 1) (sym q) (get_or-set_same words w 1 0 lt) in
      let was : get_or words u 0 ≡ 0 = subst (λ (z : ℕ). get_or words z 0 ≡ 0) (sym q) hit in omega arith)
      (λ d. let zero_held : holds_word u n ≡ 0 = ap (is_word u) gets ∙ word_else u w d in let same = set_word words w 1 u d in omega arith)

  -- the word of a value that the pass gives becomes 0
  out_given : (words : List ℕ) (views : List Known) (id w : ℕ) (v n : Known) → get_elem? views id ≡ some v → v.holds ≡ Some w → n.holds ≡ None → w < length words → ((u : ℕ) → get_or words u 0 ≤ 1)
      → ((u : ℕ) → total (holds_word u) views ≡ get_or words u 0) → (u : ℕ) → total (holds_word u) (set views id n) ≡ get_or (set words w 0) u 0
  out_given words views id w v n e has gone lt bit out u =
      let sums = sum_set (holds_word u) views id v n e in let old = out u in let b = bit u in let none_held : holds_word u n ≡ 0 = ap (is_word u) gone in
      dite (ℕ_discrete u w)
      (λ q. let one : holds_word u v ≡ 1 = ap (is_word u) has ∙ subst (λ (z : ℕ). is_word z (Some w) ≡ 1) (sym q) (word_here w) in
      let there : get_or (set words w 0) u 0 ≡ 0 = subst (λ (z : ℕ). get_or (set words w 0) z 0 ≡ 0) (sym q) (get_or-set_same words w 0 0 lt) in omega arith)
      (λ d. let zero_held : holds_word u v ≡ 0 = ap (is_word u) has ∙ word_else u w d in let same = set_word words w 0 u d in omega arith)

  bit_set : (words : List ℕ) (w x : ℕ) → w < length words → x ≤ 1 → ((u : ℕ) → get_or words u 0 ≤ 1) → (u : ℕ) → get_or (set words w x) u 0 ≤ 1
  bit_set words w x lt small bit u = dite (ℕ_discrete u w)
      (λ q. subst (λ (z : ℕ). get_or (set words w x) z 0 ≤ 1) (sym q) (let e = get_or-set_same words w x 0 lt in omega arith))
      (λ d. let e = set_word words w x u d in let b = bit u in omega arith)

  -- a value is taken out of its slot: the record n has the view's own facts, and nothing else changes
  took_keeps : (s : State (Option Guarded) Known) (r : IsShared c s) (id w : ℕ) (v n : Known) (held : List (ℕ × Option Guarded)) → get_elem? s.views id ≡ some v → v.holds ≡ None → n.holds ≡ Some w
      → w < suc (views_count c) → get_or s.words w 0 ≡ 0 → n.counts ≡ v.counts → IsTruthfulOrSpent c r.schedule r.logs n n.live
      → IsShared c (stepped s w 1 id held n (takes w (Some (value_of c r.schedule r.logs w))))
  took_keeps s r id w v n held e free has lt hit same live =
      let wide = r.wide in let within : w < length s.words = omega arith in record {
        schedule = r.schedule;
        logs = r.logs;
        sound = r.sound;
        wide = length-set s.words w 1 ∙ r.wide;
        slots = length-set s.homes w none ∙ r.slots;
        deep = r.deep;
        bit = bit_set s.words w 1 within (omega arith) r.bit;
        out = out_taken s.words s.views id w v n e free has within hit r.out;
        home = λ u below z. dite (ℕ_discrete u w)
            (λ q. let one = subst (λ (x : ℕ). get_or (set s.words w 1) x 0 ≡ 1) (sym q) (get_or-set_same s.words w 1 0 within) in absurd (omega arith))
            (λ d. set_else s.homes w u none d ∙ r.home u below (sym (set_word s.words w 1 u d) ∙ z));
        each = each_set r.schedule r.logs s.views id n live (λ j u _ q. r.each j u q);
        once = λ i below. once_set i s.views id v n e (ap (λ z. weight (at z i)) same) ∙ r.once i below;
      }

  pub missed_keeps : (s : State (Option Guarded) Known) (r : IsShared c s) (id w : ℕ) (v : Known) (held : List (ℕ × Option Guarded)) → w < suc (views_count c) → get_elem? s.views id ≡ some v
      → IsShared c (stepped s w (get_or s.words w 0) id held v keeps)
  missed_keeps s r id w v held lt e =
      let same : set s.views id v ≡ s.views = set_again s.views id v e in
      let words : set s.words w (get_or s.words w 0) ≡ s.words = set-get_or s.words w 0 in
      subst (λ (z : List Known). IsShared c (record { words = set s.words w (get_or s.words w 0); homes = s.homes; views = z })) (sym same)
      (subst (λ (z : List ℕ). IsShared c (record { words = z; homes = s.homes; views = s.views })) (sym words) r)

  -- taking the board
  pub takes_board : (slots id : ℕ) (m : Seated) → m.0.live ≡ true → m.0.holds ≡ None
      → Allows (IsShared c) slots id m 0 (λ n. either (eqb n 0) 1 n) (tried_board (step slots 0 0 1 none) m)
  takes_board slots id m live free s r wide e lt =
      let x : ℕ = get_or s.words 0 0 in
      dite (ℕ_discrete x 0)
      (λ hit. let L = live_of r.schedule r.logs m.0 live (r.each id m.0 e) in let n = with_board m.0 r.schedule in (
        n,
        takes 0 (Some (value_of c r.schedule r.logs 0)),
        r.home 0 (omega arith) hit,
        subst (λ b. IsShared c (stepped s 0 (either b 1 x) id m.1 n (takes 0 (Some (value_of c r.schedule r.logs 0))))) (sym (eq-eqb x 0 hit))
            (took_keeps s r id 0 m.0 n m.1 e free refl (omega arith) hit refl record { config = L.config; seen = begins_whole r.schedule; deep = L.deep; logs_seen = L.logs_seen; long = L.long; counts = L.counts; some_number = L.some_number; has_board = λ _. refl; has_view = λ k q. absurd (let z : 0 ≡ suc k = ap Owners.number_in q in omega arith) }),
        (
          (λ _. (
            r.schedule,
            L.seen,
            subst (λ (d : Config). IsLawfulSchedule d r.schedule) (sym L.config) r.sound.lawful,
            subst (λ (d : Config). (k : ℕ) → IsEvidence d r.schedule k (log_in m.0.logs k)) (sym L.config) (λ k. evidence_begins c r.schedule k (log_in m.0.logs k) (log_in r.logs k) (L.logs_seen k) (r.sound.evidence k)),
            L.counts,
            ap (λ (d : Config). (n, (0, Some (Board (board_of d r.schedule))) ∷ m.1)) (sym L.config),
          )),
          λ miss. absurd (miss hit),
        ),
      ))
      (λ miss. (
        m.0,
        keeps,
        tt,
        subst (λ b. IsShared c (stepped s 0 (either b 1 x) id m.1 m.0 keeps)) (sym (ne_eqb x 0 miss)) (missed_keeps s r id 0 m.0 m.1 (omega arith) e),
        ((λ hit. absurd (miss hit)), λ _. refl),
      ))

  -- taking a view
  takes_view_at : (slots id k : ℕ) (m : Seated) → m.0.live ≡ true → m.0.holds ≡ None → k < views_count c
      → Allows (IsShared c) slots id m (suc k) (λ n. either (eqb n 0) 1 n) (tried_view (step slots (suc k) 0 1 none) m)
  takes_view_at slots id k m live free below s r wide e lt =
      let w : ℕ = suc k in
      let x : ℕ = get_or s.words w 0 in
      dite (ℕ_discrete x 0)
      (λ hit. let L = live_of r.schedule r.logs m.0 live (r.each id m.0 e) in let log : Log = log_in r.logs k in let n = with_view m.0 w k log in
      let deep = L.deep in let within : k < length m.0.logs = omega arith in (
        n,
        takes w (Some (value_of c r.schedule r.logs w)),
        r.home w (omega arith) hit,
        subst (λ b. IsShared c (stepped s w (either b 1 x) id m.1 n (takes w (Some (value_of c r.schedule r.logs w))))) (sym (eq-eqb x 0 hit))
            (took_keeps s r id w m.0 n m.1 e free refl (omega arith) hit refl record {
              config = L.config;
              seen = L.seen;
              deep = length-set m.0.logs k log ∙ L.deep;
              logs_seen = each_log c (λ j z. Begins z (log_in r.logs j)) m.0.logs k log within (begins_whole log) L.logs_seen;
              long = L.long;
              counts = L.counts;
              some_number = L.some_number;
              has_board = λ q. absurd (let z : w ≡ 0 = ap Owners.number_in q in omega arith);
              has_view = λ j q. let z : w ≡ suc j = ap Owners.number_in q in let kj : k ≡ j = omega arith in
                  subst (λ (y : ℕ). log_in (set m.0.logs k log) y ≡ log_in r.logs y) kj (log_here c m.0.logs k log within);
            }),
        (λ j q. let kj : k ≡ j = omega arith in subst (λ (y : ℕ). (x ≡ 0 → TookView w y m (n, (w, Some (value_of c r.schedule r.logs w)) ∷ m.1)) × (x ≢ 0 → (n, (w, Some (value_of c r.schedule r.logs w)) ∷ m.1) ≡ m)) kj
            ((λ _. (log, L.logs_seen k, within, ap (λ (d : Config). (n, (w, Some (View (paged_at d k log))) ∷ m.1)) (sym L.config))), λ miss. absurd (miss hit))),
      ))
      (λ miss. (
        m.0,
        keeps,
        tt,
        subst (λ b. IsShared c (stepped s w (either b 1 x) id m.1 m.0 keeps)) (sym (ne_eqb x 0 miss)) (missed_keeps s r id w m.0 m.1 (omega arith) e),
        (λ j q. ((λ hit. absurd (miss hit)), λ _. refl)),
      ))

  pub takes_view : (slots id k w : ℕ) (m : Seated) → w ≡ k + 1 → m.0.live ≡ true → m.0.holds ≡ None → k < views_count c
      → Allows (IsShared c) slots id m w (λ n. either (eqb n 0) 1 n) (tried_view (step slots w 0 1 none) m)
  takes_view slots id k w m is live free below = let e : suc k ≡ w = omega arith in
      subst (λ (x : ℕ). Allows (IsShared c) slots id m x (λ n. either (eqb n 0) 1 n) (tried_view (step slots x 0 1 none) m)) e (takes_view_at slots id k m live free below)

  other_steps : (h : List ℕ) (logs : List Log) (n i : ℕ) (u : Known) → weight (at u.counts i) ≡ 0 → holds_word 0 u ≡ 0 → IsTruthfulPass c h logs u → IsTruthfulPass c (h ++ replicate n i) logs u
  other_steps h logs n i u none_own none_held L = record {
    config = L.config;
    seen = begins_more u.seen h (replicate n i) L.seen;
    deep = L.deep;
    logs_seen = L.logs_seen;
    long = L.long;
    counts = λ j k e. let old : k ≡ times j h = L.counts j k e in
        let apart : j ≢ i = λ q. let a : weight (at u.counts i) ≡ 1 = Owners.weight_one (at u.counts i) k (subst (λ (z : ℕ). at u.counts z ≡ Some k) q e) in absurd (omega arith) in
        let a = Owners.times-append j h (replicate n i) in let b = Owners.times-other j i n apart in omega arith;
    some_number = L.some_number;
    has_board = λ b. let a : holds_word 0 u ≡ 1 = ap (is_word 0) b in absurd (omega arith);
    has_view = L.has_view;
  }

  other_entries : (h : List ℕ) (logs : List Log) (k : ℕ) (log : Log) (u : Known) → k < length logs → Begins (log_in logs k) log → holds_word (suc k) u ≡ 0 → IsTruthfulPass c h logs u → IsTruthfulPass c h (set logs k log) u
  other_entries h logs k log u lt b none_held L = record {
    config = L.config;
    seen = L.seen;
    deep = L.deep;
    logs_seen = λ j. begins_through (log_in u.logs j) (log_in logs j) (log_in (set logs k log) j) (L.logs_seen j) (begins_set c logs k log lt b j);
    long = L.long;
    counts = L.counts;
    some_number = L.some_number;
    has_board = L.has_board;
    has_view = λ j q. dite (ℕ_discrete j k)
        (λ e. let a : holds_word (suc k) u ≡ 1 = ap (is_word (suc k)) (q ∙ ap (λ (z : ℕ). Some (suc z)) e) ∙ word_here (suc k) in absurd (omega arith))
        (λ d. L.has_view j q ∙ sym (log_else c logs k j log d));
  }

  gave_board_live : (h : List ℕ) (logs : List Log) (n : ℕ) (v : Known) → v.seen ≡ h → IsTruthfulPass c h logs v → IsTruthfulPass c (h ++ replicate n (own v)) logs (after_board v (h ++ replicate n (own v)))
  gave_board_live h logs n v seen L =
      let i : ℕ = own v in
      let k = h ++ replicate n i in
      let mine = Owners.at-least v.counts L.some_number.0 L.some_number.1 L.some_number.2 in
      let within : i < length v.counts = Owners.at-within v.counts i mine.0 mine.1 in
      let long : length k - length v.seen ≡ n = rw seen (let a = length-append h (replicate n i) in let b = length-replicate n i in omega arith) in
      let g : Option ℕ = grown (at v.counts i) (length k - length v.seen) in
      let fresh : at (set v.counts i g) i ≡ Some (mine.0 + n) = Owners.at_set_here v.counts i g within ∙ rw (mine.1, long) refl in
      record {
        config = L.config;
        seen = begins_whole k;
        deep = L.deep;
        logs_seen = L.logs_seen;
        long = length-set v.counts i g ∙ L.long;
        counts = λ j m e. dite (ℕ_discrete j i)
            (λ q. let e' : at (set v.counts i g) i ≡ Some m = subst (λ (z : ℕ). at (set v.counts i g) z ≡ Some m) q e in
            let s : Some (mine.0 + n) ≡ Some m = sym fresh ∙ e' in
            let t : mine.0 + n ≡ m = ap Owners.number_in s in
            let old : mine.0 ≡ times i h = L.counts i mine.0 mine.1 in
            let a = Owners.times-append i h (replicate n i) in let b = Owners.times-same i n in
            let goal : m ≡ times i k = omega arith in subst (λ (z : ℕ). m ≡ times z k) (sym q) goal)
            (λ d. let e' : at v.counts j ≡ Some m = sym (Owners.at_set_else v.counts i j g d) ∙ e in
            let old : m ≡ times j h = L.counts j m e' in
            let a = Owners.times-append j h (replicate n i) in let b = Owners.times-other j i n d in omega arith);
        some_number = (i, mine.0 + n, fresh);
        has_board = λ b. absurd cc;
        has_view = λ k b. absurd cc;
      }

  board_weight : (h : List ℕ) (logs : List Log) (v : Known) (k : List ℕ) → IsTruthfulPass c h logs v → (i : ℕ) → owns i (after_board v k) ≡ owns i v
  board_weight h logs v k L i =
      let mine = Owners.at-least v.counts L.some_number.0 L.some_number.1 L.some_number.2 in
      let within : own v < length v.counts = Owners.at-within v.counts (own v) mine.0 mine.1 in
      let g : Option ℕ = grown (at v.counts (own v)) (length k - length v.seen) in
      dite (ℕ_discrete i (own v))
      (λ q. subst (λ (z : ℕ). owns z (after_board v k) ≡ owns z v) (sym q) (ap weight (Owners.at_set_here v.counts (own v) g within) ∙ Owners.grown_weight (at v.counts (own v)) (length k - length v.seen)))
      (λ d. ap weight (Owners.at_set_else v.counts (own v) i g d))

  thing_else : (h h' : List ℕ) (logs : List Log) (u : ℕ) → u ≢ 0 → value_of c h' logs u ≡ value_of c h logs u
  thing_else h h' logs zero d = absurd (d refl)
  thing_else h h' logs (suc k) d = refl

  view_else : (h : List ℕ) (logs : List Log) (k : ℕ) (log : Log) (u : ℕ) → u ≢ suc k → value_of c h (set logs k log) u ≡ value_of c h logs u
  view_else h logs k log zero d = refl
  view_else h logs k log (suc j) d = ap (λ z. View (paged_at c j z)) (log_else c logs k j log (λ e. d (ap suc e)))

  gave_keeps : (s : State (Option Guarded) Known) (r : IsShared c s) (id w : ℕ) (v n : Known) (x : Guarded) (h' : List ℕ) (logs' : List Log) → get_elem? s.views id ≡ some v → v.holds ≡ Some w → n.holds ≡ None
      → w < suc (views_count c) → length logs' ≡ views_count c → x ≡ value_of c h' logs' w → AreSoundLogs c h' logs' → ((u : ℕ) → u ≢ w → value_of c h' logs' u ≡ value_of c r.schedule r.logs u)
      → IsTruthfulOrSpent c h' logs' n n.live → ((j : ℕ) (u : Known) → j ≢ id → get_elem? s.views j ≡ some u → IsTruthfulPass c r.schedule r.logs u → IsTruthfulPass c h' logs' u)
      → ((i : ℕ) → owns i n ≡ owns i v) → IsShared c (stepped s w 0 id ((w, Some x) ∷ []) n gives)
  gave_keeps s r id w v n x h' logs' e has gone lt deep is sound things live others weights =
      let wide = r.wide in let slots = r.slots in let within : w < length s.words = omega arith in record {
        schedule = h';
        logs = logs';
        sound = sound;
        wide = length-set s.words w 0 ∙ r.wide;
        slots = length-set s.homes w (some (Some x)) ∙ r.slots;
        deep = deep;
        bit = bit_set s.words w 0 within (omega arith) r.bit;
        out = out_given s.words s.views id w v n e has gone within r.bit r.out;
        home = λ u below z. dite (ℕ_discrete u w)
            (λ q. subst (λ (y : ℕ). get_elem? (set s.homes w (some (Some x))) y ≡ some (some (Some (value_of c h' logs' y)))) (sym q)
            (set_here s.homes w (some (Some x)) (omega arith) ∙ ap (λ (d : Guarded). some (some (Some d))) is))
            (λ d. set_else s.homes w u (some (Some x)) d ∙ (r.home u below (sym (set_word s.words w 0 u d) ∙ z) ∙ ap (λ (y : Guarded). some (some (Some y))) (sym (things u d))));
        each = each_set h' logs' s.views id n live (λ j u d q. knows_map r.schedule r.logs h' logs' u (others j u d q) u.live (r.each j u q));
        once = λ i below. once_set i s.views id v n e (weights i) ∙ r.once i below;
      }

  -- what the rule says of others than the pass that holds the word w
  alone_holds : (s : State (Option Guarded) Known) (r : IsShared c s) (id w : ℕ) (v : Known) → get_elem? s.views id ≡ some v → v.holds ≡ Some w → (j : ℕ) (u : Known) → j ≢ id → get_elem? s.views j ≡ some u → holds_word w u ≡ 0
  alone_holds s r id w v e has j u d q = let one : holds_word w v ≡ 1 = ap (is_word w) has ∙ word_here w in let t = two_at (holds_word w) s.views j id u v d q e in let o = r.out w in let b = r.bit w in omega arith

  -- giving the board
  pub gives_board : (slots id n : ℕ) (v : Known) (b : Seat) → v.live ≡ true → v.holds ≡ Some 0 → b ≡ board_of (config_of v) b.schedule → IsLawfulSchedule (config_of v) b.schedule
      → b.schedule ≡ v.seen ++ replicate n (own v) → IsAllowedFrom (config_of v) v.logs b.schedule (length v.seen)
      → Allows (IsShared c) slots id (v, (0, Some (Board b)) ∷ []) 0 (λ _. 0) (gave (step slots 0 0 0 none) (v, (0, Some (Board b)) ∷ []))
  gives_board slots id n v b live has is lawful steps allowed s r wide e lt =
      let L = live_of r.schedule r.logs v live (r.each id v e) in
      let seen : v.seen ≡ r.schedule = L.has_board has in
      let h' : List ℕ = r.schedule ++ replicate n (own v) in
      let same : b.schedule ≡ h' = steps ∙ ap (λ z. z ++ replicate n (own v)) seen in
      let is' : b ≡ board_of c h' = is ∙ (λ i. board_of (L.config i) (same i)) in
      let lawful' : IsLawfulSchedule c h' = subst (λ z. IsLawfulSchedule c z) same (subst (λ (d : Config). IsLawfulSchedule d b.schedule) L.config lawful) in
      let mine : IsAllowedFrom c v.logs h' (length r.schedule) = subst (λ (z : List ℕ). IsAllowedFrom c v.logs h' (length z)) seen (subst (λ z. IsAllowedFrom c v.logs z (length v.seen)) same (subst (λ (d : Config). IsAllowedFrom d v.logs b.schedule (length v.seen)) L.config allowed)) in
      let all : IsAllowedFrom c r.logs h' (length r.schedule) = allowed_from_stays c h' (length r.schedule) v.logs r.logs L.logs_seen mine in
      let own_it = Owners.at-least v.counts L.some_number.0 L.some_number.1 L.some_number.2 in
      let within : own v < length v.counts = Owners.at-within v.counts (own v) own_it.0 own_it.1 in
      let owned : owns (own v) v ≡ 1 = Owners.weight_one (at v.counts (own v)) own_it.0 own_it.1 in
      let long = L.long in let once = r.once (own v) (omega arith) in (
        after_board v b.schedule,
        gives,
        tt,
        subst (λ z. IsShared c (stepped s 0 0 id ((0, Some (Board b)) ∷ []) (after_board v z) gives)) (sym same)
            (gave_keeps s r id 0 v (after_board v h') (Board b) h' r.logs e has refl (omega arith) r.deep (ap Board is') (sound_steps c r.schedule (replicate n (own v)) r.logs r.sound lawful' all)
            (thing_else r.schedule h' r.logs) (gave_board_live r.schedule r.logs n v seen L)
            (λ j u d q M. let a = two_at (owns (own v)) s.views j id u v d q e in other_steps r.schedule r.logs n (own v) u (omega arith) (alone_holds s r id 0 v e has j u d q) M)
            (board_weight r.schedule r.logs v h' L)),
        refl,
      )

  -- giving a view: its log becomes this one
  gave_view_live : (h : List ℕ) (logs : List Log) (k : ℕ) (log : Log) (v : Known) → k < views_count c → length logs ≡ views_count c → Begins (log_in logs k) log → IsTruthfulPass c h logs v → IsTruthfulPass c h (set logs k log) (after_view v k log)
  gave_view_live h logs k log v below deep b L =
      let deeper = L.deep in let within : k < length v.logs = omega arith in let there : k < length logs = omega arith in record {
        config = L.config;
        seen = L.seen;
        deep = length-set v.logs k log ∙ L.deep;
        logs_seen = λ j. dite (ℕ_discrete j k)
            (λ q. subst (λ (z : ℕ). Begins (log_in (set v.logs k log) z) (log_in (set logs k log) z)) (sym q) ([], log_here c logs k log there ∙ (sym (log_here c v.logs k log within) ∙ sym (append-nil (log_in (set v.logs k log) k)))))
            (λ d. subst (λ (z : Log). Begins z (log_in (set logs k log) j)) (sym (log_else c v.logs k j log d)) (subst (λ (z : Log). Begins (log_in v.logs j) z) (sym (log_else c logs k j log d)) (L.logs_seen j)));
        long = L.long;
        counts = L.counts;
        some_number = L.some_number;
        has_board = λ q. absurd cc;
        has_view = λ j q. absurd cc;
      }

  gives_view_at : (slots id k : ℕ) (v : Known) (p : PagedView) → v.live ≡ true → v.holds ≡ Some (suc k) → k < views_count c → p ≡ paged_at (config_of v) k p.log
      → (IsUnchanged v k p.log ⊎ HasOneMore v k p.log) → Allows (IsShared c) slots id (v, (suc k, Some (View p)) ∷ []) (suc k) (λ _. 0) (gave (step slots (suc k) 0 0 none) (v, (suc k, Some (View p)) ∷ []))
  gives_view_at slots id k v p live has below is change s r wide e lt =
      let L = live_of r.schedule r.logs v live (r.each id v e) in
      let deep = r.deep in
      let there : k < length r.logs = omega arith in
      let now : log_in v.logs k ≡ log_in r.logs k = L.has_view k has in
      let log : Log = p.log in
      let facts : Begins (log_in r.logs k) log × IsEvidence c r.schedule k log = ⊎_elim
      (λ (same : IsUnchanged v k log). subst (λ (z : Log). Begins (log_in r.logs k) z × IsEvidence c r.schedule k z) (sym (same ∙ now)) (begins_whole (log_in r.logs k), r.sound.evidence k))
      (λ (t : HasOneMore v k log).
      let grown : log ≡ log_in r.logs k ++ t.0 ∷ [] = t.1 ∙ ap (λ (z : Log). z ++ t.0 ∷ []) now in
      let just : IsJustified c r.schedule t.0 = justified_begins c v.seen r.schedule t.0 L.seen (subst (λ (d : Config). IsJustified d v.seen t.0) L.config t.2) in
      subst (λ (z : Log). Begins (log_in r.logs k) z × IsEvidence c r.schedule k z) (sym grown)
      ((t.0 ∷ [], refl), evidence_push c r.schedule k (log_in r.logs k) t.0 (r.sound.evidence k) just t.3 (subst (λ (z : Log). is_logged z t.0.group ≡ false) now t.4)))
      change in
      let is' : p ≡ paged_at c k (log_in (set r.logs k log) k) = is ∙ (ap (λ (d : Config). paged_at d k log) L.config ∙ ap (paged_at c k) (sym (log_here c r.logs k log there))) in (
        after_view v k log,
        gives,
        tt,
        gave_keeps s r id (suc k) v (after_view v k log) (View p) r.schedule (set r.logs k log) e has refl (omega arith) (length-set r.logs k log ∙ r.deep) (ap View is')
            (sound_entries c r.schedule r.logs k log there facts.0 facts.1 r.sound) (view_else r.schedule r.logs k log) (gave_view_live r.schedule r.logs k log v below r.deep facts.0 L)
            (λ j u d q M. other_entries r.schedule r.logs k log u there facts.0 (alone_holds s r id (suc k) v e has j u d q) M)
            (λ i. refl),
        refl,
      )

  -- the same of a seat as it is config_of after the exchange
  pub gives_board_seat : (slots id : ℕ) (m : Seated) (v : Known) (b : Seat) → m ≡ (v, (0, Some (Board b)) ∷ rest (carried v.holds)) → v.live ≡ true → v.holds ≡ Some 0 → b ≡ board_of (config_of v) b.schedule
      → IsLawfulSchedule (config_of v) b.schedule → IsOwnSteps v b.schedule → IsAllowedFrom (config_of v) v.logs b.schedule (length v.seen)
      → Allows (IsShared c) slots id m 0 (λ _. 0) (gave (step slots 0 0 0 none) m)
  gives_board_seat slots id m v b is live has whole lawful steps allowed =
      let here : m ≡ (v, (0, Some (Board b)) ∷ []) = is ∙ ap (λ t. (v, (0, Some (Board b)) ∷ rest (carried t))) has in
      subst (λ (x : Seated). Allows (IsShared c) slots id x 0 (λ _. 0) (gave (step slots 0 0 0 none) x)) (sym here) (gives_board slots id steps.0 v b live has whole lawful steps.1 allowed)

  pub gives_view_seat : (slots id k w : ℕ) (m : Seated) (v : Known) (p : PagedView) → w ≡ k + 1 → m ≡ (v, (w, Some (View p)) ∷ rest (carried v.holds)) → v.live ≡ true → v.holds ≡ Some (k + 1) → k < views_count c
      → p ≡ paged_at (config_of v) k p.log → (IsUnchanged v k p.log ⊎ HasOneMore v k p.log) → Allows (IsShared c) slots id m w (λ _. 0) (gave (step slots w 0 0 none) m)
  gives_view_seat slots id k w m v p word is live has lt whole change =
      let e : suc k ≡ w = omega arith in let e' : k + 1 ≡ suc k = omega arith in
      let here : m ≡ (v, (suc k, Some (View p)) ∷ []) = is ∙ (ap (λ t. (v, (w, Some (View p)) ∷ rest (carried t))) has ∙ ap (λ (x : ℕ). (v, (x, Some (View p)) ∷ [])) (sym e)) in
      subst (λ (x : ℕ). Allows (IsShared c) slots id m x (λ _. 0) (gave (step slots x 0 0 none) m)) e
      (subst (λ (x : Seated). Allows (IsShared c) slots id x (suc k) (λ _. 0) (gave (step slots (suc k) 0 0 none) x)) (sym here) (gives_view_at slots id k v p live (has ∙ ap (λ (x : ℕ). Some x) e') lt whole change))

pub took_shape : (n : Seated) (w : ℕ) (v : Known) (x : Option Guarded) (more : List (ℕ × Option Guarded)) → n ≡ (v, (w, x) ∷ more) → n.1 ≡ (w, x) ∷ rest n.1
took_shape n w v x more e = subst (λ (z : Seated). z.1 ≡ (w, x) ∷ rest z.1) (sym e) refl

-- what a try tells, by the test of the number found
pub by_found : (r : ℕ) (P Q : Type 0) → (r ≡ 0 → P) × (r ≢ 0 → Q) → MatchBool (r == 0) P Q
by_found r P Q t = dite (ℕ_discrete r 0) (λ e. subst (λ b. MatchBool b P Q) (sym (eq-eqb r 0 e)) (t.0 e)) (λ d. subst (λ b. MatchBool b P Q) (sym (ne_eqb r 0 d)) (t.1 d))
