-- Splitting and joining passes, a look, and the end.
use Rattle.std.proofs.Common.{◌≡◌, ℕ, zero, suc, ◌+◌, ◌<◌, ◌&&◌, Bool, true, false, cond, nat_le, Option, Some, None, List, [], ◌∷◌, ⊎_elim, length, map, get_or, set, drop, sym, refl, ap, ◌∙◌, subst, arith, eq-eqb, ne_eqb, length-set}
use mathlib.Core.Logic.{dite}
use mathlib.Core.Option.{none, some, some-injective}
use native.Mathlib.Decide.{ℕ_discrete}
use lib.ListN.{get_elem?}
use Rattle.atomic_table.specs.Table.{State, keeps, step, Allows, Splits, Joins, Final, Seen}
use Rattle.atomic_table.proofs.Lists.{at_snoc, set_else}
use Rattle.guest_board.specs.Board.{Seat}
use Rattle.view_store.specs.Paged.{PagedView}
use Rattle.turn_table.specs.declared.known.Known.{Known}
use Rattle.turn_table.specs.declared.known.Guarded.{Guarded}
use Rattle.turn_table.specs.declared.known.Guarded.TheVariants.{Board, View}
use Rattle.turn_table.specs.Total.{total}
use Rattle.turn_table.specs.Numbers.{at, weight, least, greatest, either_count}
use Rattle.run_evidence.specs.Config.{Config, IsLawfulSchedule}
use Rattle.run_evidence.specs.Evidence.{log_in}
use Rattle.run_evidence.specs.Growing.{Begins, board_of, paged_at, views_count, logs_of}
use Rattle.run_evidence.proofs.Growing.{fronts_are_lawful}
use Rattle.turn_table.specs.Sound.{Log, AreSoundLogs}
use Rattle.turn_table.specs.Rule.{owns, is_word, holds_word, value_of, IsTruthfulPass, spent, IsTruthfulOrSpent, IsShared, view_slot, AreViews, slots_of}
use Rattle.turn_table.specs.Steps.{Seated, without_greatest, greatest_alone, is_beginning, longer_logs, with_both, shut_out, joined_known, IsConsistent, looked}
use Rattle.turn_table.specs.Calls.{OwnsAll, IsJoined}
use Rattle.turn_table.proofs.Sums.{two_at, sum_set, sum_none, total-append}
use Rattle.turn_table.proofs.Logs.{begins_whole}
use Rattle.turn_table.proofs.Keeps.{live_of, each_set, missed_keeps}
use Rattle.turn_table.proofs.Owners

start_begins : (xs ys : List ℕ) → is_beginning xs ys ≡ true → Begins xs ys
start_begins [] ys e = (ys, refl)
start_begins (x ∷ xs) [] e = absurd cc
start_begins (x ∷ xs) (y ∷ ys) e = dite (ℕ_discrete x y)
    (λ q. let t = start_begins xs ys (subst (λ b. (b && is_beginning xs ys) ≡ true) (eq-eqb x y q) e) in (t.0, λ i. sym q i ∷ t.1 i))
    (λ d. absurd (let z : false ≡ true = subst (λ b. (b && is_beginning xs ys) ≡ true) (ne_eqb x y d) e in cc))

-- of two beginnings of one list, one begins the other
either_start : (xs ys h : List ℕ) → Begins xs h → Begins ys h → is_beginning xs ys ≡ false → is_beginning ys xs ≡ true
either_start [] ys h a b e = absurd cc
either_start (x ∷ xs) [] h a b e = refl
either_start (x ∷ xs) (y ∷ ys) [] a b e = absurd (let z = a.1 in cc)
either_start (x ∷ xs) (y ∷ ys) (z ∷ h) a b e =
    let p : z ≡ x = ap (λ l. get_or l 0 0) a.1 in let q : z ≡ y = ap (λ l. get_or l 0 0) b.1 in
    let s : x ≡ y = sym p ∙ q in
    let t = either_start xs ys h (a.0, ap (drop 1) a.1) (b.0, ap (drop 1) b.1) (subst (λ b. (b && is_beginning xs ys) ≡ false) (eq-eqb x y s) e) in
    rw (eq-eqb y x (sym s)) t

joined_by : (h : List ℕ) (v w : Known) → Begins v.seen h → Begins w.seen h → (b : Bool) → is_beginning v.seen w.seen ≡ b → (d : Bool) → is_beginning w.seen v.seen ≡ d
    → (seen : List ℕ) × (cond b (with_both v w w.seen) (cond d (with_both v w v.seen) (shut_out v)) ≡ with_both v w seen) × Begins seen h
joined_by h v w x y true is d also = (w.seen, refl, y)
joined_by h v w x y false is true also = (v.seen, refl, x)
joined_by h v w x y false is false also = absurd (let z : false ≡ true = sym also ∙ either_start v.seen w.seen h x y is in cc)

joined_is : (h : List ℕ) (v w : Known) → Begins v.seen h → Begins w.seen h → (seen : List ℕ) × (joined_known v w ≡ with_both v w seen) × Begins seen h
joined_is h v w x y = joined_by h v w x y (is_beginning v.seen w.seen) refl (is_beginning w.seen v.seen) refl

known_by : (v w : Known) (b : Bool) → is_beginning v.seen w.seen ≡ b → (d : Bool) → is_beginning w.seen v.seen ≡ d → IsConsistent (cond b (with_both v w w.seen) (cond d (with_both v w v.seen) (shut_out v)))
    → IsJoined v w (cond b (with_both v w w.seen) (cond d (with_both v w v.seen) (shut_out v)))
known_by v w true is d also k = record { config = refl; free = refl; counts = refl; seen = start_begins v.seen w.seen is; other_seen = begins_whole w.seen; logs = refl; consistent = k }
known_by v w false is true also k = record { config = refl; free = refl; counts = refl; seen = begins_whole v.seen; other_seen = start_begins w.seen v.seen also; logs = refl; consistent = k }
known_by v w false is false also k = absurd (Owners.none_some k.some_number.1 k.some_number.2)

live_by : (v w : Known) (b d : Bool) → (cond b (with_both v w w.seen) (cond d (with_both v w v.seen) (shut_out v))).live ≡ true
live_by v w true d = refl
live_by v w false true = refl
live_by v w false false = refl

-- what a joined pass is, once a look told that the rule knows it
pub known_joined : (v w : Known) → IsConsistent (joined_known v w) → IsJoined v w (joined_known v w)
known_joined v w k = known_by v w (is_beginning v.seen w.seen) refl (is_beginning w.seen v.seen) refl k

pub joined_lives : (v w : Known) → (joined_known v w).live ≡ true
joined_lives v w = live_by v w (is_beginning v.seen w.seen) (is_beginning w.seen v.seen)

longer_by : {X : Type 0} (b : Bool) (xs ys h : List X) → Begins xs h → Begins ys h → Begins (cond b ys xs) h
longer_by true xs ys h a b = b
longer_by false xs ys h a b = a

longer_long : (xs ys : List Log) → length xs ≡ length ys → length (longer_logs xs ys) ≡ length xs
longer_long [] ys e = sym e
longer_long (x ∷ xs) [] e = refl
longer_long (x ∷ xs) (y ∷ ys) e = ap suc (longer_long xs ys (omega arith))

longer_at : (xs ys logs : List Log) → length xs ≡ length ys → ((k : ℕ) → Begins (log_in xs k) (log_in logs k)) → ((k : ℕ) → Begins (log_in ys k) (log_in logs k)) → (k : ℕ) → Begins (log_in (longer_logs xs ys) k) (log_in logs k)
longer_at [] ys logs e a b k = b k
longer_at (x ∷ xs) [] logs e a b k = a k
longer_at (x ∷ xs) (y ∷ ys) [] e a b zero = longer_by (nat_le (length x) (length y)) x y [] (a 0) (b 0)
longer_at (x ∷ xs) (y ∷ ys) [] e a b (suc k) = longer_at xs ys [] (omega arith) (λ j. a (suc j)) (λ j. b (suc j)) k
longer_at (x ∷ xs) (y ∷ ys) (l ∷ logs) e a b zero = longer_by (nat_le (length x) (length y)) x y l (a 0) (b 0)
longer_at (x ∷ xs) (y ∷ ys) (l ∷ logs) e a b (suc k) = longer_at xs ys logs (omega arith) (λ j. a (suc j)) (λ j. b (suc j)) k

module _ (c : Config) where
  left_live : (h : List ℕ) (logs : List Log) (v : Known) → least v.counts < greatest v.counts → greatest v.counts < length v.counts → IsTruthfulPass c h logs v → IsTruthfulPass c h logs (without_greatest v)
  left_live h logs v more within L =
      let mine = Owners.at-least v.counts L.some_number.0 L.some_number.1 L.some_number.2 in record {
        config = L.config;
        seen = L.seen;
        deep = L.deep;
        logs_seen = L.logs_seen;
        long = length-set v.counts (greatest v.counts) None ∙ L.long;
        counts = λ i n e. L.counts i n (Owners.without_at v.counts (greatest v.counts) i n within e);
        some_number = (least v.counts, mine.0, Owners.at_set_else v.counts (greatest v.counts) (least v.counts) None (λ q. omega arith) ∙ mine.1);
        has_board = λ q. absurd cc;
        has_view = λ k q. absurd cc;
      }

  right_live : (h : List ℕ) (logs : List Log) (v : Known) → (k : ℕ) → at v.counts (greatest v.counts) ≡ Some k → IsTruthfulPass c h logs v → IsTruthfulPass c h logs (greatest_alone v)
  right_live h logs v k e L =
      let within : greatest v.counts < length v.counts = Owners.at-within v.counts (greatest v.counts) k e in record {
        config = L.config;
        seen = L.seen;
        deep = L.deep;
        logs_seen = L.logs_seen;
        long = Owners.alone_long v.counts (greatest v.counts) ∙ L.long;
        counts = λ i n q. L.counts i n (Owners.alone_at v.counts (greatest v.counts) i n within q);
        some_number = (greatest v.counts, k, Owners.alone_here v.counts (greatest v.counts) within ∙ e);
        has_board = λ q. absurd cc;
        has_view = λ k q. absurd cc;
      }

  -- splitting a pass
  pub splits : (id : ℕ) (v : Known) → v.live ≡ true → v.holds ≡ None → least v.counts < greatest v.counts → Splits (IsShared c) id v (without_greatest v) (greatest_alone v)
  splits id v live free more s r e =
      let h = r.schedule in
      let logs = r.logs in
      let L = live_of c h logs v live (r.each id v e) in
      let some_one = Owners.any-at v.counts L.some_number.0 L.some_number.1 L.some_number.2 in
      let top = Owners.at-greatest v.counts some_one in
      let within : greatest v.counts < length v.counts = Owners.at-within v.counts (greatest v.counts) top.0 top.1 in
      let l = without_greatest v in let right = greatest_alone v in
      let views : List Known = set s.views id l in record {
        schedule = h;
        logs = logs;
        sound = r.sound;
        wide = r.wide;
        slots = r.slots;
        deep = r.deep;
        bit = r.bit;
        out = λ w. let none_held : holds_word w v ≡ 0 = ap (is_word w) free in let sums = sum_set (holds_word w) s.views id v l e in
            let app = total-append (holds_word w) views (right ∷ []) in let old = r.out w in omega arith;
        home = r.home;
        each = λ j u q. ⊎_elim (each_set c h logs s.views id l (left_live h logs v more within L) (λ j' u' _ q'. r.each j' u' q') j u)
            (λ p. subst (λ (x : Known). IsTruthfulOrSpent c h logs x x.live) p (right_live h logs v top.0 top.1 L))
            (at_snoc views right u j q);
        once = λ i lt. let a = total-append (owns i) views (right ∷ []) in let b = sum_set (owns i) s.views id v l e in
            let w = Owners.apart_weight v.counts (greatest v.counts) i within in let o = r.once i lt in omega arith;
      }

  both_live : (h seen : List ℕ) (logs : List Log) (v w : Known) → Begins seen h → IsTruthfulPass c h logs v → IsTruthfulPass c h logs w → IsTruthfulPass c h logs (with_both v w seen)
  both_live h seen logs v w b L M = let long : length v.counts ≡ length w.counts = L.long ∙ sym M.long in let deep : length v.logs ≡ length w.logs = L.deep ∙ sym M.deep in record {
    config = L.config;
    seen = b;
    deep = longer_long v.logs w.logs deep ∙ L.deep;
    logs_seen = longer_at v.logs w.logs logs deep L.logs_seen M.logs_seen;
    long = Owners.together_long v.counts w.counts long ∙ L.long;
    counts = λ i n e. ⊎_elim (L.counts i n) (M.counts i n) (Owners.either_from (at v.counts i) (at w.counts i) n (sym (Owners.together_at v.counts w.counts i long) ∙ e));
    some_number = (L.some_number.0, L.some_number.1, Owners.together_at v.counts w.counts L.some_number.0 long ∙ ap (λ x. either_count x (at w.counts L.some_number.0)) L.some_number.2);
    has_board = λ q. absurd cc;
    has_view = λ k q. absurd cc;
  }

  both_keeps : (s : State (Option Guarded) Known) (r : IsShared c s) (id other : ℕ) (v w : Known) (seen : List ℕ) → get_elem? s.views id ≡ some v → ¬ (other ≡ id) → get_elem? (set s.views id (with_both v w seen)) other ≡ some w
      → v.live ≡ true → w.live ≡ true → v.holds ≡ None → w.holds ≡ None → Begins seen r.schedule
      → IsShared c record { words = s.words; homes = s.homes; views = set (set s.views id (with_both v w seen)) other spent }
  both_keeps s r id other v w seen e apart q live lives free frees begins =
      let h = r.schedule in
      let logs = r.logs in
      let both = with_both v w seen in
      let there : get_elem? s.views other ≡ some w = sym (set_else s.views id other both apart) ∙ q in
      let L = live_of c h logs v live (r.each id v e) in
      let M = live_of c h logs w lives (r.each other w there) in
      let long : length v.counts ≡ length w.counts = L.long ∙ sym M.long in
      let views : List Known = set s.views id both in record {
        schedule = h;
        logs = logs;
        sound = r.sound;
        wide = r.wide;
        slots = r.slots;
        deep = r.deep;
        bit = r.bit;
        out = λ u. let a = sum_set (holds_word u) s.views id v both e in let b = sum_set (holds_word u) views other w spent q in
            let none_one : holds_word u v ≡ 0 = ap (is_word u) free in let none_two : holds_word u w ≡ 0 = ap (is_word u) frees in let old = r.out u in omega arith;
        home = r.home;
        each = each_set c h logs views other spent refl
            (λ j u d p. each_set c h logs s.views id both (both_live h seen logs v w begins L M) (λ j' u' _ q'. r.each j' u' q') j u p);
        once = λ i lt. let x = sum_set (owns i) s.views id v both e in let y = sum_set (owns i) views other w spent q in
            let o = r.once i lt in let t = two_at (owns i) s.views other id w v apart there e in
            let z : owns i both ≡ weight (either_count (at v.counts i) (at w.counts i)) = ap weight (Owners.together_at v.counts w.counts i long) in
            let k = Owners.either_weight (at v.counts i) (at w.counts i) (omega arith) in
            let n : owns i spent ≡ 0 = refl in omega arith;
      }

  -- joining two
  pub joins : (id : ℕ) (v : Known) (other : ℕ) (w : Known) → v.live ≡ true → w.live ≡ true → v.holds ≡ None → w.holds ≡ None → Joins (IsShared c) id v other w (joined_known v w) spent
  joins id v other w live lives free frees s r e apart q =
      let there : get_elem? s.views other ≡ some w = sym (set_else s.views id other (joined_known v w) apart) ∙ q in
      let L = live_of c r.schedule r.logs v live (r.each id v e) in
      let M = live_of c r.schedule r.logs w lives (r.each other w there) in
      let t = joined_is r.schedule v w L.seen M.seen in
      subst (λ (x : Known). IsShared c record { words = s.words; homes = s.homes; views = set (set s.views id x) other spent }) (sym t.1)
      (both_keeps s r id other v w t.0 e apart (subst (λ (x : Known). get_elem? (set s.views id x) other ≡ some w) t.1 q) live lives free frees t.2)

  -- a look tells what the rule says of the pass
  pub looks : (slots id : ℕ) (m : Seated) → m.0.live ≡ true → Allows (IsShared c) slots id m 0 (λ n. n) (looked (step slots 0 0 0 none) m)
  looks slots id m live s r wide e lt =
      let L = live_of c r.schedule r.logs m.0 live (r.each id m.0 e) in
      let lawful : IsLawfulSchedule c m.0.seen = fronts_are_lawful c m.0.seen L.seen.0 (subst (λ z. IsLawfulSchedule c z) L.seen.1 r.sound.lawful) in (
        m.0,
        keeps,
        tt,
        missed_keeps c s r id 0 m.0 m.1 (omega arith) e,
        (
          refl,
          record {
            some_number = L.some_number;
            lawful = subst (λ (d : Config). IsLawfulSchedule d m.0.seen) (sym L.config) lawful;
            long = L.long ∙ ap (λ (d : Config). d.setup.vcpus) (sym L.config);
            deep = L.deep ∙ ap views_count (sym L.config);
          },
        ),
      )

  -- another pass holds nothing where one owns all numbers
  none_holds : (h : List ℕ) (logs : List Log) (views : List Known) (id : ℕ) (v : Known) → get_elem? views id ≡ some v → OwnsAll (c.setup.vcpus) v → v.holds ≡ None
      → ((i : ℕ) → i < c.setup.vcpus → total (owns i) views ≡ 1) → (w j : ℕ) (u : Known) → get_elem? views j ≡ some u → (b : Bool) → u.live ≡ b → IsTruthfulOrSpent c h logs u b → holds_word w u ≡ 0
  none_holds h logs views id v e all free once w j u q true is K =
      dite (ℕ_discrete j id)
      (λ same. let uv : u ≡ v = some-injective u v (sym q ∙ (ap (get_elem? views) same ∙ e)) in ap (holds_word w) uv ∙ ap (is_word w) free)
      (λ apart. let within : K.some_number.0 < length u.counts = Owners.at-within u.counts K.some_number.0 K.some_number.1 K.some_number.2 in
      let long = K.long in
      let lt : K.some_number.0 < c.setup.vcpus = omega arith in
      let mine = all K.some_number.0 lt in
      let a : owns K.some_number.0 u ≡ 1 = Owners.weight_one (at u.counts K.some_number.0) K.some_number.1 K.some_number.2 in
      let b : owns K.some_number.0 v ≡ 1 = Owners.weight_one (at v.counts K.some_number.0) mine.0 mine.1 in
      let t = two_at (owns K.some_number.0) views j id u v apart q e in let o = once K.some_number.0 lt in absurd (omega arith))
  none_holds h logs views id v e all free once w j u q false is K = ap (holds_word w) K

  -- the views from number k on, with these logs
  abbrev pub paged_from : ℕ → List Log → List PagedView
  paged_from k [] = []
  paged_from k (log ∷ logs) = paged_at c k log ∷ paged_from (suc k) logs

  pub paged_long : (k : ℕ) (logs : List Log) → length (paged_from k logs) ≡ length logs
  paged_long k [] = refl
  paged_long k (log ∷ logs) = ap suc (paged_long (suc k) logs)

  pub logs_paged : (k : ℕ) (logs : List Log) → logs_of (paged_from k logs) ≡ logs
  logs_paged k [] = refl
  logs_paged k (log ∷ logs) = ap (λ z. log ∷ z) (logs_paged (suc k) logs)

  paged_from_at : (k j : ℕ) (logs : List Log) (d : PagedView) → j < length logs → get_or (paged_from k logs) j d ≡ paged_at c (k + j) (log_in logs j)
  paged_from_at k j [] d lt = absurd (omega arith)
  paged_from_at k zero (log ∷ logs) d lt = let z : k ≡ k + 0 = omega arith in ap (λ n. paged_at c n log) z
  paged_from_at k (suc j) (log ∷ logs) d lt = let z : suc k + j ≡ k + suc j = omega arith in paged_from_at (suc k) j logs d (omega arith) ∙ ap (λ n. paged_at c n (log_in logs j)) z

  -- a list whose places are those of the paged' things
  paged_are : (k : ℕ) (logs : List Log) (xs : List (Option Guarded)) → length xs ≡ length logs
      → ((j : ℕ) → j < length logs → get_elem? xs j ≡ some (Some (View (paged_at c (k + j) (log_in logs j))))) → xs ≡ map view_slot (paged_from k logs)
  paged_are k [] [] e at_j = refl
  paged_are k [] (x ∷ xs) e at_j = absurd (omega arith)
  paged_are k (log ∷ logs) [] e at_j = absurd (omega arith)
  paged_are k (log ∷ logs) (x ∷ xs) e at_j =
      let z : k + 0 ≡ k = omega arith in
      let first : x ≡ view_slot (paged_at c k log) = some-injective x _ (at_j 0 (omega arith)) ∙ ap (λ n. view_slot (paged_at c n log)) z in
      let more = paged_are (suc k) logs xs (omega arith) (λ j lt. let s : k + suc j ≡ suc k + j = omega arith in at_j (suc j) (omega arith) ∙ ap (λ n. some (Some (View (paged_at c n (log_in logs j))))) s) in
      (λ i. first i ∷ more i)

  things_are : (h : List ℕ) (logs : List Log) (xs : List (Option Guarded)) → length xs ≡ suc (length logs)
      → ((w : ℕ) → w < suc (length logs) → get_elem? xs w ≡ some (Some (value_of c h logs w))) → xs ≡ slots_of (board_of c h) (paged_from 0 logs)
  things_are h logs [] e at_w = absurd (omega arith)
  things_are h logs (x ∷ xs) e at_w =
      let first : x ≡ Some (Board (board_of c h)) = some-injective x _ (at_w 0 (omega arith)) in
      let more = paged_are 0 logs xs (omega arith) (λ j lt. let z : j ≡ 0 + j = omega arith in at_w (suc j) (omega arith) ∙ ap (λ n. some (Some (View (paged_at c n (log_in logs j))))) z) in
      (λ i. first i ∷ more i)

  -- what holds at the end
  pub record Ended (h : List ℕ) (logs : List Log) (v : Known) : Type 0 where
    pub sound : AreSoundLogs c h logs
    pub deep : length logs ≡ views_count c
    pub live : IsTruthfulPass c h logs v

  pub closes : (id : ℕ) (v : Known) (words : List ℕ) (slots : List (Option Guarded)) → v.live ≡ true → v.holds ≡ None → OwnsAll (c.setup.vcpus) v → Final (Seen (IsShared c) id v) words slots
      → (h : List ℕ) × (logs : List Log) × (slots ≡ slots_of (board_of c h) (paged_from 0 logs)) × Ended h logs v
  closes id v words slots live free all f =
      let s = f.0 in let r = f.1.0 in let e = f.1.1 in
      let quiet : (w : ℕ) → total (holds_word w) s.views ≡ 0 = λ w. sum_none (holds_word w) s.views (λ j u q. none_holds r.schedule r.logs s.views id v e all free r.once w j u q u.live refl (r.each j u q)) in
      let word : (w : ℕ) → get_or s.words w 0 ≡ 0 = λ w. sym (r.out w) ∙ quiet w in
      let long : length slots ≡ suc (length r.logs) = let a = r.slots in let b = f.3 in let d = r.deep in omega arith in
      let there : (w : ℕ) → w < suc (length r.logs) → get_elem? slots w ≡ some (Some (value_of c r.schedule r.logs w)) =
      λ w lt. let d = r.deep in f.4 w (Some (value_of c r.schedule r.logs w)) (r.home w (omega arith) (word w)) in
      (r.schedule, r.logs, things_are r.schedule r.logs slots long there, record { sound = r.sound; deep = r.deep; live = live_of c r.schedule r.logs v live (r.each id v e) })

abbrev seat_in : Option Guarded → Seat → Seat
seat_in None d = d
seat_in (Some (Board b)) d = b
seat_in (Some (View p)) d = d

abbrev paged_in : Option Guarded → PagedView → PagedView
paged_in None d = d
paged_in (Some (Board b)) d = d
paged_in (Some (View p)) d = p

abbrev first_thing : List (Option Guarded) → Option Guarded
first_thing [] = None
first_thing (x ∷ xs) = x

things_same : (ps qs : List PagedView) → map view_slot ps ≡ map view_slot qs → ps ≡ qs
things_same [] [] e = refl
things_same [] (q ∷ qs) e = absurd (let z = ap length e in cc)
things_same (p ∷ ps) [] e = absurd (let z = ap length e in cc)
things_same (p ∷ ps) (q ∷ qs) e =
    let first : p ≡ q = ap (λ xs. paged_in (first_thing xs) p) e in let more = things_same ps qs (ap (drop 1) e) in (λ i. first i ∷ more i)

pub laid_board : (a b : Seat) (ps qs : List PagedView) → slots_of a ps ≡ slots_of b qs → a ≡ b
laid_board a b ps qs e = ap (λ xs. seat_in (first_thing xs) a) e

pub laid_views : (a b : Seat) (ps qs : List PagedView) → slots_of a ps ≡ slots_of b qs → ps ≡ qs
laid_views a b ps qs e = things_same ps qs (ap (drop 1) e)

-- what `close` says of the board and the views that it found
pub record Closed (c : Config) (b : Seat) (ps : List PagedView) (v : Known) : Type 0 where
  pub board : b ≡ board_of c b.schedule
  pub many : length ps ≡ views_count c
  pub each : AreViews c (logs_of ps) ps
  pub sound : AreSoundLogs c b.schedule (logs_of ps)
  pub pass : IsTruthfulPass c b.schedule (logs_of ps) v

paged_closed : (c : Config) (h : List ℕ) (logs : List Log) (v : Known) → Ended c h logs v → Closed c (board_of c h) (paged_from c 0 logs) v
paged_closed c h logs v t = let same : logs ≡ logs_of (paged_from c 0 logs) = sym (logs_paged c 0 logs) in record {
  board = refl;
  many = paged_long c 0 logs ∙ t.deep;
  each = λ k p lt. let long = paged_long c 0 logs in let z : 0 + k ≡ k = omega arith in paged_from_at c 0 k logs p (omega arith) ∙ (ap (λ n. paged_at c n (log_in logs k)) z ∙ ap (λ z. paged_at c k (log_in z k)) same);
  sound = subst (AreSoundLogs c h) same t.sound;
  pass = subst (λ z. IsTruthfulPass c h z v) same t.live;
}

pub closed_with : (c : Config) (id : ℕ) (v : Known) (words : List ℕ) (slots : List (Option Guarded)) (b : Seat) (ps : List PagedView) → v.live ≡ true → v.holds ≡ None → OwnsAll (c.setup.vcpus) v → Final (Seen (IsShared c) id v) words slots
    → slots ≡ slots_of b ps → Closed c b ps v
closed_with c id v words slots b ps live free all f found =
    let t = closes c id v words slots live free all f in
    let same : slots_of (board_of c t.0) (paged_from c 0 t.1) ≡ slots_of b ps = sym t.2 ∙ found in
    let boards = laid_board (board_of c t.0) b (paged_from c 0 t.1) ps same in let views = laid_views (board_of c t.0) b (paged_from c 0 t.1) ps same in
    subst (λ d. Closed c d ps v) boards (subst (λ qs. Closed c (board_of c t.0) qs v) views (paged_closed c t.0 t.1 v t.3))
