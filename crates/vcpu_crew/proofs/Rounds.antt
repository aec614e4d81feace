-- One round of a worker, by the phase of its lane.
use Rattle.std.proofs.Common.{◌≡◌, ◌≢◌, ℕ, zero, suc, ◌+◌, ◌-◌, ◌<◌, ◌==◌, Option, Some, None, List, [], ◌∷◌, ◌++◌, ◌⊎◌, inl, inr, length, set, replicate, sym, refl, ap, ◌∙◌, subst, arith, eq-eqb, length-append, get_or-set_same}
use Rattle.std.specs.Prelude.{if◌then◌else◌}
use Rattle.std.proofs.lemmas.List.{append-nil, get_or-set_other}
use mathlib.Core.Logic.{dite}
use native.Mathlib.Decide.{ℕ_discrete}
use Rattle.chain_log.specs.declared.entry.LogEntry.{LogEntry}
use Rattle.function_table.specs.Groups.{Groups}
use Rattle.view_file.specs.declared.views.Views.{Views}
use Rattle.view_store.specs.declared.view.Patched.{Patched}
use Rattle.view_store.specs.declared.view.Patched.TheVariants.{Recovered, WasPresent}
use Rattle.view_store.specs.Paged.{PagedView, logged}
use Rattle.guest_board.specs.Board.{Seat}
use Rattle.run_evidence.specs.Config.{Config, IsConfig, IsLawfulSchedule, full, image_groups, view_in}
use Rattle.run_evidence.specs.Evidence.{AreJustified, log_in}
use Rattle.run_evidence.specs.Growing.{Begins, IsAllowedFrom, board_of, paged_at, views_count}
use Rattle.turn_table.specs.declared.known.Known.{Known}
use Rattle.turn_table.specs.Calls.{IsOwnSteps, IsUnchanged, HasOneMore}
use Rattle.turn_table.specs.Numbers.{Counts, at, grown, least, times}
use Rattle.turn_table.specs.Sound.{Log, IsEvidence}
use Rattle.turn_table.specs.Rule.{config_of}
use Rattle.turn_table.specs.Steps.{own, known_with, with_board, with_view, after_board, after_view}
use Rattle.vcpu_core.specs.declared.lane.Lane.{Lane}
use Rattle.vcpu_core.specs.declared.lane.Phase.{Phase}
use Rattle.vcpu_core.specs.declared.lane.Phase.TheVariants.{Running, Wants, Trapped, Looked}
use Rattle.vcpu_core.specs.declared.lane.Turned.{Turned}
use Rattle.vcpu_core.specs.Placed.{IsPlacedPhase}
use Rattle.vcpu_core.specs.Lanes.{IsLooked, IsTrapped, IsWanting, fill_row, look_row, mend_row, mend_view}
use Rattle.vcpu_core.specs.Rows.{AreAllowedSteps, AreOfOthers, FillKeeps, TurnsKeep, LookKeeps, MendKeeps, IsMended, IsPatched}
use Rattle.vcpu_core.specs.Truthful.{IsTruthful, IsOfView}
use Rattle.vcpu_core.specs.Turns.{turns_of}
use Rattle.vcpu_core.specs.Stages.{AreStagesFor}
use Rattle.vcpu_core.proofs.Stays.{truthful_lanes_are_placed, truthful_lanes_stay}
use Rattle.vcpu_core.proofs.Run.{stages_serve}
use Rattle.gstage.specs.Table.{Table}
use Rattle.run_evidence.proofs.OneVcpu.{full-vcpus}
use Rattle.vcpu_core.proofs.Ready.{named-below}
use Rattle.vcpu_crew.specs.declared.round.Rounded.{Rounded}
use Rattle.vcpu_crew.specs.declared.round.TheConstants.{TURN_LIMIT}
use Rattle.vcpu_crew.specs.declared.round.Rounded.TheVariants.{Went}
use Rattle.vcpu_crew.specs.Round.{HasFilled, HasMended, HasTurned, IsBetweenRounds, IsRound, round_answer, with_log}

none_some : {A : Type 0} (x : A) → None ≡ Some x → ⊥
none_some x e = cc

abbrev pub value_or : Option ℕ → ℕ
value_or None = 0
value_or (Some n) = n

some_in : {x y : ℕ} → Some x ≡ Some y → x ≡ y
some_in e = ap (λ o. value_or o) e

pub at_within : (c : Counts) (i n : ℕ) → at c i ≡ Some n → i < length c
at_within [] i n e = absurd (none_some n e)
at_within (x ∷ c) zero n e = omega arith
at_within (x ∷ c) (suc i) n e = let h = at_within c i n e in omega arith

at_set_here : (c : Counts) (i : ℕ) (x : Option ℕ) → i < length c → at (set c i x) i ≡ x
at_set_here [] i x h = absurd (omega arith)
at_set_here (y ∷ c) zero x h = refl
at_set_here (y ∷ c) (suc i) x h = at_set_here c i x (omega arith)

least_grown : (c : Counts) (n : ℕ) → least (set c (least c) (grown (at c (least c)) n)) ≡ least c
least_grown [] n = refl
least_grown (None ∷ c) n = ap suc (least_grown c n)
least_grown (Some m ∷ c) n = refl

times_append : (i : ℕ) (xs ys : List ℕ) → times i (xs ++ ys) ≡ times i xs + times i ys
times_append i [] ys = omega arith
times_append i (x ∷ xs) ys = let h = times_append i xs ys in omega arith

times_same : (i n : ℕ) → times i (replicate n i) ≡ n
times_same i zero = refl
times_same i (suc n) = let h = times_same i n in rw (eq-eqb i i refl) (omega arith)

copies_long : (n i : ℕ) → length (replicate n i) ≡ n
copies_long zero i = refl
copies_long (suc n) i = ap suc (copies_long n i)

one_of : (i j : ℕ) (n : ℕ) → j ≡ i → (if i == j then 1 else 0) + n ≡ 0 → ⊥
one_of i j n q e = let z : 1 + n ≡ 0 = subst (λ b. (if b then 1 else 0) + n ≡ 0) (eq-eqb i j (sym q)) e in absurd (omega arith)

others_of : (i : ℕ) (js : List ℕ) → times i js ≡ 0 → AreOfOthers i js
others_of i [] e = tt
others_of i (j ∷ js) e = ((λ q. one_of i j (times i js) q e), others_of i js (omega arith))

begins_whole : {X : Type 0} (xs : List X) → Begins xs xs
begins_whole xs = ([], sym (append-nil xs))

log_here : (logs : List Log) (k : ℕ) (log : Log) → k < length logs → log_in (set logs k log) k ≡ log
log_here logs k log lt = get_or-set_same logs k log [] lt

log_else : (logs : List Log) (k j : ℕ) (log : Log) → j ≢ k → log_in (set logs k log) j ≡ log_in logs j
log_else logs k j log d = get_or-set_other logs k j log [] d

set_twice : (logs : List Log) (k : ℕ) (x y : Log) → set (set logs k x) k y ≡ set logs k y
set_twice [] k x y = refl
set_twice (l ∷ ls) zero x y = refl
set_twice (l ∷ ls) (suc k) x y = ap (λ z. l ∷ z) (set_twice ls k x y)

grown_logs : (logs : List Log) (k : ℕ) (log : Log) → k < length logs → Begins (log_in logs k) log → (j : ℕ) → Begins (log_in logs j) (log_in (set logs k log) j)
grown_logs logs k log lt b j = dite (ℕ_discrete j k)
    (λ q. subst (λ (z : ℕ). Begins (log_in logs z) (log_in (set logs k log) z)) (sym q) (subst (λ z. Begins (log_in logs k) z) (sym (log_here logs k log lt)) b))
    (λ d. subst (λ z. Begins (log_in logs j) z) (sym (log_else logs k j log d)) (begins_whole (log_in logs j)))

-- what giving the board back asks
pub record GivesBoard (m : Known) (b : Seat) : Type 0 where
  pub board : b ≡ board_of (config_of m) b.schedule
  pub lawful : IsLawfulSchedule (config_of m) b.schedule
  pub steps : IsOwnSteps m b.schedule
  pub allowed : IsAllowedFrom (config_of m) m.logs b.schedule (length m.seen)

-- what giving a view back asks
pub record GivesView (c : Config) (m : Known) (q : PagedView) : Type 0 where
  pub number : q.number < views_count c
  pub taken : m.holds ≡ Some (q.number + 1)
  pub view : q ≡ paged_at (config_of m) q.number q.log
  pub log : IsUnchanged m q.number q.log ⊎ HasOneMore m q.number q.log

module _ (c : Config) where
  pub of_config : (v : Known) → config_of v ≡ c → (h : List ℕ) → ((k : ℕ) → IsEvidence (config_of v) h k (log_in v.logs k)) → AreJustified c v.logs h
  of_config v same h e k = (subst (λ (d : Config). IsEvidence d h k (log_in v.logs k)) same (e k)).justified

  -- the lane is truthful for the schedule that is found when the board is taken, since the pass has seen all of its own steps
  pub taken_lane : (v : Known) (l : Lane) (h : List ℕ) → IsBetweenRounds c v l → Begins v.seen h → ((i steps : ℕ) → at v.counts i ≡ Some steps → steps ≡ times i h) → IsTruthful c h v.logs l
  taken_lane v l h w b counted =
      let i : ℕ = l.vcpu in
      let all : times i v.seen ≡ times i h = counted i (times i v.seen) w.steps in
      let parts : times i h ≡ times i v.seen + times i b.0 = ap (times i) b.1 ∙ times_append i v.seen b.0 in
      let none : times i b.0 ≡ 0 = omega arith in
      subst (λ z. IsTruthful c z v.logs l) (sym b.1) (truthful_lanes_stay c v.seen b.0 v.logs v.logs l (others_of i b.0 none) (λ k. begins_whole (log_in v.logs k)) w.truthful)

  -- the steps of a turn on the board as it is taken
  pub steps_allowed : (v : Known) (l l' : Lane) (b0 b : Seat) (views : Views) (n : ℕ) → IsConfig c → IsBetweenRounds c v l → views ≡ c.views → Begins v.seen b0.schedule → b0 ≡ board_of (config_of v) b0.schedule → IsLawfulSchedule (config_of v) b0.schedule
      → ((k : ℕ) → IsEvidence (config_of v) b0.schedule k (log_in v.logs k)) → ((i steps : ℕ) → at v.counts i ≡ Some steps → steps ≡ times i b0.schedule) → TurnsKeep views b0 l b l' n → AreAllowedSteps c b0.schedule v.logs l.vcpu n b l'
  steps_allowed v l l' b0 b views n ok w same front is lawful evidence counted kept =
      kept c b0.schedule v.logs ok (sym same) (is ∙ ap (λ (d : Config). board_of d b0.schedule) w.config) (subst (λ (d : Config). IsLawfulSchedule d b0.schedule) w.config lawful)
      (of_config v w.config b0.schedule evidence) (taken_lane v l b0.schedule w front counted)

  -- the vCPU is one of the board's, and each view's table is for the board's memory
  pub vcpu_there : (v : Known) (l : Lane) (b : Seat) → IsBetweenRounds c v l → b ≡ board_of (config_of v) b.schedule → l.vcpu < length b.state.slots
  vcpu_there v l b w is =
      let now : b ≡ board_of c b.schedule = is ∙ ap (λ (d : Config). board_of d b.schedule) w.config in
      subst (λ (d : Seat). l.vcpu < length d.state.slots) (sym now) (let wide = full-vcpus c b.schedule in let lt = w.number in omega arith)

  pub stages_there : (v : Known) (l : Lane) (b : Seat) (n : ℕ) (stages : List Table) → IsConfig c → IsBetweenRounds c v l → b ≡ board_of (config_of v) b.schedule → AreStagesFor (full c []).ram n stages → AreStagesFor b.state.ram n stages
  stages_there v l b n stages ok w is all =
      let now : b ≡ board_of c b.schedule = is ∙ ap (λ (d : Config). board_of d b.schedule) w.config in
      subst (λ (d : Seat). AreStagesFor d.state.ram n stages) (sym now) (stages_serve c [] b.schedule n stages ok all)

  pub turn_gives : (v m : Known) (l l' : Lane) (h : List ℕ) (b : Seat) (n : ℕ) → IsBetweenRounds c v l → m ≡ with_board v h → AreAllowedSteps c h v.logs l.vcpu n b l' → GivesBoard m b
  turn_gives v m l l' h b n w took a =
      let now : b.schedule ≡ h ++ replicate n l.vcpu = ap (λ (d : Seat). d.schedule) a.board in
      subst (λ (x : Known). GivesBoard x b) (sym took) record {
        board = subst (λ (d : Config). b ≡ board_of d b.schedule) (sym w.config) (a.board ∙ ap (board_of c) (sym now));
        lawful = subst (λ (d : Config). IsLawfulSchedule d b.schedule) (sym w.config) (subst (λ z. IsLawfulSchedule c z) (sym now) a.lawful);
        steps = (n, now ∙ ap (λ (k : ℕ). h ++ replicate n k) w.vcpu);
        allowed = subst (λ (d : Config). IsAllowedFrom d v.logs b.schedule (length h)) (sym w.config) (subst (λ z. IsAllowedFrom c v.logs z (length h)) (sym now) a.allowed);
      }

  -- the pass after n steps of its own from schedule h
  abbrev after_steps : Known → List ℕ → ℕ → Known
  after_steps v h n = known_with v None (h ++ replicate n (own v)) v.logs (set v.counts (own v) (grown (at v.counts (own v)) n))

  steps_shape : (v m x : Known) (l l' : Lane) (h : List ℕ) (b : Seat) (n : ℕ) → IsBetweenRounds c v l → m ≡ with_board v h → AreAllowedSteps c h v.logs l.vcpu n b l' → x ≡ after_board m b.schedule → x ≡ after_steps v h n
  steps_shape v m x l l' h b n w took a gave =
      let now : b.schedule ≡ h ++ replicate n (own v) = ap (λ (d : Seat). d.schedule) a.board ∙ ap (λ (k : ℕ). h ++ replicate n k) w.vcpu in
      let longer : length (h ++ replicate n (own v)) - length h ≡ n = let p = length-append h (replicate n (own v)) in let q = copies_long n (own v) in omega arith in
      gave ∙ ap (λ y. after_board y b.schedule) took
      ∙ ap (λ z. known_with v None z v.logs (set v.counts (own v) (grown (at v.counts (own v)) (length z - length h)))) now
      ∙ ap (λ (k : ℕ). known_with v None (h ++ replicate n (own v)) v.logs (set v.counts (own v) (grown (at v.counts (own v)) k))) longer

  pub turn_did : (v m x : Known) (l l' : Lane) (h : List ℕ) (b0 b : Seat) (views : Views) (did : Turned) (answer : Rounded) → IsBetweenRounds c v l → Begins v.seen h → m ≡ with_board v h
      → b0 ≡ board_of (config_of v) h → views ≡ c.views → AreAllowedSteps c h v.logs l.vcpu did.steps b l' → x ≡ after_board m b.schedule
      → turns_of views TURN_LIMIT b0 l ≡ record { board = b; lane = l'; answer = did } → answer ≡ round_answer did.then → HasTurned c v l x l' answer
  turn_did v m x l l' h b0 b views did answer w front took start same a gave exact said = record {
    schedule = h;
    seen = front;
    did = did;
    exact =
        let old : b0 ≡ board_of c h = start ∙ ap (λ (d : Config). board_of d h) w.config in
        let seen : x.seen ≡ h ++ replicate did.steps l.vcpu = ap (λ (y : Known). y.seen) (steps_shape v m x l l' h b did.steps w took a gave) ∙ ap (λ (k : ℕ). h ++ replicate did.steps k) (sym w.vcpu) in
        let new : b ≡ board_of c x.seen = a.board ∙ ap (board_of c) (sym seen) in
        sym ((λ i. turns_of (same i) TURN_LIMIT (old i) l)) ∙ exact ∙ ap (λ (y : Seat). record { board = y; lane = l'; answer = did }) new;
    pass = steps_shape v m x l l' h b did.steps w took a gave;
    answer_is = said;
  }

  pub turn_between : (v m x : Known) (l l' : Lane) (h : List ℕ) (b : Seat) (n : ℕ) → IsBetweenRounds c v l → ((i steps : ℕ) → at v.counts i ≡ Some steps → steps ≡ times i h) → m ≡ with_board v h
      → AreAllowedSteps c h v.logs l.vcpu n b l' → x ≡ after_board m b.schedule → IsBetweenRounds c x l'
  turn_between v m x l l' h b n w counted took a gave =
      let i : ℕ = own v in
      let mine : at v.counts i ≡ Some (times i v.seen) = subst (λ (k : ℕ). at v.counts k ≡ Some (times k v.seen)) w.vcpu w.steps in
      let all : times i v.seen ≡ times i h = counted i (times i v.seen) mine in
      let number : l'.vcpu ≡ i = a.vcpu ∙ w.vcpu in
      let made : at (set v.counts i (grown (at v.counts i) n)) i ≡ Some (times i v.seen + n) = at_set_here v.counts i (grown (at v.counts i) n) (at_within v.counts i (times i v.seen) mine) ∙ ap (λ z. grown z n) mine in
      let sum : times i v.seen + n ≡ times i (h ++ replicate n i) = let p = times_append i h (replicate n i) in let q = times_same i n in omega arith in
      subst (λ (y : Known). IsBetweenRounds c y l') (sym (steps_shape v m x l l' h b n w took a gave)) record {
        config = w.config;
        free = refl;
        vcpu = number ∙ sym (least_grown v.counts n);
        number = let old = w.number in let same = a.vcpu in omega arith;
        steps = subst (λ (k : ℕ). at (set v.counts i (grown (at v.counts i) n)) k ≡ Some (times k (h ++ replicate n i))) (sym number) (made ∙ ap Some sum);
        truthful = subst (λ (k : ℕ). IsTruthful c (h ++ replicate n k) v.logs l') w.vcpu a.truthful;
      }

  -- the view of a lane that does not run is one of the run's
  below_by : (s : ℕ) (l : Lane) (p : Phase) → IsOfView s l p → (p ≡ Running → ⊥) → l.windows.view ≡ s
  below_by s l Running e d = absurd (d refl)
  below_by s l (Wants n) e d = e
  below_by s l (Trapped t) e d = e
  below_by s l (Looked k) e d = e

  pub view_below : (v : Known) (l : Lane) → IsBetweenRounds c v l → (l.phase ≡ Running → ⊥) → l.windows.view < views_count c
  view_below v l w d = let e = below_by (view_in c (full c v.seen) l.vcpu) l l.phase w.truthful.view d in let b = named-below c.views (Rattle.guest_board.specs.Board.name_of (full c v.seen) l.vcpu) in omega arith

  -- the lane is truthful for the view's log as it is found
  pub found_lane : (v : Known) (l : Lane) (k : ℕ) (log : Log) → IsBetweenRounds c v l → k < length v.logs → Begins (log_in v.logs k) log → IsTruthful c v.seen (set v.logs k log) l
  found_lane v l k log w lt b = subst (λ z. IsTruthful c z (set v.logs k log) l) (append-nil v.seen) (truthful_lanes_stay c v.seen [] v.logs (set v.logs k log) l tt (grown_logs v.logs k log lt b) w.truthful)

  pub found_view : (v : Known) (k : ℕ) (log : Log) (q : PagedView) → config_of v ≡ c → k < length v.logs → q ≡ paged_at (config_of v) k log → q ≡ paged_at c k (log_in (set v.logs k log) k)
  found_view v k log q same lt is = is ∙ (λ i. paged_at (same i) k (sym (log_here v.logs k log lt) i))

  -- a pass that gave view k back
  pub view_shape : (v m x : Known) (w k : ℕ) (log log' : Log) → m ≡ with_view v w k log → x ≡ after_view m k log' → x ≡ known_with v None v.seen (set v.logs k log') v.counts
  view_shape v m x w k log log' took gave = gave ∙ ap (λ y. after_view y k log') took ∙ ap (λ z. known_with v None v.seen z v.counts) (set_twice v.logs k log log')

  pub view_between : (v x : Known) (l l' : Lane) (k : ℕ) (log : Log) → IsBetweenRounds c v l → x ≡ known_with v None v.seen (set v.logs k log) v.counts → l'.vcpu ≡ l.vcpu → IsTruthful c v.seen (set v.logs k log) l' → IsBetweenRounds c x l'
  view_between v x l l' k log w is same t = subst (λ (y : Known). IsBetweenRounds c y l') (sym is) record {
    config = w.config;
    free = refl;
    vcpu = same ∙ w.vcpu;
    number = let old = w.number in omega arith;
    steps = subst (λ (i : ℕ). at v.counts i ≡ Some (times i v.seen)) (sym same) w.steps;
    truthful = t;
  }

  gives_at : (m : Known) (k : ℕ) (log : Log) (q : PagedView) → k < views_count c → m.holds ≡ Some (k + 1) → q ≡ paged_at (config_of m) k log → IsUnchanged m k log ⊎ HasOneMore m k log → GivesView c m q
  gives_at m k log q lt has is changes = subst (λ (p : PagedView). GivesView c m p) (sym is) record { number = lt; taken = has; view = refl; log = changes }

  -- the view as it was taken is given back
  pub same_gives : (v m : Known) (k : ℕ) (log : Log) (q : PagedView) → k < views_count c → k < length v.logs → m ≡ with_view v (k + 1) k log → q ≡ paged_at (config_of v) k log → GivesView c m q
  same_gives v m k log q lt within took is = subst (λ (x : Known). GivesView c x q) (sym took) (gives_at (with_view v (k + 1) k log) k log q lt refl is (inl (sym (log_here v.logs k log within))))

  patched_by : (v : Known) (k : ℕ) (log : Log) (p q : PagedView) (did : Patched) → config_of v ≡ c → k < views_count c → k < length v.logs → p ≡ paged_at (config_of v) k log → IsPatched c v.seen p q did → GivesView c (with_view v (k + 1) k log) q
  patched_by v k log p q WasPresent same lt within is same_view = gives_at (with_view v (k + 1) k log) k log q lt refl (same_view ∙ is) (inl (sym (log_here v.logs k log within)))
  patched_by v k log p q Recovered same lt within is t =
      let here : log_in (set v.logs k log) k ≡ log = log_here v.logs k log within in
      let e : LogEntry = t.0 in
      let number : p.number ≡ k = ap (λ (d : PagedView). d.number) is in
      let entries : p.log ≡ log = ap (λ (d : PagedView). d.log) is in
      gives_at (with_view v (k + 1) k log) k (log ++ e ∷ []) q lt refl (t.1 ∙ ap (λ (d : PagedView). logged d e) is)
      (inr (
        e,
        ap (λ z. z ++ e ∷ []) (sym here),
        subst (λ (d : Config). Rattle.run_evidence.specs.Evidence.IsJustified d v.seen e) (sym same) t.2.justified,
        (t.2.view ∙ number),
        (ap (λ z. Rattle.view_store.specs.Paged.is_logged z e.group) (here ∙ sym entries) ∙ t.2.new),
      ))

  pub patched_gives : (v m : Known) (k : ℕ) (log : Log) (p q : PagedView) (did : Patched) → config_of v ≡ c → k < views_count c → k < length v.logs → m ≡ with_view v (k + 1) k log → p ≡ paged_at (config_of v) k log
      → IsPatched c v.seen p q did → GivesView c m q
  patched_gives v m k log p q did same lt within took is t = subst (λ (x : Known). GivesView c x q) (sym took) (patched_by v k log p q did same lt within is t)

pub fill_vcpu : (p : PagedView) (l : Lane) (q : Phase) → (fill_row p l q).vcpu ≡ l.vcpu
fill_vcpu p l Running = refl
fill_vcpu p l (Wants n) = refl
fill_vcpu p l (Trapped t) = refl
fill_vcpu p l (Looked k) = refl

pub look_vcpu : (g : Groups) (l : Lane) (q : Phase) → (look_row g l q).vcpu ≡ l.vcpu
look_vcpu g l Running = refl
look_vcpu g l (Wants n) = refl
look_vcpu g l (Trapped t) = refl
look_vcpu g l (Looked k) = refl

pub mend_vcpu : (g : Groups) (l : Lane) (q : Phase) → (mend_row g l q).vcpu ≡ l.vcpu
mend_vcpu g l Running = refl
mend_vcpu g l (Wants n) = refl
mend_vcpu g l (Trapped t) = refl
mend_vcpu g l (Looked k) = refl

pub wanting_stands : (p : Phase) → IsWanting p → p ≡ Running → ⊥
wanting_stands p w q = subst IsWanting q w

pub looked_stands : (p : Phase) → IsLooked p → p ≡ Running → ⊥
looked_stands p w q = subst IsLooked q w

module _ (c : Config) where
  -- what a fill and a mend ask of the lane
  pub fill_placed : (v : Known) (l : Lane) (q : PagedView) (k : ℕ) (log : Log) → IsBetweenRounds c v l → q ≡ paged_at (config_of v) k log → IsPlacedPhase q.groups l l.phase
  fill_placed v l q k log w is =
      let groups : q.groups ≡ image_groups c = ap (λ (p : PagedView). p.groups) is ∙ ap (λ (d : Config). image_groups d) w.config in
      subst (λ (x : Groups). IsPlacedPhase x l l.phase) (sym groups) (truthful_lanes_are_placed c v.seen v.logs l w.truthful)

  pub table_placed : (v : Known) (l : Lane) (t : Groups) → IsBetweenRounds c v l → t ≡ image_groups c → IsPlacedPhase t l l.phase
  table_placed v l t w is = subst (λ (x : Groups). IsPlacedPhase x l l.phase) (sym is) (truthful_lanes_are_placed c v.seen v.logs l w.truthful)

  -- a fill, and a view that is given back as it was
  fill_shape : (v m x : Known) (k : ℕ) (q : PagedView) (log : Log) → m ≡ with_view v (k + 1) k log → q ≡ paged_at (config_of v) k log → x ≡ after_view m q.number q.log → x ≡ known_with v None v.seen (set v.logs k log) v.counts
  fill_shape v m x k q log took is gave =
      let number : q.number ≡ k = ap (λ (p : PagedView). p.number) is in
      let entries : q.log ≡ log = ap (λ (p : PagedView). p.log) is in
      view_shape c v m x (k + 1) k log log took (gave ∙ (λ i. after_view m (number i) (entries i)))

  pub fill_did : (v m x : Known) (l l' : Lane) (q : PagedView) (log : Log) → IsBetweenRounds c v l → Begins (log_in v.logs l.windows.view) log → m ≡ with_view v (l.windows.view + 1) l.windows.view log
      → q ≡ paged_at (config_of v) l.windows.view log → l' ≡ fill_row q l l.phase → x ≡ after_view m q.number q.log → HasFilled c v l x l'
  fill_did v m x l l' q log w front took is exact gave = record {
    log = log;
    seen = front;
    lane = exact ∙ ap (λ (p : PagedView). fill_row p l l.phase) (is ∙ ap (λ (d : Config). paged_at d l.windows.view log) w.config);
    pass = fill_shape v m x l.windows.view q log took is gave;
  }

  pub fill_between : (v m x : Known) (l l' : Lane) (q : PagedView) (log : Log) → IsConfig c → IsBetweenRounds c v l → l.windows.view < length v.logs → Begins (log_in v.logs l.windows.view) log
      → m ≡ with_view v (l.windows.view + 1) l.windows.view log → q ≡ paged_at (config_of v) l.windows.view log → l' ≡ fill_row q l l.phase → FillKeeps q l l' → x ≡ after_view m q.number q.log → IsBetweenRounds c x l'
  fill_between v m x l l' q log ok w lt front took is exact kept gave =
      let k : ℕ = l.windows.view in
      view_between c v x l l' k log w (fill_shape v m x k q log took is gave) (ap (λ (y : Lane). y.vcpu) exact ∙ fill_vcpu q l l.phase)
      (kept c v.seen (set v.logs k log) ok (found_view c v k log q w.config lt is) (found_lane c v l k log w lt front))

  -- a mend
  mended : (v : Known) (l l' : Lane) (p q : PagedView) (log : Log) (did : Patched) → IsConfig c → IsBetweenRounds c v l → l.windows.view < length v.logs → Begins (log_in v.logs l.windows.view) log
      → p ≡ paged_at (config_of v) l.windows.view log → MendKeeps p l q l' did → IsMended c v.seen p q l' did
  mended v l l' p q log did ok w lt front is kept =
      let k : ℕ = l.windows.view in
      kept c v.seen (set v.logs k log) ok (found_view c v k log p w.config lt is) (found_lane c v l k log w lt front)

  pub mend_gives : (v m : Known) (l l' : Lane) (p q : PagedView) (log : Log) (did : Patched) → l.windows.view < views_count c → IsConfig c → IsBetweenRounds c v l → l.windows.view < length v.logs
      → Begins (log_in v.logs l.windows.view) log → m ≡ with_view v (l.windows.view + 1) l.windows.view log → p ≡ paged_at (config_of v) l.windows.view log → MendKeeps p l q l' did → GivesView c m q
  mend_gives v m l l' p q log did below ok w lt front took is kept =
      patched_gives c v m l.windows.view log p q did w.config below lt took is (mended v l l' p q log did ok w lt front is kept).view

  mend_number : (v m : Known) (k : ℕ) (q : PagedView) (log : Log) → GivesView c m q → m ≡ with_view v (k + 1) k log → q.number ≡ k
  mend_number v m k q log g took = let e : Some (k + 1) ≡ Some (q.number + 1) = sym (ap (λ (y : Known). y.holds) took) ∙ g.taken in let n : k + 1 ≡ q.number + 1 = some_in e in omega arith

  mend_shape : (v m x : Known) (k : ℕ) (q : PagedView) (log : Log) → GivesView c m q → m ≡ with_view v (k + 1) k log → x ≡ after_view m q.number q.log → x ≡ known_with v None v.seen (set v.logs k q.log) v.counts
  mend_shape v m x k q log g took gave =
      view_shape c v m x (k + 1) k log q.log took (gave ∙ ap (λ (n : ℕ). after_view m n q.log) (mend_number v m k q log g took))

  pub mend_did : (v m x : Known) (l l' : Lane) (p q : PagedView) (log : Log) → l.windows.view < views_count c → (t : Groups) (did : Patched) → IsConfig c → IsBetweenRounds c v l → t ≡ image_groups c → l.windows.view < length v.logs
      → Begins (log_in v.logs l.windows.view) log → m ≡ with_view v (l.windows.view + 1) l.windows.view log → p ≡ paged_at (config_of v) l.windows.view log → MendKeeps p l q l' did
      → q ≡ mend_view p l.phase → l' ≡ mend_row t l l.phase → x ≡ after_view m q.number q.log → HasMended c v l x l'
  mend_did v m x l l' p q log below t did ok w same lt front took is kept view lane gave =
      let k : ℕ = l.windows.view in
      let now : q ≡ mend_view (paged_at c k log) l.phase = view ∙ ap (λ (y : PagedView). mend_view y l.phase) (is ∙ ap (λ (d : Config). paged_at d k log) w.config) in record {
        log = log;
        seen = front;
        lane = lane ∙ ap (λ (y : Groups). mend_row y l l.phase) same;
        pass = mend_shape v m x k q log (mend_gives v m l l' p q log did below ok w lt front took is kept) took gave ∙ ap (λ (y : PagedView). with_log v l y.log) now;
      }

  pub mend_between : (v m x : Known) (l l' : Lane) (p q : PagedView) (log : Log) → l.windows.view < views_count c → (t : Groups) (did : Patched) → IsConfig c → IsBetweenRounds c v l → l.windows.view < length v.logs
      → Begins (log_in v.logs l.windows.view) log → m ≡ with_view v (l.windows.view + 1) l.windows.view log → p ≡ paged_at (config_of v) l.windows.view log → MendKeeps p l q l' did
      → l' ≡ mend_row t l l.phase → x ≡ after_view m q.number q.log → IsBetweenRounds c x l'
  mend_between v m x l l' p q log below t did ok w lt front took is kept lane gave =
      let k : ℕ = l.windows.view in
      let g : GivesView c m q = mend_gives v m l l' p q log did below ok w lt front took is kept in
      let number : p.number ≡ k = ap (λ (y : PagedView). y.number) is in
      let here : log_in (set v.logs k q.log) p.number ≡ q.log = ap (λ (n : ℕ). log_in (set v.logs k q.log) n) number ∙ log_here v.logs k q.log lt in
      view_between c v x l l' k q.log w (mend_shape v m x k q log g took gave) (ap (λ (y : Lane). y.vcpu) lane ∙ mend_vcpu t l l.phase) ((mended v l l' p q log did ok w lt front is kept).truthful (set v.logs k q.log) here)

  -- what was done is what the lane's phase asks for
  pub turned_round : (v : Known) (l : Lane) (v' : Known) (l' : Lane) (answer : Rounded) (p : Phase) → p ≡ Running → HasTurned c v l v' l' answer → IsRound c v l p v' l' answer
  turned_round v l v' l' answer p is did = subst (λ (q : Phase). IsRound c v l q v' l' answer) (sym is) did

  pub filled_round : (v : Known) (l : Lane) (v' : Known) (l' : Lane) (p : Phase) → IsWanting p → HasFilled c v l v' l' → IsRound c v l p v' l' Went
  filled_round v l v' l' Running is did = absurd is
  filled_round v l v' l' (Wants n) is did = (did, refl)
  filled_round v l v' l' (Trapped t) is did = absurd is
  filled_round v l v' l' (Looked k) is did = absurd is

  pub mended_round : (v : Known) (l : Lane) (v' : Known) (l' : Lane) (p : Phase) → IsLooked p → HasMended c v l v' l' → IsRound c v l p v' l' Went
  mended_round v l v' l' Running is did = absurd is
  mended_round v l v' l' (Wants n) is did = absurd is
  mended_round v l v' l' (Trapped t) is did = absurd is
  mended_round v l v' l' (Looked k) is did = (did, refl)

  looked_round : (v : Known) (l l' : Lane) (p : Phase) → IsTrapped p → l' ≡ look_row (image_groups c) l l.phase → IsRound c v l p v l' Went
  looked_round v l l' Running is did = absurd is
  looked_round v l l' (Wants n) is did = absurd is
  looked_round v l l' (Trapped t) is did = (refl, did, refl)
  looked_round v l l' (Looked k) is did = absurd is

  pub look_did : (v : Known) (l l' : Lane) (t : Groups) → t ≡ image_groups c → IsTrapped l.phase → l' ≡ look_row t l l.phase → IsRound c v l l.phase v l' Went
  look_did v l l' t same is exact = looked_round v l l' l.phase is (exact ∙ ap (λ (y : Groups). look_row y l l.phase) same)

  pub look_between : (v : Known) (l l' : Lane) (t : Groups) → IsConfig c → t ≡ image_groups c → IsBetweenRounds c v l → l' ≡ look_row t l l.phase → LookKeeps t l l' → IsBetweenRounds c v l'
  look_between v l l' t ok same w exact kept =
      let number : l'.vcpu ≡ l.vcpu = ap (λ (y : Lane). y.vcpu) exact ∙ look_vcpu t l l.phase in record {
        config = w.config;
        free = w.free;
        vcpu = number ∙ w.vcpu;
        number = let old = w.number in omega arith;
        steps = subst (λ (i : ℕ). at v.counts i ≡ Some (times i v.seen)) (sym number) w.steps;
        truthful = kept c v.seen v.logs ok same w.truthful;
      }
