-- What a turn keeps: its steps are the full kernel's, each fetch is allowed, and the lane is truthful after it.
use Rattle.std.proofs.Common.{◌≡◌, ℕ, zero, suc, ◌+◌, ◌*◌, ◌<◌, true, false, Bool, List, [], ◌∷◌, ◌++◌, length, refl, sym, ap, subst, ◌∙◌, arith, Some, None, inl, inr, append_assoc, append-nil, replicate}
use Rattle.std.specs.Prelude.{◌==◌, ◌||◌, slice_set, if◌then◌else◌}
use Rattle.std.specs.List.{list_any}
use Rattle.std.proofs.lemmas.Bool.Decides.{nat_tests}
use Rattle.fc_numbers.specs.declared.places.TheConstants.{RAM_START}
use Rattle.fc_numbers.specs.Spans.{in_text, offset_in, text_size}
use Rattle.fc_numbers.proofs.TextLaws.{offset_below}
use Rattle.function_table.specs.Groups.{Groups, group_at, group_in}
use Rattle.function_table.proofs.GroupLemmas.{groups-good}
use Rattle.chain_log.specs.declared.entry.LogEntry.{LogEntry}
use Rattle.view_file.specs.declared.views.Views.{Views}
use Rattle.view_store.specs.Paged.{PagedView, is_present}
use Rattle.guest_board.specs.declared.step.StepStart.{StepStart}
use Rattle.guest_board.specs.declared.step.StepStart.TheVariants.{Fetches}
use Rattle.guest_board.specs.declared.seen.Windows.{Windows}
use Rattle.guest_board.specs.declared.seen.Verdict.{Verdict}
use Rattle.guest_board.specs.declared.seen.Verdict.TheVariants.{Idle, Needs, Zeroes, Goes}
use Rattle.guest_board.specs.Fetch.{with_halves}
use Rattle.guest_board.specs.Step.{place_of}
use Rattle.guest_board.specs.Board.{Seat, State, may, moved, next_of, next_start, step_of, stepped_by}
use Rattle.guest_board.specs.Seen.{after_verdict, by_start, trapped_at}
use Rattle.guest_board.proofs.Places.{HalvesAre}
use Rattle.run_evidence.specs.Config.{Config, IsConfig, IsLawfulSchedule, full, full_at, image_groups, is_base, rules_in, view_in}
use Rattle.run_evidence.specs.Evidence.{AreJustified, chain_in, is_group_open, log_in}
use Rattle.run_evidence.specs.Growing.{IsAllowedFrom, board_of, paged_at}
use Rattle.run_evidence.proofs.Growing.{allowed_from_grows, boards_move}
use Rattle.run_evidence.proofs.Runs.{full_at-now, lawful-more}
use Rattle.run_evidence.proofs.Stable.{all_justified-more, is_logged-now}
use Rattle.run_evidence.proofs.Steps.{StartIs, next-is, next-text, start-is, step-is}
use Rattle.vcpu_core.specs.declared.lane.Lane.{Lane}
use Rattle.vcpu_core.specs.declared.lane.Phase.TheVariants.{Running, Wants, Trapped}
use Rattle.vcpu_core.specs.declared.lane.Turned.{Turned}
use Rattle.vcpu_core.specs.declared.lane.Then.TheVariants.{Limit}
use Rattle.vcpu_core.specs.Lanes.{after_turn, blank_windows, in_phase, seated, went_by}
use Rattle.vcpu_core.specs.Truthful.{AreTruthful, IsTrapOf, IsTruthful}
use Rattle.vcpu_core.specs.Turns.{AfterTurns, board_after, lane_after, turns_by, turns_from, turns_of, verdict_for, windows_for}
use Rattle.vcpu_core.specs.Rows.{AreAllowedSteps, TurnsKeep}
use Rattle.vcpu_core.specs.World.{World, gone, went_in}
use Rattle.vcpu_core.proofs.Run.{full-clock, full-texted}
use Rattle.vcpu_core.proofs.Truth.{IsOriginal, got-same, group-half, half_no, read-original}
use Rattle.vcpu_core.proofs.Verdicts.{IsNeed, IsPlain, IsRead, IsZero, first_in, second_in, start-busy, start-goes, start-needs, start-zeroes, verdict-may, verdict-stuck}

pub seated-view : (v : ℕ) (w : Windows) → (seated v w).view ≡ v
seated-view v w =
    elim (w.view == v) as (λ b. (w.view == v) ≡ b → (if b then w else blank_windows v).view ≡ v) [
      | true ↦ λ t. grind (arith, nat_tests, t)
      | false ↦ λ t. refl
    ] refl

or-weaken : (a b d : Bool) → (b ≡ true → d ≡ true) → (a || b) ≡ true → (a || d) ≡ true
or-weaken true b d f e = refl
or-weaken false b d f e = f e

-- the windows by which a lane steps are truthful where its own are
pub seated-truthful : (c : Config) (logs : List (List LogEntry)) (v : ℕ) (w : Windows) → AreTruthful c (log_in logs w.view) w → AreTruthful c (log_in logs (seated v w).view) (seated v w)
seated-truthful c logs v w truth =
    elim (w.view == v) as (λ b. AreTruthful c (log_in logs (if b then w else blank_windows v).view) (if b then w else blank_windows v)) [
      | true ↦ truth
      | false ↦ record { held = tt; cleared = tt }
    ]

module _ (c : Config) (ok : IsConfig c) (h : List ℕ) (logs : List (List LogEntry)) (just : AreJustified c logs h) (i : ℕ) (m : may (rules_in c) (full c h) i ≡ true)
    (w : Windows) (view : w.view ≡ view_in c (full c h) i) (truth : AreTruthful c (log_in logs w.view) w) where
  text-is : (full c h).ram.text ≡ (image_groups c).text
  text-is = (full-texted c h ok).has.same

  next-in : (p : ℕ) → next_of (full c h) i ≡ Some p → in_text (image_groups c).text p ≡ true
  next-in p e = subst (λ t. in_text t p ≡ true) text-is (next-text (full c h) i p e)

  -- a present group is open at this moment
  present-open : (v g : ℕ) → is_present (paged_at c v (log_in logs v)).base (log_in logs v) g ≡ true → is_group_open c logs v (length h) g ≡ true
  present-open v g e = or-weaken (is_base c v g) (list_any (λ (x : LogEntry). x.group == g) (log_in logs v)) _ (is_logged-now c h g (log_in logs v) (just v)) e

  -- a step by truthful windows is the full kernel's, and its fetch is allowed
  record IsStepOf (r : StepStart) : Type 0 where
    pub same : stepped_by (rules_in c) (full c h) i r ≡ step_of (rules_in c) (full c h) i
    pub open_group : (p : ℕ) → next_of (full c h) i ≡ Some p → is_group_open c logs (view_in c (full c h) i) (length h) (group_at (image_groups c) p) ≡ true

  read-step : (r : StepStart) → IsRead (image_groups c).text w (next_start (full c h) i) r → IsStepOf r
  read-step r x =
      let next : next_of (full c h) i ≡ Some x.place = next-is (full c h) i ∙ ap (λ z. place_of z) x.begin ∙ x.next in
      let inside : in_text (image_groups c).text x.place ≡ true = next-in x.place next in
      let o : IsOriginal (paged_at c w.view (log_in logs w.view)) (half_no (image_groups c).text x.place) (first_in (image_groups c).text x.place x.window) (second_in (image_groups c).text x.place x.window) =
      read-original c ok w.view (log_in logs w.view) w (next_start (full c h) i) r x refl truth inside in
      let halves : HalvesAre (full c h).ram x.got = subst (λ z. StartIs (full c h).ram z) x.begin (start-is (full c h) i) in
      let same : with_halves x.got (first_in (image_groups c).text x.place x.window) (second_in (image_groups c).text x.place x.window) ≡ x.got =
      got-same c ok (full c h).ram (full-texted c h ok).has w.view (log_in logs w.view) x.place (first_in (image_groups c).text x.place x.window) (second_in (image_groups c).text x.place x.window) o x.got halves x.next in
      let again : r ≡ next_start (full c h) i = x.reads ∙ ap (λ z. Fetches z) same ∙ sym x.begin in
      let group : group_at (image_groups c) x.place ≡ group_in (image_groups c).starts (2 * half_no (image_groups c).text x.place) = group-half (image_groups c) x.place (groups-good c.image ok.image) in
      let here : is_group_open c logs w.view (length h) (group_at (image_groups c) x.place) ≡ true = present-open w.view (group_at (image_groups c) x.place) (rw group o.present) in
      record {
        same = ap (λ z. stepped_by (rules_in c) (full c h) i z) again ∙ sym (step-is (rules_in c) (full c h) i);
        open_group = λ p e.
            let place : x.place ≡ p = (let some : Some x.place ≡ Some p = sym next ∙ e in cc) in
            subst (λ q. is_group_open c logs (view_in c (full c h) i) (length h) (group_at (image_groups c) q) ≡ true) place
            (subst (λ u. is_group_open c logs u (length h) (group_at (image_groups c) x.place) ≡ true) view here);
      }

  plain-step : (r : StepStart) → IsPlain (next_start (full c h) i) r → IsStepOf r
  plain-step r x = record {
    same = ap (λ z. stepped_by (rules_in c) (full c h) i z) x.same ∙ sym (step-is (rules_in c) (full c h) i);
    open_group = λ p e. let none : next_of (full c h) i ≡ None = next-is (full c h) i ∙ x.none in let some : None ≡ Some p = sym none ∙ e in absurd (cc);
  }

  goes-step : (r : StepStart) → by_start (full c h).ram.text w (next_start (full c h) i) ≡ Goes r → IsStepOf r
  goes-step r e =
      elim (start-goes (image_groups c).text w (next_start (full c h) i) r (subst (λ t. by_start t w (next_start (full c h) i) ≡ Goes r) text-is e)) [
        | inl x ↦ plain-step r x
        | inr x ↦ read-step r x
      ]

  now : full_at c h (full c h).clock ≡ full c h
  now = ap (λ t. full_at c h t) (full-clock c h) ∙ full_at-now c h

  -- what a trap of this moment keeps
  trap-now : (p : ℕ) → next_of (full c h) i ≡ Some p → IsTrapOf c h w.view i (full c h).clock p (chain_in (full c h) i)
  trap-now p next = record {
    early = omega (arith, full-clock c h);
    may_step = rw now m;
    next = rw now next;
    inside = next-in p next;
    view_is = rw now (sym view);
    chain_is = rw now refl;
  }

  lane-needs : (l : Lane) (n : ℕ) → l.vcpu ≡ i → by_start (full c h).ram.text w (next_start (full c h) i) ≡ Needs n → IsTruthful c h logs (in_phase l w (Wants n))
  lane-needs l n own e =
      let need : IsNeed (image_groups c).text w n (next_start (full c h) i) = start-needs (image_groups c).text w (next_start (full c h) i) n (subst (λ t. by_start t w (next_start (full c h) i) ≡ Needs n) text-is e) in
      let inside : in_text (image_groups c).text need.place ≡ true = next-in need.place (next-is (full c h) i ∙ need.next) in
      let below : offset_in (image_groups c).text need.place < text_size (image_groups c).text = offset_below (image_groups c).text RAM_START need.place (groups-good c.image ok.image).text.ranges inside in
      record { windows = truth; phase = omega (arith, need.number, below); view = subst (λ k. w.view ≡ view_in c (full c h) k) (sym own) view }

  lane-zeroes : (l : Lane) (p : ℕ) → l.vcpu ≡ i → by_start (full c h).ram.text w (next_start (full c h) i) ≡ Zeroes p
      → IsTruthful c h logs (in_phase l w (Trapped (trapped_at (full c h) i w.view p)))
  lane-zeroes l p own e =
      let zero : (place_of (next_start (full c h) i) ≡ Some p) × IsZero (full c h).ram.text w p = start-zeroes (full c h).ram.text w (next_start (full c h) i) p e in
      record {
        windows = truth;
        phase = record { vcpu_is = sym own; of_view = refl; trap = trap-now p (next-is (full c h) i ∙ zero.0) };
        view = subst (λ k. w.view ≡ view_in c (full c h) k) (sym own) view;
      }

  lane-goes : (l : Lane) → IsTruthful c (h ++ i ∷ []) logs (in_phase l w Running)
  lane-goes l = record { windows = truth; phase = tt; view = tt }

-- justified logs stay so
justified-more : (c : Config) (logs : List (List LogEntry)) (h : List ℕ) (i : ℕ) → AreJustified c logs h → AreJustified c logs (h ++ i ∷ [])
justified-more c logs h i just v = all_justified-more c h i (log_in logs v) (just v)

-- the board of this schedule, which is lawful and fetches from step `from` on what the logs allow; the lane is vCPU i's
pub record IsRunTo (c : Config) (logs : List (List LogEntry)) (from i : ℕ) (h : List ℕ) (b : Seat) (l : Lane) : Type 0 where
  pub board : b ≡ board_of c h
  pub lawful : IsLawfulSchedule c h
  pub allowed : IsAllowedFrom c logs h from
  pub vcpu : l.vcpu ≡ i
  pub truthful : IsTruthful c h logs l

-- it was reached by n more steps
pub record HasRun (c : Config) (logs : List (List LogEntry)) (from i made : ℕ) (h : List ℕ) (after : AfterTurns) : Type 0 where
  pub more : ℕ
  pub steps : after.answer.steps ≡ made + more
  pub to : IsRunTo c logs from i (h ++ replicate more i) after.board after.lane

none-more : (c : Config) (logs : List (List LogEntry)) (from i made : ℕ) (h : List ℕ) (after : AfterTurns) → after.answer.steps ≡ made → IsRunTo c logs from i h after.board after.lane
    → HasRun c logs from i made h after
none-more c logs from i made h after same k = record {
  more = 0;
  steps = omega (arith, same);
  to = subst (λ x. IsRunTo c logs from i x after.board after.lane) (sym (append-nil h)) k;
}

one-more : (c : Config) (logs : List (List LogEntry)) (from i made : ℕ) (h : List ℕ) (after : AfterTurns) → HasRun c logs from i (made + 1) (h ++ i ∷ []) after → HasRun c logs from i made h after
one-more c logs from i made h after k = record {
  more = suc k.more;
  steps = omega (arith, k.steps);
  to = subst (λ x. IsRunTo c logs from i x after.board after.lane) (append_assoc h (i ∷ []) (replicate k.more i)) k.to;
}

module _ (c : Config) (ok : IsConfig c) (logs : List (List LogEntry)) (from : ℕ) where
  -- from here on at most k more steps are made
  abbrev Runs : ℕ → Type 0
  Runs k = (made : ℕ) (h : List ℕ) (l : Lane) → AreJustified c logs h → IsRunTo c logs from l.vcpu h (board_of c h) l → HasRun c logs from l.vcpu made h (turns_from c.views made k (board_of c h) l)

  module _ (k : ℕ) (rest : Runs k) (made : ℕ) (h : List ℕ) (l : Lane) (just : AreJustified c logs h) (r : IsRunTo c logs from l.vcpu h (board_of c h) l) where
    abbrev w : Windows
    w = windows_for c.views (board_of c h) l

    view-is : (windows_for c.views (board_of c h) l).view ≡ view_in c (full c h) l.vcpu
    view-is = seated-view (view_in c (full c h) l.vcpu) l.windows

    truth : AreTruthful c (log_in logs (windows_for c.views (board_of c h) l).view) (windows_for c.views (board_of c h) l)
    truth = seated-truthful c logs (view_in c (full c h) l.vcpu) l.windows r.truthful.windows

    -- what the event leads to, by its verdict
    abbrev after : Verdict → AfterTurns
    after v = turns_by v made (after_verdict (board_of c h) l.vcpu v) (after_turn (full c h) l.vcpu l (windows_for c.views (board_of c h) l) v)
        (turns_from c.views (made + 1) k (after_verdict (board_of c h) l.vcpu v) (after_turn (full c h) l.vcpu l (windows_for c.views (board_of c h) l) v))

    goes-on : (start : StepStart) → may (rules_in c) (full c h) l.vcpu ≡ true → by_start (full c h).ram.text (windows_for c.views (board_of c h) l) (next_start (full c h) l.vcpu) ≡ Goes start
        → HasRun c logs from l.vcpu made h (turns_from c.views (made + 1) k (moved (board_of c h) l.vcpu (stepped_by (rules_in c) (full c h) l.vcpu start)) (in_phase l (windows_for c.views (board_of c h) l) Running))
    goes-on start m e =
        let step : IsStepOf c ok h logs just l.vcpu m (windows_for c.views (board_of c h) l) view-is truth start = goes-step c ok h logs just l.vcpu m (windows_for c.views (board_of c h) l) view-is truth start e in
        let board : board_of c (h ++ l.vcpu ∷ []) ≡ moved (board_of c h) l.vcpu (stepped_by (rules_in c) (full c h) l.vcpu start) =
        boards_move c h l.vcpu ∙ ap (λ (x : State). moved (board_of c h) l.vcpu x) (sym step.same) in
        subst (λ (b : Seat). HasRun c logs from l.vcpu made h (turns_from c.views (made + 1) k b (in_phase l (windows_for c.views (board_of c h) l) Running))) board
        (one-more c logs from l.vcpu made h _
        (rest (made + 1) (h ++ l.vcpu ∷ []) (in_phase l (windows_for c.views (board_of c h) l) Running) (justified-more c logs h l.vcpu just) (record {
          board = refl;
          lawful = lawful-more c h l.vcpu r.lawful m;
          allowed = allowed_from_grows c h l.vcpu from logs r.allowed step.open_group;
          vcpu = refl;
          truthful = lane-goes c ok h logs just l.vcpu m (windows_for c.views (board_of c h) l) view-is truth l;
        })))

    of-verdict : may (rules_in c) (full c h) l.vcpu ≡ true → (v : Verdict) → by_start (full c h).ram.text (windows_for c.views (board_of c h) l) (next_start (full c h) l.vcpu) ≡ v
        → HasRun c logs from l.vcpu made h (after v)
    unfolding after_verdict
    of-verdict m Idle e = absurd (start-busy (full c h).ram.text (windows_for c.views (board_of c h) l) (next_start (full c h) l.vcpu) e)
    of-verdict m (Needs n) e = none-more c logs from l.vcpu made h (after (Needs n)) refl (record {
      board = refl;
      lawful = r.lawful;
      allowed = r.allowed;
      vcpu = refl;
      truthful = lane-needs c ok h logs just l.vcpu m (windows_for c.views (board_of c h) l) view-is truth l n refl e;
    })
    of-verdict m (Zeroes p) e = none-more c logs from l.vcpu made h (after (Zeroes p)) refl (record {
      board = refl;
      lawful = r.lawful;
      allowed = r.allowed;
      vcpu = refl;
      truthful = lane-zeroes c ok h logs just l.vcpu m (windows_for c.views (board_of c h) l) view-is truth l p refl e;
    })
    of-verdict m (Goes start) e = goes-on start m e

    idle : HasRun c logs from l.vcpu made h (after Idle)
    unfolding after_verdict
    idle = none-more c logs from l.vcpu made h (after Idle) refl r

    step-run : HasRun c logs from l.vcpu made h (turns_from c.views made (suc k) (board_of c h) l)
    unfolding turns_from
    step-run =
        elim (may (rules_in c) (full c h) l.vcpu) as (λ b. may (rules_in c) (full c h) l.vcpu ≡ b → HasRun c logs from l.vcpu made h (after (verdict_for c.views (board_of c h) l))) [
          | true ↦ λ m. subst (λ (v : Verdict). HasRun c logs from l.vcpu made h (after v)) (sym (verdict-may (rules_in c) (full c h) l.vcpu (windows_for c.views (board_of c h) l) m))
              (of-verdict m (by_start (full c h).ram.text (windows_for c.views (board_of c h) l) (next_start (full c h) l.vcpu)) refl)
          | false ↦ λ m. subst (λ (v : Verdict). HasRun c logs from l.vcpu made h (after v)) (sym (verdict-stuck (rules_in c) (full c h) l.vcpu (windows_for c.views (board_of c h) l) m)) idle
        ] refl

  pub turns-run : (k : ℕ) → Runs k
  unfolding turns_from
  turns-run zero made h l just r = none-more c logs from l.vcpu made h (record { board = board_of c h; lane = l; answer = record { steps = made; then = Limit } }) refl r
  turns-run (suc k) made h l just r = step-run k (turns-run k) made h l just r

-- the law of a turn, where its exact result is told
pub turns_keep : (views : Views) (limit : ℕ) (b b' : Seat) (l l' : Lane) (answer : Turned) → turns_of views limit b l ≡ record { board = b'; lane = l'; answer = answer }
    → TurnsKeep views b l b' l' answer.steps
turns_keep views limit b b' l l' answer exact c h logs ok same_views at lawful just truthful =
    let nothing : IsAllowedFrom c logs h (length h) = λ t p low within next. absurd (omega (arith, low, within)) in
    let run : HasRun c logs (length h) l.vcpu 0 h (turns_from c.views 0 limit (board_of c h) l) =
    turns-run c ok logs (length h) limit 0 h l just (record { board = refl; lawful = lawful; allowed = nothing; vcpu = refl; truthful = truthful }) in
    let here : HasRun c logs (length h) l.vcpu 0 h (turns_from views 0 limit b l) =
    subst (λ (x : Seat). HasRun c logs (length h) l.vcpu 0 h (turns_from views 0 limit x l)) (sym at)
    (subst (λ (x : Views). HasRun c logs (length h) l.vcpu 0 h (turns_from x 0 limit (board_of c h) l)) same_views run) in
    let told : HasRun c logs (length h) l.vcpu 0 h (record { board = b'; lane = l'; answer = answer }) = subst (λ (x : AfterTurns). HasRun c logs (length h) l.vcpu 0 h x) exact here in
    let n : told.more ≡ answer.steps = omega (arith, told.steps) in
    subst (λ k. AreAllowedSteps c h logs l.vcpu k b' l') n (record { board = told.to.board; lawful = told.to.lawful; allowed = told.to.allowed; vcpu = told.to.vcpu; truthful = told.to.truthful })

-- a turn with limit 1 is one event
abbrev ended : Verdict → Seat → Lane → AfterTurns
ended v x y = turns_by v 0 x y (record { board = x; lane = y; answer = record { steps = 1; then = Limit } })

ended-by : (v : Verdict) (x : Seat) (y : Lane) → ((ended v x y).board ≡ x) × ((ended v x y).lane ≡ y)
ended-by Idle x y = (refl, refl)
ended-by (Needs n) x y = (refl, refl)
ended-by (Zeroes place) x y = (refl, refl)
ended-by (Goes start) x y = (refl, refl)

pub one-turn : (views : Views) (b : Seat) (l : Lane) → ((turns_of views 1 b l).board ≡ board_after views b l) × ((turns_of views 1 b l).lane ≡ lane_after views b l)
unfolding turns_from
one-turn views b l = ended-by (verdict_for views b l) (board_after views b l) (lane_after views b l)

-- the world after the event of a lane that runs, and what it was
pub event-running : (views : Views) (groups : Groups) (paged_views : List PagedView) (lanes : List Lane) (b b' : Seat) (l l' : Lane)
    → b' ≡ board_after views b l → l' ≡ lane_after views b l
    → (let new : World = record { profile = views; groups = groups; board = b'; paged_views = paged_views; lanes = slice_set lanes l.vcpu l' } in new)
    ≡ gone (record { profile = views; groups = groups; board = b; paged_views = paged_views; lanes = lanes }) l.vcpu l Running
unfolding gone
event-running views groups paged_views lanes b b' l l' board lane = λ x. record { profile = views; groups = groups; board = board x; paged_views = paged_views; lanes = slice_set lanes l.vcpu (lane x) }

pub event-went : (views : Views) (groups : Groups) (paged_views : List PagedView) (lanes : List Lane) (b : Seat) (l : Lane)
    → went_by (verdict_for views b l) ≡ went_in (record { profile = views; groups = groups; board = b; paged_views = paged_views; lanes = lanes }) l.vcpu l Running
unfolding went_in
event-went views groups paged_views lanes b l = refl
