-- Passes that are split off one after another, and workers before their first round.
use Rattle.std.proofs.Common.{◌≡◌, ◌≢◌, ℕ, zero, suc, ◌+◌, ◌<◌, ◌≤◌, true, false, Option, Some, None, List, [], ◌∷◌, length, set, replicate, sym, refl, ap, ◌∙◌, subst, arith}
use Rattle.std.specs.Prelude.{slice_index_or}
use mathlib.Core.Logic.{dite}
use native.Mathlib.Decide.{ℕ_discrete}
use Rattle.view_file.specs.Named.{view_named}
use Rattle.run_evidence.specs.Config.{Config}
use Rattle.run_evidence.specs.Evidence.{log_in}
use Rattle.turn_table.specs.declared.known.Known.{Known}
use Rattle.turn_table.specs.declared.pass.Pass.{Pass}
use Rattle.turn_table.specs.declared.pass.Turns.{Turns}
use Rattle.turn_table.specs.Calls.{OwnsSeveral}
use Rattle.turn_table.specs.Numbers.{Counts, at, alone, greatest, least, owns_some, times, counts_without, counts_from}
use Rattle.turn_table.specs.Sound.{Log}
use Rattle.turn_table.specs.Passes.{IsPassOf, config_in, known}
use Rattle.turn_table.specs.Steps.{first_known, greatest_alone, without_greatest}
use Rattle.vcpu_core.specs.declared.lane.Lane.{Lane}
use Rattle.vcpu_core.specs.First.{first_lane}
use Rattle.vcpu_core.specs.Truthful.{IsTruthful}
use Rattle.vcpu_crew.specs.Crew.{AreWorkers, HasRunAll, IsWorker}
use Rattle.vcpu_crew.specs.Rig.{AreFirst, IsFirst, OwnsBelow}
use Rattle.vcpu_crew.specs.Round.{IsBetweenRounds}

none_some : {A : Type 0} (x : A) → None ≡ Some x → ⊥
none_some x e = cc

least_zero : (c : Counts) (n : ℕ) → at c 0 ≡ Some n → least c ≡ 0
least_zero [] n e = absurd (none_some n e)
least_zero (None ∷ c) n e = absurd (none_some n e)
least_zero (Some m ∷ c) n e = refl

least_alone : (c : Counts) (i n : ℕ) → at c i ≡ Some n → ((j : ℕ) → j ≢ i → at c j ≡ None) → least c ≡ i
least_alone [] i n e a = absurd (none_some n e)
least_alone (None ∷ c) zero n e a = absurd (none_some n e)
least_alone (None ∷ c) (suc i) n e a = ap suc (least_alone c i n e (λ j d. a (suc j) (λ q. d (omega arith))))
least_alone (Some m ∷ c) zero n e a = refl
least_alone (Some m ∷ c) (suc i) n e a = absurd (none_some m (sym (a zero (λ q. omega arith))))

nones : (c : Counts) → ((i : ℕ) → at c i ≡ None) → owns_some c ≡ false
nones [] a = refl
nones (None ∷ c) a = nones c (λ i. a (suc i))
nones (Some m ∷ c) a = absurd (none_some m (sym (a zero)))

somes : (c : Counts) (n : ℕ) → at c 0 ≡ Some n → owns_some c ≡ true
somes [] n e = absurd (none_some n e)
somes (None ∷ c) n e = absurd (none_some n e)
somes (Some m ∷ c) n e = refl

greatest_below : (c : Counts) (n : ℕ) → ((i : ℕ) → i < suc n → at c i ≡ Some 0) → ((i : ℕ) → suc n ≤ i → at c i ≡ None) → greatest c ≡ n
greatest_below [] n b a = absurd (none_some 0 (b 0 (omega arith)))
greatest_below (x ∷ c) zero b a = rw (nones c (λ i. a (suc i) (omega arith))) refl
greatest_below (x ∷ c) (suc n) b a = rw (somes c 0 (b 1 (omega arith))) (ap suc (greatest_below c n (λ i lt. b (suc i) (omega arith)) (λ i le. a (suc i) (omega arith))))

within : (c : Counts) (i n : ℕ) → at c i ≡ Some n → i < length c
within [] i n e = absurd (none_some n e)
within (x ∷ c) zero n e = omega arith
within (x ∷ c) (suc i) n e = let h = within c i n e in omega arith

set_here : (c : Counts) (i : ℕ) (x : Option ℕ) → i < length c → at (set c i x) i ≡ x
set_here [] i x h = absurd (omega arith)
set_here (y ∷ c) zero x h = refl
set_here (y ∷ c) (suc i) x h = set_here c i x (omega arith)

set_else : (c : Counts) (i j : ℕ) (x : Option ℕ) → j ≢ i → at (set c i x) j ≡ at c j
set_else [] i j x d = refl
set_else (y ∷ c) zero zero x d = absurd (d refl)
set_else (y ∷ c) zero (suc j) x d = refl
set_else (y ∷ c) (suc i) zero x d = refl
set_else (y ∷ c) (suc i) (suc j) x d = set_else c i j x (λ e. d (ap suc e))

at_nones : (n i : ℕ) → at (replicate n None) i ≡ None
at_nones zero i = refl
at_nones (suc n) zero = refl
at_nones (suc n) (suc i) = at_nones n i

nones_long : (n : ℕ) → length (replicate {A = Option ℕ} n None) ≡ n
nones_long zero = refl
nones_long (suc n) = ap suc (nones_long n)

counts_at : (i n k : ℕ) (h : List ℕ) → k < n → at (counts_from i n h) k ≡ Some (times (i + k) h)
counts_at i zero k h lt = absurd (omega arith)
counts_at i (suc n) zero h lt = let e : i ≡ i + 0 = omega arith in ap (λ (z : ℕ). Some (times z h)) e
counts_at i (suc n) (suc k) h lt = let e : suc i + k ≡ i + suc k = omega arith in counts_at (suc i) n k h (omega arith) ∙ ap (λ (z : ℕ). Some (times z h)) e

counts_after : (i n k : ℕ) (h : List ℕ) → n ≤ k → at (counts_from i n h) k ≡ None
counts_after i zero k h le = refl
counts_after i (suc n) zero h le = absurd (omega arith)
counts_after i (suc n) (suc k) h le = counts_after (suc i) n k h (omega arith)

-- the first pass of a table owns every vCPU
pub first_owns : (c : Config) (h : List ℕ) (logs : List Log) (v : Known) → v ≡ first_known c h logs → h ≡ [] → ((k : ℕ) → log_in logs k ≡ []) → OwnsBelow c c.setup.vcpus v
first_owns c h logs v is unseen none = subst (OwnsBelow c c.setup.vcpus) (sym (is ∙ ap (λ z. first_known c z logs) unseen)) record {
  config = refl;
  free = refl;
  unseen = refl;
  unlogged = none;
  below = λ i lt. counts_at 0 c.setup.vcpus i [] lt;
  above = λ i le. counts_after 0 c.setup.vcpus i [] le;
}

module _ (c : Config) (v : Known) (n : ℕ) (o : OwnsBelow c (suc n) v) where
  top : greatest v.counts ≡ n
  top = greatest_below v.counts n o.below o.above

  top_within : n < length v.counts
  top_within = within v.counts n 0 (o.below n (omega arith))

  pub several : 0 < n → OwnsSeveral v
  several some = let low = least_zero v.counts 0 (o.below 0 (omega arith)) in let high = top in omega arith

  -- what is left of it
  pub left_owns : (x : Known) → x ≡ without_greatest v → OwnsBelow c n x
  left_owns x is = subst (OwnsBelow c n) (sym is) record {
    config = o.config;
    free = refl;
    unseen = o.unseen;
    unlogged = o.unlogged;
    below = λ i lt. subst (λ (g : ℕ). at (counts_without v.counts g) i ≡ Some 0) (sym top) (set_else v.counts n i None (λ q. omega arith) ∙ o.below i (omega arith));
    above = λ i le. dite (ℕ_discrete i n)
        (λ q. subst (λ (g : ℕ). at (counts_without v.counts g) i ≡ None) (sym top) (subst (λ (k : ℕ). at (counts_without v.counts n) k ≡ None) (sym q) (set_here v.counts n None top_within)))
        (λ d. subst (λ (g : ℕ). at (counts_without v.counts g) i ≡ None) (sym top) (set_else v.counts n i None d ∙ o.above i (omega arith)));
  }

  -- what is split off
  pub right_first : (x : Known) (l : Lane) → x ≡ greatest_alone v → l ≡ first_lane (view_named c.views c.setup.start) n → IsFirst c n x l
  right_first x l is lane = subst (λ (y : Known). IsFirst c n y l) (sym is) record {
    config = o.config;
    free = refl;
    unseen = o.unseen;
    unlogged = o.unlogged;
    owned = subst (λ (g : ℕ). at (alone v.counts g) n ≡ Some 0) (sym top) (set_here (replicate (length v.counts) None) n (at v.counts n) (let e = nones_long (length v.counts) in let w = top_within in omega arith) ∙ o.below n (omega arith));
    alone = λ j d. subst (λ (g : ℕ). at (alone v.counts g) j ≡ None) (sym top) (set_else (replicate (length v.counts) None) n j (at v.counts n) d ∙ at_nones (length v.counts) j);
    lane = lane;
  }

-- the last of these vCPUs is split off: its pass and its lane go before those of the vCPUs after it
pub split_last : (t : Turns) (n view : ℕ) (before after last : Pass) (lane : Lane) (ws : List (Pass × Lane)) → let c : Config = config_in t in view ≡ view_named c.views c.setup.start
    → OwnsBelow c (suc n) (known before) → IsPassOf t last → known after ≡ without_greatest (known before) → known last ≡ greatest_alone (known before) → lane ≡ first_lane view n → AreFirst t (suc n) ws
    → OwnsBelow c n (known after) × AreFirst t n ((last, lane) ∷ ws)
split_last t n view before after last lane ws named owns pass left right is rest =
    let c : Config = config_in t in (
      left_owns c (known before) n owns (known after) left,
      (pass, right_first c (known before) n owns (known last) lane right (is ∙ ap (λ (v : ℕ). first_lane v n) named), rest),
    )

start_lane_true : (c : Config) (view i : ℕ) (logs : List Log) (h : List ℕ) → IsTruthful c h logs (first_lane view i)
start_lane_true c view i logs h = record { windows = record { held = tt; cleared = tt }; phase = tt; view = tt }

first_between : (c : Config) (i : ℕ) (v : Known) (l : Lane) → i < c.setup.vcpus → IsFirst c i v l → IsBetweenRounds c v l
first_between c i v l lt f = subst (λ (x : Lane). IsBetweenRounds c v x) (sym f.lane) record {
  config = f.config;
  free = f.free;
  vcpu = sym (least_alone v.counts i 0 f.owned f.alone);
  number = lt;
  steps = f.owned ∙ ap (λ h. Some (times i h)) (sym f.unseen);
  truthful = start_lane_true c (view_named c.views c.setup.start) i v.logs v.seen;
}

pub first_long : (t : Turns) (k : ℕ) (ws : List (Pass × Lane)) → AreFirst t k ws → k + length ws ≡ (config_in t).setup.vcpus
first_long t k [] a = let e : k ≡ (config_in t).setup.vcpus = a in omega arith
first_long t k (w ∷ ws) a = let e = first_long t (suc k) ws a.2 in omega arith

worker_at : (t : Turns) (k : ℕ) (ws : List (Pass × Lane)) → AreFirst t k ws → (i : ℕ) (d : Pass × Lane) → i < length ws → IsWorker t (k + i) (slice_index_or ws i d)
worker_at t k [] a i d lt = absurd (omega arith)
worker_at t k (w ∷ ws) a zero d lt = let e = first_long t (suc k) ws a.2 in let same : k ≡ k + 0 = omega arith in
    subst (λ (n : ℕ). IsWorker t n w) same record { pass = a.0; between = first_between (config_in t) k (known w.0) w.1 (omega arith) a.1; vcpu = ap (λ (x : Lane). x.vcpu) a.1.lane }
worker_at t k (w ∷ ws) a (suc i) d lt = let same : suc k + i ≡ k + suc i = omega arith in subst (λ (n : ℕ). IsWorker t n (slice_index_or ws i d)) same (worker_at t (suc k) ws a.2 i d (omega arith))

pub workers_are : (t : Turns) (ws : List (Pass × Lane)) → AreFirst t 0 ws → AreWorkers t ws
workers_are t ws a i d lt = let z : 0 + i ≡ i = omega arith in subst (λ (n : ℕ). IsWorker t n (slice_index_or ws i d)) z (worker_at t 0 ws a i d lt)

-- the workers are as many as the vCPUs
pub run_by_all : (t : Turns) (ws : List (Pass × Lane)) (n : ℕ) (v : Known) → AreFirst t 0 ws → n ≡ length ws → HasRunAll (config_in t) n v → HasRunAll (config_in t) (config_in t).setup.vcpus v
run_by_all t ws n v first same run = let all = first_long t 0 ws first in let e : n ≡ (config_in t).setup.vcpus = omega arith in subst (λ (k : ℕ). HasRunAll (config_in t) k v) e run
