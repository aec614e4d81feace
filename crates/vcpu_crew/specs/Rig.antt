-- What a rig is: what its workers share, and each worker before its first round.
use Rattle.std.specs.Prelude.{◌≡◌, ◌≢◌, ℕ, suc, ◌+◌, ◌<◌, ◌≤◌, Some, None, List, [], ◌∷◌, length}
use Rattle.view_file.specs.Named.{view_named}
use Rattle.run_evidence.specs.Config.{Config, IsConfig, full, image_groups}
use Rattle.run_evidence.specs.Evidence.{log_in}
use Rattle.turn_table.specs.declared.known.Known.{Known}
use Rattle.turn_table.specs.declared.pass.Pass.{Pass}
use Rattle.turn_table.specs.declared.pass.Turns.{Turns}
use Rattle.turn_table.specs.Numbers.{at}
use Rattle.turn_table.specs.Rule.{config_of}
use Rattle.turn_table.specs.Passes.{IsPassOf, config_in, known}
use Rattle.vcpu_core.specs.declared.lane.Lane.{Lane}
use Rattle.vcpu_core.specs.First.{first_lane}
use Rattle.vcpu_core.specs.Stages.{AreStagesFor}
use Rattle.vcpu_crew.specs.declared.rig.Shared.{Shared}
use Rattle.vcpu_crew.specs.declared.rig.Rig.{Rig}

-- the image, setup and views of the run
abbrev pub config_of_shared : Shared → Config
config_of_shared s = config_in s.turns

abbrev pub config_of_rig : Rig → Config
config_of_rig r = config_of_shared r.shared

-- groups, views file and second-stage tables are those of the run, whose board and views the workers take
pub record IsEquipped (s : Shared) : Type 0 where
  pub config : IsConfig (config_of_shared s)
  pub groups : s.table ≡ image_groups (config_of_shared s)
  pub views : s.views ≡ (config_of_shared s).views
  pub stages : AreStagesFor (full (config_of_shared s) []).ram (length s.views.apps + 1) s.stages.items

-- the pass has seen and holds nothing, and owns the vCPUs below n and no others, of which none has stepped
pub record OwnsBelow (c : Config) (n : ℕ) (v : Known) : Type 0 where
  pub config : config_of v ≡ c
  pub free : v.holds ≡ None
  pub unseen : v.seen ≡ []
  pub unlogged : (k : ℕ) → log_in v.logs k ≡ []
  pub below : (i : ℕ) → i < n → at v.counts i ≡ Some 0
  pub above : (i : ℕ) → n ≤ i → at v.counts i ≡ None

-- before the first round of vCPU i: the pass owns it alone, and has seen and holds nothing; the lane is the vCPU's, of the
-- view of the first name, runs, and has no windows and no cleared range
pub record IsFirst (c : Config) (i : ℕ) (v : Known) (l : Lane) : Type 0 where
  pub config : config_of v ≡ c
  pub free : v.holds ≡ None
  pub unseen : v.seen ≡ []
  pub unlogged : (k : ℕ) → log_in v.logs k ≡ []
  pub owned : at v.counts i ≡ Some 0
  pub alone : (j : ℕ) → j ≢ i → at v.counts j ≡ None
  pub lane : l ≡ first_lane (view_named c.views c.setup.start) i

-- the passes and lanes of the vCPUs from i on, in order
abbrev pub AreFirst : Turns → ℕ → List (Pass × Lane) → Type 0
AreFirst t i [] = i ≡ (config_in t).setup.vcpus
AreFirst t i (w ∷ ws) = IsPassOf t w.0 × IsFirst (config_in t) i (known w.0) w.1 × AreFirst t (suc i) ws

pub record IsRig (r : Rig) : Type 0 where
  pub shared : IsEquipped r.shared
  pub workers : AreFirst r.shared.turns 0 r.workers.items
