-- What the tests say of their small run, and of a pass between its opening and the end.
use Rattle.std.specs.Prelude.{◌≡◌, ℕ, zero, suc, ◌≤◌, ◌++◌, true, false, None, Some, List, [], ◌∷◌, length, slice_index_or}
use Rattle.guest_input.specs.declared.image.Image.{Image}
use Rattle.guest_input.specs.declared.setup.Setup.{Setup}
use Rattle.guest_input.specs.Accepted.{IsImage, IsSetupFor}
use Rattle.function_table.specs.Groups.{Groups, groups_of, group_at}
use Rattle.view_file.specs.declared.views.Views.{Views}
use Rattle.view_file.specs.Fits.{IsViewsFor}
use Rattle.view_file.specs.Named.{view_named}
use Rattle.view_file.specs.Base.{base_of}
use Rattle.guest_board.specs.Board.{Seat, may, moved, step_of, next_of, name_of}
use Rattle.view_store.specs.Paged.{PagedView}
use Rattle.run_evidence.specs.Config.{Config}
use Rattle.run_evidence.specs.Growing.{paged_at}
use Rattle.turn_table.specs.declared.known.Known.{Known}
use Rattle.turn_table.specs.Numbers.{at, weight}
use Rattle.turn_table.specs.Rule.{config_of}

-- the first n views, with empty logs
unfoldable pub fresh_views : Config → ℕ → List PagedView
fresh_views c zero = []
fresh_views c (suc n) = fresh_views c n ++ paged_at c n [] ∷ []

-- the pass after some calls: it holds nothing and owns the same numbers
pub record WentOn (v n : Known) : Type 0 where
  pub config : config_of n ≡ config_of v
  pub free : n.holds ≡ None
  pub long : length n.counts ≡ length v.counts
  pub owned : (i : ℕ) → weight (at n.counts i) ≡ weight (at v.counts i)

-- an accepted image of two vCPUs with a views file of one app or more
pub record IsRunOfTwoVcpus (image : Image) (setup : Setup) (groups : Groups) (profile : Views) : Type 0 where
  pub image_is : IsImage image
  pub setup_is : IsSetupFor image setup
  pub groups_are : groups ≡ groups_of image
  pub views_are : IsViewsFor profile image
  pub two : setup.vcpus ≡ 2
  pub some_app : 1 ≤ length profile.apps

-- one full step of vCPU i, whose fetch is of a group in the base of its view
pub record IsStepped (old new : Seat) (i : ℕ) (profile : Views) (groups : Groups) : Type 0 where
  pub goes : may old.rules old.state i ≡ true
  pub after : new ≡ moved old i (step_of old.rules old.state i)
  pub based : (p : ℕ) → next_of old.state i ≡ Some p → slice_index_or (base_of profile groups (view_named profile (name_of old.state i))) (group_at groups p) false ≡ true
