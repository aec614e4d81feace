-- What is true of a view whose log is evidence of a schedule.
use Rattle.std.specs.Prelude.{◌≡◌, ℕ, List}
use Rattle.guest_input.specs.Text.{bytes_of}
use Rattle.view_file.specs.Base.{base_of}
use Rattle.view_store.specs.Paged.{PagedView}
use Rattle.run_evidence.specs.Config.{Config, image_groups}
use Rattle.run_evidence.specs.Evidence.{AllJustified, AllOfView, IsOnce}

-- view v: over the image's text, with its base; its log is of it, justified, and has no group twice
pub record IsSoundView (c : Config) (schedule : List ℕ) (v : ℕ) (p : PagedView) : Type 0 where
  pub number : p.number ≡ v
  pub text : p.text ≡ bytes_of c.image.ranges
  pub groups : p.groups ≡ image_groups c
  pub base : p.base ≡ base_of c.views (image_groups c) v
  pub of_view : AllOfView v p.log
  pub justified : AllJustified c schedule p.log
  pub once : IsOnce p.log
