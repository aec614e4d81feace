-- What each kind of file gives: one thing alone, or it is refused for one reason alone.
use Rattle.std.specs.Prelude.{ℕ, List}
use Rattle.guest_input.specs.declared.image.Image.{Image}
use Rattle.guest_input.specs.declared.setup.Setup.{Setup}
use Rattle.view_file.specs.declared.views.Views.{Views}
use Rattle.trace_file.specs.Trace.{Told as TraceTold}
use Rattle.command_frame.specs.Files.{GivesImage, RefusesImage, GivesSetup, RefusesSetup, GivesViews, RefusesViews, GivesScript, RefusesScript, GivesTrace, RefusesTrace, GivesFreeViews, RefusesFreeViews}
use Rattle.command_frame.specs.Exact.{IsSure}

-- so it is with every kind of file that a command takes
pub record AllSure : Type 0 where
  pub image : IsSure Image GivesImage RefusesImage
  pub setup : (i : Image) → IsSure Setup (λ held. GivesSetup held i) (λ held. RefusesSetup held i)
  pub views : (i : Image) → IsSure Views (λ held. GivesViews held i) (λ held. RefusesViews held i)
  pub script : (vcpus : ℕ) → IsSure (List ℕ) (λ held. GivesScript held vcpus) (λ held. RefusesScript held vcpus)
  pub trace : IsSure TraceTold GivesTrace RefusesTrace
  pub free : IsSure Views GivesFreeViews RefusesFreeViews
