-- Why the command makes nothing where its third file is refused.
use Rattle.std.proofs.Common.{ℕ, List, inl, inr, Err}
use Rattle.guest_input.specs.declared.image.Image.{Image}
use Rattle.guest_input.specs.declared.setup.Setup.{Setup}
use Rattle.view_file.specs.declared.views.Views.{Views}
use Rattle.command_frame.specs.Command.{MakesNothing}
use Rattle.command_frame.specs.Files.{GivesImage, GivesSetup, GivesViews, RefusesViews}
use Rattle.command_frame.specs.Promise.{FileContents, held_by}
use Rattle.command_frame.specs.Taken.{Takes}
use Rattle.command_frame.specs.declared.product.Refusal.{Refusal}
use Rattle.command_frame.specs.declared.product.Refusal.TheVariants as no
use Rattle.run_command.specs.Run.{run_promise}

module _ (words : List (List ℕ)) (at : FileContents) (i : Image) (s : Setup) (image : GivesImage (held_by words at 1) i) (setup : GivesSetup (held_by words at 2) i s) where
  pub views-refused : (why : Refusal) → Takes {T = Views} (GivesViews (held_by words at 3) i) (RefusesViews (held_by words at 3) i) 3 (Err why) → MakesNothing words at run_promise why
  views-refused (no.Fault why) bad = inl (inr (i, image, inr (s, setup, inl bad)))
  views-refused (no.Unread m) bad = inr (i, image, inr (s, setup, inl bad))
  views-refused no.NoMemory bad = tt
