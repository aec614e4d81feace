-- Why `drive` makes nothing where its third or its fourth file is refused.
use Rattle.std.proofs.Common.{ℕ, List, inl, inr, Err}
use Rattle.std.specs.Prelude.{Vec}
use Rattle.std.specs.declared.alloc.Global.{Global}
use Rattle.guest_input.specs.declared.image.Image.{Image}
use Rattle.guest_input.specs.declared.setup.Setup.{Setup}
use Rattle.view_file.specs.declared.views.Views.{Views}
use Rattle.command_frame.specs.Command.{MakesNothing}
use Rattle.command_frame.specs.Files.{GivesImage, GivesSetup, GivesViews, RefusesViews, GivesScript, RefusesScript}
use Rattle.command_frame.specs.Promise.{FileContents, held_by}
use Rattle.command_frame.specs.Taken.{Takes}
use Rattle.command_frame.specs.declared.product.Refusal.{Refusal}
use Rattle.command_frame.specs.declared.product.Refusal.TheVariants as no
use Rattle.facechange_cli.specs.Requests.{promise_of}
use Rattle.facechange_cli.specs.declared.words.Command.TheVariants.{Drive}

module _ (words : List (List ℕ)) (at : FileContents) (i : Image) (s : Setup) (image : GivesImage (held_by words at 1) i) (setup : GivesSetup (held_by words at 2) i s) where
  pub third-refused : (why : Refusal) → Takes {T = Views} (GivesViews (held_by words at 3) i) (RefusesViews (held_by words at 3) i) 3 (Err why) → MakesNothing words at (promise_of Drive) why
  third-refused (no.Fault why) bad = inl (inr (i, image, inr (s, setup, inl bad)))
  third-refused (no.Unread m) bad = inr (i, image, inr (s, setup, inl bad))
  third-refused no.NoMemory bad = tt

  pub fourth-refused : (v : Views) → GivesViews (held_by words at 3) i v → (why : Refusal)
      → Takes {T = Vec ℕ Global} (λ script. GivesScript (held_by words at 4) s.vcpus script.items) (RefusesScript (held_by words at 4) s.vcpus) 4 (Err why) → MakesNothing words at (promise_of Drive) why
  fourth-refused v views (no.Fault why) bad = inl (inr (i, image, inr (s, setup, inr (v, views, inl bad))))
  fourth-refused v views (no.Unread m) bad = inr (i, image, inr (s, setup, inr (v, views, inl bad)))
  fourth-refused v views no.NoMemory bad = tt
