-- Why the command makes nothing where its third file is refused.
use Rattle.std.proofs.Common.{ℕ, List, inl, inr, Err}
use Rattle.guest_input.specs.declared.image.Image.{Image}
use Rattle.guest_input.specs.declared.setup.Setup.{Setup}
use Rattle.trace_file.specs.declared.trace.Trace.{Trace}
use Rattle.trace_file.specs.Trace.{told_of_trace}
use Rattle.command_frame.specs.Command.{MakesNothing}
use Rattle.command_frame.specs.Files.{GivesImage, GivesSetup, GivesTrace, RefusesTrace}
use Rattle.command_frame.specs.Promise.{FileContents, held_by}
use Rattle.command_frame.specs.Taken.{Takes}
use Rattle.command_frame.specs.declared.product.Refusal.{Refusal}
use Rattle.command_frame.specs.declared.product.Refusal.TheVariants as no
use Rattle.replay_command.specs.Replay.{replay_promise}

module _ (words : List (List ℕ)) (at : FileContents) (i : Image) (s : Setup) (image : GivesImage (held_by words at 1) i) (setup : GivesSetup (held_by words at 2) i s) where
  pub trace-refused : (why : Refusal) → Takes {T = Trace} (λ trace. GivesTrace (held_by words at 3) (told_of_trace trace)) (RefusesTrace (held_by words at 3)) 3 (Err why) → MakesNothing words at replay_promise why
  trace-refused (no.Fault why) bad = inl (inr (i, image, inr (s, setup, inl bad)))
  trace-refused (no.Unread m) bad = inr (i, image, inr (s, setup, inl bad))
  trace-refused no.NoMemory bad = tt
