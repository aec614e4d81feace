-- What `replay IMAGE SETUP TRACE` promises.
-- The rule: the full kernel is run by the trace's schedule, as far as its steps exist; the first difference is told, and
-- where there is none, the console goes to standard output.
use Rattle.std.specs.Prelude.{◌≡◌, ℕ, Option, Some, None, List, [], ◌∷◌, codes, string_bytes}
use Rattle.trace_file.specs.Trace.{Told}
use Rattle.run_evidence.specs.Config.{Config, full}
use Rattle.full_run.specs.Replay.{IsLongest, config_of_full_run}
use Rattle.command_frame.specs.Promise.{Promise, Request, takes_image, takes_setup, takes_trace, makes}
use Rattle.command_frame.specs.Products.{ended_of}
use Rattle.command_frame.specs.declared.answer.Ended.{Ended}
use Rattle.command_frame.specs.declared.answer.Ended.TheVariants.{Differs}
use Rattle.command_frame.specs.declared.product.Product.{Product}
use Rattle.replay_command.specs.declared.comparison.Comparison.{Comparison}
use Rattle.replay_command.specs.Comparisons.{compared, first_difference, text_of_comparison}

-- the words are of the form `replay IMAGE SETUP TRACE`
pub record IsReplayForm (words : List (List ℕ)) : Type 0 where
  pub image : List ℕ
  pub setup : List ℕ
  pub trace : List ℕ
  pub form : words ≡ codes "replay" ∷ image ∷ setup ∷ trace ∷ []

-- the command ends with this difference
abbrev pub EndsWith : Ended → List ℕ → Type 0
EndsWith (Differs text) line = string_bytes text ≡ line
EndsWith other line = ⊥

-- what is made of a difference: it is told, and nothing goes anywhere else
pub record IsProductOfDifference (difference : Comparison) (p : Product) : Type 0 where
  pub ends : EndsWith p.ended (text_of_comparison difference)
  pub files : p.files ≡ []
  pub out : p.out ≡ []

-- what is made where nothing differs: the console of the full kernel's run goes out, and the command ends as that run did
pub record IsSame (c : Config) (t : Told) (p : Product) : Type 0 where
  pub ends : p.ended ≡ ended_of t.end
  pub files : p.files ≡ []
  pub out : p.out ≡ (full c t.schedule).console

abbrev pub Tells : Config → Told → Option Comparison → Product → Type 0
Tells c t (Some difference) p = IsProductOfDifference difference p
Tells c t None p = IsSame c t p

-- so many steps of the schedule exist, and the first difference after them is told, or that there is none
pub record IsReplay (c : Config) (t : Told) (p : Product) : Type 0 where
  pub made : ℕ
  pub longest : IsLongest c t.schedule made
  pub tells : Tells c t (first_difference (compared c t made)) p

-- the places of the input files and of the output files in the words
abbrev pub replay_inputs : List ℕ
replay_inputs = 1 ∷ 2 ∷ 3 ∷ []

abbrev pub replay_outputs : List ℕ
replay_outputs = []

-- what the command promises of its files: it fails for no reason of its own
abbrev pub replay_promise : Promise
replay_promise = takes_image 1 (λ image. takes_setup 2 image (λ setup. takes_trace 3 (λ t. makes (IsReplay (config_of_full_run image setup) t) (λ why. ⊥))))

abbrev pub replay_request : List (List ℕ) → Request
replay_request words = record { words = words; inputs = replay_inputs; outputs = replay_outputs; promise = replay_promise }
