-- What each command promises, over its words.
-- The rule: the input files in their order, and a relation of what is made of them.
use Rattle.std.specs.Prelude.{◌≡◌, ℕ, List, [], ◌∷◌}
use Rattle.fc_numbers.specs.declared.machine.End.{End}
use Rattle.guest_input.specs.declared.setup.Setup.{Setup}
use Rattle.run_evidence.specs.Config.{Config, IsConfig}
use Rattle.command_frame.specs.Promise.{Promise, Request, takes_image, takes_setup, takes_views, takes_script, makes}
use Rattle.command_frame.specs.Products.{ended_of, file_of}
use Rattle.command_frame.specs.declared.product.Product.{Product}
use Rattle.facechange_cli.specs.declared.words.Command.{Command}
use Rattle.bench_command.specs.Bench.{bench_inputs, bench_outputs, bench_promise}
use Rattle.listing_commands.specs.Requests.{list_inputs, list_outputs, list_promise, surface_inputs, surface_outputs, surface_promise}
use Rattle.replay_command.specs.Replay.{replay_inputs, replay_outputs, replay_promise}
use Rattle.view_commands.specs.Requests.{profile_inputs, profile_outputs, profile_promise, merge_inputs, merge_outputs, merge_promise, show_inputs, show_outputs, show_promise}
use Rattle.facechange_cli.specs.declared.words.Command.TheVariants.{Try, Drive, Profile, Merge, Show, Replay, List as Listing, Surface, Bench}
use Rattle.trace_file.specs.Trace.{Told, text_of_trace}
use Rattle.guest_runs.specs.Alone.{IsRunOf}
use Rattle.guest_runs.specs.Driven.{IsDriven}
use Rattle.guest_runs.specs.Log.{log_text}

-- the full kernel's run of this configuration: its console goes to standard output, and its log to the file of word 5
pub record IsTrial (c : Config) (p : Product) : Type 0 where
  pub lawful : IsConfig c
  pub end : End
  pub schedule : List ℕ
  pub log : List ℕ
  pub run : IsRunOf c schedule end p.out log
  pub files : p.files ≡ file_of 5 log ∷ []
  pub ended : p.ended ≡ ended_of end

-- the run of this configuration by this script: the text of its trace goes to the file of word 5, the lines of the trace's
-- entries to that of word 6, and the console to standard output
pub record IsDrive (c : Config) (script : List ℕ) (p : Product) : Type 0 where
  pub lawful : IsConfig c
  pub trace : Told
  pub driven : IsDriven c script trace p.out
  pub files : p.files ≡ file_of 5 (text_of_trace trace) ∷ file_of 6 (log_text c.image c.views trace.entries) ∷ []
  pub ended : p.ended ≡ ended_of trace.end

-- the places of the input files and of the output files in the words
abbrev pub inputs_of : Command → List ℕ
inputs_of (Try setup) = 1 ∷ 2 ∷ []
inputs_of Drive = 1 ∷ 2 ∷ 3 ∷ 4 ∷ []
inputs_of Profile = profile_inputs
inputs_of Merge = merge_inputs
inputs_of Show = show_inputs
inputs_of Replay = replay_inputs
inputs_of (Listing app) = list_inputs
inputs_of Surface = surface_inputs
inputs_of (Bench seed) = bench_inputs

abbrev pub outputs_of : Command → List ℕ
outputs_of (Try setup) = 5 ∷ []
outputs_of Drive = 5 ∷ 6 ∷ []
outputs_of Profile = profile_outputs
outputs_of Merge = merge_outputs
outputs_of Show = show_outputs
outputs_of Replay = replay_outputs
outputs_of (Listing app) = list_outputs
outputs_of Surface = surface_outputs
outputs_of (Bench seed) = bench_outputs

-- what each command promises of its files
abbrev pub promise_of : Command → Promise
promise_of (Try setup) = takes_image 1 (λ image. takes_views 2 image (λ views. makes (IsTrial (record { image = image; setup = setup; views = views })) (λ why. ⊥)))
promise_of Drive = takes_image 1 (λ image. takes_setup 2 image (λ setup. takes_views 3 image (λ views. takes_script 4 setup.vcpus (λ script.
    makes (IsDrive (record { image = image; setup = setup; views = views }) script) (λ why. ⊥)))))
promise_of Profile = profile_promise
promise_of Merge = merge_promise
promise_of Show = show_promise
promise_of Replay = replay_promise
promise_of (Listing app) = list_promise app
promise_of Surface = surface_promise
promise_of (Bench seed) = bench_promise seed

-- what a command promises
abbrev pub request_of : List (List ℕ) → Command → Request
request_of words command = record { words = words; inputs = inputs_of command; outputs = outputs_of command; promise = promise_of command }

abbrev pub try_request : List (List ℕ) → Setup → Request
try_request words setup = request_of words (Try setup)

abbrev pub drive_request : List (List ℕ) → Request
drive_request words = request_of words Drive
