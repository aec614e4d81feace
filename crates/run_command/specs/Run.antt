-- What `run IMAGE SETUP VIEWS TRACE LOG` promises, where it returns.
-- The rule: one thread per vCPU, in whatever order they go on; the trace tells the run that came of it, and is sound.
use Rattle.std.specs.Prelude.{◌≡◌, ℕ, List, [], ◌∷◌, codes}
use Rattle.trace_file.specs.Trace.{Told, text_of_trace}
use Rattle.trace_file.specs.Lawful.{IsLawfulTrace as IsLawfulTrace}
use Rattle.run_evidence.specs.Config.{Config, IsConfig, full}
use Rattle.run_trace.specs.Sound.{IsSoundTrace}
use Rattle.guest_runs.specs.Log.{log_text}
use Rattle.command_frame.specs.Promise.{Promise, Request, takes_image, takes_setup, takes_views, makes}
use Rattle.command_frame.specs.Products.{ended_of, file_of}
use Rattle.command_frame.specs.declared.product.Product.{Product}

-- the words are of the form `run IMAGE SETUP VIEWS TRACE LOG`
pub record IsRunForm (words : List (List ℕ)) : Type 0 where
  pub image : List ℕ
  pub setup : List ℕ
  pub views : List ℕ
  pub trace : List ℕ
  pub log : List ℕ
  pub form : words ≡ codes "run" ∷ image ∷ setup ∷ views ∷ trace ∷ log ∷ []

-- the trace is sound, and has a text; the console is that of the full kernel's run of its schedule
pub record IsCrewRun (c : Config) (t : Told) (console : List ℕ) : Type 0 where
  pub sound : IsSoundTrace c t
  pub lawful : IsLawfulTrace t
  pub wrote : console ≡ (full c t.schedule).console

-- a run of all vCPUs of this configuration: the text of its trace goes to the file of word 4, the lines of the trace's
-- entries to that of word 5, and the console to standard output
pub record IsRunMade (c : Config) (p : Product) : Type 0 where
  pub lawful : IsConfig c
  pub trace : Told
  pub ran : IsCrewRun c trace p.out
  pub files : p.files ≡ file_of 4 (text_of_trace trace) ∷ file_of 5 (log_text c.image c.views trace.entries) ∷ []
  pub ended : p.ended ≡ ended_of trace.end

-- the places of the input files and of the output files in the words
abbrev pub run_inputs : List ℕ
run_inputs = 1 ∷ 2 ∷ 3 ∷ []

abbrev pub run_outputs : List ℕ
run_outputs = 4 ∷ 5 ∷ []

-- what the command promises of its files: it fails for no reason of its own
abbrev pub run_promise : Promise
run_promise = takes_image 1 (λ image. takes_setup 2 image (λ setup. takes_views 3 image (λ views.
    makes (IsRunMade (record { image = image; setup = setup; views = views })) (λ why. ⊥))))

abbrev pub run_request : List (List ℕ) → Request
run_request words = record { words = words; inputs = run_inputs; outputs = run_outputs; promise = run_promise }
