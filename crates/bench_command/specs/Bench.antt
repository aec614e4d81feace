-- What `bench N` promises: the guest of N is profiled with 2,000 steps of each vCPU, then driven with 8,000 under the views of
-- the profile by an empty script, and five lines say what came of it. The texts are this project's own.
use Rattle.std.specs.Prelude.{◌≡◌, ℕ, ◌<◌, ◌^◌, Some, List, [], ◌∷◌, ◌++◌, codes, decimal, length}
use Rattle.hex.specs.Hex.{encode_lower}
use Rattle.guest_input.specs.declared.setup.Setup.{Setup}
use Rattle.guest_maker.specs.Guest.{guest_image, guest_setup}
use Rattle.trace_file.specs.Trace.{Told}
use Rattle.view_file.specs.declared.views.Views.{Views}
use Rattle.view_file.specs.declared.fault.ViewFault.TheVariants.{TooManyApps}
use Rattle.run_evidence.specs.Config.{Config, IsConfig}
use Rattle.profiler.specs.declared.profile.Profiled.{Profiled}
use Rattle.profiler.specs.Profile.{IsOverfull, IsProfiled, unviewed}
use Rattle.guest_runs.specs.Driven.{IsDriven}
use Rattle.replay_command.specs.Comparisons.{end_name}
use Rattle.command_frame.specs.Promise.{Promise, Request, makes}
use Rattle.command_frame.specs.Products.{ended_of}
use Rattle.command_frame.specs.declared.fault.Fault.{Fault}
use Rattle.command_frame.specs.declared.fault.Fault.TheVariants.{Views as OfViews}
use Rattle.command_frame.specs.declared.product.Product.{Product}

-- the words are of the form `bench N`, with a number of 64 bits in decimal
pub record IsBenchForm (words : List (List ℕ)) (seed : ℕ) : Type 0 where
  pub form : words ≡ codes "bench" ∷ decimal seed ∷ []
  pub within : seed < 2 ^ 64

-- the setup of every such guest, but with so many steps of each vCPU
abbrev pub setup_with : ℕ → Setup
setup_with steps = record guest_setup { steps = steps }

-- the guest of the number, under views
abbrev pub driven_under : ℕ → Views → Config
driven_under seed views = record { image = guest_image seed; setup = setup_with 8000; views = views }

-- so many steps made, bytes of the console, and entries of the log
abbrev pub count_lines : ℕ → ℕ → ℕ → List ℕ
count_lines steps console recovered = codes "steps " ++ decimal steps ++ codes "\nconsole " ++ decimal console ++ codes "\nrecovered " ++ decimal recovered ++ codes "\n"

-- the end, and the digest of the memory
abbrev pub end_lines : Told → List ℕ
end_lines t = codes "end " ++ end_name (Some t.end) ++ codes "\nmemory " ++ encode_lower t.memory ++ codes "\n"

abbrev pub bench_lines : Told → List ℕ → List ℕ
bench_lines t console = count_lines (length t.schedule) (length console) (length t.entries) ++ end_lines t

-- the guest of the number was profiled, and driven under the views of the profile by an empty script; the lines go out
pub record IsBench (seed : ℕ) (p : Product) : Type 0 where
  pub profiled : Profiled
  pub profile : IsProfiled (unviewed (guest_image seed) (setup_with 2000)) profiled
  pub lawful : IsConfig (driven_under seed profiled.views)
  pub trace : Told
  pub console : List ℕ
  pub driven : IsDriven (driven_under seed profiled.views) [] trace console
  pub files : p.files ≡ []
  pub out : p.out ≡ bench_lines trace console
  pub ended : p.ended ≡ ended_of trace.end

-- the profile meets too many names
pub record IsBenchRefused (seed : ℕ) (why : Fault) : Type 0 where
  pub is : why ≡ OfViews TooManyApps
  pub many : IsOverfull (unviewed (guest_image seed) (setup_with 2000))

-- no file is read or written
abbrev pub bench_inputs : List ℕ
bench_inputs = []

abbrev pub bench_outputs : List ℕ
bench_outputs = []

abbrev pub bench_promise : ℕ → Promise
bench_promise seed = makes (IsBench seed) (IsBenchRefused seed)

abbrev pub bench_request : List (List ℕ) → ℕ → Request
bench_request words seed = record { words = words; inputs = bench_inputs; outputs = bench_outputs; promise = bench_promise seed }
