-- What a command promises: it takes input files, one after another, and makes its product of what they give.
use Rattle.std.specs.Prelude.{◌≡◌, ℕ, ◌⊎◌, Option, Some, None, List, [], ◌∷◌, map, Result, Ok, Err}
use Rattle.fc_outside.specs.Outside.{Faults, IsFaultOf}
use Rattle.guest_input.specs.declared.image.Image.{Image}
use Rattle.guest_input.specs.declared.setup.Setup.{Setup}
use Rattle.trace_file.specs.Trace.{Told as TraceTold}
use Rattle.view_file.specs.declared.views.Views.{Views}
use Rattle.command_frame.specs.Answers.{word_at}
use Rattle.command_frame.specs.Files.{GivesImage, RefusesImage, GivesSetup, RefusesSetup, GivesViews, RefusesViews, GivesFreeViews, RefusesFreeViews, GivesScript, RefusesScript, GivesTrace, RefusesTrace}
use Rattle.command_frame.specs.declared.fault.Fault.{Fault}
use Rattle.command_frame.specs.declared.product.Written.{Written}
use Rattle.command_frame.specs.declared.product.Product.{Product}
use Rattle.command_frame.specs.declared.product.Refusal.{Refusal}
use Rattle.command_frame.specs.declared.product.Refusal.TheVariants as refusal

-- A straight line of input files: the file that the word at a place names gives a thing, or is refused for a reason, and
-- the rest may depend on the thing. At the end stand what the command makes, and for which faults of its own it makes nothing.
pub data Promise : Type 1 where
  takes : (T : Type 0) → (Option (List ℕ) → T → Type 0) → (Option (List ℕ) → Fault → Type 0) → ℕ → (T → Promise) → Promise
  makes : (Product → Type 0) → (Fault → Type 0) → Promise

abbrev pub takes_image : ℕ → (Image → Promise) → Promise
takes_image n rest = takes Image GivesImage RefusesImage n rest

abbrev pub takes_setup : ℕ → Image → (Setup → Promise) → Promise
takes_setup n i rest = takes Setup (λ held. GivesSetup held i) (λ held. RefusesSetup held i) n rest

abbrev pub takes_views : ℕ → Image → (Views → Promise) → Promise
takes_views n i rest = takes Views (λ held. GivesViews held i) (λ held. RefusesViews held i) n rest

-- views for whatever image
abbrev pub takes_free_views : ℕ → (Views → Promise) → Promise
takes_free_views n rest = takes Views GivesFreeViews RefusesFreeViews n rest

-- a script for so many vCPUs
abbrev pub takes_script : ℕ → ℕ → (List ℕ → Promise) → Promise
takes_script n vcpus rest = takes (List ℕ) (λ held. GivesScript held vcpus) (λ held. RefusesScript held vcpus) n rest

abbrev pub takes_trace : ℕ → (TraceTold → Promise) → Promise
takes_trace n rest = takes TraceTold GivesTrace RefusesTrace n rest

-- a request: the words, the places of the input files and of the output files in them, and what is promised
pub record Request : Type 1 where
  pub words : List (List ℕ)
  pub inputs : List ℕ
  pub outputs : List ℕ
  pub promise : Promise

-- what each name holds
abbrev pub FileContents : Type 0
FileContents = List ℕ → Option (List ℕ)

-- what the word at a place names holds
abbrev pub held_by : List (List ℕ) → FileContents → ℕ → Option (List ℕ)
held_by words at n = at (word_at words n)

-- all input files are accepted, and this is made of them
abbrev pub Keeps : List (List ℕ) → FileContents → Product → Promise → Type 0
Keeps words at product (takes T Gives Refuses n rest) = (t : T) × Gives (held_by words at n) t × Keeps words at product (rest t)
Keeps words at product (makes Is Fails) = Is product

-- all input files are accepted
abbrev pub Accepts : List (List ℕ) → FileContents → Promise → Type 0
Accepts words at (takes T Gives Refuses n rest) = (t : T) × Gives (held_by words at n) t × Accepts words at (rest t)
Accepts words at (makes Is Fails) = Unit {0}

-- the input files before one are accepted, and this one is refused
abbrev pub RefusesFile : List (List ℕ) → FileContents → Fault → Promise → Type 0
RefusesFile words at why (takes T Gives Refuses n rest) = Refuses (held_by words at n) why ⊎ ((t : T) × Gives (held_by words at n) t × RefusesFile words at why (rest t))
RefusesFile words at why (makes Is Fails) = ⊥

-- all input files are accepted, and nothing is made of them
abbrev pub MakesNot : List (List ℕ) → FileContents → Fault → Promise → Type 0
MakesNot words at why (takes T Gives Refuses n rest) = (t : T) × Gives (held_by words at n) t × MakesNot words at why (rest t)
MakesNot words at why (makes Is Fails) = Fails why

abbrev pub Refuses : List (List ℕ) → FileContents → Fault → Promise → Type 0
Refuses words at why promise = RefusesFile words at why promise ⊎ MakesNot words at why promise

-- the input files before that of place m are accepted
abbrev pub Reaches : List (List ℕ) → FileContents → ℕ → Promise → Type 0
Reaches words at m (takes T Gives Refuses n rest) = (m ≡ n) ⊎ ((t : T) × Gives (held_by words at n) t × Reaches words at m (rest t))
Reaches words at m (makes Is Fails) = ⊥
