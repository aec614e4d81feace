-- What each command on views promises, over its words.
-- The rule: the input files in their order, and a relation of what is made of them, or why nothing is.
use Rattle.std.specs.Prelude.{◌≡◌, ◌≢◌, ℕ, List, [], ◌∷◌, Result, Ok, Err}
use Rattle.guest_input.specs.declared.image.Image.{Image}
use Rattle.guest_input.specs.declared.setup.Setup.{Setup}
use Rattle.view_file.specs.declared.views.Views.{Views}
use Rattle.view_file.specs.declared.fault.ViewFault.{ViewFault}
use Rattle.view_file.specs.declared.fault.ViewFault.TheVariants.{TooManyApps, NoMemory}
use Rattle.view_file.specs.Text.{text_of_views}
use Rattle.view_file.specs.Union.{Merges}
use Rattle.profiler.specs.Profile.{IsOverfull, IsProfiled, unviewed}
use Rattle.profiler.specs.declared.profile.Profiled.{Profiled}
use Rattle.command_frame.specs.Promise.{Promise, Request, takes_image, takes_setup, takes_views, takes_free_views, makes}
use Rattle.command_frame.specs.Products.{ended_of, file_of}
use Rattle.command_frame.specs.declared.answer.Ended.TheVariants.{Finished}
use Rattle.command_frame.specs.declared.fault.Fault.{Fault}
use Rattle.command_frame.specs.declared.fault.Fault.TheVariants.{Views as OfViews}
use Rattle.command_frame.specs.declared.product.Product.{Product}
use Rattle.command_frame.specs.declared.product.Refusal.{Refusal}
use Rattle.command_frame.specs.declared.product.Refusal.TheVariants as no
use Rattle.view_commands.specs.Show.{show_text}

-- the text of the views of the profile goes to the file of word 3
pub record IsProfileMade (image : Image) (setup : Setup) (p : Product) : Type 0 where
  pub profiled : Profiled
  pub is : IsProfiled (unviewed image setup) profiled
  pub files : p.files ≡ file_of 3 (text_of_views profiled.views) ∷ []
  pub out : p.out ≡ []
  pub ended : p.ended ≡ ended_of profiled.end

-- the run meets too many names
pub record IsProfileRefused (image : Image) (setup : Setup) (why : Fault) : Type 0 where
  pub is : why ≡ OfViews TooManyApps
  pub many : IsOverfull (unviewed image setup)

-- the text of the union goes to the file of word 3
pub record IsMergeMade (a b : Views) (p : Product) : Type 0 where
  pub union : Views
  pub is : Merges a b (Ok union)
  pub files : p.files ≡ file_of 3 (text_of_views union) ∷ []
  pub out : p.out ≡ []
  pub ended : p.ended ≡ Finished

-- the refusal for a fault of views
abbrev pub RefusesBy : ViewFault → Refusal → Type 0
RefusesBy NoMemory refusal = refusal ≡ no.NoMemory
RefusesBy fault refusal = refusal ≡ no.Fault (OfViews fault)

-- the views have no union, for a reason other than want of memory
pub record IsMergeRefused (a b : Views) (why : Fault) : Type 0 where
  pub fault : ViewFault
  pub is : why ≡ OfViews fault
  pub named : fault ≢ NoMemory
  pub refused : Merges a b (Err fault)

-- the sizes go to standard output
pub record IsShown (image : Image) (views : Views) (p : Product) : Type 0 where
  pub files : p.files ≡ []
  pub out : p.out ≡ show_text image views
  pub ended : p.ended ≡ Finished

abbrev pub profile_inputs : List ℕ
profile_inputs = 1 ∷ 2 ∷ []

abbrev pub profile_outputs : List ℕ
profile_outputs = 3 ∷ []

abbrev pub profile_promise : Promise
profile_promise = takes_image 1 (λ image. takes_setup 2 image (λ setup. makes (IsProfileMade image setup) (IsProfileRefused image setup)))

abbrev pub profile_request : List (List ℕ) → Request
profile_request words = record { words = words; inputs = profile_inputs; outputs = profile_outputs; promise = profile_promise }

abbrev pub merge_inputs : List ℕ
merge_inputs = 1 ∷ 2 ∷ []

abbrev pub merge_outputs : List ℕ
merge_outputs = 3 ∷ []

abbrev pub merge_promise : Promise
merge_promise = takes_free_views 1 (λ a. takes_free_views 2 (λ b. makes (IsMergeMade a b) (IsMergeRefused a b)))

abbrev pub merge_request : List (List ℕ) → Request
merge_request words = record { words = words; inputs = merge_inputs; outputs = merge_outputs; promise = merge_promise }

abbrev pub show_inputs : List ℕ
show_inputs = 1 ∷ 2 ∷ []

abbrev pub show_outputs : List ℕ
show_outputs = []

abbrev pub show_promise : Promise
show_promise = takes_image 1 (λ image. takes_views 2 image (λ views. makes (IsShown image views) (λ why. ⊥)))

abbrev pub show_request : List (List ℕ) → Request
show_request words = record { words = words; inputs = show_inputs; outputs = show_outputs; promise = show_promise }
