-- What the two commands promise of their files.
-- The rule: the image, then the views for it; what is made of them goes to standard output, and no guest is run.
use Rattle.std.specs.Prelude.{◌≡◌, ℕ, Some, List, [], ◌∷◌}
use Rattle.guest_input.specs.declared.image.Image.{Image}
use Rattle.view_file.specs.declared.views.Views.{Views}
use Rattle.view_file.specs.Named.{view_named}
use Rattle.code_listing.specs.Listing.{listing_of}
use Rattle.code_listing.specs.Surface.{built_view, surface_of}
use Rattle.command_frame.specs.Promise.{Promise, Request, takes_image, takes_views, makes}
use Rattle.command_frame.specs.declared.answer.Ended.TheVariants.{Finished}
use Rattle.command_frame.specs.declared.product.Product.{Product}

-- this text goes to standard output, and no file is written
pub record IsPrinted (text : List ℕ) (p : Product) : Type 0 where
  pub files : p.files ≡ []
  pub out : p.out ≡ text
  pub ended : p.ended ≡ Finished

-- the listing of the app's view as it is built; a name that no app has means the full view
abbrev pub listing_for : Image → Views → List ℕ → List ℕ
listing_for i v app = listing_of i (built_view i v (view_named v (Some app)))

-- the places of the input files and of the output files in the words
abbrev pub list_inputs : List ℕ
list_inputs = 1 ∷ 2 ∷ []

abbrev pub list_outputs : List ℕ
list_outputs = []

abbrev pub list_promise : List ℕ → Promise
list_promise app = takes_image 1 (λ image. takes_views 2 image (λ views. makes (IsPrinted (listing_for image views app)) (λ why. ⊥)))

abbrev pub surface_inputs : List ℕ
surface_inputs = 1 ∷ 2 ∷ []

abbrev pub surface_outputs : List ℕ
surface_outputs = []

abbrev pub surface_promise : Promise
surface_promise = takes_image 1 (λ image. takes_views 2 image (λ views. makes (IsPrinted (surface_of image views)) (λ why. ⊥)))

-- what is asked for
abbrev pub list_request : List (List ℕ) → List ℕ → Request
list_request words app = record { words = words; inputs = list_inputs; outputs = list_outputs; promise = list_promise app }

abbrev pub surface_request : List (List ℕ) → Request
surface_request words = record { words = words; inputs = surface_inputs; outputs = surface_outputs; promise = surface_promise }
