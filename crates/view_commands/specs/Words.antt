-- What the words of a command on views ask for: `profile IMAGE SETUP OUT`, `merge A B OUT`, `show IMAGE VIEWS`.
-- The forms are this project's own; the other words are names of files.
use Rattle.std.specs.Prelude.{◌≡◌, ℕ, List, [], ◌∷◌, codes}

-- the words ask for the profile of an image by a setup
pub record IsProfileForm (words : List (List ℕ)) : Type 0 where
  pub image : List ℕ
  pub setup : List ℕ
  pub out : List ℕ
  pub form : words ≡ codes "profile" ∷ image ∷ setup ∷ out ∷ []

-- the words ask for the union of two views
pub record IsMergeForm (words : List (List ℕ)) : Type 0 where
  pub first : List ℕ
  pub second : List ℕ
  pub out : List ℕ
  pub form : words ≡ codes "merge" ∷ first ∷ second ∷ out ∷ []

-- the words ask for the sizes of views
pub record IsShowForm (words : List (List ℕ)) : Type 0 where
  pub image : List ℕ
  pub views : List ℕ
  pub form : words ≡ codes "show" ∷ image ∷ views ∷ []
