-- The words of two commands: `list IMAGE VIEWS APP` and `surface IMAGE VIEWS`.
-- The forms are this project's own: APP is a name of an app.
use Rattle.std.specs.Prelude.{◌≡◌, ℕ, true, List, [], ◌∷◌, codes}
use Rattle.fc_numbers.specs.Names.{is_app_name}

-- the words ask for the listing of the view of this app
pub record IsListForm (words : List (List ℕ)) (app : List ℕ) : Type 0 where
  pub image : List ℕ
  pub views : List ℕ
  pub form : words ≡ codes "list" ∷ image ∷ views ∷ app ∷ []
  pub named : is_app_name app ≡ true

-- the words ask for the surface of views
pub record IsSurfaceForm (words : List (List ℕ)) : Type 0 where
  pub image : List ℕ
  pub views : List ℕ
  pub form : words ≡ codes "surface" ∷ image ∷ views ∷ []
