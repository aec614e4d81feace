-- When words are a listed form.
use Rattle.std.proofs.Common.{◌≡◌, ℕ, zero, suc, ◌≤◌, ◌<◌, List, [], ◌∷◌, length, arith, refl, ◌∙◌, sym, ap, map, decimal}
use Rattle.std.specs.Prelude.{get_or}
use Rattle.guest_input.specs.declared.setup.Setup.{Setup}
use Rattle.guest_input.specs.declared.limits.TheConstants.{STEPS_MOST}
use Rattle.facechange_cli.specs.Words.{IsTry, IsDriveForm, IsNoForm}
use Rattle.bench_command.specs.Bench.{IsBenchForm}
use Rattle.listing_commands.specs.Words.{IsListForm, IsSurfaceForm}
use Rattle.replay_command.specs.Replay.{IsReplayForm}
use Rattle.view_commands.specs.Words.{IsProfileForm, IsMergeForm, IsShowForm}
use Rattle.facechange_cli.specs.declared.words.Command.TheVariants.{Try, Drive, Profile, Merge, Show, Replay, List as Listing, Surface, Bench}

pub no_form : (words : List (List ℕ)) → ((setup : Setup) → IsTry words setup → ⊥) → (IsDriveForm words → ⊥) → (IsProfileForm words → ⊥) → (IsMergeForm words → ⊥)
    → (IsShowForm words → ⊥) → (IsReplayForm words → ⊥) → (IsSurfaceForm words → ⊥) → ((app : List ℕ) → IsListForm words app → ⊥)
    → ((seed : ℕ) → IsBenchForm words seed → ⊥) → IsNoForm words
no_form words try drive profile merge show replay surface list bench (Try setup) form = try setup form
no_form words try drive profile merge show replay surface list bench Drive form = drive form
no_form words try drive profile merge show replay surface list bench Profile form = profile form
no_form words try drive profile merge show replay surface list bench Merge form = merge form
no_form words try drive profile merge show replay surface list bench Show form = show form
no_form words try drive profile merge show replay surface list bench Replay form = replay form
no_form words try drive profile merge show replay surface list bench (Listing app) form = list app form
no_form words try drive profile merge show replay surface list bench Surface form = surface form
no_form words try drive profile merge show replay surface list bench (Bench seed) form = bench seed form

pub bad-steps : (words : List (List ℕ)) (word : List ℕ) → get_or words 4 [] ≡ word
    → ((steps : ℕ) → word ≡ decimal steps → 1 ≤ steps → steps ≤ STEPS_MOST → ⊥) → (setup : Setup) → IsTry words setup → ⊥
bad-steps words word at none setup form = none form.steps (sym at ∙ ap (λ xs. get_or xs 4 []) form.form) form.some form.most

module _ {A : Type 0} (f : A → List ℕ) where
  -- the word of an item
  pub item-at : (xs : List A) (n : ℕ) (item : A) → n < length xs → item ≡ get_or xs n item → get_or (map f xs) n [] ≡ f item
  item-at [] n item within is = absurd (omega (arith, within))
  item-at (x ∷ xs) zero item within is = ap f (sym is)
  item-at (x ∷ xs) (suc n) item within is = item-at xs n item (omega (arith, within)) is

  -- the words of six items
  pub six-words : (xs : List A) (a d e : List ℕ) → length xs ≡ 6 → get_or (map f xs) 0 [] ≡ a → get_or (map f xs) 3 [] ≡ d → get_or (map f xs) 4 [] ≡ e
      → map f xs ≡ a ∷ get_or (map f xs) 1 [] ∷ get_or (map f xs) 2 [] ∷ d ∷ e ∷ get_or (map f xs) 5 [] ∷ []
  six-words [] a d e six = absurd (omega (arith, six))
  six-words (x0 ∷ []) a d e six = absurd (omega (arith, six))
  six-words (x0 ∷ x1 ∷ []) a d e six = absurd (omega (arith, six))
  six-words (x0 ∷ x1 ∷ x2 ∷ []) a d e six = absurd (omega (arith, six))
  six-words (x0 ∷ x1 ∷ x2 ∷ x3 ∷ []) a d e six = absurd (omega (arith, six))
  six-words (x0 ∷ x1 ∷ x2 ∷ x3 ∷ x4 ∷ []) a d e six = absurd (omega (arith, six))
  six-words (x0 ∷ x1 ∷ x2 ∷ x3 ∷ x4 ∷ x5 ∷ []) a d e six = λ ia id ie. rw (ia, id, ie) refl
  six-words (x0 ∷ x1 ∷ x2 ∷ x3 ∷ x4 ∷ x5 ∷ x6 ∷ xs) a d e six = absurd (omega (arith, six))

  -- the words of seven items
  pub seven-words : (xs : List A) (a : List ℕ) → length xs ≡ 7 → get_or (map f xs) 0 [] ≡ a
      → map f xs ≡ a ∷ get_or (map f xs) 1 [] ∷ get_or (map f xs) 2 [] ∷ get_or (map f xs) 3 [] ∷ get_or (map f xs) 4 [] ∷ get_or (map f xs) 5 [] ∷ get_or (map f xs) 6 [] ∷ []
  seven-words [] a seven = absurd (omega (arith, seven))
  seven-words (x0 ∷ []) a seven = absurd (omega (arith, seven))
  seven-words (x0 ∷ x1 ∷ []) a seven = absurd (omega (arith, seven))
  seven-words (x0 ∷ x1 ∷ x2 ∷ []) a seven = absurd (omega (arith, seven))
  seven-words (x0 ∷ x1 ∷ x2 ∷ x3 ∷ []) a seven = absurd (omega (arith, seven))
  seven-words (x0 ∷ x1 ∷ x2 ∷ x3 ∷ x4 ∷ []) a seven = absurd (omega (arith, seven))
  seven-words (x0 ∷ x1 ∷ x2 ∷ x3 ∷ x4 ∷ x5 ∷ []) a seven = absurd (omega (arith, seven))
  seven-words (x0 ∷ x1 ∷ x2 ∷ x3 ∷ x4 ∷ x5 ∷ x6 ∷ []) a seven = λ is. rw is refl
  seven-words (x0 ∷ x1 ∷ x2 ∷ x3 ∷ x4 ∷ x5 ∷ x6 ∷ x7 ∷ xs) a seven = absurd (omega (arith, seven))
