-- Why `merge` makes nothing.
use Rattle.std.proofs.Common.{◌≡◌, ◌≢◌, ℕ, List, refl, sym, subst, inl, inr, Ok, Err}
use Rattle.std.specs.Prelude.{Result}
use Rattle.fc_outside.specs.Outside.{Faults}
use Rattle.view_file.specs.declared.views.Views.{Views}
use Rattle.view_file.specs.declared.fault.ViewFault.{ViewFault}
use Rattle.view_file.specs.declared.fault.ViewFault.TheVariants.{NotJson, Shape, OtherText, UnknownFunction, TooManyApps, BadName, NoMemory}
use Rattle.view_file.specs.Union.{Merges}
use Rattle.command_frame.specs.Command.{MakeCounts, MakesNothing}
use Rattle.command_frame.specs.Files.{GivesFreeViews}
use Rattle.command_frame.specs.Promise.{FileContents, held_by}
use Rattle.command_frame.specs.declared.fault.Fault.TheVariants.{Views as OfViews}
use Rattle.command_frame.specs.declared.product.Product.{Product}
use Rattle.command_frame.specs.declared.product.Refusal.{Refusal}
use Rattle.command_frame.specs.declared.product.Refusal.TheVariants as no
use Rattle.view_commands.specs.Requests.{RefusesBy, merge_promise, merge_request}

-- a fault that is not want of memory
pub by-fault : (fault : ViewFault) → (fault ≡ NoMemory → ⊥) → RefusesBy fault (no.Fault (OfViews fault))
by-fault NotJson other = refl
by-fault Shape other = refl
by-fault OtherText other = refl
by-fault (UnknownFunction at) other = refl
by-fault TooManyApps other = refl
by-fault BadName other = refl
by-fault NoMemory other = absurd (other refl)

module _ (words : List (List ℕ)) (at : FileContents) (a b : Views) (first : GivesFreeViews (held_by words at 1) a) (second : GivesFreeViews (held_by words at 2) b) where
  named : (fault : ViewFault) → fault ≢ NoMemory → Merges a b (Err fault) → MakesNothing words at merge_promise (no.Fault (OfViews fault))
  named fault other refused = inr (a, first, (b, second, record { fault = fault; is = refl; named = other; refused = refused }))

  pub no-union : (fault : ViewFault) (r : Refusal) → Merges a b (Err fault) → RefusesBy fault r → MakesNothing words at merge_promise r
  no-union NotJson r refused is = absurd refused
  no-union Shape r refused is = absurd refused
  no-union OtherText r refused is = subst (MakesNothing words at merge_promise) (sym is) (named OtherText (λ e. absurd (cc e)) refused)
  no-union (UnknownFunction at) r refused is = absurd refused
  no-union TooManyApps r refused is = subst (MakesNothing words at merge_promise) (sym is) (named TooManyApps (λ e. absurd (cc e)) refused)
  no-union BadName r refused is = absurd refused
  no-union NoMemory r refused is = subst (MakesNothing words at merge_promise) (sym is) tt

-- a refusal for a fault counts no read
pub no-reads : (words : List (List ℕ)) (before after : Faults) (fault : ViewFault) (r : Refusal) → RefusesBy fault r → after ≡ before
    → MakeCounts (merge_request words) before after (Err r)
no-reads words before after NotJson r is same = subst (λ x. MakeCounts (merge_request words) before after (Err x)) (sym is) same
no-reads words before after Shape r is same = subst (λ x. MakeCounts (merge_request words) before after (Err x)) (sym is) same
no-reads words before after OtherText r is same = subst (λ x. MakeCounts (merge_request words) before after (Err x)) (sym is) same
no-reads words before after (UnknownFunction at) r is same = subst (λ x. MakeCounts (merge_request words) before after (Err x)) (sym is) same
no-reads words before after TooManyApps r is same = subst (λ x. MakeCounts (merge_request words) before after (Err x)) (sym is) same
no-reads words before after BadName r is same = subst (λ x. MakeCounts (merge_request words) before after (Err x)) (sym is) same
no-reads words before after NoMemory r is same = subst (λ x. MakeCounts (merge_request words) before after (Err x)) (sym is) same
