-- That each cause has its answer, along every promise.
use Rattle.std.proofs.Common.{◌≡◌, ℕ, refl, ◌∙◌, sym, ap, subst, Some, None, List, ◌⊎◌, inl, inr}
use Rattle.command_frame.specs.Finished.{Outside}
use Rattle.command_frame.specs.Promise.{Promise, takes, makes, Request, FileContents, held_by, Keeps, Accepts, RefusesFile, MakesNot}
use Rattle.command_frame.specs.Command.{IsAnswer}
use Rattle.command_frame.specs.Exact.{AreSure, IsFaultFree, AcceptedFilesAnswer, RefusedFilesAnswer}
use Rattle.command_frame.specs.declared.fault.Fault.{Fault}
use Rattle.command_frame.specs.declared.answer.Answer.{Answer}
use Rattle.command_frame.specs.declared.answer.Answer.TheVariants.{Served, Refused, Unread, Unwritten, NoMemory}
use Rattle.command_frame.specs.declared.product.Product.{Product}

module _ (words : List (List ℕ)) (at : FileContents) where
  kept-accepts : (promise : Promise) (p : Product) → Keeps words at p promise → Accepts words at promise
  kept-accepts (takes T Gives Refuses n rest) p k = (k.0, k.1, kept-accepts (rest k.0) p k.2)
  kept-accepts (makes Is Fails) p k = tt

  failed-accepts : (promise : Promise) (why : Fault) → MakesNot words at why promise → Accepts words at promise
  failed-accepts (takes T Gives Refuses n rest) why k = (k.0, k.1, failed-accepts (rest k.0) why k.2)
  failed-accepts (makes Is Fails) why k = tt

  accepted-or-refused : (promise : Promise) (why : Fault) → AreSure promise → Accepts words at promise → RefusesFile words at why promise → ⊥
  accepted-or-refused (takes T Gives Refuses n rest) why sure a b = elim b [
    | inl bad ↦ sure.0.apart (held_by words at n) a.0 why a.1 bad
    | inr b ↦ accepted-or-refused (rest b.0) why (sure.1 b.0) (subst (λ t. Accepts words at (rest t)) (sure.0.same (held_by words at n) a.0 b.0 a.1 b.1) a.2) b.2
  ]
  accepted-or-refused (makes Is Fails) why sure a b = b

  one-refusal : (promise : Promise) (f g : Fault) → AreSure promise → RefusesFile words at f promise → RefusesFile words at g promise → f ≡ g
  one-refusal (takes T Gives Refuses n rest) f g sure a b = elim a [
    | inl x ↦ elim b [ inl y ↦ sure.0.one (held_by words at n) f g x y | inr y ↦ absurd (sure.0.apart (held_by words at n) y.0 f y.1 x) ]
    | inr x ↦ elim b [
      | inl y ↦ absurd (sure.0.apart (held_by words at n) x.0 g x.1 y)
      | inr y ↦ one-refusal (rest y.0) f g (sure.1 y.0) (subst (λ t. RefusesFile words at f (rest t)) (sure.0.same (held_by words at n) x.0 y.0 x.1 y.1) x.2) y.2
    ]
  ]
  one-refusal (makes Is Fails) f g sure a b = absurd a

pub accepted-files : (r : Request) → AreSure r.promise → AcceptedFilesAnswer r
accepted-files r sure b a (Served ended) at told k free ok = inr (inl (ended, refl, k.said at told))
accepted-files r sure b a (Refused why) at told k free ok = elim (k.said at told) [
  | inl bad ↦ absurd (accepted-or-refused r.words at r.promise why sure ok bad)
  | inr own ↦ inr (inr (why, refl, own))
]
accepted-files r sure b a (Unread n) at told k free ok = absurd (free.reads k.reads.1.rose)
accepted-files r sure b a (Unwritten (Some n)) at told k free ok = absurd (free.writes k.writes.1.rose)
accepted-files r sure b a (Unwritten None) at told k free ok = absurd (free.puts k.puts.rose)
accepted-files r sure b a NoMemory at told k free ok = inl refl

pub refused-files : (r : Request) → AreSure r.promise → RefusedFilesAnswer r
refused-files r sure b a (Served ended) at why told k free bad =
    let made = k.said at told in absurd (accepted-or-refused r.words at r.promise why sure (kept-accepts r.words at r.promise made.0 made.1) bad)
refused-files r sure b a (Refused other) at why told k free bad = elim (k.said at told) [
  | inl file ↦ inr (ap Refused (one-refusal r.words at r.promise other why sure file bad))
  | inr own ↦ absurd (accepted-or-refused r.words at r.promise why sure (failed-accepts r.words at r.promise other own) bad)
]
refused-files r sure b a (Unread n) at why told k free bad = absurd (free.reads k.reads.1.rose)
refused-files r sure b a (Unwritten (Some n)) at why told k free bad = absurd (free.writes k.writes.1.rose)
refused-files r sure b a (Unwritten None) at why told k free bad = absurd (free.puts k.puts.rose)
refused-files r sure b a NoMemory at why told k free bad = inl refl
