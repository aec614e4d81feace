use Rattle.std.proofs.Common.{rules, vec_len, ◌≡◌, ℕ, ◌+◌, List, Option, length, replicate, sym, ap, subst, ◌∙◌}
use Rattle.atomic_table.specs.Table.{opening}
use Rattle.view_store.specs.Paged.{PagedView}
use Rattle.run_evidence.specs.Config.{Config}
use Rattle.turn_table.specs.declared.known.Key.{Key}
use Rattle.turn_table.specs.declared.known.Guarded.{Guarded}
use Rattle.turn_table.specs.Rule.{IsShared}
use Rattle.run_evidence.specs.Growing.{logs_of}
use Rattle.turn_table.specs.Steps.{first_known_by, first_known, opened_for}
use Rattle.turn_table.proofs.Opening.{opens}
use Rattle.turn_table.proofs.pass.Turns.open.Goals as goal

pub new-requires : goal.new-requires
new-requires c =
    let k : Config = record { image = c.args.image.now; setup = c.args.setup.now; views = c.args.profile.now } in
    let key : Key = record { image = c.of.result; setup = c.of-2.result; profile = c.of-3.result; board = c.of-4.result; views = c.of-5.result } in
    let ps : List PagedView = c.args.views.items in
    let of_key : opened_for key ≡ k = (λ i. record { image = c.of.ensures i; setup = c.of-2.ensures i; views = c.of-3.ensures i }) in
    let is : first_known_by key ≡ first_known k c.args.board.schedule (logs_of ps) = (λ i. first_known (of_key i) (c.of-4.ensures i).schedule (logs_of (c.of-5.ensures i).items)) in
    let words : c.deref.result.now ≡ replicate (length ps + 1) 0 = let h : vec_len c.args.views ≡ length c.args.views.items = search rules in let z : ℕ = 0 in c.deref.ensures.value ∙ (c.in_ok-words.ensures ∙ ap (λ (m : ℕ). replicate (m + 1) z) (c.len-2.ensures ∙ h)) in
    subst (λ (d : Config). IsShared d (opening c.deref.result.now c.in_ok-slots.slots.items (first_known_by key))) (sym of_key)
    (subst (λ (xs : List ℕ). IsShared k (opening xs c.in_ok-slots.slots.items (first_known_by key))) (sym words)
    (subst (λ (xs : List (Option Guarded)). IsShared k (opening (replicate (length ps + 1) 0) xs (first_known_by key))) (sym c.in_ok-slots.ensures)
    (opens k c.args.board ps (first_known_by key) is c.requires.some_vcpu c.requires.board c.requires.many c.requires.each c.requires.sound)))
