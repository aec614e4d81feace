use Rattle.std.proofs.Common.{◌≡◌, ◌∙◌, ◌+◌, ◌∷◌, ℕ, Some, sym, subst}
use Rattle.atomic_table.specs.Table.{rest}
use Rattle.turn_table.specs.declared.known.Guarded.TheVariants.{View}
use Rattle.run_evidence.specs.Growing.{paged_at}
use Rattle.turn_table.specs.Rule.{config_of}
use Rattle.turn_table.specs.Steps.{TookView}
use Rattle.turn_table.proofs.Keeps.{took_shape}
use Rattle.turn_table.proofs.pass.Turns.take_view.Goals as goal

pub exchange-requires : goal.exchange-requires
exchange-requires g c =
    let inv = c.loop.invariant in
    let me = c.try_view.new.seat.me in
    let t : TookView (c.args.k + 1) c.args.k c.loop.pass.seat.me me = rw c.if-try_view.true at c.try_view.ensures.took in
    let x = Some (View (paged_at (config_of c.loop.pass.seat.me.0) c.args.k t.0)) in (
      c.try_view.ensures.same ∙ (inv.2 ∙ c.requires.same),
      (x, subst (λ (w : ℕ). me.1 ≡ (w, x) ∷ rest me.1) (sym c.word_of-word.ensures) (took_shape me (c.args.k + 1) _ x _ t.3)),
    )
