use Rattle.std.proofs.Common.{◌≡◌, arith, Some, ◌∷◌, ◌+◌, ap, ◌∙◌}
use Rattle.atomic_table.specs.Table.{rest}
use Rattle.turn_table.specs.declared.known.Guarded.TheVariants.{View}
use Rattle.turn_table.specs.Steps.{opened_for}
use Rattle.turn_table.proofs.Keeps.{gives_view_seat}
use Rattle.turn_table.proofs.pass.Turns.give_view.Goals as goal

pub swap-requires : goal.swap-requires
swap-requires c = let h = c.exchange.ensures in let words = c.args.self.now.words in let below = c.requires.number in let pass = c.args.pass.now in
    let word : c.word_of-word.result ≡ c.args.view.number + 1 = c.word_of-word.ensures ∙ ap (λ n. n + 1) c.number.ensures.value in (
      h.0 ∙ c.requires.same,
      omega arith,
      gives_view_seat (opened_for c.args.self.now.table.shared.key) _ _ c.args.view.number c.word_of-word.result _ pass.seat.me.0 c.args.view word
          (h.3 ∙ ap (λ l. (pass.seat.me.0, (c.word_of-word.result, Some (View c.args.view)) ∷ rest l)) pass.carries) pass.is_live c.requires.taken c.requires.number c.requires.view c.requires.log,
    )
