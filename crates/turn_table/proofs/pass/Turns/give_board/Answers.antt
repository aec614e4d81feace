use Rattle.std.proofs.Common.{arith, Some, ◌∷◌, ap, ◌∙◌}
use Rattle.atomic_table.specs.Table.{rest}
use Rattle.turn_table.specs.declared.known.Guarded.TheVariants.{Board}
use Rattle.turn_table.specs.Steps.{opened_for}
use Rattle.turn_table.proofs.Keeps.{gives_board_seat}
use Rattle.turn_table.proofs.pass.Turns.give_board.Goals as goal

pub swap-requires : goal.swap-requires
swap-requires c = let h = c.exchange.ensures in let words = c.args.self.now.words in let pass = c.args.pass.now in (
  h.0 ∙ c.requires.same,
  omega arith,
  gives_board_seat (opened_for c.args.self.now.table.shared.key) _ _ _ pass.seat.me.0 c.args.board
      (h.3 ∙ ap (λ l. (pass.seat.me.0, (0, Some (Board c.args.board)) ∷ rest l)) pass.carries) pass.is_live c.requires.taken c.requires.board c.requires.lawful c.requires.steps c.requires.allowed,
)
