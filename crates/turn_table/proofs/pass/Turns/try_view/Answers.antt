use Rattle.std.proofs.Common.{◌≡◌, ◌==◌, ℕ, arith, subst}
use Rattle.std.specs.Prelude.{MatchBool}
use Rattle.turn_table.specs.Steps.{opened_for, TookView}
use Rattle.turn_table.proofs.Keeps.{takes_view, by_found}
use Rattle.turn_table.proofs.pass.Turns.try_view.Goals as goal

pub compare_exchange-requires : goal.compare_exchange-requires
compare_exchange-requires c = let words = c.args.self.now.words in let below = c.requires.number in let seat = c.args.seat.now in let word = c.word_of.ensures in
    (c.requires.same, omega arith, takes_view (opened_for c.args.self.now.table.shared.key) _ _ c.args.k c.word_of.result seat.me word c.requires.live c.requires.free c.requires.number)

pub returns-clause-took : goal.returns-clause-took
returns-clause-took c = let word = c.word_of.ensures in let before = c.args.seat.now.me in let after = c.compare_exchange.new.seat.me in
    subst (λ (w : ℕ). MatchBool (c.compare_exchange.result == 0) (TookView w c.args.k before after) (after ≡ before)) word
    (by_found c.compare_exchange.result (TookView c.word_of.result c.args.k before after) (after ≡ before) (c.compare_exchange.ensures.2 c.args.k (omega arith)))
