use Rattle.turn_table.specs.Steps.{opened_for}
use Rattle.std.proofs.Common.{arith, ap, sym, subst, ◌∙◌, ◌≡◌}
use Rattle.turn_table.specs.declared.known.Known.{Known}
use Rattle.turn_table.specs.Steps.{Seated, IsConsistent, joined_known}
use Rattle.turn_table.specs.Calls.{IsJoined}
use Rattle.turn_table.proofs.Parts.{joins, looks, known_joined, joined_lives}
use Rattle.turn_table.proofs.pass.Turns.merge.Goals as goal

pub join_seat-requires : goal.join_seat-requires
join_seat-requires c =
    let words = c.args.self.now.words in let seat = c.args.seat.now in let other = c.args.other in (
      c.requires.same.0,
      c.requires.same.1,
      c.requires.empty.1,
      omega arith,
      joins (opened_for c.args.self.now.table.shared.key) seat.id seat.me.0 other.id other.me.0 c.requires.live.0 c.requires.live.1 c.requires.free.0 c.requires.free.1,
    )

pub load-requires : goal.load-requires
load-requires c =
    let words = c.args.self.now.words in let h = c.join_seat.ensures in
    let is : c.join_seat.new.seat.me.0 ≡ joined_known c.args.seat.now.me.0 c.args.other.me.0 = ap (λ (m : Seated). m.0) h.2 in (
      h.0 ∙ c.requires.same.0,
      omega arith,
      looks (opened_for c.args.self.now.table.shared.key) _ _ c.join_seat.new.seat.me (ap (λ (v : Known). v.live) is ∙ joined_lives c.args.seat.now.me.0 c.args.other.me.0),
    )

pub returns-clause-both : goal.returns-clause-both
returns-clause-both c =
    let v = c.args.seat.now.me.0 in let w = c.args.other.me.0 in
    let is : c.join_seat.new.seat.me.0 ≡ joined_known v w = ap (λ (m : Seated). m.0) c.join_seat.ensures.2 in
    let now : c.load.new.seat.me.0 ≡ joined_known v w = ap (λ (m : Seated). m.0) c.load.ensures.2.0 ∙ is in
    subst (IsJoined v w) (sym now) (known_joined v w (subst IsConsistent is c.load.ensures.2.1))
