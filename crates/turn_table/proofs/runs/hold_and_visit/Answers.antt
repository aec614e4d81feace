use Rattle.std.proofs.Common.{[], sym, subst}
use Rattle.run_evidence.specs.Config.{Config}
use Rattle.run_evidence.specs.Growing.{views_count, logs_of}
use Rattle.turn_table.specs.Calls.{OwnsAll}
use Rattle.turn_table.specs.Tried.{fresh_views}
use Rattle.turn_table.proofs.Trying.{run_of, rejoined_open, two_apart}
use Rattle.turn_table.proofs.runs.hold_and_visit.Goals as goal

pub close-board-requires-clause-all : goal.close-board-requires-clause-all
close-board-requires-clause-all g x =
    let c : Config = record { image = x.in-Some.image; setup = x.in-Some.setup; views = x.in-Some.profile } in
    let run = run_of x.in_ok-image.field-0 x.in-Some.image x.in-Some.setup x.in-Some.groups x.in-Some.profile x.in-Some.is x.in_ok-image.ensures in
    let t = x.in_ok-turns.ensures in
    let logs = logs_of (fresh_views c (views_count c)) in
    let all = rejoined_open c [] logs x.in_ok-turns.one.seat.me.0 x.split-two.new.pass.seat.me.0 x.split-two.result.seat.me.0 x.beside-one.result.0.seat.me.0 x.beside-one.result.1.seat.me.0 x.join.new.pass.seat.me.0
    run.two t.2 x.split-two.ensures.left x.split-two.ensures.right x.beside-one.ensures.one x.beside-one.ensures.two x.join.ensures.both in
    subst (λ (d : Config). OwnsAll d.setup.vcpus x.join.new.pass.seat.me.0) (sym t.0) all

pub split-two-requires-clause-several : goal.split-two-requires-clause-several
split-two-requires-clause-several g x =
    let c : Config = record { image = x.in-Some.image; setup = x.in-Some.setup; views = x.in-Some.profile } in
    let run = run_of x.in_ok-image.field-0 x.in-Some.image x.in-Some.setup x.in-Some.groups x.in-Some.profile x.in-Some.is x.in_ok-image.ensures in
    let t = x.in_ok-turns.ensures in
    let logs = logs_of (fresh_views c (views_count c)) in
    let apart = two_apart c [] logs run.two x.in_ok-turns.one.seat.me.0 t.2 in
    apart.0
