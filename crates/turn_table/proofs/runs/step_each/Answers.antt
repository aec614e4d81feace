use Rattle.std.proofs.Common.{[], ap, sym, subst, ◌∙◌}
use Rattle.run_evidence.specs.Config.{Config}
use Rattle.run_evidence.specs.Growing.{views_count, logs_of}
use Rattle.turn_table.specs.Rule.{config_of}
use Rattle.turn_table.specs.Steps.{own}
use Rattle.turn_table.specs.Calls.{OwnsAll}
use Rattle.turn_table.specs.Tried.{fresh_views}
use Rattle.turn_table.proofs.Trying.{run_of, same_image, rejoined_open, two_apart}
use Rattle.turn_table.proofs.runs.step_each.Goals as goal

pub go_once-requires-clause-views : goal.go_once-requires-clause-views
go_once-requires-clause-views g x =
    let c : Config = record { image = x.in-Some.image; setup = x.in-Some.setup; views = x.in-Some.profile } in
    let run = run_of x.in_ok-image.field-0 x.in-Some.image x.in-Some.setup x.in-Some.groups x.in-Some.profile x.in-Some.is x.in_ok-image.ensures in
    let t = x.in_ok-turns.ensures in
    let logs = logs_of (fresh_views c (views_count c)) in
    let same = same_image c [] logs x.in_ok-turns.one.seat.me.0 x.split-two.new.pass.seat.me.0 t.2 (ap config_of x.split-two.ensures.left) in
    (x.in-Some.image, run.views_are, run.groups_are, same.0, same.1)

pub go_once-requires-2-clause-views : goal.go_once-requires-2-clause-views
go_once-requires-2-clause-views g x =
    let c : Config = record { image = x.in-Some.image; setup = x.in-Some.setup; views = x.in-Some.profile } in
    let run = run_of x.in_ok-image.field-0 x.in-Some.image x.in-Some.setup x.in-Some.groups x.in-Some.profile x.in-Some.is x.in_ok-image.ensures in
    let t = x.in_ok-turns.ensures in
    let logs = logs_of (fresh_views c (views_count c)) in
    let same = same_image c [] logs x.in_ok-turns.one.seat.me.0 x.split-two.result.seat.me.0 t.2 (ap config_of x.split-two.ensures.right) in
    (x.in-Some.image, run.views_are, run.groups_are, same.0, same.1)

pub close-requires-clause-all : goal.close-requires-clause-all
close-requires-clause-all g x =
    let c : Config = record { image = x.in-Some.image; setup = x.in-Some.setup; views = x.in-Some.profile } in
    let run = run_of x.in_ok-image.field-0 x.in-Some.image x.in-Some.setup x.in-Some.groups x.in-Some.profile x.in-Some.is x.in_ok-image.ensures in
    let t = x.in_ok-turns.ensures in
    let logs = logs_of (fresh_views c (views_count c)) in
    let all = rejoined_open c [] logs x.in_ok-turns.one.seat.me.0 x.split-two.new.pass.seat.me.0 x.split-two.result.seat.me.0 x.go_once.new.pass.seat.me.0 x.go_once-2.new.pass.seat.me.0 x.join.new.pass.seat.me.0
    run.two t.2 x.split-two.ensures.left x.split-two.ensures.right x.in_ok-go_once.ensures.went x.in_ok-go_once-2.ensures.went x.join.ensures.both in
    subst (λ (d : Config). OwnsAll d.setup.vcpus x.join.new.pass.seat.me.0) (sym t.0) all

pub split-two-requires-clause-several : goal.split-two-requires-clause-several
split-two-requires-clause-several g x =
    let c : Config = record { image = x.in-Some.image; setup = x.in-Some.setup; views = x.in-Some.profile } in
    let run = run_of x.in_ok-image.field-0 x.in-Some.image x.in-Some.setup x.in-Some.groups x.in-Some.profile x.in-Some.is x.in_ok-image.ensures in
    let t = x.in_ok-turns.ensures in
    let logs = logs_of (fresh_views c (views_count c)) in
    let apart = two_apart c [] logs run.two x.in_ok-turns.one.seat.me.0 t.2 in
    apart.0

pub go_once-requires-clause-own : goal.go_once-requires-clause-own
go_once-requires-clause-own g x =
    let c : Config = record { image = x.in-Some.image; setup = x.in-Some.setup; views = x.in-Some.profile } in
    let run = run_of x.in_ok-image.field-0 x.in-Some.image x.in-Some.setup x.in-Some.groups x.in-Some.profile x.in-Some.is x.in_ok-image.ensures in
    let t = x.in_ok-turns.ensures in
    let logs = logs_of (fresh_views c (views_count c)) in
    let apart = two_apart c [] logs run.two x.in_ok-turns.one.seat.me.0 t.2 in
    ap own x.split-two.ensures.left ∙ apart.1

pub go_once-requires-2-clause-own : goal.go_once-requires-2-clause-own
go_once-requires-2-clause-own g x =
    let c : Config = record { image = x.in-Some.image; setup = x.in-Some.setup; views = x.in-Some.profile } in
    let run = run_of x.in_ok-image.field-0 x.in-Some.image x.in-Some.setup x.in-Some.groups x.in-Some.profile x.in-Some.is x.in_ok-image.ensures in
    let t = x.in_ok-turns.ensures in
    let logs = logs_of (fresh_views c (views_count c)) in
    let apart = two_apart c [] logs run.two x.in_ok-turns.one.seat.me.0 t.2 in
    ap own x.split-two.ensures.right ∙ apart.2
