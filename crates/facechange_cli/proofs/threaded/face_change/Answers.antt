use Rattle.std.proofs.Common.{subst, inl, inr, map, refl, ℕ, List}
use Rattle.std.specs.Prelude.{string_bytes}
use Rattle.fc_outside.specs.Outside.{Files, Faults}
use Rattle.command_frame.specs.Finished.{Outside, outside_of, Finishes}
use Rattle.command_frame.specs.Promise.{Request}
use Rattle.command_frame.proofs.Answered.{answered}
use Rattle.run_command.specs.Run.{run_request}
use Rattle.facechange_cli.proofs.threaded.face_change.Goals as goal

pub returns-then-not-is_run : goal.returns-then-not-is_run
returns-then-not-is_run g c = inr (c.if-not-is_run.ensures.no refl, c.face_change_still.ensures)

pub returns : goal.returns
returns g c =
    let words : List (List ℕ) = map string_bytes c.args.words.now in
    let request : Request = run_request words in
    let reads : Faults = g.S.Store.reads c.make_run-made.new.store in
    let out = g.K.Sink.written c.args.out.now in
    let puts : ℕ = g.K.Sink.faults c.args.out.now in
    let before : Outside = outside_of (g.S.Store.files c.args.store.now) (g.S.Store.reads c.args.store.now) (g.S.Store.writes c.args.store.now) (g.K.Sink.written c.args.out.now) (g.K.Sink.faults c.args.out.now) in
    let after : Outside = outside_of (g.S.Store.files c.finish-told.new.store) (g.S.Store.reads c.finish-told.new.store) (g.S.Store.writes c.finish-told.new.store) (g.K.Sink.written c.finish-told.new.out) (g.K.Sink.faults c.finish-told.new.out) in
    let first : Finishes words c.make_run-made.result (outside_of (g.S.Store.files c.args.store.now) reads (g.S.Store.writes c.make_run-made.new.store) out puts) after c.finish-told.result.answer
    = subst (λ (files : Files). Finishes words c.make_run-made.result (outside_of files reads (g.S.Store.writes c.make_run-made.new.store) out puts) after c.finish-told.result.answer)
    c.make_run-made.ensures.files c.finish-told.ensures.finished in
    let second : Finishes words c.make_run-made.result (outside_of (g.S.Store.files c.args.store.now) reads (g.S.Store.writes c.args.store.now) out puts) after c.finish-told.result.answer
    = subst (λ (writes : Faults). Finishes words c.make_run-made.result (outside_of (g.S.Store.files c.args.store.now) reads writes out puts) after c.finish-told.result.answer)
    c.make_run-made.ensures.writes first in
    inl (
      c.if-not-is_run.ensures.yes refl,
      record {
        answer = c.finish-told.result.answer;
        is = c.tell.ensures.status;
        line = c.tell.ensures.told;
        means = answered request before after reads c.make_run-made.result c.finish-told.result.answer c.make_run-made.ensures.said c.make_run-made.ensures.counted c.make_run-made.ensures.outputs second;
      },
    )
