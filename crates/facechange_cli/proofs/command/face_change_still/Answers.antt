use Rattle.std.proofs.Common.{subst, inr, map, ℕ, List}
use Rattle.std.specs.Prelude.{string_bytes}
use Rattle.fc_outside.specs.Outside.{Files, Faults}
use Rattle.command_frame.specs.Finished.{Outside, outside_of, Finishes}
use Rattle.command_frame.specs.Promise.{Request}
use Rattle.command_frame.proofs.Answered.{answered}
use Rattle.facechange_cli.specs.Requests.{request_of}
use Rattle.facechange_cli.proofs.command.face_change_still.Goals as goal

pub returns : goal.returns
returns g c =
    let words : List (List ℕ) = map string_bytes c.args.words.now in
    let request : Request = request_of words c.in-Some.command in
    let reads : Faults = g.S.Store.reads c.make-made.new.store in
    let out = g.K.Sink.written c.args.out.now in
    let puts : ℕ = g.K.Sink.faults c.args.out.now in
    let before : Outside = outside_of (g.S.Store.files c.args.store.now) (g.S.Store.reads c.args.store.now) (g.S.Store.writes c.args.store.now) (g.K.Sink.written c.args.out.now) (g.K.Sink.faults c.args.out.now) in
    let after : Outside = outside_of (g.S.Store.files c.finish-told.new.store) (g.S.Store.reads c.finish-told.new.store) (g.S.Store.writes c.finish-told.new.store) (g.K.Sink.written c.finish-told.new.out) (g.K.Sink.faults c.finish-told.new.out) in
    let first : Finishes words c.make-made.result (outside_of (g.S.Store.files c.args.store.now) reads (g.S.Store.writes c.make-made.new.store) out puts) after c.finish-told.result.answer
    = subst (λ (files : Files). Finishes words c.make-made.result (outside_of files reads (g.S.Store.writes c.make-made.new.store) out puts) after c.finish-told.result.answer)
    c.make-made.ensures.files c.finish-told.ensures.finished in
    let second : Finishes words c.make-made.result (outside_of (g.S.Store.files c.args.store.now) reads (g.S.Store.writes c.args.store.now) out puts) after c.finish-told.result.answer
    = subst (λ (writes : Faults). Finishes words c.make-made.result (outside_of (g.S.Store.files c.args.store.now) reads writes out puts) after c.finish-told.result.answer)
    c.make-made.ensures.writes first in
    inr (
      c.in-Some.command,
      c.in-Some.ensures.some,
      record {
        answer = c.finish-told.result.answer;
        is = c.tell.ensures.status;
        line = c.tell.ensures.told;
        means = answered request before after reads c.make-made.result c.finish-told.result.answer c.make-made.ensures.said c.make-made.ensures.counted c.make-made.ensures.outputs second;
      },
    )
