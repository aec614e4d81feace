use Rattle.std.proofs.Common.{◌∙◌, map, List, ℕ}
use Rattle.std.specs.Prelude.{string_bytes}
use Rattle.std.proofs.lemmas.Result.{err_from_is_err_and}
use Rattle.trace_file.specs.Trace.{told_of_trace}
use Rattle.replay_command.proofs.Refusals.{trace-refused}
use Rattle.replay_command.proofs.replay.make_replay.Goals as goal

pub returns-in_err-trace-clause-said : goal.returns-in_err-trace-clause-said
returns-in_err-trace-clause-said g c =
    let p = err_from_is_err_and c.from_residual-in_err-trace.result c.from_residual-in_err-trace.ensures.1 in
    let words : List (List ℕ) = map string_bytes c.args.words.now in
    rw (p.1, p.2) (λ at told-at. trace-refused words at c.in_ok-image.image c.in_ok-setup.setup (c.in_ok-image.ensures.said at told-at)
    (c.in_ok-setup.ensures.said at (c.in_ok-image.ensures.files ∙ told-at)) c.in_err-trace.field-0.0
    (c.in_err-trace.ensures.said at (c.in_ok-setup.ensures.files ∙ c.in_ok-image.ensures.files ∙ told-at)))

pub returns-clause-said : goal.returns-clause-said
returns-clause-said g c = λ at told-at. (
  c.in_ok-image.image,
  c.in_ok-image.ensures.said at told-at,
  (
    c.in_ok-setup.setup,
    c.in_ok-setup.ensures.said at (c.in_ok-image.ensures.files ∙ told-at),
    (
      told_of_trace c.in_ok-trace.trace,
      c.in_ok-trace.ensures.said at (c.in_ok-setup.ensures.files ∙ c.in_ok-image.ensures.files ∙ told-at),
      c.in_ok-replayed.ensures,
    ),
  ),
)
