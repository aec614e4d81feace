use Rattle.std.proofs.Common.{◌≡◌, ◌∙◌, ap, sym, subst, map, List, ℕ, [], ◌∷◌, rules}
use Rattle.std.specs.Prelude.{string_bytes}
use Rattle.std.proofs.lemmas.Result.{err_from_is_err_and}
use Rattle.function_table.specs.Groups.{groups_of}
use Rattle.run_evidence.specs.Config.{Config, IsConfig}
use Rattle.trace_file.specs.Trace.{told_of_trace, text_of_trace}
use Rattle.guest_runs.specs.Driven.{IsDriven}
use Rattle.guest_runs.specs.Log.{log_text}
use Rattle.command_frame.specs.Products.{file_of}
use Rattle.facechange_cli.proofs.Refusals.{third-refused, fourth-refused}
use Rattle.facechange_cli.proofs.drive.make_drive.Goals as goal

pub returns-in_err-views-clause-said : goal.returns-in_err-views-clause-said
returns-in_err-views-clause-said g c =
    let p = err_from_is_err_and c.from_residual-in_err-views.result c.from_residual-in_err-views.ensures.1 in
    let words : List (List ℕ) = map string_bytes c.args.words.now in
    rw (p.1, p.2) (λ at told-at. third-refused words at c.in_ok-image.image c.in_ok-setup.setup (c.in_ok-image.ensures.said at told-at)
    (c.in_ok-setup.ensures.said at (c.in_ok-image.ensures.files ∙ told-at)) c.in_err-views.field-0.0
    (c.in_err-views.ensures.said at (c.in_ok-setup.ensures.files ∙ c.in_ok-image.ensures.files ∙ told-at)))

pub returns-in_err-script-clause-said : goal.returns-in_err-script-clause-said
returns-in_err-script-clause-said g c =
    let p = err_from_is_err_and c.from_residual-in_err-script.result c.from_residual-in_err-script.ensures.1 in
    let words : List (List ℕ) = map string_bytes c.args.words.now in
    rw (p.1, p.2) (λ at told-at. fourth-refused words at c.in_ok-image.image c.in_ok-setup.setup (c.in_ok-image.ensures.said at told-at)
    (c.in_ok-setup.ensures.said at (c.in_ok-image.ensures.files ∙ told-at)) c.in_ok-views.views
    (c.in_ok-views.ensures.said at (c.in_ok-setup.ensures.files ∙ c.in_ok-image.ensures.files ∙ told-at)) c.in_err-script.field-0.0
    (c.in_err-script.ensures.said at (c.in_ok-views.ensures.files ∙ c.in_ok-setup.ensures.files ∙ c.in_ok-image.ensures.files ∙ told-at)))

pub log_text-requires-clause-entries : goal.log_text-requires-clause-entries
log_text-requires-clause-entries g c =
    let config : Config = record { image = c.in_ok-image.image; setup = c.in_ok-setup.setup; views = c.in_ok-views.views } in
    let ok : IsConfig config = record { image = c.in_ok-image.ensures.lawful; setup = c.in_ok-setup.ensures.lawful; views = c.in_ok-views.ensures.lawful } in
    let table : c.in_ok-table.table ≡ groups_of c.in_ok-image.image = search rules in
    rw (c.deref-2.ensures.value, table) (c.justified_entries_are_printable.ensures config ok (told_of_trace c.in_ok-driven.driven.trace).schedule (told_of_trace c.in_ok-driven.driven.trace).entries c.in_ok-driven.ensures.sound.justified)

pub returns-clause-said : goal.returns-clause-said
returns-clause-said g c = λ at told-at.
    let config : Config = record { image = c.in_ok-image.image; setup = c.in_ok-setup.setup; views = c.in_ok-views.views } in
    let script : List ℕ = c.in_ok-script.script.items in
    let driven : IsDriven config script (told_of_trace c.in_ok-driven.driven.trace) c.in_ok-driven.driven.console.items
    = subst (λ is. IsDriven config is (told_of_trace c.in_ok-driven.driven.trace) c.in_ok-driven.driven.console.items) c.deref.ensures.value c.in_ok-driven.ensures in (
      c.in_ok-image.image,
      c.in_ok-image.ensures.said at told-at,
      (
        c.in_ok-setup.setup,
        c.in_ok-setup.ensures.said at (c.in_ok-image.ensures.files ∙ told-at),
        (
          c.in_ok-views.views,
          c.in_ok-views.ensures.said at (c.in_ok-setup.ensures.files ∙ c.in_ok-image.ensures.files ∙ told-at),
          (
            script,
            c.in_ok-script.ensures.said at (c.in_ok-views.ensures.files ∙ c.in_ok-setup.ensures.files ∙ c.in_ok-image.ensures.files ∙ told-at),
            record {
              lawful = record { image = c.in_ok-image.ensures.lawful; setup = c.in_ok-setup.ensures.lawful; views = c.in_ok-views.ensures.lawful };
              trace = told_of_trace c.in_ok-driven.driven.trace;
              driven = subst (λ out. IsDriven config script (told_of_trace c.in_ok-driven.driven.trace) out) (sym c.from_vec.ensures) driven;
              files = c.in_ok-files.ensures
                  ∙ ap (λ text. file_of 5 text ∷ file_of 6 c.in_ok-log.log.items ∷ []) c.in_ok-trace.ensures
                  ∙ ap (λ lines. file_of 5 (text_of_trace (told_of_trace c.in_ok-driven.driven.trace)) ∷ file_of 6 lines ∷ [])
                  (c.in_ok-log.ensures ∙ ap (log_text c.in_ok-image.image c.in_ok-views.views) c.deref-2.ensures.value);
              ended = c.ended_of-ended.ensures;
            },
          ),
        ),
      ),
    )
