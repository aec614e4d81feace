use Rattle.std.proofs.Common.{◌≡◌, ◌∙◌, ap, sym, subst, List, ℕ, [], ◌∷◌, rules}
use Rattle.std.specs.Prelude.{map}
use Rattle.function_table.specs.Groups.{groups_of}
use Rattle.run_evidence.specs.Config.{Config, IsConfig}
use Rattle.trace_file.specs.Trace.{told_of_trace, text_of_trace}
use Rattle.guest_runs.specs.Log.{log_text}
use Rattle.command_frame.specs.Products.{file_of}
use Rattle.command_frame.specs.declared.product.Written.{Written}
use Rattle.run_command.specs.Run.{IsCrewRun}
use Rattle.run_command.proofs.run.make_product.Goals as goal

pub log_text-requires-clause-entries : goal.log_text-requires-clause-entries
log_text-requires-clause-entries g c =
    let config : Config = record { image = c.args.image.now; setup = c.args.setup.now; views = c.args.views } in
    let ok : IsConfig config = record { image = c.requires.image; setup = c.requires.setup; views = c.requires.views } in
    let table : c.in_ok-ran.ran.table ≡ groups_of c.args.image.now = c.in_ok-ran.ensures.table ∙ c.requires.table in
    rw (c.deref.ensures.value, table) (c.justified_entries_are_printable.ensures config ok (told_of_trace c.in_ok-ran.ran.trace).schedule (told_of_trace c.in_ok-ran.ran.trace).entries c.in_ok-ran.ensures.run.sound.justified)

pub returns-clause-made : goal.returns-clause-made
returns-clause-made g c =
    let config : Config = record { image = c.args.image.now; setup = c.args.setup.now; views = c.args.views } in
    record {
      lawful = record { image = c.requires.image; setup = c.requires.setup; views = c.requires.views };
      trace = told_of_trace c.in_ok-ran.ran.trace;
      ran = subst (λ out. IsCrewRun config (told_of_trace c.in_ok-ran.ran.trace) out) (sym c.from_vec.ensures) c.in_ok-ran.ensures.run;
      files = c.in_ok-files.ensures
          ∙ ap (λ text. file_of 4 text ∷ file_of 5 c.in_ok-log.log.items ∷ []) c.in_ok-trace.ensures
          ∙ ap (λ lines. file_of 4 (text_of_trace (told_of_trace c.in_ok-ran.ran.trace)) ∷ file_of 5 lines ∷ [])
          (c.in_ok-log.ensures ∙ ap (log_text c.args.image.now c.in_ok-ran.ran.views) c.deref.ensures.value ∙ ap (λ vs. log_text c.args.image.now vs (told_of_trace c.in_ok-ran.ran.trace).entries) c.in_ok-ran.ensures.views);
      ended = c.ended_of-ended.ensures;
    }

pub returns-clause-outputs : goal.returns-clause-outputs
returns-clause-outputs g c = ap (map (λ (f : Written). f.word)) c.in_ok-files.ensures
