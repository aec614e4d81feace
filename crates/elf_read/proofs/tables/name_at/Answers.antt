use Rattle.std.proofs.Common.{drop, take, ap, ◌∙◌}
use Rattle.std.specs.Prelude.{◌==◌}
use Rattle.std.specs.List.{before_first}
use Rattle.std.proofs.lemmas.Result.{IfOk-weaker}
use Rattle.elf_read.specs.Starts.{kept_name}
use Rattle.elf_read.proofs.TableLemmas.{kept_name-before}
use Rattle.elf_read.proofs.tables.name_at.Goals as goal

pub returns : goal.returns
returns c =
    let shown = c.before_zero.ensures ∙ ap (before_first (λ byte. byte == 0)) (c.front.ensures ∙ ap (take 63) c.rest.ensures) in
    IfOk-weaker c.keep_name.result _ _ (λ name h. h ∙ ap kept_name shown ∙ kept_name-before (drop c.args.at c.args.strings.now)) c.keep_name.ensures
