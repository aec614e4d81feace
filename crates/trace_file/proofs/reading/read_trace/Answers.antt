use Rattle.std.proofs.Common.{ap, subst, ◌∙◌, arith}
use Rattle.trace_file.specs.Gives.{Answers}
use Rattle.trace_file.specs.Trace.{told_of_trace, trace_of}
use Rattle.trace_file.proofs.TraceLaws.{is_found, text_again}
use Rattle.trace_file.proofs.reading.read_trace.Goals as goal

pub returns-clause-found : goal.returns-clause-found
returns-clause-found c = is_found c.args.bytes.now c.whole_trace.result (λ i. omega (arith, c.type_inv.bytes i)) c.whole_trace.ensures

pub returns-clause-only : goal.returns-clause-only
returns-clause-only c = λ t fits e. subst (λ r. Answers told_of_trace c.whole_trace.result r) (ap trace_of e ∙ text_again t fits) c.whole_trace.ensures
