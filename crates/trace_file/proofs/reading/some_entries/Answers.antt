use Rattle.trace_file.specs.Entries.{entry_form, after_entry}
use Rattle.trace_file.proofs.Loops.{list_on, list_ends, list_done}
use Rattle.trace_file.proofs.reading.some_entries.Goals as goal

pub returns-in-Err : goal.returns-in-Err
returns-in-Err c = list_ends (entry_form c.args.vcpus c.args.steps) after_entry c.in-Err.halt c.entries.entries.items c.args.count c.entries.k c.entries.before c.entries.rest.now _ c.entries-test.true c.in-Err.ensures c.entries.invariant

pub entries-preserved : goal.entries-preserved
entries-preserved c = rw c.in_ok-push-in-Ok.ensures.items (list_on (entry_form c.args.vcpus c.args.steps) after_entry c.entries.entries.items c.args.count c.entries.k c.entries.before c.entries.rest.now c.in-Ok.entry c.in-Ok.after.now _ c.entries-test.true c.in-Ok.ensures c.entries.invariant)

pub returns : goal.returns
returns c = list_done (entry_form c.args.vcpus c.args.steps) after_entry c.entries.entries.items c.args.count c.entries.k c.entries.before c.entries.rest.now _ c.entries-test.false c.entries.invariant
