use Rattle.gstage.proofs.Maps.{maps}
use Rattle.gstage.proofs.table.GTable.build.Goals as goal

pub invariant_of-result : goal.invariant_of-result
invariant_of-result c =
    let laid = rw c.as_slice.ensures.value at c.in_ok-entries.ensures.laid in
    let each = maps c.args.kind c.in_ok-entries.entries.items c.args.text.items c.args.ram c.view.inside.0 c.requires c.view.invariant laid in
    record {
      table = record {
        spans = c.requires;
        few = rw c.view.view_is at c.view.invariant;
        size = c.in_ok-entries.ensures.size;
        maps = rw c.view.view_is at each;
      };
      above = c.pages_above.ensures.value;
      few = c.pages_above.ensures.most;
      laid = rw c.view.view_is at laid;
    }

pub returns-clause-maps : goal.returns-clause-maps
returns-clause-maps c =
    let laid = rw c.as_slice.ensures.value at c.in_ok-entries.ensures.laid in
    let each = maps c.args.kind c.in_ok-entries.entries.items c.args.text.items c.args.ram c.view.inside.0 c.requires c.view.invariant laid in
    rw c.view.view_is at each
