use Rattle.std.proofs.Common.{Some, ap, ◌∙◌}
use Rattle.view_file.proofs.ReadBack.{reads_back, views_depth}
use Rattle.view_file.proofs.write.write_views.Goals as goal

pub returns-clause-reads_back : goal.returns-clause-reads_back
returns-clause-reads_back c = λ good.
    reads_back _ c.args.views.now good c.in_ok-to_vec.ensures.utf8
    (c.in_ok-to_vec.ensures.reads_back (rw c.in_ok-value.ensures (views_depth c.args.views.now)) ∙ ap Some c.in_ok-value.ensures)
