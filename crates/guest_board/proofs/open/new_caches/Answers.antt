use Rattle.guest_board.proofs.Caches.{all_fit_more, one_more}
use Rattle.guest_board.proofs.open.new_caches.Goals as goal

pub loop-preserved : goal.loop-preserved
loop-preserved c = record {
  many = one_more _ _ _ _ c.in_ok-push.ensures.items c.loop.invariant.many;
  fit = λ ram. all_fit_more ram _ _ _ c.in_ok-push.ensures.items (c.loop.invariant.fit ram) c.new.ensures (c.new_caches_fit.ensures ram);
}
