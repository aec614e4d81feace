use Rattle.std.proofs.Common.{◌≡◌, ◌<◌, ◌∙◌, ap, arith, false, refl, replicate, subst, sym, true}
use Rattle.guest_board.specs.Board.{may}
use Rattle.vcpu_core.specs.Waits.{all_left}
use Rattle.vcpu_core.specs.World.{World, go_all, lane_of, row_count, row_limit}
use Rattle.vcpu_core.proofs.Counted.{count-one, count-stuck, limit-rests}
use Rattle.vcpu_core.proofs.InRow.{go-stuck, may-goes, row-falls, went-stuck}
use Rattle.vcpu_core.proofs.LeftOver.{go_falls}
use Rattle.vcpu_core.proofs.machine.Core.go_on.Goals as goal

pub returns-then-not-may : goal.returns-then-not-may
returns-then-not-may c =
    let no : may c.args.self.now.board.rules c.args.self.now.board.state c.args.i ≡ false =
    subst (λ (x : World). may x.board.rules x.board.state c.args.i ≡ false) c.self.view_is (sym c.if-not-may.ensures) in
    record {
      after = refl;
      count = sym (count-stuck c.args.self.now c.args.i (row_limit (lane_of c.args.self.now c.args.i).phase c.args.limit) no);
      most = omega arith;
      falls = λ some. absurd (omega (arith, some));
      one = λ single. sym (go-stuck c.args.self.now c.args.i no);
      answer = (λ some. absurd (omega (arith, some)), λ yes. absurd (cc));
      idle = λ none. went-stuck c.args.self.now c.args.i no;
    }

pub returns-in-Running : goal.returns-in-Running
returns-in-Running c =
    let m : may c.args.self.now.board.rules c.args.self.now.board.state c.args.i ≡ true =
    subst (λ (x : World). may x.board.rules x.board.state c.args.i ≡ true) c.self.view_is (sym c.if-not-may.ensures) in
    record {
      after = c.make_row.ensures.after;
      count = c.make_row.ensures.count;
      most = c.make_row.ensures.most;
      falls = λ some. subst (λ (x : World). all_left x < all_left c.args.self.now) (sym c.make_row.ensures.after)
          (row-falls c.args.self.now c.args.i c.make_row.result (record { ready = c.make_row.ensures.ready; laid = c.make_row.ensures.laid }) m some);
      one = λ single. let n : c.make_row.result ≡ 1 = omega (arith, single, c.make_row.ensures.some, c.make_row.ensures.most) in
          c.make_row.ensures.after ∙ ap (λ k. go_all c.args.self.now (replicate k c.args.i)) n;
      answer = (λ some. m, λ yes. c.make_row.ensures.some);
      idle = λ none. absurd (omega (arith, none, c.make_row.ensures.some));
    }

pub returns-in_default : goal.returns-in_default
returns-in_default c =
    let m : may c.args.self.now.board.rules c.args.self.now.board.state c.args.i ≡ true =
    subst (λ (x : World). may x.board.rules x.board.state c.args.i ≡ true) c.self.view_is (sym c.if-not-may.ensures) in
    record {
      after = c.make_rest.ensures.after;
      count = sym (ap (λ n. row_count c.args.self.now c.args.i n) (limit-rests (lane_of c.args.self.now c.args.i).phase c.args.limit c.make_rest.ensures.rests) ∙ count-one c.args.self.now c.args.i m);
      most = c.requires.some;
      falls = λ some. subst (λ (x : World). all_left x < all_left c.args.self.now) (sym c.make_rest.ensures.after)
          (go_falls c.args.self.now c.args.i c.make_rest.ensures.ready (may-goes c.args.self.now c.args.i m));
      one = λ single. c.make_rest.ensures.after;
      answer = (λ some. m, λ yes. omega arith);
      idle = λ none. absurd (omega (arith, none));
    }
