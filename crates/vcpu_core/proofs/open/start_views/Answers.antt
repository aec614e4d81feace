use Rattle.std.proofs.Common.{◌≡◌, ◌+◌, ◌∙◌, ap, arith, length}
use Rattle.std.proofs.lemmas.Grind.{common_steps}
use Rattle.vcpu_core.specs.First.{first_paged_views}
use Rattle.vcpu_core.proofs.open.start_views.Goals as goal

pub returns : goal.returns
returns c = λ setup.
    let all : c.loop-v.v ≡ length c.args.profile.now.apps + 1 = grind (arith, common_steps) in
    c.loop-v.invariant setup ∙ ap (λ n. first_paged_views (record { image = c.args.image.now; setup = setup; views = c.args.profile.now }) n) all
