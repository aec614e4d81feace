use Rattle.std.proofs.Common.{◌≡◌, ℕ, [], length, ap, sym, subst, ◌∙◌, arith}
use Rattle.guest_input.specs.Accepted.{IsImage, IsSetupFor}
use Rattle.guest_maker.specs.Hostile.{hostile_text}
use Rattle.guest_maker.specs.Guest.{hostile_image}
use Rattle.guest_maker.proofs.Hostiles.{length-hostile_text}
use Rattle.guest_maker.proofs.Whole.{image_same, hostile_lawful, hostile_accepted}
use Rattle.guest_maker.proofs.make_hostile.Goals as goal

pub image_of-requires-clause-some : goal.image_of-requires-clause-some
image_of-requires-clause-some c =
    omega (arith, c.in_ok-text.field-0.text.ok.0, ap length c.in_ok-text.ensures.text, length-hostile_text c.args.seed)

pub image_of-requires-clause-whole : goal.image_of-requires-clause-whole
image_of-requires-clause-whole c =
    omega (arith, c.in_ok-text.field-0.text.ok.0, ap length c.in_ok-text.ensures.text, length-hostile_text c.args.seed)

pub image_of-requires-clause-most : goal.image_of-requires-clause-most
image_of-requires-clause-most c =
    omega (arith, c.in_ok-text.field-0.text.ok.0, ap length c.in_ok-text.ensures.text, length-hostile_text c.args.seed)

pub returns-clause-lawful : goal.returns-clause-lawful
returns-clause-lawful c =
    let image : c.in_ok-image.image ≡ hostile_image c.args.seed =
    c.in_ok-image.ensures ∙ image_same _ _ _ _ _ _ c.in_ok-text.ensures.text c.new.ensures c.in_ok-text.ensures.functions in
    subst IsImage (sym image) (hostile_lawful c.args.seed)

pub returns-clause-accepted : goal.returns-clause-accepted
returns-clause-accepted c =
    let image : c.in_ok-image.image ≡ hostile_image c.args.seed =
    c.in_ok-image.ensures ∙ image_same _ _ _ _ _ _ c.in_ok-text.ensures.text c.new.ensures c.in_ok-text.ensures.functions in
    subst (λ i. IsSetupFor i c.hostile_setup.result) (sym image)
    (subst (IsSetupFor (hostile_image c.args.seed)) (sym c.hostile_setup.ensures) (hostile_accepted c.args.seed))
