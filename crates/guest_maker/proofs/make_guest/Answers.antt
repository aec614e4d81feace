use Rattle.std.proofs.Common.{◌≡◌, ℕ, length, ap, sym, subst, ◌∙◌, arith}
use Rattle.guest_input.specs.Accepted.{IsImage, IsSetupFor}
use Rattle.guest_maker.specs.Guest.{guest_image, guest_text}
use Rattle.guest_maker.proofs.Made.{text_is_whole}
use Rattle.guest_maker.proofs.Whole.{image_same, guest_lawful, guest_accepted}
use Rattle.guest_maker.proofs.make_guest.Goals as goal

pub image_of-requires-clause-some : goal.image_of-requires-clause-some
image_of-requires-clause-some c =
    omega (arith, c.in_ok-text.text.ok.0, ap length c.in_ok-text.ensures.text, (text_is_whole c.args.seed).pages.some)

pub image_of-requires-clause-whole : goal.image_of-requires-clause-whole
image_of-requires-clause-whole c =
    omega (arith, c.in_ok-text.text.ok.0, ap length c.in_ok-text.ensures.text, (text_is_whole c.args.seed).pages.whole)

pub image_of-requires-clause-most : goal.image_of-requires-clause-most
image_of-requires-clause-most c =
    omega (arith, c.in_ok-text.text.ok.0, ap length c.in_ok-text.ensures.text, (text_is_whole c.args.seed).pages.most)

pub returns-clause-lawful : goal.returns-clause-lawful
returns-clause-lawful c =
    let image : c.in_ok-image.image ≡ guest_image c.args.seed =
    c.in_ok-image.ensures ∙ image_same _ _ _ _ _ _ c.in_ok-text.ensures.text c.in_ok-task_names.ensures c.in_ok-text.ensures.functions in
    subst IsImage (sym image) (guest_lawful c.args.seed)

pub returns-clause-accepted : goal.returns-clause-accepted
returns-clause-accepted c =
    let image : c.in_ok-image.image ≡ guest_image c.args.seed =
    c.in_ok-image.ensures ∙ image_same _ _ _ _ _ _ c.in_ok-text.ensures.text c.in_ok-task_names.ensures c.in_ok-text.ensures.functions in
    subst (λ i. IsSetupFor i c.guest_setup.result) (sym image)
    (subst (IsSetupFor (guest_image c.args.seed)) (sym c.guest_setup.ensures) (guest_accepted c.args.seed))
