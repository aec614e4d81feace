use Rattle.std.proofs.Common.{◌≡◌, ◌-◌, ◌+◌, ◌++◌, ◌∷◌, [], ap, subst, ◌∙◌, arith}
use Rattle.std.specs.Prelude.{codes}
use Rattle.guest_maker.specs.declared.hostile.TheConstants.{HEAD, HALVES_FROM, HALVES}
use Rattle.guest_maker.specs.Hostile.{halves, functions_at, hostile_text, hostile_functions}
use Rattle.guest_maker.specs.Program.{function_at_offset}
use Rattle.guest_maker.proofs.Hostiles.{half_bytes, text_step, functions_step, text_end, functions_end}
use Rattle.guest_maker.proofs.hostile.draw_hostile.Goals as goal

pub loop-number-preserved : goal.loop-number-preserved
loop-number-preserved c =
    let k = c.loop-number.number in
    let m = HALVES_FROM + HALVES - k in
    let s = c.loop-number.generator in
    let after_s = c.push_half.new.generator in
    let one : m - 1 ≡ HALVES_FROM + HALVES - (k + 1) = omega arith in (
      subst (λ n. c.push_half.new.made.text.items ++ half_bytes (halves n after_s) ≡ HEAD ++ half_bytes (halves HALVES c.new-generator.result)) one
          (text_step _ _ _ m s after_s (omega arith) c.in_ok-push_half.ensures.text c.in_ok-push_half.ensures.state c.loop-number.invariant.0),
      subst (λ n. c.push_half.new.made.functions ++ functions_at n (k + 1) after_s ≡ function_at_offset 0 (codes "boot") ∷ functions_at HALVES HALVES_FROM c.new-generator.result) one
          (functions_step _ _ _ m k s after_s (omega arith) c.in_ok-push_half.ensures.functions c.in_ok-push_half.ensures.state c.loop-number.invariant.1),
    )

pub returns-clause-text : goal.returns-clause-text
unfolding hostile_text
returns-clause-text c =
    text_end _ _ (HALVES_FROM + HALVES - c.loop-number.number) c.loop-number.generator (omega arith) c.loop-number.invariant.0
    ∙ ap (λ s. HEAD ++ half_bytes (halves HALVES s)) c.new-generator.ensures

pub returns-clause-functions : goal.returns-clause-functions
unfolding hostile_functions
returns-clause-functions c =
    functions_end _ _ (HALVES_FROM + HALVES - c.loop-number.number) c.loop-number.number c.loop-number.generator (omega arith) c.loop-number.invariant.1
    ∙ ap (λ s. function_at_offset 0 (codes "boot") ∷ functions_at HALVES HALVES_FROM s) c.new-generator.ensures
