use Rattle.std.proofs.Common.{◌≡◌, List, ◌++◌, [], ◌∷◌, ap, sym, subst, ◌∙◌, arith, append_assoc}
use Rattle.guest_maker.specs.Program.{Routine, IsProgram, numbered, state_at, drawn_routine, behind_routine}
use Rattle.guest_maker.proofs.Growing.{numbered-none, numbered-more, state_at-none, state_at-more}
use Rattle.guest_maker.proofs.program.push_all_drawn.Goals as goal

pub loop-number-init : goal.loop-number-init
loop-number-init c =
    (λ rs h. subst (IsProgram c.args.program.now) (numbered-none rs c.args.generator.now) h, state_at-none c.args.generator.now, c.requires)

pub loop-number-preserved : goal.loop-number-preserved
loop-number-preserved c =
    let n = c.loop-number.number in
    let s = c.args.generator.now in (
      λ rs h. subst (IsProgram c.push_drawn.new.program)
          (append_assoc rs (numbered n s) (drawn_routine n c.loop-number.generator ∷ [])
          ∙ ap (λ g. rs ++ (numbered n s ++ drawn_routine n g ∷ [])) c.loop-number.invariant.1
          ∙ ap (λ more. rs ++ more) (sym (numbered-more n s)))
          (c.in_ok-push_drawn.ensures.program (rs ++ numbered n s) (c.loop-number.invariant.0 rs h)),
      c.in_ok-push_drawn.ensures.state ∙ ap (behind_routine n) c.loop-number.invariant.1 ∙ sym (state_at-more n s),
      omega (arith, c.loop-number.invariant.2, c.in_ok-push_drawn.ensures.size),
    )
