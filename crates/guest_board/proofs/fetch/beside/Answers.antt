use Rattle.std.proofs.Common.{◌≡◌, ℕ, ◌+◌, ◌%◌, ◌<◌, ◌^◌, sym, subst, arith}
use Rattle.rv_step.specs.declared.vcpu.Vcpu.{Vcpu}
use Rattle.guest_board.specs.declared.fetch.HalfPlace.TheVariants.{In}
use Rattle.guest_board.specs.Fetch.{second_place}
use Rattle.guest_board.specs.FetchFacts.{HalfInside}
use Rattle.guest_board.proofs.Beside.{beside, beside_inside}
use Rattle.guest_board.proofs.fetch.beside.Goals as goal

pub returns-clause-value : goal.returns-clause-value
returns-clause-value c =
    let page : c.args.v.now.pc % 4096 < 4094 = subst (λ (v : Vcpu). v.pc % 4096 < 4094) c.v.view_is c.if-v.false in
    let high : c.args.v.now.pc < 2 ^ 64 = subst (λ (v : Vcpu). v.pc < 2 ^ 64) c.v.view_is (omega arith) in
    subst (λ (n : ℕ). In c.args.text (n + 2) ≡ second_place c.args.v.now c.args.ram.now) (sym c.place.view_is)
    (sym
    (beside c.args.v.now c.args.ram.now c.args.place c.args.text c.translations_go_by_page.ensures c.translations_keep_low_bits.ensures c.text-laid.ensures.laid
    page high c.requires.first))

pub returns-clause-inside : goal.returns-clause-inside
returns-clause-inside c =
    let page : c.args.v.now.pc % 4096 < 4094 = subst (λ (v : Vcpu). v.pc % 4096 < 4094) c.v.view_is c.if-v.false in
    subst (λ (n : ℕ). HalfInside c.args.ram.now (In c.args.text (n + 2))) (sym c.place.view_is)
    (beside_inside c.args.v.now c.args.ram.now c.args.place c.args.text c.translations_keep_low_bits.ensures c.text-laid.ensures.laid page c.requires.first c.requires.inside)
