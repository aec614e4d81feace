use Rattle.std.proofs.Common.{◌≡◌, ◌∙◌, ◌+◌, ◌-◌, ◌*◌, ◌/◌, ◌%◌, ◌<◌, ◌≤◌, length, ap, arith, sym}
use Rattle.std.specs.Prelude.{slice_index, slice_index_or}
use Rattle.std.proofs.lemmas.Grind.{get_or_default_zero}
use Rattle.gstage.specs.Stage.{placed_among}
use Rattle.gstage.specs.Layout.{placed_by}
use Rattle.gstage.proofs.Maps.{placed_at, placed_far}
use Rattle.gstage.proofs.table.GTableSecondStage.place.Goals as goal

pub returns-then-offset-ge-RAM_MOST : goal.returns-then-offset-ge-RAM_MOST
returns-then-offset-ge-RAM_MOST c = sym (placed_far c.self.inside c.args.self.now c.args.at c.self.view_is c.self.invariant (λ low high. omega (arith, low, high, c.if-offset-ge-RAM_MOST.true)))

pub returns : goal.returns
returns c =
    let low : 2147483648 ≤ c.at.inside.0 = omega (arith, c.if-offset-ge-RAM_MOST.false, c.at.invariant) in
    let is : (c.at.inside.0 + 18446744071562067968) % 18446744073709551616 ≡ c.at.inside.0 - 2147483648 = omega (arith, low, c.at.invariant) in
    let near : c.at.inside.0 - 2147483648 < 67108864 = omega (arith, is, c.if-offset-ge-RAM_MOST.false) in
    let within : 512 * c.self.inside.above + (c.at.inside.0 - 2147483648) / 4096 < length c.self.inside.entries.items = omega (arith, near, c.self.invariant.above, c.self.invariant.table.size) in
    let read : c.index.result.now ≡ slice_index c.self.inside.entries.items (512 * c.self.inside.above + (c.at.inside.0 - 2147483648) / 4096) =
    c.index.ensures ∙ ap (λ n. slice_index_or c.self.inside.entries.items (512 * c.self.inside.above + n / 4096) c.index.result.now) is
    ∙ get_or_default_zero c.self.inside.entries.items (512 * c.self.inside.above + (c.at.inside.0 - 2147483648) / 4096) c.index.result.now within in
    c.placed_by.ensures ∙ ap placed_by read
    ∙ placed_at c.self.inside c.args.self.now c.self.inside.above c.at.inside.0 c.self.view_is c.self.invariant c.self.invariant.above low near
    ∙ ap (λ p. placed_among c.args.self.now.text c.args.self.now.ram p) c.at.view_is
