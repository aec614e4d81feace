use Rattle.std.proofs.Common.{arith, sym, ◌∙◌, refl, bit_and}
use Rattle.rv_decode.specs.Rows.{rows}
use Rattle.rv_decode.proofs.Known.{decode_known, known_fit, not_it}
use Rattle.rv_decode.proofs.wide.decode_amo.Goals as goal

-- LrW
pub returns-in-268443695 : goal.returns-in-268443695
unfolding rows known_fit
returns-in-268443695 c = grind (arith, decode_known 0xf9f0707f 0x1000202f c.args.w c.in-268443695.is)

-- ScW
pub returns-in-402661423 : goal.returns-in-402661423
unfolding rows known_fit
returns-in-402661423 c = grind (arith, decode_known 0xf800707f 0x1800202f c.args.w c.in-402661423.is)

-- AmoswapW
pub returns-in-134225967 : goal.returns-in-134225967
unfolding rows known_fit
returns-in-134225967 c = grind (arith, decode_known 0xf800707f 0x800202f c.args.w c.in-134225967.is)

-- AmoaddW
pub returns-in-8239 : goal.returns-in-8239
unfolding rows known_fit
returns-in-8239 c = grind (arith, decode_known 0xf800707f 0x202f c.args.w c.in-8239.is)

-- AmoxorW
pub returns-in-536879151 : goal.returns-in-536879151
unfolding rows known_fit
returns-in-536879151 c = grind (arith, decode_known 0xf800707f 0x2000202f c.args.w c.in-536879151.is)

-- AmoandW
pub returns-in-1610620975 : goal.returns-in-1610620975
unfolding rows known_fit
returns-in-1610620975 c = grind (arith, decode_known 0xf800707f 0x6000202f c.args.w c.in-1610620975.is)

-- AmoorW
pub returns-in-1073750063 : goal.returns-in-1073750063
unfolding rows known_fit
returns-in-1073750063 c = grind (arith, decode_known 0xf800707f 0x4000202f c.args.w c.in-1073750063.is)

-- AmominW
pub returns-in-2147491887 : goal.returns-in-2147491887
unfolding rows known_fit
returns-in-2147491887 c = grind (arith, decode_known 0xf800707f 0x8000202f c.args.w c.in-2147491887.is)

-- AmomaxW
pub returns-in-2684362799 : goal.returns-in-2684362799
unfolding rows known_fit
returns-in-2684362799 c = grind (arith, decode_known 0xf800707f 0xa000202f c.args.w c.in-2684362799.is)

-- AmominuW
pub returns-in-3221233711 : goal.returns-in-3221233711
unfolding rows known_fit
returns-in-3221233711 c = grind (arith, decode_known 0xf800707f 0xc000202f c.args.w c.in-3221233711.is)

-- AmomaxuW
pub returns-in-3758104623 : goal.returns-in-3758104623
unfolding rows known_fit
returns-in-3758104623 c = grind (arith, decode_known 0xf800707f 0xe000202f c.args.w c.in-3758104623.is)

-- LrD
pub returns-in-268447791 : goal.returns-in-268447791
unfolding rows known_fit
returns-in-268447791 c = grind (arith, decode_known 0xf9f0707f 0x1000302f c.args.w c.in-268447791.is)

-- ScD
pub returns-in-402665519 : goal.returns-in-402665519
unfolding rows known_fit
returns-in-402665519 c = grind (arith, decode_known 0xf800707f 0x1800302f c.args.w c.in-402665519.is)

-- AmoswapD
pub returns-in-134230063 : goal.returns-in-134230063
unfolding rows known_fit
returns-in-134230063 c = grind (arith, decode_known 0xf800707f 0x800302f c.args.w c.in-134230063.is)

-- AmoaddD
pub returns-in-12335 : goal.returns-in-12335
unfolding rows known_fit
returns-in-12335 c = grind (arith, decode_known 0xf800707f 0x302f c.args.w c.in-12335.is)

-- AmoxorD
pub returns-in-536883247 : goal.returns-in-536883247
unfolding rows known_fit
returns-in-536883247 c = grind (arith, decode_known 0xf800707f 0x2000302f c.args.w c.in-536883247.is)

-- AmoandD
pub returns-in-1610625071 : goal.returns-in-1610625071
unfolding rows known_fit
returns-in-1610625071 c = grind (arith, decode_known 0xf800707f 0x6000302f c.args.w c.in-1610625071.is)

-- AmoorD
pub returns-in-1073754159 : goal.returns-in-1073754159
unfolding rows known_fit
returns-in-1073754159 c = grind (arith, decode_known 0xf800707f 0x4000302f c.args.w c.in-1073754159.is)

-- AmominD
pub returns-in-2147495983 : goal.returns-in-2147495983
unfolding rows known_fit
returns-in-2147495983 c = grind (arith, decode_known 0xf800707f 0x8000302f c.args.w c.in-2147495983.is)

-- AmomaxD
pub returns-in-2684366895 : goal.returns-in-2684366895
unfolding rows known_fit
returns-in-2684366895 c = grind (arith, decode_known 0xf800707f 0xa000302f c.args.w c.in-2684366895.is)

-- AmominuD
pub returns-in-3221237807 : goal.returns-in-3221237807
unfolding rows known_fit
returns-in-3221237807 c = grind (arith, decode_known 0xf800707f 0xc000302f c.args.w c.in-3221237807.is)

-- AmomaxuD
pub returns-in-3758108719 : goal.returns-in-3758108719
unfolding rows known_fit
returns-in-3758108719 c = grind (arith, decode_known 0xf800707f 0xe000302f c.args.w c.in-3758108719.is)

-- no row
pub returns-in_default-2 : goal.returns-in_default-2
unfolding rows known_fit
returns-in_default-2 c =
    sym (decode_known 0x7f 0x2f c.args.w c.requires ∙ not_it (bit_and c.args.w 0xf9f0707f) 0x1000202f _ _ (omega arith)
    (not_it (bit_and c.args.w 0xf800707f) 0x1800202f _ _ (omega arith)
    (not_it (bit_and c.args.w 0xf800707f) 0x800202f _ _ (omega arith)
    (not_it (bit_and c.args.w 0xf800707f) 0x202f _ _ (omega arith)
    (not_it (bit_and c.args.w 0xf800707f) 0x2000202f _ _ (omega arith)
    (not_it (bit_and c.args.w 0xf800707f) 0x6000202f _ _ (omega arith)
    (not_it (bit_and c.args.w 0xf800707f) 0x4000202f _ _ (omega arith)
    (not_it (bit_and c.args.w 0xf800707f) 0x8000202f _ _ (omega arith)
    (not_it (bit_and c.args.w 0xf800707f) 0xa000202f _ _ (omega arith)
    (not_it (bit_and c.args.w 0xf800707f) 0xc000202f _ _ (omega arith)
    (not_it (bit_and c.args.w 0xf800707f) 0xe000202f _ _ (omega arith)
    (not_it (bit_and c.args.w 0xf9f0707f) 0x1000302f _ _ (omega arith)
    (not_it (bit_and c.args.w 0xf800707f) 0x1800302f _ _ (omega arith)
    (not_it (bit_and c.args.w 0xf800707f) 0x800302f _ _ (omega arith)
    (not_it (bit_and c.args.w 0xf800707f) 0x302f _ _ (omega arith)
    (not_it (bit_and c.args.w 0xf800707f) 0x2000302f _ _ (omega arith)
    (not_it (bit_and c.args.w 0xf800707f) 0x6000302f _ _ (omega arith)
    (not_it (bit_and c.args.w 0xf800707f) 0x4000302f _ _ (omega arith)
    (not_it (bit_and c.args.w 0xf800707f) 0x8000302f _ _ (omega arith)
    (not_it (bit_and c.args.w 0xf800707f) 0xa000302f _ _ (omega arith)
    (not_it (bit_and c.args.w 0xf800707f) 0xc000302f _ _ (omega arith)
    (not_it (bit_and c.args.w 0xf800707f) 0xe000302f _ _ (omega arith)
    (refl)))))))))))))))))))))))
