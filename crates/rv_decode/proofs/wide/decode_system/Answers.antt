use Rattle.std.proofs.Common.{arith, sym, ◌∙◌, refl, bit_and}
use Rattle.std.proofs.lemmas.Int.{to_z-of_z}
use Rattle.rv_decode.specs.Rows.{rows}
use Rattle.rv_decode.proofs.Known.{decode_known, known_fit, not_it, and_all}
use Rattle.rv_decode.proofs.wide.decode_system.Goals as goal

-- Ecall
pub returns-in-115 : goal.returns-in-115
unfolding rows known_fit
returns-in-115 c = sym (decode_known 0xffffffff 0x73 c.args.w (and_all c.args.w (omega arith) ∙ c.in-115.is))

-- Ebreak
pub returns-in-1048691 : goal.returns-in-1048691
unfolding rows known_fit
returns-in-1048691 c = sym (decode_known 0xffffffff 0x100073 c.args.w (and_all c.args.w (omega arith) ∙ c.in-1048691.is))

-- Sret
pub returns-in-270532723 : goal.returns-in-270532723
unfolding rows known_fit
returns-in-270532723 c = sym (decode_known 0xffffffff 0x10200073 c.args.w (and_all c.args.w (omega arith) ∙ c.in-270532723.is))

-- Wfi
pub returns-in-273678451 : goal.returns-in-273678451
unfolding rows known_fit
returns-in-273678451 c = sym (decode_known 0xffffffff 0x10500073 c.args.w (and_all c.args.w (omega arith) ∙ c.in-273678451.is))

-- SfenceVma
pub returns-in-301990003 : goal.returns-in-301990003
unfolding rows known_fit
returns-in-301990003 c = grind (arith, decode_known 0xfe007fff 0x12000073 c.args.w c.in-301990003.is)

-- Csrrw
pub returns-in-4211 : goal.returns-in-4211
unfolding rows known_fit
returns-in-4211 c = grind (arith, decode_known 0x707f 0x1073 c.args.w c.in-4211.is)

-- Csrrs
pub returns-in-8307 : goal.returns-in-8307
unfolding rows known_fit
returns-in-8307 c = grind (arith, decode_known 0x707f 0x2073 c.args.w c.in-8307.is)

-- Csrrc
pub returns-in-12403 : goal.returns-in-12403
unfolding rows known_fit
returns-in-12403 c = grind (arith, decode_known 0x707f 0x3073 c.args.w c.in-12403.is)

-- Csrrwi
pub returns-in-20595 : goal.returns-in-20595
unfolding rows known_fit
returns-in-20595 c = grind (arith, to_z-of_z, decode_known 0x707f 0x5073 c.args.w c.in-20595.is)

-- Csrrsi
pub returns-in-24691 : goal.returns-in-24691
unfolding rows known_fit
returns-in-24691 c = grind (arith, to_z-of_z, decode_known 0x707f 0x6073 c.args.w c.in-24691.is)

-- Csrrci
pub returns-in-28787 : goal.returns-in-28787
unfolding rows known_fit
returns-in-28787 c = grind (arith, to_z-of_z, decode_known 0x707f 0x7073 c.args.w c.in-28787.is)

-- no row
pub returns-in_default-w : goal.returns-in_default-w
unfolding rows known_fit
returns-in_default-w c =
    sym (decode_known 0x7f 0x73 c.args.w c.requires ∙ not_it (bit_and c.args.w 0xffffffff) 0x73 _ _ (omega (arith, and_all c.args.w (omega arith)))
    (not_it (bit_and c.args.w 0xffffffff) 0x100073 _ _ (omega (arith, and_all c.args.w (omega arith)))
    (not_it (bit_and c.args.w 0xffffffff) 0x10200073 _ _ (omega (arith, and_all c.args.w (omega arith)))
    (not_it (bit_and c.args.w 0xffffffff) 0x10500073 _ _ (omega (arith, and_all c.args.w (omega arith)))
    (not_it (bit_and c.args.w 0xfe007fff) 0x12000073 _ _ (omega arith)
    (not_it (bit_and c.args.w 0x707f) 0x1073 _ _ (omega arith)
    (not_it (bit_and c.args.w 0x707f) 0x2073 _ _ (omega arith)
    (not_it (bit_and c.args.w 0x707f) 0x3073 _ _ (omega arith)
    (not_it (bit_and c.args.w 0x707f) 0x5073 _ _ (omega arith)
    (not_it (bit_and c.args.w 0x707f) 0x6073 _ _ (omega arith)
    (not_it (bit_and c.args.w 0x707f) 0x7073 _ _ (omega arith)
    (refl))))))))))))
