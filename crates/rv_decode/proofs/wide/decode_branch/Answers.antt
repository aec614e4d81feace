use Rattle.std.proofs.Common.{arith, sym, ◌∙◌, refl, bit_and}
use Rattle.std.proofs.lemmas.Int.{to_z-of_z}
use Rattle.rv_decode.specs.Rows.{rows}
use Rattle.rv_decode.proofs.Known.{decode_known, known_fit, not_it}
use Rattle.rv_decode.proofs.wide.decode_branch.Goals as goal

-- Beq
pub returns-in-99 : goal.returns-in-99
unfolding rows known_fit
returns-in-99 c = grind (arith, to_z-of_z, decode_known 0x707f 0x63 c.args.w c.in-99.is)

-- Bne
pub returns-in-4195 : goal.returns-in-4195
unfolding rows known_fit
returns-in-4195 c = grind (arith, to_z-of_z, decode_known 0x707f 0x1063 c.args.w c.in-4195.is)

-- Blt
pub returns-in-16483 : goal.returns-in-16483
unfolding rows known_fit
returns-in-16483 c = grind (arith, to_z-of_z, decode_known 0x707f 0x4063 c.args.w c.in-16483.is)

-- Bge
pub returns-in-20579 : goal.returns-in-20579
unfolding rows known_fit
returns-in-20579 c = grind (arith, to_z-of_z, decode_known 0x707f 0x5063 c.args.w c.in-20579.is)

-- Bltu
pub returns-in-24675 : goal.returns-in-24675
unfolding rows known_fit
returns-in-24675 c = grind (arith, to_z-of_z, decode_known 0x707f 0x6063 c.args.w c.in-24675.is)

-- Bgeu
pub returns-in-28771 : goal.returns-in-28771
unfolding rows known_fit
returns-in-28771 c = grind (arith, to_z-of_z, decode_known 0x707f 0x7063 c.args.w c.in-28771.is)

-- no row
pub returns-in_default : goal.returns-in_default
unfolding rows known_fit
returns-in_default c =
    sym (decode_known 0x7f 0x63 c.args.w c.requires ∙ not_it (bit_and c.args.w 0x707f) 0x63 _ _ (omega arith)
    (not_it (bit_and c.args.w 0x707f) 0x1063 _ _ (omega arith)
    (not_it (bit_and c.args.w 0x707f) 0x4063 _ _ (omega arith)
    (not_it (bit_and c.args.w 0x707f) 0x5063 _ _ (omega arith)
    (not_it (bit_and c.args.w 0x707f) 0x6063 _ _ (omega arith)
    (not_it (bit_and c.args.w 0x707f) 0x7063 _ _ (omega arith)
    (refl)))))))
