use Rattle.std.proofs.Common.{arith, sym, refl, [], ◌∷◌}
use Rattle.std.proofs.lemmas.Int.{to_z-of_z}
use Rattle.rv_decode.specs.Rows.{rows}
use Rattle.rv_decode.proofs.Known.{decode_known, decode_none, known_fit}
use Rattle.rv_decode.proofs.wide.decode32.Goals as goal

-- Lui
pub returns-in-55 : goal.returns-in-55
unfolding rows known_fit
returns-in-55 c = grind (arith, to_z-of_z, decode_known 0x7f 0x37 c.args.w c.in-55.is)

-- Auipc
pub returns-in-23 : goal.returns-in-23
unfolding rows known_fit
returns-in-23 c = grind (arith, to_z-of_z, decode_known 0x7f 0x17 c.args.w c.in-23.is)

-- Jal
pub returns-in-111 : goal.returns-in-111
unfolding rows known_fit
returns-in-111 c = grind (arith, to_z-of_z, decode_known 0x7f 0x6f c.args.w c.in-111.is)

-- no row
pub returns-in_default : goal.returns-in_default
unfolding rows
returns-in_default c =
    sym (decode_none 0x7f c.args.w (0x37 ∷ 0x17 ∷ 0x6f ∷ 0x67 ∷ 0x63 ∷ 0x3 ∷ 0x23 ∷ 0x13 ∷ 0x1b ∷ 0x33 ∷ 0x3b ∷ 0xf ∷ 0x73 ∷ 0x2f ∷ []) refl
    (omega arith, (omega arith, (omega arith, (omega arith, (omega arith, (omega arith, (omega arith, (omega arith, (omega arith, (omega arith, (omega arith, (omega arith, (omega arith, (omega arith, tt)))))))))))))))
