use Rattle.std.proofs.Common.{arith, sym, ◌∙◌, refl, bit_and}
use Rattle.rv_decode.specs.Rows.{rows}
use Rattle.rv_decode.proofs.Known.{decode_known, known_fit, not_it}
use Rattle.rv_decode.proofs.wide.decode_op_32.Goals as goal

-- Addw
pub returns-in-59 : goal.returns-in-59
unfolding rows known_fit
returns-in-59 c = grind (arith, decode_known 0xfe00707f 0x3b c.args.w c.in-59.is)

-- Subw
pub returns-in-1073741883 : goal.returns-in-1073741883
unfolding rows known_fit
returns-in-1073741883 c = grind (arith, decode_known 0xfe00707f 0x4000003b c.args.w c.in-1073741883.is)

-- Sllw
pub returns-in-4155 : goal.returns-in-4155
unfolding rows known_fit
returns-in-4155 c = grind (arith, decode_known 0xfe00707f 0x103b c.args.w c.in-4155.is)

-- Srlw
pub returns-in-20539 : goal.returns-in-20539
unfolding rows known_fit
returns-in-20539 c = grind (arith, decode_known 0xfe00707f 0x503b c.args.w c.in-20539.is)

-- Sraw
pub returns-in-1073762363 : goal.returns-in-1073762363
unfolding rows known_fit
returns-in-1073762363 c = grind (arith, decode_known 0xfe00707f 0x4000503b c.args.w c.in-1073762363.is)

-- Mulw
pub returns-in-33554491 : goal.returns-in-33554491
unfolding rows known_fit
returns-in-33554491 c = grind (arith, decode_known 0xfe00707f 0x200003b c.args.w c.in-33554491.is)

-- Divw
pub returns-in-33570875 : goal.returns-in-33570875
unfolding rows known_fit
returns-in-33570875 c = grind (arith, decode_known 0xfe00707f 0x200403b c.args.w c.in-33570875.is)

-- Divuw
pub returns-in-33574971 : goal.returns-in-33574971
unfolding rows known_fit
returns-in-33574971 c = grind (arith, decode_known 0xfe00707f 0x200503b c.args.w c.in-33574971.is)

-- Remw
pub returns-in-33579067 : goal.returns-in-33579067
unfolding rows known_fit
returns-in-33579067 c = grind (arith, decode_known 0xfe00707f 0x200603b c.args.w c.in-33579067.is)

-- Remuw
pub returns-in-33583163 : goal.returns-in-33583163
unfolding rows known_fit
returns-in-33583163 c = grind (arith, decode_known 0xfe00707f 0x200703b c.args.w c.in-33583163.is)

-- no row
pub returns-in_default : goal.returns-in_default
unfolding rows known_fit
returns-in_default c =
    sym (decode_known 0x7f 0x3b c.args.w c.requires ∙ not_it (bit_and c.args.w 0xfe00707f) 0x3b _ _ (omega arith)
    (not_it (bit_and c.args.w 0xfe00707f) 0x4000003b _ _ (omega arith)
    (not_it (bit_and c.args.w 0xfe00707f) 0x103b _ _ (omega arith)
    (not_it (bit_and c.args.w 0xfe00707f) 0x503b _ _ (omega arith)
    (not_it (bit_and c.args.w 0xfe00707f) 0x4000503b _ _ (omega arith)
    (not_it (bit_and c.args.w 0xfe00707f) 0x200003b _ _ (omega arith)
    (not_it (bit_and c.args.w 0xfe00707f) 0x200403b _ _ (omega arith)
    (not_it (bit_and c.args.w 0xfe00707f) 0x200503b _ _ (omega arith)
    (not_it (bit_and c.args.w 0xfe00707f) 0x200603b _ _ (omega arith)
    (not_it (bit_and c.args.w 0xfe00707f) 0x200703b _ _ (omega arith)
    (refl)))))))))))
