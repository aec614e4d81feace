use Rattle.std.proofs.Common.{arith, sym, ◌∙◌, refl, bit_and}
use Rattle.rv_decode.specs.Rows.{rows}
use Rattle.rv_decode.proofs.Known.{decode_known, known_fit, not_it}
use Rattle.rv_decode.proofs.wide.decode_op.Goals as goal

-- Add
pub returns-in-51 : goal.returns-in-51
unfolding rows known_fit
returns-in-51 c = grind (arith, decode_known 0xfe00707f 0x33 c.args.w c.in-51.is)

-- Sub
pub returns-in-1073741875 : goal.returns-in-1073741875
unfolding rows known_fit
returns-in-1073741875 c = grind (arith, decode_known 0xfe00707f 0x40000033 c.args.w c.in-1073741875.is)

-- Sll
pub returns-in-4147 : goal.returns-in-4147
unfolding rows known_fit
returns-in-4147 c = grind (arith, decode_known 0xfe00707f 0x1033 c.args.w c.in-4147.is)

-- Slt
pub returns-in-8243 : goal.returns-in-8243
unfolding rows known_fit
returns-in-8243 c = grind (arith, decode_known 0xfe00707f 0x2033 c.args.w c.in-8243.is)

-- Sltu
pub returns-in-12339 : goal.returns-in-12339
unfolding rows known_fit
returns-in-12339 c = grind (arith, decode_known 0xfe00707f 0x3033 c.args.w c.in-12339.is)

-- Xor
pub returns-in-16435 : goal.returns-in-16435
unfolding rows known_fit
returns-in-16435 c = grind (arith, decode_known 0xfe00707f 0x4033 c.args.w c.in-16435.is)

-- Srl
pub returns-in-20531 : goal.returns-in-20531
unfolding rows known_fit
returns-in-20531 c = grind (arith, decode_known 0xfe00707f 0x5033 c.args.w c.in-20531.is)

-- Sra
pub returns-in-1073762355 : goal.returns-in-1073762355
unfolding rows known_fit
returns-in-1073762355 c = grind (arith, decode_known 0xfe00707f 0x40005033 c.args.w c.in-1073762355.is)

-- Or
pub returns-in-24627 : goal.returns-in-24627
unfolding rows known_fit
returns-in-24627 c = grind (arith, decode_known 0xfe00707f 0x6033 c.args.w c.in-24627.is)

-- And
pub returns-in-28723 : goal.returns-in-28723
unfolding rows known_fit
returns-in-28723 c = grind (arith, decode_known 0xfe00707f 0x7033 c.args.w c.in-28723.is)

-- Mul
pub returns-in-33554483 : goal.returns-in-33554483
unfolding rows known_fit
returns-in-33554483 c = grind (arith, decode_known 0xfe00707f 0x2000033 c.args.w c.in-33554483.is)

-- Mulh
pub returns-in-33558579 : goal.returns-in-33558579
unfolding rows known_fit
returns-in-33558579 c = grind (arith, decode_known 0xfe00707f 0x2001033 c.args.w c.in-33558579.is)

-- Mulhsu
pub returns-in-33562675 : goal.returns-in-33562675
unfolding rows known_fit
returns-in-33562675 c = grind (arith, decode_known 0xfe00707f 0x2002033 c.args.w c.in-33562675.is)

-- Mulhu
pub returns-in-33566771 : goal.returns-in-33566771
unfolding rows known_fit
returns-in-33566771 c = grind (arith, decode_known 0xfe00707f 0x2003033 c.args.w c.in-33566771.is)

-- Div
pub returns-in-33570867 : goal.returns-in-33570867
unfolding rows known_fit
returns-in-33570867 c = grind (arith, decode_known 0xfe00707f 0x2004033 c.args.w c.in-33570867.is)

-- Divu
pub returns-in-33574963 : goal.returns-in-33574963
unfolding rows known_fit
returns-in-33574963 c = grind (arith, decode_known 0xfe00707f 0x2005033 c.args.w c.in-33574963.is)

-- Rem
pub returns-in-33579059 : goal.returns-in-33579059
unfolding rows known_fit
returns-in-33579059 c = grind (arith, decode_known 0xfe00707f 0x2006033 c.args.w c.in-33579059.is)

-- Remu
pub returns-in-33583155 : goal.returns-in-33583155
unfolding rows known_fit
returns-in-33583155 c = grind (arith, decode_known 0xfe00707f 0x2007033 c.args.w c.in-33583155.is)

-- no row
pub returns-in_default : goal.returns-in_default
unfolding rows known_fit
returns-in_default c =
    sym (decode_known 0x7f 0x33 c.args.w c.requires ∙ not_it (bit_and c.args.w 0xfe00707f) 0x33 _ _ (omega arith)
    (not_it (bit_and c.args.w 0xfe00707f) 0x40000033 _ _ (omega arith)
    (not_it (bit_and c.args.w 0xfe00707f) 0x1033 _ _ (omega arith)
    (not_it (bit_and c.args.w 0xfe00707f) 0x2033 _ _ (omega arith)
    (not_it (bit_and c.args.w 0xfe00707f) 0x3033 _ _ (omega arith)
    (not_it (bit_and c.args.w 0xfe00707f) 0x4033 _ _ (omega arith)
    (not_it (bit_and c.args.w 0xfe00707f) 0x5033 _ _ (omega arith)
    (not_it (bit_and c.args.w 0xfe00707f) 0x40005033 _ _ (omega arith)
    (not_it (bit_and c.args.w 0xfe00707f) 0x6033 _ _ (omega arith)
    (not_it (bit_and c.args.w 0xfe00707f) 0x7033 _ _ (omega arith)
    (not_it (bit_and c.args.w 0xfe00707f) 0x2000033 _ _ (omega arith)
    (not_it (bit_and c.args.w 0xfe00707f) 0x2001033 _ _ (omega arith)
    (not_it (bit_and c.args.w 0xfe00707f) 0x2002033 _ _ (omega arith)
    (not_it (bit_and c.args.w 0xfe00707f) 0x2003033 _ _ (omega arith)
    (not_it (bit_and c.args.w 0xfe00707f) 0x2004033 _ _ (omega arith)
    (not_it (bit_and c.args.w 0xfe00707f) 0x2005033 _ _ (omega arith)
    (not_it (bit_and c.args.w 0xfe00707f) 0x2006033 _ _ (omega arith)
    (not_it (bit_and c.args.w 0xfe00707f) 0x2007033 _ _ (omega arith)
    (refl)))))))))))))))))))
