use Rattle.std.proofs.Common.{◌≡◌, arith, refl}
use Rattle.std.proofs.lemmas.Int.{to_z-of_z}
use Rattle.std.proofs.lemmas.Bool.Decides.{nat_tests}
use Rattle.rv_decode.specs.Rows.{compressed_rows}
use Rattle.rv_decode.specs.CompressedFields.{full_of}
use Rattle.rv_decode.proofs.Known.{decode16_known, known_fit, known_field}
use Rattle.rv_decode.proofs.compressed.decode_upper.Goals as goal

pub returns-then-frame_bits-ne0 : goal.returns-then-frame_bits-ne0
unfolding compressed_rows known_fit
returns-then-frame_bits-ne0 c =
    let two : full_of c.args.h ≡ 2 = known_field c.args.h 0xef83 0x6101 7 5 c.if-h-eq-ADDI16SP.true refl in
    grind (arith, nat_tests, to_z-of_z, decode16_known 0xef83 0x6101 c.args.h c.if-h-eq-ADDI16SP.true)

pub returns-else-frame_bits-ne0 : goal.returns-else-frame_bits-ne0
unfolding compressed_rows known_fit
returns-else-frame_bits-ne0 c =
    let two : full_of c.args.h ≡ 2 = known_field c.args.h 0xef83 0x6101 7 5 c.if-h-eq-ADDI16SP.true refl in
    grind (arith, nat_tests, to_z-of_z, decode16_known 0xef83 0x6101 c.args.h c.if-h-eq-ADDI16SP.true)

pub returns-then-upper_bits-ne0 : goal.returns-then-upper_bits-ne0
unfolding compressed_rows known_fit
returns-then-upper_bits-ne0 c =
    grind (arith, nat_tests, to_z-of_z, decode16_known 0xe003 0x6001 c.args.h c.requires)

pub returns-else-full-ne2 : goal.returns-else-full-ne2
unfolding compressed_rows known_fit
returns-else-full-ne2 c =
    grind (arith, nat_tests, to_z-of_z, decode16_known 0xe003 0x6001 c.args.h c.requires)
