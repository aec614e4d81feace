use Rattle.std.proofs.Common.{◌≡◌, arith, refl, bit_and}
use Rattle.std.proofs.lemmas.Nat.Bits.{and_high}
use Rattle.std.proofs.lemmas.Bool.Decides.{nat_tests}
use Rattle.rv_decode.specs.Rows.{compressed_rows}
use Rattle.rv_decode.specs.Fields.{bits_of}
use Rattle.rv_decode.specs.CompressedFields.{full_of, source_of}
use Rattle.rv_decode.proofs.Known.{decode16_known, known_fit, and_join, field_known, known_field}
use Rattle.rv_decode.proofs.compressed.decode_move_or_jump.Goals as goal

pub returns-then-second-ne0 : goal.returns-then-second-ne0
unfolding compressed_rows known_fit
returns-then-second-ne0 c =
    let top : bit_and c.args.h 0xf003 ≡ 0x8002 = and_join c.args.h 0xe003 0x8002 0x1000 0 c.requires c.if-h-eq0.true in
    grind (
      arith,
      nat_tests,
      decode16_known 0xf003 0x8002 c.args.h top,
      (λ (e : bit_and c.args.h 0xf07f ≡ 0x8002). known_field c.args.h 0xf07f 0x8002 2 5 e refl),
      (λ (e : bit_and c.args.h 0xffff ≡ 0x8002). known_field c.args.h 0xffff 0x8002 2 5 e refl),
    )

pub returns-then-first-ne0 : goal.returns-then-first-ne0
unfolding compressed_rows known_fit
returns-then-first-ne0 c =
    let top : bit_and c.args.h 0xf003 ≡ 0x8002 = and_join c.args.h 0xe003 0x8002 0x1000 0 c.requires c.if-h-eq0.true in
    let none : source_of c.args.h ≡ 0 = omega arith in
    let both : bit_and c.args.h 0xf07f ≡ 0x8002 = and_join c.args.h 0xf003 0x8002 0x7c 0 top (field_known c.args.h 2 5 0 none) in
    grind (arith, nat_tests, decode16_known 0xf07f 0x8002 c.args.h both)

pub returns-else-first-ne0 : goal.returns-else-first-ne0
unfolding compressed_rows known_fit
returns-else-first-ne0 c =
    let top : bit_and c.args.h 0xf003 ≡ 0x8002 = and_join c.args.h 0xe003 0x8002 0x1000 0 c.requires c.if-h-eq0.true in
    let none : source_of c.args.h ≡ 0 = omega arith in
    let both : bit_and c.args.h 0xf07f ≡ 0x8002 = and_join c.args.h 0xf003 0x8002 0x7c 0 top (field_known c.args.h 2 5 0 none) in
    grind (arith, nat_tests, decode16_known 0xf07f 0x8002 c.args.h both)

pub returns-then-second-ne0-2 : goal.returns-then-second-ne0-2
unfolding compressed_rows known_fit
returns-then-second-ne0-2 c =
    let one : bits_of c.args.h 12 1 ≡ 1 = omega (arith, and_high c.args.h 1 12, c.if-h-eq0.false) in
    let top : bit_and c.args.h 0xf003 ≡ 0x9002 = and_join c.args.h 0xe003 0x8002 0x1000 0x1000 c.requires (field_known c.args.h 12 1 1 one) in
    grind (
      arith,
      nat_tests,
      decode16_known 0xf003 0x9002 c.args.h top,
      (λ (e : bit_and c.args.h 0xf07f ≡ 0x9002). known_field c.args.h 0xf07f 0x9002 2 5 e refl),
      (λ (e : bit_and c.args.h 0xffff ≡ 0x9002). known_field c.args.h 0xffff 0x9002 2 5 e refl),
    )

pub returns-then-first-ne0-2 : goal.returns-then-first-ne0-2
unfolding compressed_rows known_fit
returns-then-first-ne0-2 c =
    let one : bits_of c.args.h 12 1 ≡ 1 = omega (arith, and_high c.args.h 1 12, c.if-h-eq0.false) in
    let top : bit_and c.args.h 0xf003 ≡ 0x9002 = and_join c.args.h 0xe003 0x8002 0x1000 0x1000 c.requires (field_known c.args.h 12 1 1 one) in
    let none : source_of c.args.h ≡ 0 = omega arith in
    let both : bit_and c.args.h 0xf07f ≡ 0x9002 = and_join c.args.h 0xf003 0x9002 0x7c 0 top (field_known c.args.h 2 5 0 none) in
    grind (
      arith,
      nat_tests,
      decode16_known 0xf07f 0x9002 c.args.h both,
      (λ (e : bit_and c.args.h 0xffff ≡ 0x9002). known_field c.args.h 0xffff 0x9002 7 5 e refl),
    )

pub returns-else-first-ne0-2 : goal.returns-else-first-ne0-2
unfolding compressed_rows known_fit
returns-else-first-ne0-2 c =
    let one : bits_of c.args.h 12 1 ≡ 1 = omega (arith, and_high c.args.h 1 12, c.if-h-eq0.false) in
    let top : bit_and c.args.h 0xf003 ≡ 0x9002 = and_join c.args.h 0xe003 0x8002 0x1000 0x1000 c.requires (field_known c.args.h 12 1 1 one) in
    let none : source_of c.args.h ≡ 0 = omega arith in
    let both : bit_and c.args.h 0xf07f ≡ 0x9002 = and_join c.args.h 0xf003 0x9002 0x7c 0 top (field_known c.args.h 2 5 0 none) in
    let no : full_of c.args.h ≡ 0 = omega arith in
    let all : bit_and c.args.h 0xffff ≡ 0x9002 = and_join c.args.h 0xf07f 0x9002 0xf80 0 both (field_known c.args.h 7 5 0 no) in
    grind (arith, nat_tests, decode16_known 0xffff 0x9002 c.args.h all)
