-- What stands behind the digits of an item has no newline.
use Rattle.std.proofs.Common.{◌≡◌, ℕ, suc, Bool, true, false, cond, List, [], ◌∷◌, ◌++◌, Option, Some, None, refl, ap}
use Rattle.std.specs.Prelude.{◌==◌, if◌then◌else◌, not, codes, option_map, ℤ, pos, negsuc}
use Rattle.std.specs.Fmt.{decimal, signed_decimal}
use Rattle.rv_decode.specs.declared.Inst.{Inst}
use Rattle.rv_decode.specs.declared.Inst.TheVariants.{Lui, Auipc, Jal, Jalr, Beq, Bne, Blt, Bge, Bltu, Bgeu, Lb, Lh, Lw, Ld, Lbu, Lhu, Lwu, Sb, Sh, Sw, Sd, Addi, Slti, Sltiu, Xori, Ori, Andi, Addiw, Slli, Srli, Srai, Slliw, Srliw, Sraiw, Add, Sub, Sll, Slt, Sltu, Xor, Srl, Sra, Or, And, Addw, Subw, Sllw, Srlw, Sraw, Mul, Mulh, Mulhsu, Mulhu, Div, Divu, Rem, Remu, Mulw, Divw, Divuw, Remw, Remuw, Fence, FenceI, Ecall, Ebreak, Sret, Wfi, SfenceVma, Csrrw, Csrrs, Csrrc, Csrrwi, Csrrsi, Csrrci, LrW, ScW, AmoswapW, AmoaddW, AmoxorW, AmoandW, AmoorW, AmominW, AmomaxW, AmominuW, AmomaxuW, LrD, ScD, AmoswapD, AmoaddD, AmoxorD, AmoandD, AmoorD, AmominD, AmomaxD, AmominuD, AmomaxuD}
use Rattle.rv_words.specs.Words.{encode_of}
use Rattle.rv_words.specs.Candidates.{candidate_of}
use Rattle.listing_reader.specs.Lines.{cut_at}
use Rattle.listing_reader.specs.Written.{IsOneLine, NumbersAreOneLine}
use Rattle.code_listing.specs.declared.form.Fields.{Fields}
use Rattle.code_listing.specs.Forms.{form_of}
use Rattle.code_listing.specs.Lines.{field_text, fields_text, half_text, instruction_text, is_encoding, word_text}

abbrev pub later_cut : ℕ → Option (List ℕ × List ℕ) → Option (List ℕ × List ℕ)
later_cut x cut = option_map (λ cut. (x ∷ cut.0, cut.1)) cut

abbrev pub first_cut : List ℕ → Option (List ℕ × List ℕ)
first_cut xs = Some ([], xs)

no-cut : (cut : List ℕ × List ℕ) → Some cut ≡ None → ⊥
no-cut cut e = cc

not-later : (x : ℕ) (o : Option (List ℕ × List ℕ)) → later_cut x o ≡ None → o ≡ None
not-later x None e = refl
not-later x (Some cut) e = absurd (no-cut (x ∷ cut.0, cut.1) e)

pub one-append : (xs ys : List ℕ) → IsOneLine xs → IsOneLine ys → IsOneLine (xs ++ ys)
one-append [] ys a b = b
one-append (x ∷ xs) ys a b =
    elim (x == 0x0a) as (λ t. cond t (first_cut xs) (later_cut x (cut_at 0x0a xs)) ≡ None → cond t (first_cut (xs ++ ys)) (later_cut x (cut_at 0x0a (xs ++ ys))) ≡ None) [
      | true ↦ λ a. absurd (no-cut ([], xs) a)
      | false ↦ λ a. ap (later_cut x) (one-append xs ys (not-later x (cut_at 0x0a xs) a) b)
    ] a

signed-line : (n : ℤ) → NumbersAreOneLine → IsOneLine (signed_decimal n)
signed-line (pos n) numbers = numbers 10 n
signed-line (negsuc n) numbers = one-append (45 ∷ []) (decimal (suc n)) refl (numbers 10 (suc n))

field-line : (name : List ℕ) (o : Option ℤ) → NumbersAreOneLine → IsOneLine (codes " " ++ name ++ codes "=") → IsOneLine (field_text name o)
field-line name None numbers one = refl
field-line name (Some n) numbers one = one-append (codes " " ++ name ++ codes "=") (signed_decimal n) one (signed-line n numbers)

fields-line : (f : Fields) → NumbersAreOneLine → IsOneLine (fields_text f)
unfolding fields_text
fields-line f numbers =
    one-append (field_text (codes "rd") f.rd ++ field_text (codes "rs1") f.rs1 ++ field_text (codes "rs2") f.rs2 ++ field_text (codes "imm") f.imm) (field_text (codes "csr") f.csr)
    (one-append (field_text (codes "rd") f.rd ++ field_text (codes "rs1") f.rs1 ++ field_text (codes "rs2") f.rs2) (field_text (codes "imm") f.imm)
    (one-append (field_text (codes "rd") f.rd ++ field_text (codes "rs1") f.rs1) (field_text (codes "rs2") f.rs2)
    (one-append (field_text (codes "rd") f.rd) (field_text (codes "rs1") f.rs1) (field-line (codes "rd") f.rd numbers refl) (field-line (codes "rs1") f.rs1 numbers refl))
    (field-line (codes "rs2") f.rs2 numbers refl)) (field-line (codes "imm") f.imm numbers refl)) (field-line (codes "csr") f.csr numbers refl)

name-line : (i : Inst) → IsOneLine (form_of i).name
unfolding form_of
name-line (Lui rd imm) = refl
name-line (Auipc rd imm) = refl
name-line (Jal rd imm) = refl
name-line (Jalr rd rs1 imm) = refl
name-line (Beq rs1 rs2 imm) = refl
name-line (Bne rs1 rs2 imm) = refl
name-line (Blt rs1 rs2 imm) = refl
name-line (Bge rs1 rs2 imm) = refl
name-line (Bltu rs1 rs2 imm) = refl
name-line (Bgeu rs1 rs2 imm) = refl
name-line (Lb rd rs1 imm) = refl
name-line (Lh rd rs1 imm) = refl
name-line (Lw rd rs1 imm) = refl
name-line (Ld rd rs1 imm) = refl
name-line (Lbu rd rs1 imm) = refl
name-line (Lhu rd rs1 imm) = refl
name-line (Lwu rd rs1 imm) = refl
name-line (Sb rs1 rs2 imm) = refl
name-line (Sh rs1 rs2 imm) = refl
name-line (Sw rs1 rs2 imm) = refl
name-line (Sd rs1 rs2 imm) = refl
name-line (Addi rd rs1 imm) = refl
name-line (Slti rd rs1 imm) = refl
name-line (Sltiu rd rs1 imm) = refl
name-line (Xori rd rs1 imm) = refl
name-line (Ori rd rs1 imm) = refl
name-line (Andi rd rs1 imm) = refl
name-line (Addiw rd rs1 imm) = refl
name-line (Slli rd rs1 imm) = refl
name-line (Srli rd rs1 imm) = refl
name-line (Srai rd rs1 imm) = refl
name-line (Slliw rd rs1 imm) = refl
name-line (Srliw rd rs1 imm) = refl
name-line (Sraiw rd rs1 imm) = refl
name-line (Add rd rs1 rs2) = refl
name-line (Sub rd rs1 rs2) = refl
name-line (Sll rd rs1 rs2) = refl
name-line (Slt rd rs1 rs2) = refl
name-line (Sltu rd rs1 rs2) = refl
name-line (Xor rd rs1 rs2) = refl
name-line (Srl rd rs1 rs2) = refl
name-line (Sra rd rs1 rs2) = refl
name-line (Or rd rs1 rs2) = refl
name-line (And rd rs1 rs2) = refl
name-line (Addw rd rs1 rs2) = refl
name-line (Subw rd rs1 rs2) = refl
name-line (Sllw rd rs1 rs2) = refl
name-line (Srlw rd rs1 rs2) = refl
name-line (Sraw rd rs1 rs2) = refl
name-line (Mul rd rs1 rs2) = refl
name-line (Mulh rd rs1 rs2) = refl
name-line (Mulhsu rd rs1 rs2) = refl
name-line (Mulhu rd rs1 rs2) = refl
name-line (Div rd rs1 rs2) = refl
name-line (Divu rd rs1 rs2) = refl
name-line (Rem rd rs1 rs2) = refl
name-line (Remu rd rs1 rs2) = refl
name-line (Mulw rd rs1 rs2) = refl
name-line (Divw rd rs1 rs2) = refl
name-line (Divuw rd rs1 rs2) = refl
name-line (Remw rd rs1 rs2) = refl
name-line (Remuw rd rs1 rs2) = refl
name-line Fence = refl
name-line FenceI = refl
name-line Ecall = refl
name-line Ebreak = refl
name-line Sret = refl
name-line Wfi = refl
name-line (SfenceVma rs1 rs2) = refl
name-line (Csrrw rd rs1 csr) = refl
name-line (Csrrs rd rs1 csr) = refl
name-line (Csrrc rd rs1 csr) = refl
name-line (Csrrwi rd imm csr) = refl
name-line (Csrrsi rd imm csr) = refl
name-line (Csrrci rd imm csr) = refl
name-line (LrW rd rs1) = refl
name-line (ScW rd rs1 rs2) = refl
name-line (AmoswapW rd rs1 rs2) = refl
name-line (AmoaddW rd rs1 rs2) = refl
name-line (AmoxorW rd rs1 rs2) = refl
name-line (AmoandW rd rs1 rs2) = refl
name-line (AmoorW rd rs1 rs2) = refl
name-line (AmominW rd rs1 rs2) = refl
name-line (AmomaxW rd rs1 rs2) = refl
name-line (AmominuW rd rs1 rs2) = refl
name-line (AmomaxuW rd rs1 rs2) = refl
name-line (LrD rd rs1) = refl
name-line (ScD rd rs1 rs2) = refl
name-line (AmoswapD rd rs1 rs2) = refl
name-line (AmoaddD rd rs1 rs2) = refl
name-line (AmoxorD rd rs1 rs2) = refl
name-line (AmoandD rd rs1 rs2) = refl
name-line (AmoorD rd rs1 rs2) = refl
name-line (AmominD rd rs1 rs2) = refl
name-line (AmomaxD rd rs1 rs2) = refl
name-line (AmominuD rd rs1 rs2) = refl
name-line (AmomaxuD rd rs1 rs2) = refl

star-line : (other : Bool) → IsOneLine (if other then codes " *" else [])
star-line true = refl
star-line false = refl

instruction-line : (i : Inst) (other : Bool) → NumbersAreOneLine → IsOneLine (instruction_text i other)
unfolding instruction_text
instruction-line i other numbers =
    one-append ((form_of i).name ++ fields_text (form_of i).fields) (if other then codes " *" else [])
    (one-append (form_of i).name (fields_text (form_of i).fields) (name-line i) (fields-line (form_of i).fields numbers)) (star-line other)

pub word-line : (o : Option Inst) (word : ℕ) → NumbersAreOneLine → IsOneLine (word_text o word)
word-line None word numbers = refl
word-line (Some i) word numbers = instruction-line i (not (is_encoding (encode_of i) word)) numbers

pub half-line : (o : Option Inst) (half : ℕ) → NumbersAreOneLine → IsOneLine (half_text o half)
half-line None half numbers = refl
half-line (Some i) half numbers = instruction-line i (not (candidate_of i == half)) numbers
