use Rattle.std.proofs.Common.{◌≡◌, ◌≢◌, ◌∙◌, ap, sym, arith, true, Ok, decimal}
use Rattle.std.specs.Prelude.{codes}
use Rattle.std.proofs.lemmas.Fmt.{parse-decimal}
use Rattle.std.proofs.lemmas.Slice.Eq.{bytes_eq-Decides}
use Rattle.command_frame.specs.Numbers.{is_plain}
use Rattle.command_frame.proofs.Decimals.{decimal-zero, zero-or-plain, parsed-plain}
use Rattle.command_frame.proofs.number.number_of.Goals as goal

pub returns-then-eq-clause-some : goal.returns-then-eq-clause-some
returns-then-eq-clause-some c = ((bytes_eq-Decides c.args.word.now (codes "0")).0 (sym c.if-eq.ensures) ∙ sym decimal-zero, omega arith)

pub returns-then-not-is_plain-clause-none : goal.returns-then-not-is_plain-clause-none
returns-then-not-is_plain-clause-none c = λ number fits is.
    let other : decimal number ≢ codes "0" = λ zero. absurd (cc (c.if-eq.ensures, (bytes_eq-Decides c.args.word.now (codes "0")).1 (is ∙ zero))) in
    let plain : is_plain c.args.word.now ≡ true = ap is_plain is ∙ zero-or-plain number fits other in
    absurd (cc (plain, c.if-not-is_plain.ensures))

pub returns-in-Ok-clause-some : goal.returns-in-Ok-clause-some
returns-in-Ok-clause-some c = parsed-plain c.args.word.now c.in-Ok.number c.parse.result (sym c.if-not-is_plain.ensures) c.parse.ensures.value.0 c.in-Ok.is

pub returns-in-Err-clause-none : goal.returns-in-Err-clause-none
returns-in-Err-clause-none c = λ number fits is.
    let parsed : c.parse.result ≡ Ok number = parse-decimal 64 number c.args.word.now c.parse.result fits fits is c.parse.ensures.value.0 in
    absurd (cc (sym c.in-Err.is ∙ parsed))
