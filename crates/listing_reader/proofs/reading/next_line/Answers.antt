use Rattle.std.proofs.Common.{Some, None, sym}
use Rattle.listing_reader.proofs.Cuts.{cut-shorter}
use Rattle.listing_reader.proofs.ReadLemmas.{read-first, read-none}
use Rattle.listing_reader.proofs.reading.next_line.Goals as goal

pub returns-in_default-clause-read : goal.returns-in_default-clause-read
returns-in_default-clause-read c = λ n before. read-none c.args.bytes.now n before c.requires (sym c.in_default.ensures)

pub returns-in-Some-line_of-clause-read : goal.returns-in-Some-line_of-clause-read
returns-in-Some-line_of-clause-read c =
    λ n before. read-first c.args.bytes.now c.in-Some.text.now c.in-Some.behind.now (Some c.in-Some-line_of.line) n before c.in-Some.ensures c.in-Some-line_of.ensures.value

pub returns-in-Some-line_of-clause-shorter : goal.returns-in-Some-line_of-clause-shorter
returns-in-Some-line_of-clause-shorter c = cut-shorter 0x0a c.args.bytes.now (c.in-Some.text.now, c.in-Some.behind.now) (sym c.in-Some.ensures)

pub returns-in-None-clause-read : goal.returns-in-None-clause-read
returns-in-None-clause-read c =
    λ n before. read-first c.args.bytes.now c.in-Some.text.now c.in-Some.behind.now None n before c.in-Some.ensures c.in-None.ensures.value
