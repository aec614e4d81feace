use Rattle.std.proofs.Common.{arith}
use Rattle.rv_words.proofs.Least.{tried, Tried}
use Rattle.rv_asm.proofs.squeeze.Goals as goal

pub returns-in_err-word-clause-least : goal.returns-in_err-word-clause-least
returns-in_err-word-clause-least c h l e =
    let t : Tried c.args.i.now h = tried c.args.i.now h l e in
    absurd (grind (arith, t.has_word, t.same, t.small))

pub returns-in_err-h-clause-least : goal.returns-in_err-h-clause-least
returns-in_err-h-clause-least c h l e =
    let t : Tried c.args.i.now h = tried c.args.i.now h l e in
    absurd (grind (arith, t.has_word, t.same, t.small))

pub returns-in_err-other-clause-least : goal.returns-in_err-other-clause-least
returns-in_err-other-clause-least c h l e =
    let t : Tried c.args.i.now h = tried c.args.i.now h l e in
    absurd (grind (arith, t.has_word, t.same, t.small))

pub returns-in_err-encode-clause-least : goal.returns-in_err-encode-clause-least
returns-in_err-encode-clause-least c h l e =
    let t : Tried c.args.i.now h = tried c.args.i.now h l e in
    absurd (grind (arith, t.has_word, t.same, t.small))

pub returns-else-branch-word-clause-least : goal.returns-else-branch-word-clause-least
returns-else-branch-word-clause-least c h l e =
    let t : Tried c.args.i.now h = tried c.args.i.now h l e in
    absurd (grind (arith, t.has_word, t.same, t.small))

pub returns-then-branch-word-clause-least : goal.returns-then-branch-word-clause-least
returns-then-branch-word-clause-least c h l e =
    let t : Tried c.args.i.now h = tried c.args.i.now h l e in
    grind (arith, t.has_word, t.same, t.small)
