use Rattle.std.proofs.Common.{◌≡◌, ◌∙◌, List, ℕ, map}
use Rattle.std.specs.Prelude.{string_bytes}
use Rattle.view_commands.proofs.Unions.{no-union, no-reads}
use Rattle.view_commands.proofs.merge.make_merge.Goals as goal

pub returns-in-Err-clause-said : goal.returns-in-Err-clause-said
returns-in-Err-clause-said g c = λ at told.
    let words : List (List ℕ) = map string_bytes c.args.words.now in
    no-union words at c.in_ok-first.first c.in_ok-second.second (c.in_ok-first.ensures.said at told) (c.in_ok-second.ensures.said at (c.in_ok-first.ensures.files ∙ told))
    c.in-Err.fault c.refusal_of.result c.in-Err.ensures c.refusal_of.ensures

pub returns-in-Err-clause-counted : goal.returns-in-Err-clause-counted
returns-in-Err-clause-counted g c =
    no-reads (map string_bytes c.args.words.now) _ _ c.in-Err.fault c.refusal_of.result c.refusal_of.ensures (c.in_ok-second.ensures.counted ∙ c.in_ok-first.ensures.counted)
