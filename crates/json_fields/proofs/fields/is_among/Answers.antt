use Rattle.std.proofs.Common.{List, ℕ, Bor, bytes_eq, rules, tests, ◌∙◌}
use Rattle.std.proofs.lemmas.Iterator.{YieldsList-from_slice}
use Rattle.std.proofs.lemmas.Iterator.Search.{any_from_yields_List}
use Rattle.json_fields.proofs.Lists.{list_any-map}
use Rattle.json_fields.proofs.fields.is_among.Goals as goal

pub returns : goal.returns
returns c =
    any_from_yields_List (λ (key : Bor (List ℕ)). bytes_eq key.now c.args.name.now) _ _ _ c.any.ensures.ran (YieldsList-from_slice c.args.keys.now cc) (λ x b q k. search (rules, tests))
    ∙ list_any-map (λ key. bytes_eq key c.args.name.now) (λ (key : Bor (List ℕ)). key.now) c.args.keys.now
