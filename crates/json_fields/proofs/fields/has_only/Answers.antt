use Rattle.std.proofs.Common.{List, ℕ, String, Global, string_bytes, map, Bor, rules, tests, ap, ◌∙◌}
use Rattle.std.proofs.lemmas.Iterator.Search.{all_from_yields_List}
use Rattle.std.proofs.lemmas.Iterator.Consumers.{YieldsList-from_rest}
use Rattle.std.specs.Map.Iter.{deref}
use Rattle.json_fields.specs.Fields.{is_among, only_keys}
use Rattle.json_fields.proofs.Lists.{list_all-names}
use Rattle.json_fields.proofs.fields.has_only.Goals as goal

pub returns-in-Some : goal.returns-in-Some
returns-in-Some c =
    let keys = map (λ (key : Bor (List ℕ)). key.now) c.args.keys.now in
    all_from_yields_List (λ (name : String Global). is_among keys (string_bytes name)) _ _ _ c.all.ensures.ran (YieldsList-from_rest {shows = deref} _ c.keys.ensures.rest) (λ x b q k. search (rules, tests))
    ∙ list_all-names (is_among keys) _
    ∙ ap (only_keys keys) c.in-Some.ensures
