use Rattle.std.proofs.Common.{◌≡◌, ◌∙◌, sym, [], length, map, arith}
use Rattle.std.specs.Prelude.{string_bytes, codes, get_or}
use Rattle.std.proofs.lemmas.Slice.Eq.{bytes_eq-Decides}
use Rattle.view_commands.proofs.Lists.{item-at, three-words}
use Rattle.view_commands.proofs.show.is_show.Goals as goal

pub returns-in-len3-clause-yes : goal.returns-in-len3-clause-yes
returns-in-len3-clause-yes c = λ yes.
    let said : c.as_str.result.now ≡ codes "show" = (bytes_eq-Decides c.as_str.result.now (codes "show")).0 (sym c.eq.ensures ∙ yes) in
    let three : length c.args.words.now ≡ 3 = omega (arith, c.in-len3.len_at_least, c.in-len3.len_below) in
    let verb : get_or (map string_bytes c.args.words.now) 0 [] ≡ codes "show"
    = item-at string_bytes c.args.words.now 0 c.verb-item.result (omega (arith, three)) c.verb-item.is ∙ sym c.as_str.ensures.value ∙ said in
    record {
      image = get_or (map string_bytes c.args.words.now) 1 [];
      views = get_or (map string_bytes c.args.words.now) 2 [];
      form = three-words string_bytes c.args.words.now (codes "show") three verb;
    }
