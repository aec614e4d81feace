use Rattle.std.proofs.Common.{◌≡◌, ◌∙◌, sym, [], length, map, arith}
use Rattle.std.specs.Prelude.{string_bytes, codes, get_or}
use Rattle.std.proofs.lemmas.Slice.Eq.{bytes_eq-Decides}
use Rattle.view_commands.proofs.Lists.{item-at, four-words}
use Rattle.view_commands.proofs.profile.is_profile.Goals as goal

pub returns-in-len4-clause-yes : goal.returns-in-len4-clause-yes
returns-in-len4-clause-yes c = λ yes.
    let said : c.as_str.result.now ≡ codes "profile" = (bytes_eq-Decides c.as_str.result.now (codes "profile")).0 (sym c.eq.ensures ∙ yes) in
    let four : length c.args.words.now ≡ 4 = omega (arith, c.in-len4.len_at_least, c.in-len4.len_below) in
    let verb : get_or (map string_bytes c.args.words.now) 0 [] ≡ codes "profile"
    = item-at string_bytes c.args.words.now 0 c.verb-item.result (omega (arith, four)) c.verb-item.is ∙ sym c.as_str.ensures.value ∙ said in
    record {
      image = get_or (map string_bytes c.args.words.now) 1 [];
      setup = get_or (map string_bytes c.args.words.now) 2 [];
      out = get_or (map string_bytes c.args.words.now) 3 [];
      form = four-words string_bytes c.args.words.now (codes "profile") four verb;
    }
