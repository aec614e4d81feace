use Rattle.std.proofs.Common.{◌≡◌, ◌∙◌, sym, [], length, map, arith, refl}
use Rattle.std.specs.Prelude.{string_bytes, codes, get_or}
use Rattle.listing_commands.proofs.Forms.{item-at, four-words, text-same}
use Rattle.listing_commands.proofs.words.list_of.Goals as goal

pub returns-clause-some : goal.returns-clause-some
returns-clause-some c =
    let is : c.as_str.result.now ≡ codes "list" = text-same c.as_str.result.now (codes "list") c.if-ne.ensures in
    let four : length c.args.words.now ≡ 4 = omega (arith, c.in-len4.len_at_least, c.in-len4.len_below) in
    let verb : get_or (map string_bytes c.args.words.now) 0 [] ≡ codes "list"
    = item-at string_bytes c.args.words.now 0 c.verb-item.result (omega (arith, four)) c.verb-item.is ∙ sym c.as_str.ensures.value ∙ is in
    let app : get_or (map string_bytes c.args.words.now) 3 [] ≡ c.in_ok-app.app
    = item-at string_bytes c.args.words.now 3 c.app-item.result (omega (arith, four)) c.app-item.is ∙ sym c.as_bytes.ensures.value ∙ sym c.in_ok-app.ensures.value in
    record {
      image = get_or (map string_bytes c.args.words.now) 1 [];
      views = get_or (map string_bytes c.args.words.now) 2 [];
      form = four-words string_bytes c.args.words.now (codes "list") c.in_ok-app.app four verb app;
      named = rw (c.in_ok-app.ensures.value) (c.in_ok-app.ensures.named.0 refl);
    }
