use Rattle.std.proofs.Common.{◌≡◌, ◌∙◌, sym, [], length, map, arith}
use Rattle.std.specs.Prelude.{string_bytes, codes, get_or}
use Rattle.std.proofs.lemmas.Slice.Eq.{bytes_eq-Decides}
use Rattle.facechange_cli.proofs.Forms.{item-at, seven-words}
use Rattle.facechange_cli.proofs.words.is_drive.Goals as goal

pub returns-in-len7-clause-yes : goal.returns-in-len7-clause-yes
returns-in-len7-clause-yes c = λ yes.
    let drive : c.as_str.result.now ≡ codes "drive" = (bytes_eq-Decides c.as_str.result.now (codes "drive")).0 (sym c.eq.ensures ∙ yes) in
    let seven : length c.args.words.now ≡ 7 = omega (arith, c.in-len7.len_at_least, c.in-len7.len_below) in
    let verb : get_or (map string_bytes c.args.words.now) 0 [] ≡ codes "drive"
    = item-at string_bytes c.args.words.now 0 c.verb-item.result (omega (arith, seven)) c.verb-item.is ∙ sym c.as_str.ensures.value ∙ drive in
    record {
      image = get_or (map string_bytes c.args.words.now) 1 [];
      setup = get_or (map string_bytes c.args.words.now) 2 [];
      views = get_or (map string_bytes c.args.words.now) 3 [];
      script = get_or (map string_bytes c.args.words.now) 4 [];
      trace = get_or (map string_bytes c.args.words.now) 5 [];
      log = get_or (map string_bytes c.args.words.now) 6 [];
      form = seven-words string_bytes c.args.words.now (codes "drive") seven verb;
    }
