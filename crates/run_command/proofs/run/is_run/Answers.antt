use Rattle.std.proofs.Common.{◌≡◌, ◌∙◌, sym, [], length, map, arith}
use Rattle.std.specs.Prelude.{string_bytes, codes, get_or}
use Rattle.std.proofs.lemmas.Slice.Eq.{bytes_eq-Decides}
use Rattle.run_command.proofs.Words.{item-at, six-words}
use Rattle.run_command.proofs.run.is_run.Goals as goal

pub returns-in-len6-clause-yes : goal.returns-in-len6-clause-yes
returns-in-len6-clause-yes c = λ yes.
    let word : c.as_str.result.now ≡ codes "run" = (bytes_eq-Decides c.as_str.result.now (codes "run")).0 (sym c.eq.ensures ∙ yes) in
    let six : length c.args.words.now ≡ 6 = omega (arith, c.in-len6.len_at_least, c.in-len6.len_below) in
    let verb : get_or (map string_bytes c.args.words.now) 0 [] ≡ codes "run"
    = item-at string_bytes c.args.words.now 0 c.verb-item.result (omega (arith, six)) c.verb-item.is ∙ sym c.as_str.ensures.value ∙ word in
    record {
      image = get_or (map string_bytes c.args.words.now) 1 [];
      setup = get_or (map string_bytes c.args.words.now) 2 [];
      views = get_or (map string_bytes c.args.words.now) 3 [];
      trace = get_or (map string_bytes c.args.words.now) 4 [];
      log = get_or (map string_bytes c.args.words.now) 5 [];
      form = six-words string_bytes c.args.words.now (codes "run") six verb;
    }
