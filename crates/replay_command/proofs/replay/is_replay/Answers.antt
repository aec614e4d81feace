use Rattle.std.proofs.Common.{◌≡◌, ◌∙◌, sym, [], length, map, arith}
use Rattle.std.specs.Prelude.{string_bytes, codes, get_or}
use Rattle.std.proofs.lemmas.Slice.Eq.{bytes_eq-Decides}
use Rattle.replay_command.proofs.Words.{item-at, four-words}
use Rattle.replay_command.proofs.replay.is_replay.Goals as goal

pub returns-in-len4-clause-yes : goal.returns-in-len4-clause-yes
returns-in-len4-clause-yes c = λ yes.
    let word : c.as_str.result.now ≡ codes "replay" = (bytes_eq-Decides c.as_str.result.now (codes "replay")).0 (sym c.eq.ensures ∙ yes) in
    let four : length c.args.words.now ≡ 4 = omega (arith, c.in-len4.len_at_least, c.in-len4.len_below) in
    let verb : get_or (map string_bytes c.args.words.now) 0 [] ≡ codes "replay"
    = item-at string_bytes c.args.words.now 0 c.verb-item.result (omega (arith, four)) c.verb-item.is ∙ sym c.as_str.ensures.value ∙ word in
    record {
      image = get_or (map string_bytes c.args.words.now) 1 [];
      setup = get_or (map string_bytes c.args.words.now) 2 [];
      trace = get_or (map string_bytes c.args.words.now) 3 [];
      form = four-words string_bytes c.args.words.now (codes "replay") four verb;
    }
