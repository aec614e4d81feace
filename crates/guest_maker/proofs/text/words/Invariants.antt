use Rattle.std.proofs.Common.{◌≡◌, ◌++◌, ◌*◌, ◌<◌, ◌^◌, map, drop, Some}
use Rattle.std.specs.Prelude.{All}
use Rattle.rv_decode.specs.Rows.{decode_of}
use Rattle.guest_maker.specs.Text.{target_of, code_from, encoded_word, AllFit}
use Rattle.guest_maker.proofs.text.words.Given as goal

abbrev pub invariant-loop-line : goal.invariant-loop-line
invariant-loop-line l = record {
  place : l.at ≡ 4 * l.line-index;
  value : l.words.items ++ map encoded_word (code_from (target_of l.functions l.drawn) l.at (drop l.line-index l.lines)) ≡ map encoded_word (code_from (target_of l.functions l.drawn) 0 l.lines);
  means : map decode_of l.words.items ++ map Some (code_from (target_of l.functions l.drawn) l.at (drop l.line-index l.lines)) ≡ map Some (code_from (target_of l.functions l.drawn) 0 l.lines);
  small : All (λ word. word < 2 ^ 32) l.words.items;
  fit : AllFit (target_of l.functions l.drawn) l.at (drop l.line-index l.lines);
}
