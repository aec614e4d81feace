use Rattle.std.proofs.Common.{◌≡◌, ◌∙◌, sym, [], length, map, arith, decimal}
use Rattle.std.specs.Prelude.{string_bytes, codes, get_or}
use Rattle.bench_command.proofs.Words.{item-at, text-same, two-words}
use Rattle.bench_command.proofs.bench.bench_of.Goals as goal

pub returns-clause-some : goal.returns-clause-some
returns-clause-some c =
    let bench : c.as_str.result.now ≡ codes "bench" = text-same c.as_str.result.now (codes "bench") c.if-ne.ensures in
    let two : length c.args.words.now ≡ 2 = omega (arith, c.in-len2.len_at_least, c.in-len2.len_below) in
    let verb : get_or (map string_bytes c.args.words.now) 0 [] ≡ codes "bench"
    = item-at string_bytes c.args.words.now 0 c.verb-item.result (omega (arith, two)) c.verb-item.is ∙ sym c.as_str.ensures.value ∙ bench in
    let number : get_or (map string_bytes c.args.words.now) 1 [] ≡ decimal c.in_ok-seed.seed
    = item-at string_bytes c.args.words.now 1 c.number-item.result (omega (arith, two)) c.number-item.is ∙ sym c.as_str-2.ensures.value ∙ c.in_ok-seed.ensures.some.0 in
    record {
      form = two-words string_bytes c.args.words.now (codes "bench") (decimal c.in_ok-seed.seed) two verb number;
      within = c.in_ok-seed.ensures.some.1;
    }
