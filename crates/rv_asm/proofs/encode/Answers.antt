use Rattle.rv_words.proofs.Words.{word_means}
use Rattle.rv_words.proofs.LeastWord.{least_word}
use Rattle.rv_words.proofs.Whole.{fields_found}
use Rattle.rv_asm.proofs.encode.Goals as goal

pub returns : goal.returns
returns c = record {
  decodes = word_means c.args.i.now c.word.result c.word.ensures;
  least = least_word c.args.i.now c.word.result c.word.ensures;
  found = fields_found c.args.i.now c.word.result c.word.ensures;
  same = c.word.ensures;
}
