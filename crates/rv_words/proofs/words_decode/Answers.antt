use Rattle.std.proofs.Common.{refl}
use Rattle.rv_words.specs.Words.{encode_of}
use Rattle.rv_words.proofs.Words.{encode_of-decodes}
use Rattle.rv_words.proofs.Whole.{fields_found}
use Rattle.rv_words.proofs.LeastWord.{at_most}
use Rattle.rv_words.proofs.words_decode.Goals as goal

pub returns : goal.returns
returns c = record {
  decodes = encode_of-decodes;
  least = λ i v w e d. at_most w i d v e;
  found = λ i f. fields_found i (encode_of i) refl f;
}
