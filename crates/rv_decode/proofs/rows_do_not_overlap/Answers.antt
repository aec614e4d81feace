use Rattle.rv_decode.proofs.Apart.{words_mean_rows, no_word, no_halfword}
use Rattle.rv_decode.proofs.CompressedApart.{halfwords_mean_rows}
use Rattle.rv_decode.proofs.rows_do_not_overlap.Goals as goal

pub returns : goal.returns
returns c = record {
  words = words_mean_rows;
  halfwords = halfwords_mean_rows;
  no_word = no_word;
  no_halfword = no_halfword;
}
