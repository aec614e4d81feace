use Rattle.rv_words.proofs.Least.{tried}
use Rattle.rv_words.proofs.candidates_are_least.Goals as goal

pub returns : goal.returns
returns c = record {
  least = λ h i l e. (tried i h l e).small;
  means = λ h i l e. (tried i h l e).same;
}
