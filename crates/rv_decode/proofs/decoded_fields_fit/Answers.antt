use Rattle.rv_decode.proofs.Ranges.{decoded_fits, decoded16_fits}
use Rattle.rv_decode.proofs.decoded_fields_fit.Goals as goal

pub returns : goal.returns
returns c = record {
  words = decoded_fits;
  halfwords = decoded16_fits;
}
