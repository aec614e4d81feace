use Rattle.std.proofs.Common.{◌≡◌, ◌<◌, ◌^◌, drop}
use Rattle.listing_reader.specs.Lines.{number_behind}
use Rattle.listing_reader.proofs.words.number_in.Given as goal

abbrev pub invariant-loop-byte : goal.invariant-loop-byte
invariant-loop-byte l = record {
  rest : number_behind l.base l.n (drop l.byte-index l.digits) ≡ number_behind l.base 0 l.digits;
  below : l.n < 16 ^ l.byte-index;
}
