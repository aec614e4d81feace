use Rattle.std.proofs.Common.{◌≡◌, take}
use Rattle.guest_maker.specs.Text.{word_bytes}
use Rattle.guest_maker.proofs.text.word_bytes.Given as goal

abbrev pub invariant-loop-word : goal.invariant-loop-word
invariant-loop-word l = l.bytes.items ≡ word_bytes (take l.word-index l.words)
