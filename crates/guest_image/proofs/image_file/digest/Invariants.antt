use Rattle.std.proofs.Common.{◌++◌, length, take}
use Rattle.std.specs.Prelude.{flat_map}
use Rattle.sha2.specs.Hashers.{Holds256}
use Rattle.guest_input.specs.Text.{spans_of}
use Rattle.guest_image.specs.Digest.{eight, if_several, has_several, place_bytes, start_bytes}
use Rattle.guest_image.proofs.image_file.digest.Given as goal

abbrev pub invariant-loop-range : goal.invariant-loop-range
invariant-loop-range l =
    Holds256 l.hasher (if_several (has_several (spans_of l.kernel.ranges)) (length (spans_of l.kernel.ranges)) ++ flat_map place_bytes (take l.range-index l.ranges))

abbrev pub invariant-loop-function : goal.invariant-loop-function
invariant-loop-function l =
    Holds256 l.hasher (if_several (has_several (spans_of l.kernel.ranges)) (length (spans_of l.kernel.ranges)) ++ flat_map place_bytes (spans_of l.kernel.ranges)
    ++ eight (length l.kernel.functions) ++ flat_map (start_bytes (has_several (spans_of l.kernel.ranges))) (take l.function-index l.function-items))
