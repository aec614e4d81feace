-- Numbers among the words: decimal, without leading zeros.
use Rattle.std.specs.Prelude.{ℕ, ◌&&◌, nat_le, Bool, false, List, [], ◌∷◌}

-- the word begins with a digit that is not 0
abbrev pub is_plain : List ℕ → Bool
is_plain [] = false
is_plain (c ∷ cs) = nat_le 49 c && nat_le c 57
