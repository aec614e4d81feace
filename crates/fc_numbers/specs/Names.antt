-- The names of applications: 1 to 16 bytes, each of 0x21 to 0x7E.
use Rattle.std.specs.Prelude.{ℕ, Bool, ◌&&◌, nat_lt, nat_le, List, length}
use Rattle.std.specs.List.{list_all}

-- a printed ASCII character that is no space
abbrev pub is_printed : ℕ → Bool
is_printed byte = nat_le 0x21 byte && nat_le byte 0x7e

abbrev pub is_app_name : List ℕ → Bool
is_app_name bytes = nat_lt 0 (length bytes) && nat_le (length bytes) 16 && list_all is_printed bytes
