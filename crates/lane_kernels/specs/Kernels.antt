-- What the kernels give, halfword by halfword: which halfwords are kept, and which are open.
-- Open is the unprivileged manual's, "Base Instruction-Length Encoding": low bits 11 begin an instruction of more than one halfword.
use Rattle.std.specs.Prelude.{ℕ, Bool, List, slice_index, ◌==◌, ◌%◌, if◌then◌else◌}

-- halfword n of the first list where its mark, halfword n of the second, is not 0; else 0
abbrev pub kept_at : List ℕ → List ℕ → ℕ → ℕ
kept_at halves marks n = if slice_index marks n == 0 then 0 else slice_index halves n

abbrev pub is_open : ℕ → Bool
is_open half = half % 4 == 3
