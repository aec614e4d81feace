-- What the code keeps that notes the frames of a walk: the frames of the entries that are read, level by level.
use Rattle.std.specs.Prelude.{ℕ, ◌==◌, if◌then◌else◌, List, [], ◌∷◌}
use Rattle.std.proofs.Common.{zero, suc}
use Rattle.guest_ram.specs.Ram.{Ram, frame_of}
use Rattle.page_table.specs.Mode.{is_canonical, levels_of, satp_mode}
use Rattle.sv39_walk.specs.declared.Asked.{Asked}
use Rattle.sv39_walk.specs.Walk.{entry_place, leads_on, root_of, table_of}
use Rattle.sv39_walk.specs.Cache.{is_read}

-- the frames of the entries that a walk over so many levels reads
unfoldable pub frames_from : Ram → Asked → ℕ → ℕ → List ℕ
frames_from ram q zero table = []
frames_from ram q (suc level) table =
    if leads_on ram q level (entry_place q level table)
    then frame_of (entry_place q level table) ∷ frames_from ram q level (table_of ram (entry_place q level table))
    else if is_read ram (entry_place q level table) then frame_of (entry_place q level table) ∷ [] else []

-- the frames of the entries that a translation reads
abbrev pub frames_read : Ram → ℕ → Asked → List ℕ
frames_read ram satp q =
    if satp_mode satp == 0 then []
    else if is_canonical (levels_of satp) q.va then frames_from ram q (levels_of satp) (root_of satp)
    else []
