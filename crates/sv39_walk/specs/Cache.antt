-- Answers of walks that are kept, and when they still hold.
-- A kept answer stands with the frames of the entries that its walk read and their stamps. It is live while no frame of
-- them was stored to: no fence is needed, since a translation is never stale.
use Rattle.std.specs.Prelude.{◌≡◌, ◌≢◌, ℕ, ◌<◌, ◌≤◌, Bool, true, not, ◌&&◌, All, Contains, Option, Some, None, List, length, filter, map, replicate}
use Rattle.guest_ram.specs.Ram.{Ram, frame_of, is_inside, is_text, stamp_of}
use Rattle.page_table.specs.Mode.{is_canonical, levels_of, satp_mode}
use Rattle.sv39_walk.specs.declared.cache.Kept.{Kept}
use Rattle.sv39_walk.specs.declared.cache.Read.{Read}
use Rattle.sv39_walk.specs.declared.cache.TheConstants.{CACHE_MOST}
use Rattle.sv39_walk.specs.Walk.{IsWalk, root_of, walked}

-- whether the entry at a place is read
abbrev pub is_read : Ram → ℕ → Bool
is_read ram at = is_inside ram at && not (is_text ram at)

-- the frames of those of these entries that are read
abbrev pub frames_in : Ram → List ℕ → List ℕ
frames_in ram entries = map frame_of (filter (is_read ram) entries)

abbrev pub frames_of : Kept → List ℕ
frames_of k = map (λ r. r.frame) k.reads

-- the frame is one of memory, and the stamp is its own
abbrev pub IsNow : Ram → Read → Type 0
IsNow ram r = (r.frame < length ram.stamps) × (stamp_of ram r.frame ≡ r.stamp)

-- every kept stamp is that of its frame
abbrev pub IsLive : Ram → Kept → Type 0
IsLive ram k = All (λ r. stamp_of ram r.frame ≡ r.stamp) k.reads

-- the answer is that of the walk, and each frame in which the walk reads an entry is kept with a stamp
pub record IsTrue (ram : Ram) (k : Kept) : Type 0 where
  pub answer : k.answer ≡ walked ram k.satp k.asked
  pub reads : (entries : List ℕ) → satp_mode k.satp ≢ 0 → is_canonical (levels_of k.satp) k.asked.va ≡ true → IsWalk ram k.asked (levels_of k.satp) (root_of k.satp) entries k.answer
      → All (λ frame. Contains (frames_of k) frame) (frames_in ram entries)

-- the kept answer is true while it is live, and no kept stamp is above that of the frame, which is one of memory
pub record FitsOne (ram : Ram) (k : Kept) : Type 0 where
  pub true_if_live : IsLive ram k → IsTrue ram k
  pub frames : All (λ r. r.frame < length ram.stamps) k.reads
  pub stamps : All (λ r. r.stamp ≤ stamp_of ram r.frame) k.reads

abbrev pub FitsSlot : Ram → Option Kept → Type 0
FitsSlot ram None = Unit {0}
FitsSlot ram (Some k) = FitsOne ram k

-- the cache fits the memory
abbrev pub Fits : Ram → List (Option Kept) → Type 0
Fits ram slots = All (FitsSlot ram) slots

-- every cache that fits the one memory fits the other
abbrev pub KeepsFits : Ram → Ram → Type 0
KeepsFits old new = (slots : List (Option Kept)) → Fits old slots → Fits new slots

-- a cache that keeps nothing
abbrev pub empty_cache : List (Option Kept)
empty_cache = replicate CACHE_MOST None
