-- The caches of all vCPUs fit the memory while one of them is used, and after a step that one of them served.
use Rattle.std.proofs.Common.{◌≡◌, ℕ, ◌+◌, List, [], ◌∷◌, ◌++◌, Option, get_or, set, length, length-append, take, drop, ap, subst, ◌∙◌}
use Rattle.std.specs.Prelude.{All}
use Rattle.std.proofs.lemmas.List.Elements.{All-push, All-set}
use Rattle.std.proofs.Math.Seq.{take-append_seam}
use Rattle.guest_ram.specs.Ram.{Ram}
use Rattle.sv39_walk.specs.declared.cache.Kept.{Kept}
use Rattle.sv39_walk.specs.Cache.{Fits, KeepsFits, empty_cache}
use Rattle.guest_board.specs.declared.slot.Slot.{Slot}

pub all_fit_after : (old new : Ram) (caches : List (List (Option Kept))) (i : ℕ) (cache : List (Option Kept)) → All (Fits old) caches → KeepsFits old new → Fits new cache → All (Fits new) (set caches i cache)
all_fit_after old new caches i cache fit keeps fits = All-set (Fits new) caches i cache fits (λ k d h. keeps (get_or caches k d) (fit k d h))

pub all_fit_more : (ram : Ram) (caches more : List (List (Option Kept))) (cache : List (Option Kept)) → more ≡ caches ++ cache ∷ [] → All (Fits ram) caches → cache ≡ empty_cache → Fits ram empty_cache → All (Fits ram) more
all_fit_more ram caches more cache is fit new fits = rw is (All-push (Fits ram) caches cache fit (rw new fits))

pub one_more : (caches more : List (List (Option Kept))) (cache : List (Option Kept)) (n : ℕ) → more ≡ caches ++ cache ∷ [] → length caches ≡ n → length more ≡ n + 1
one_more caches more cache n is many = ap length is ∙ length-append caches (cache ∷ []) ∙ ap (λ m. m + 1) many

-- as many slots in the place of others are those slots
pub refilled : (n : ℕ) (xs ws : List Slot) → length ws ≡ n → take n (ws ++ drop (length ws) xs) ≡ ws
refilled n xs ws many = subst (λ m. take m (ws ++ drop (length ws) xs) ≡ ws) many (take-append_seam ws (drop (length ws) xs))
