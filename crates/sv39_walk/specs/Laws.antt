-- A translation has one answer, which is the computed one; what a cache keeps fits the memory after every store.
use Rattle.std.specs.Prelude.{◌≡◌, ℕ, ◌%◌, Bool, List, Option}
use Rattle.fc_numbers.specs.declared.machine.Access.{Access}
use Rattle.fc_numbers.specs.declared.machine.Mode.{Mode}
use Rattle.fc_numbers.specs.declared.machine.Width.{Width}
use Rattle.fc_numbers.specs.declared.places.TheConstants.{PAGE}
use Rattle.guest_ram.specs.Value.{count_of}
use Rattle.guest_ram.specs.Ram.{Ram, IsLaid, stored}
use Rattle.sv39_walk.specs.declared.Asked.{Asked}
use Rattle.sv39_walk.specs.declared.Walked.{Walked}
use Rattle.sv39_walk.specs.declared.cache.Kept.{Kept}
use Rattle.sv39_walk.specs.Walk.{IsTranslation, KeepsLow, asked, walked}
use Rattle.sv39_walk.specs.Page.{in_page, page_start}
use Rattle.sv39_walk.specs.Cache.{Fits, empty_cache}

abbrev pub WalkedIsTranslation : Type 0
WalkedIsTranslation = (ram : Ram) (satp : ℕ) (q : Asked) → IsTranslation ram satp q (walked ram satp q)

abbrev pub OneTranslation : Type 0
OneTranslation = (ram : Ram) (satp : ℕ) (q : Asked) (answer : Walked) → IsTranslation ram satp q answer → answer ≡ walked ram satp q

abbrev pub NewCachesFit : Type 0
NewCachesFit = (ram : Ram) → Fits ram empty_cache

-- a store of any width at an aligned place
abbrev pub StoresKeepFits : Type 0
StoresKeepFits = (ram : Ram) (at : ℕ) (width : Width) (v : ℕ) (slots : List (Option Kept)) → IsLaid ram → at % count_of width ≡ 0 → Fits ram slots → Fits (stored ram at width v) slots

-- a translation keeps the low 12 bits of the address
abbrev pub TranslationsKeepLowBits : Type 0
TranslationsKeepLowBits = (ram : Ram) (satp : ℕ) (q : Asked) → KeepsLow q.va (walked ram satp q)

-- an address is translated as the first address of its page, and then so many bytes further on
abbrev pub TranslationsGoByPage : Type 0
TranslationsGoByPage = (ram : Ram) (satp : ℕ) (mode : Mode) (sum mxr : Bool) (access : Access) (va : ℕ)
    → walked ram satp (asked mode sum mxr access va) ≡ in_page (walked ram satp (asked mode sum mxr access (page_start va))) (va % PAGE)
