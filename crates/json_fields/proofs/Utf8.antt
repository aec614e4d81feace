-- When bytes have a value, by whether they are UTF-8.
use Rattle.std.proofs.Common.{◌≡◌, ℕ, List, Bool, true, false, cond, None, refl, ap}
use Rattle.std.specs.Str.{is_utf8, IsUtf8}
use Rattle.std.proofs.lemmas.Str.{IsUtf8-from_is_utf8, is_utf8-from_IsUtf8}
use Rattle.serde_json.specs.Read.{read}
use Rattle.json_fields.specs.Fields.{json_of}

pub json_of-text : (bytes : List ℕ) → IsUtf8 bytes → json_of bytes ≡ read bytes
unfolding json_of
json_of-text bytes h = ap (λ b. cond b (read bytes) None) (is_utf8-from_IsUtf8 bytes h)

not_utf8 : (bytes : List ℕ) (b : Bool) → is_utf8 bytes ≡ b → (IsUtf8 bytes → ⊥) → b ≡ false
not_utf8 bytes true is other = absurd (other (IsUtf8-from_is_utf8 bytes is))
not_utf8 bytes false is other = refl

pub json_of-other : (bytes : List ℕ) → (IsUtf8 bytes → ⊥) → json_of bytes ≡ None
unfolding json_of
json_of-other bytes h = ap (λ b. cond b (read bytes) None) (not_utf8 bytes _ refl h)
