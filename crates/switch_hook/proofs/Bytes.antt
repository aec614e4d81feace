-- The bytes before the first zero byte, read one after another.
use Rattle.std.proofs.Common.{◌≡◌, ℕ, ◌+◌, ◌-◌, ◌<◌, true, false, not, zero, cond, eqb, List, [], ◌∷◌, ◌++◌, length, map, Option, Some, None, refl, sym, ap, ◌∙◌, suc, append_assoc, length-append, arith}
use Rattle.std.specs.List.{range_with_len, take_while}
use Rattle.std.specs.Option.{option_map}
use Rattle.std.specs.Prelude.{◌↔◌, IsSome, IfSome, option_and_then}
use Rattle.std.proofs.lemmas.Grind.{common_steps}
use Rattle.std.proofs.lemmas.Bool.{false≢true}
use Rattle.std.proofs.lemmas.Iterator.Adapters.{option_map_id}
use Rattle.std.proofs.lemmas.List.{append-nil}
use Rattle.std.proofs.lemmas.List.Sums.{take_while-cons}
use Rattle.std.proofs.Math.Dec.{eqb-suc-zero}
use Rattle.fc_numbers.specs.Names.{is_app_name}
use Rattle.fc_numbers.specs.declared.name.TheConstants.{NAME_MOST}
use Rattle.switch_hook.specs.Hook.{all_bytes, as_name, is_zero_byte}

-- what n loads read, from load k on, before the first zero byte
abbrev pub until_zero : (ℕ → Option ℕ) → ℕ → ℕ → List (Option ℕ)
until_zero f k n = take_while (λ load. not (is_zero_byte load)) (map f (range_with_len k n))

-- these bytes, and behind them those of the loads
abbrev pub behind : List ℕ → List (Option ℕ) → Option (List ℕ)
behind name loads = option_map (λ bytes. name ++ bytes) (all_bytes loads)

-- the bytes of all the loads are the k that were read, and those of the loads to come behind them
pub record AreRead (f : ℕ → Option ℕ) (name : List ℕ) (k : ℕ) : Type 0 where
  pub bytes : all_bytes (until_zero f 0 NAME_MOST) ≡ behind name (until_zero f k (NAME_MOST - k))
  pub many : length name ≡ k

until_more : (f : ℕ → Option ℕ) (k n : ℕ) → until_zero f k (suc n) ≡ cond (not (is_zero_byte (f k))) (f k ∷ until_zero f (k + 1) n) []
until_more f k n = take_while-cons (λ load. not (is_zero_byte load)) (f k) (map f (range_with_len (k + 1) n))

map_map : (name : List ℕ) (byte : ℕ) (rest : Option (List ℕ)) →
    option_map (λ bytes. name ++ bytes) (option_map (λ bytes. byte ∷ bytes) rest) ≡ option_map (λ bytes. (name ++ byte ∷ []) ++ bytes) rest
map_map name byte None = refl
map_map name byte (Some bytes) = ap Some (sym (append_assoc name (byte ∷ []) bytes))

eqb_zero : (n : ℕ) → ¬ (n ≡ 0) → eqb n 0 ≡ false
eqb_zero zero other = absurd (other refl)
eqb_zero (suc n) other = eqb-suc-zero n

behind_more : (f : ℕ → Option ℕ) (k n byte : ℕ) (name : List ℕ) → f k ≡ Some byte → ¬ (byte ≡ 0) →
    behind name (until_zero f k (suc n)) ≡ behind (name ++ byte ∷ []) (until_zero f (k + 1) n)
behind_more f k n byte name read other =
    let head : until_zero f k (suc n) ≡ Some byte ∷ until_zero f (k + 1) n = until_more f k n ∙ rw (read, eqb_zero byte other) in
    ap (behind name) head ∙ map_map name byte (all_bytes (until_zero f (k + 1) n))

behind_zero : (f : ℕ → Option ℕ) (k n byte : ℕ) (name : List ℕ) → f k ≡ Some byte → byte ≡ 0 →
    behind name (until_zero f k (suc n)) ≡ Some name
behind_zero f k n byte name read null =
    let none : until_zero f k (suc n) ≡ [] = until_more f k n ∙ rw (read, null) in
    ap (behind name) none ∙ ap Some (append-nil name)

behind_none : (f : ℕ → Option ℕ) (k n : ℕ) (name : List ℕ) → f k ≡ None → behind name (until_zero f k (suc n)) ≡ None
behind_none f k n name read =
    let head : until_zero f k (suc n) ≡ None ∷ until_zero f (k + 1) n = until_more f k n ∙ rw read in
    ap (behind name) head

-- before the first load
pub none_read : (f : ℕ → Option ℕ) → AreRead f [] 0
none_read f = record { bytes = sym (option_map_id (all_bytes (until_zero f 0 NAME_MOST))); many = refl }

-- a load that reads another byte than zero
pub read_more : (f : ℕ → Option ℕ) (k byte : ℕ) (name : List ℕ) → AreRead f name k → k < NAME_MOST → f k ≡ Some byte → ¬ (byte ≡ 0) →
    AreRead f (name ++ byte ∷ []) (k + 1)
read_more f k byte name read below loaded other = record {
  bytes =
      let left : NAME_MOST - k ≡ suc (NAME_MOST - (k + 1)) = omega arith in
      read.bytes ∙ ap (λ n. behind name (until_zero f k n)) left ∙ behind_more f k (NAME_MOST - (k + 1)) byte name loaded other;
  many = omega (arith, read.many, length-append name (byte ∷ []));
}

-- a load that cannot be made leaves no name
pub no_name : (f : ℕ → Option ℕ) (k : ℕ) (name : List ℕ) → AreRead f name k → k < NAME_MOST → f k ≡ None →
    option_and_then as_name (all_bytes (until_zero f 0 NAME_MOST)) ≡ None
no_name f k name read below unread =
    let left : NAME_MOST - k ≡ suc (NAME_MOST - (k + 1)) = omega arith in
    ap (option_and_then as_name) (read.bytes ∙ ap (λ n. behind name (until_zero f k n)) left ∙ behind_none f k (NAME_MOST - (k + 1)) name unread)

-- a load that reads zero ends the name
pub name_ends : (f : ℕ → Option ℕ) (k byte : ℕ) (name : List ℕ) → AreRead f name k → k < NAME_MOST → f k ≡ Some byte → byte ≡ 0 →
    option_and_then as_name (all_bytes (until_zero f 0 NAME_MOST)) ≡ as_name name
name_ends f k byte name read below loaded null =
    let left : NAME_MOST - k ≡ suc (NAME_MOST - (k + 1)) = omega arith in
    ap (option_and_then as_name) (read.bytes ∙ ap (λ n. behind name (until_zero f k n)) left ∙ behind_zero f k (NAME_MOST - (k + 1)) byte name loaded null)

-- after the last load
pub all_read : (f : ℕ → Option ℕ) (k : ℕ) (name : List ℕ) → AreRead f name k → NAME_MOST - k ≡ 0 →
    option_and_then as_name (all_bytes (until_zero f 0 NAME_MOST)) ≡ as_name name
all_read f k name read none =
    ap (option_and_then as_name) (read.bytes ∙ ap (λ n. behind name (until_zero f k n)) none ∙ ap Some (append-nil name))

-- what a test for a name answers
pub named : (bytes : List ℕ) (found : Option (List ℕ)) → (IsSome found ↔ (is_app_name bytes ≡ true)) → IfSome found (λ name. name ≡ bytes) → found ≡ as_name bytes
named bytes None when value = elim (is_app_name bytes) as (λ b. (IsSome {T = List ℕ} None ↔ (b ≡ true)) → None ≡ cond b (Some bytes) None) [ true ↦ λ w. absurd (false≢true (w.1 refl)) | false ↦ λ w. refl ] when
named bytes (Some name) when value = grind (arith, common_steps)
