-- What a list of bytes is after a part of it was replaced.
use Rattle.std.proofs.Common.{◌≡◌, ℕ, zero, suc, ◌+◌, ◌/◌, ◌%◌, ◌^◌, ◌∙◌, ◌<◌, ◌≤◌, List, length, get_or, replicate, arith, refl, ap}
use Rattle.std.proofs.lemmas.Grind.{common_steps}
use Rattle.std.proofs.Math.Arith.{mod-mul}
use Rattle.std.proofs.Math.Nat.{pow-succ'}
use Rattle.std.specs.Int.{bytes_low_first, byte_at}
use Rattle.guest_ram.specs.Value.{value_at, overwritten, replaced}

pub length-bytes_low_first : (i n v : ℕ) → length (bytes_low_first i n v) ≡ n
length-bytes_low_first i zero v = refl
length-bytes_low_first i (suc n) v = grind (arith, length-bytes_low_first (suc i) n v)

pub length_overwritten : (bytes : List ℕ) (at : ℕ) (part : List ℕ) → at + length part ≤ length bytes → length (overwritten bytes at part) ≡ length bytes
unfolding overwritten
length_overwritten bytes at part room = grind (arith, common_steps)

pub overwritten-before : (bytes : List ℕ) (at : ℕ) (part : List ℕ) (k : ℕ) → at + length part ≤ length bytes → k < at → get_or (overwritten bytes at part) k 0 ≡ get_or bytes k 0
unfolding overwritten
overwritten-before bytes at part k room before = grind (arith, common_steps)

pub overwritten-within : (bytes : List ℕ) (at : ℕ) (part : List ℕ) (k : ℕ) → at + length part ≤ length bytes → k < length part → get_or (overwritten bytes at part) (at + k) 0 ≡ get_or part k 0
unfolding overwritten
overwritten-within bytes at part k room within = grind (arith, common_steps)

pub overwritten-after : (bytes : List ℕ) (at : ℕ) (part : List ℕ) (k : ℕ) → at + length part ≤ length bytes → at + length part ≤ k → get_or (overwritten bytes at part) k 0 ≡ get_or bytes k 0
unfolding overwritten
overwritten-after bytes at part k room after = grind (arith, common_steps)

-- a number that is read from equal bytes is the same
pub value_at-same : (old new : List ℕ) (at n : ℕ) → ((k : ℕ) → k < n → get_or new (at + k) 0 ≡ get_or old (at + k) 0) → value_at new at n ≡ value_at old at n
unfolding value_at
value_at-same old new at zero same = refl
value_at-same old new at (suc n) same =
    let low = value_at-same old new at n (λ k h. same k (omega (arith, h))) in
    let high = same n (omega arith) in
    grind (arith, low, high)

byte_at-div : (k v : ℕ) → byte_at k v ≡ v / 256 ^ k % 256
byte_at-div zero v = grind arith
byte_at-div (suc k) v = refl

-- the k-th of the bytes of a number from byte j on
get_or-bytes_low_first : (j n v k : ℕ) → k < n → get_or (bytes_low_first j n v) k 0 ≡ byte_at (j + k) v
get_or-bytes_low_first j zero v k below = absurd (omega arith)
get_or-bytes_low_first j (suc n) v zero below = ap (λ i. byte_at i v) (omega arith)
get_or-bytes_low_first j (suc n) v (suc k) below =
    let rest = get_or-bytes_low_first (suc j) n v k (omega arith) in
    let same : suc j + k ≡ j + suc k = omega arith in
    rw same at rest

pow256_pos : (n : ℕ) → 0 < 256 ^ n
pow256_pos zero = omega arith
pow256_pos (suc n) = let rest = pow256_pos n in let power = pow-succ' 256 n in rw power (omega (arith, rest))

-- the sum of the n low bytes of a number is its low part
value_at-low : (bytes : List ℕ) (at n v : ℕ) → ((k : ℕ) → k < n → get_or bytes (at + k) 0 ≡ byte_at k v) → value_at bytes at n ≡ v % 256 ^ n
unfolding value_at
value_at-low bytes at zero v is = grind arith
value_at-low bytes at (suc n) v is =
    let low = value_at-low bytes at n v (λ k h. is k (omega (arith, h))) in
    let high = is n (omega arith) ∙ byte_at-div n v in
    let cut = mod-mul v {m = 256} {c = 256 ^ n} (omega arith) (pow256_pos n) in
    let power = pow-succ' 256 n in
    grind (arith, low, high, cut, power)

pub value_at-replaced : (bytes : List ℕ) (at n v : ℕ) → at + n ≤ length bytes → value_at (replaced bytes at n v) at n ≡ v % 256 ^ n
value_at-replaced bytes at n v room =
    let size = length-bytes_low_first 0 n v in
    value_at-low (replaced bytes at n v) at n v
    (λ k h. overwritten-within bytes at (bytes_low_first 0 n v) k (omega (arith, size)) (omega (arith, size, h)) ∙ get_or-bytes_low_first 0 n v k h ∙ ap (λ i. byte_at i v) (omega arith))

-- no page of new memory has seen a store
pub nothing_stored : (pages frame : ℕ) → get_or (replicate pages 0) frame 0 < 4294967295
nothing_stored pages frame = grind (arith, common_steps)
