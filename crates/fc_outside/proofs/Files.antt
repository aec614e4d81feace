-- The first file of a name, and what takes its place.
use Rattle.std.proofs.Common.{◌≡◌, ℕ, ◌+◌, ◌<◌, suc, zero, Bool, true, false, Option, Some, None, List, [], ◌∷◌, ◌++◌, length, refl, sym, ◌∙◌, ap, subst, arith}
use Rattle.std.proofs.Common.{drop, get_or, drop-cons, ◌≤◌}
use Rattle.std.proofs.lemmas.List.{drop_all}
use Rattle.std.specs.Prelude.{slice_set, slice_index_or, if◌then◌else◌}
use Rattle.std.specs.Str.{bytes_eq}
use Rattle.std.specs.Prelude.{option_and_then, is_some, not, ◌&&◌}
use Rattle.std.proofs.lemmas.Slice.Eq.{bytes_eq-Decides}
use Rattle.std.proofs.Math.Path.{fun_ext}
use Rattle.fc_outside.specs.Outside.{holding}
use Rattle.fc_outside.specs.Memory.{File, held_at, has_room, file_named, with_file, file_with_bytes, written_files, IsPlace, IsMissing}

-- the index of the first file of this name, counted from k
abbrev pub place_from : List ℕ → ℕ → List File → Option ℕ
place_from q k [] = None
place_from q k (f ∷ fs) = if bytes_eq q f.name then Some k else place_from q (k + 1) fs

-- the first file of this name is at n
abbrev pub IsAt : List ℕ → List File → ℕ → Type 0
IsAt q [] n = ⊥
IsAt q (f ∷ fs) zero = bytes_eq q f.name ≡ true
IsAt q (f ∷ fs) (suc n) = (bytes_eq q f.name ≡ false) × IsAt q fs n

-- no file has this name
abbrev pub IsNowhere : List ℕ → List File → Type 0
IsNowhere q [] = Unit {0}
IsNowhere q (f ∷ fs) = (bytes_eq q f.name ≡ false) × IsNowhere q fs

at_place : (q : List ℕ) (fs : List File) (k i : ℕ) → place_from q k fs ≡ Some i → (n : ℕ) × (i ≡ k + n) × IsAt q fs n
at_place q [] k i e = absurd (cc)
at_place q (g ∷ gs) k i e =
    elim (bytes_eq q g.name) as (λ b. bytes_eq q g.name ≡ b → (if b then Some k else place_from q (k + 1) gs) ≡ Some i → (n : ℕ) × (i ≡ k + n) × IsAt q (g ∷ gs) n) [
      | true ↦ λ h e. let same : k ≡ i = cc in (0, omega arith, h)
      | false ↦ λ h e. let there = at_place q gs (k + 1) i e in (suc there.0, omega (arith, there.1), (h, there.2))
    ] refl e

at_inside : (q : List ℕ) (fs : List File) (n : ℕ) → IsAt q fs n → n < length fs
at_inside q [] n h = absurd h
at_inside q (f ∷ fs) zero h = omega arith
at_inside q (f ∷ fs) (suc n) h = omega (arith, at_inside q fs n h.1)

at_file : (q : List ℕ) (fs : List File) (n : ℕ) (d : File) → IsAt q fs n → file_named fs q ≡ Some (slice_index_or fs n d)
at_file q [] n d h = absurd h
at_file q (f ∷ fs) zero d h = rw h refl
at_file q (f ∷ fs) (suc n) d h = rw h.0 (at_file q fs n d h.1)

at_put : (fs : List File) (n : ℕ) (f : File) → IsAt f.name fs n → slice_set fs n f ≡ with_file fs f
at_put [] n f h = absurd h
at_put (g ∷ gs) zero f h = rw h refl
at_put (g ∷ gs) (suc n) f h = rw h.0 (ap (λ fs. g ∷ fs) (at_put gs n f h.1))

at_written : (q : List ℕ) (fs : List File) (n : ℕ) (d : File) (bytes : List ℕ) → IsAt q fs n → slice_set fs n (file_with_bytes (slice_index_or fs n d) bytes) ≡ written_files fs q bytes
at_written q [] n d bytes h = absurd h
at_written q (f ∷ fs) zero d bytes h = rw h refl
at_written q (f ∷ fs) (suc n) d bytes h = rw h.0 (ap (λ gs. f ∷ gs) (at_written q fs n d bytes h.1))

nowhere : (q : List ℕ) (fs : List File) (k : ℕ) → place_from q k fs ≡ None → IsNowhere q fs
nowhere q [] k e = tt
nowhere q (g ∷ gs) k e =
    elim (bytes_eq q g.name) as (λ b. bytes_eq q g.name ≡ b → (if b then Some k else place_from q (k + 1) gs) ≡ None → (bytes_eq q g.name ≡ false) × IsNowhere q gs) [
      | true ↦ λ h e. absurd (cc)
      | false ↦ λ h e. (h, nowhere q gs (k + 1) e)
    ] refl e

nowhere_named : (q : List ℕ) (fs : List File) → IsNowhere q fs → file_named fs q ≡ None
nowhere_named q [] h = refl
nowhere_named q (g ∷ gs) h = rw h.0 (nowhere_named q gs h.1)

nowhere_put : (f : File) (fs : List File) → IsNowhere f.name fs → fs ++ f ∷ [] ≡ with_file fs f
nowhere_put f [] h = refl
nowhere_put f (g ∷ gs) h = rw h.0 (ap (λ fs. g ∷ fs) (nowhere_put f gs h.1))

-- what the search finds
pub is_place : (fs : List File) (q : List ℕ) (i : ℕ) → place_from q 0 fs ≡ Some i → IsPlace fs q i
is_place fs q i e =
    let there = at_place q fs 0 i e in
    let same : there.0 ≡ i = omega (arith, there.1) in
    let at : IsAt q fs i = subst (λ (n : ℕ). IsAt q fs n) same there.2 in
    record {
      inside = at_inside q fs i at;
      file = λ d. at_file q fs i d at;
      put = λ f e. at_put fs i f (subst (λ (p : List ℕ). IsAt p fs i) (sym e) at);
      written = λ d bytes. at_written q fs i d bytes at;
    }

pub is_missing : (fs : List File) (q : List ℕ) → place_from q 0 fs ≡ None → IsMissing fs q
is_missing fs q e =
    let none = nowhere q fs 0 e in
    record {
      none = nowhere_named q fs none;
      put = λ f e. nowhere_put f fs (subst (λ (p : List ℕ). IsNowhere p fs) (sym e) none);
    }

-- the search ends at a file of the name
pub place_hit : (fs : List File) (q : List ℕ) (i : ℕ) (g : File) → i < length fs → g ≡ get_or fs i g → bytes_eq q g.name ≡ true → place_from q i (drop i fs) ≡ Some i
place_hit fs q i g lt is same =
    let here : bytes_eq q (get_or fs i g).name ≡ true = subst (λ (f : File). bytes_eq q f.name ≡ true) is same in
    ap (place_from q i) (drop-cons fs i g lt) ∙ (rw here refl)

-- or at the end of the files
pub place_end : (fs : List File) (q : List ℕ) (i : ℕ) → length fs ≤ i → place_from q i (drop i fs) ≡ None
place_end fs q i le = ap (place_from q i) (drop_all i fs le)

apart : (q name other : List ℕ) → bytes_eq q other ≡ true → bytes_eq name other ≡ false → bytes_eq q name ≡ false
apart q name other e h =
    elim (bytes_eq q name) as (λ b. bytes_eq q name ≡ b → b ≡ false) [
      | true ↦ λ same. let is : q ≡ name = (bytes_eq-Decides q name).0 same in sym e ∙ ap (λ n. bytes_eq n other) is ∙ h
      | false ↦ λ same. refl
    ] refl

held_here : (g : File) (gs : List File) (name bytes q : List ℕ) → bytes_eq name g.name ≡ true → held_at (file_with_bytes g bytes ∷ gs) q ≡ (if bytes_eq q name then Some bytes else held_at (g ∷ gs) q)
held_here g gs name bytes q h =
    let same : name ≡ g.name = (bytes_eq-Decides name g.name).0 h in
    rw same (elim (bytes_eq q g.name) as (λ b. option_and_then (λ (f : File). f.held) (if b then Some (file_with_bytes g bytes) else file_named gs q) ≡ (if b then Some bytes else option_and_then (λ (f : File). f.held) (if b then Some g else file_named gs q))) [ true ↦ refl | false ↦ refl ])

-- what each name holds after a write to a name that there is
pub held_written : (fs : List File) (name bytes q : List ℕ) → is_some (file_named fs name) ≡ true → held_at (written_files fs name bytes) q ≡ (if bytes_eq q name then Some bytes else held_at fs q)
held_written [] name bytes q some = absurd (cc)
held_written (g ∷ gs) name bytes q some =
    elim (bytes_eq name g.name) as (λ b. bytes_eq name g.name ≡ b → is_some (if b then Some g else file_named gs name) ≡ true → held_at (if b then file_with_bytes g bytes ∷ gs else g ∷ written_files gs name bytes) q ≡ (if bytes_eq q name then Some bytes else held_at (g ∷ gs) q)) [
      | true ↦ λ h some. held_here g gs name bytes q h
      | false ↦ λ h some.
          elim (bytes_eq q g.name) as (λ b. bytes_eq q g.name ≡ b → option_and_then (λ (f : File). f.held) (if b then Some g else file_named (written_files gs name bytes) q) ≡ (if bytes_eq q name then Some bytes else option_and_then (λ (f : File). f.held) (if b then Some g else file_named gs q))) [
            | true ↦ λ e. rw (apart q name g.name e h) refl
            | false ↦ λ e. held_written gs name bytes q some
          ] refl
    ] refl some

room_some : (file : Option File) (size : ℕ) → has_room file size ≡ true → is_some file ≡ true
room_some None size h = absurd (cc)
room_some (Some f) size h = refl

both_true : (a b : Bool) → (not a && b) ≡ true → b ≡ true
both_true true b h = absurd (cc)
both_true false b h = h

-- the files that a write with room leaves
pub holds_written : (fs : List File) (name bytes : List ℕ) (size : ℕ) → has_room (file_named fs name) size ≡ true → Some (held_at (written_files fs name bytes)) ≡ holding name bytes (Some (held_at fs))
holds_written fs name bytes size h = ap Some (fun_ext (λ q. held_written fs name bytes q (room_some (file_named fs name) size h)))

-- the same, as the write tells of it
pub holds_after : (fs gs : List File) (name bytes : List ℕ) (listed done : Bool) → done ≡ true → done ≡ (not listed && has_room (file_named fs name) (length bytes)) → gs ≡ (if done then written_files fs name bytes else fs) → Some (held_at gs) ≡ holding name bytes (Some (held_at fs))
holds_after fs gs name bytes listed done is told left =
    let room : has_room (file_named fs name) (length bytes) ≡ true = both_true listed (has_room (file_named fs name) (length bytes)) (sym told ∙ is) in
    ap (λ (hs : List File). Some (held_at hs)) (left ∙ ap (λ b. if b then written_files fs name bytes else fs) is) ∙ holds_written fs name bytes (length bytes) room
