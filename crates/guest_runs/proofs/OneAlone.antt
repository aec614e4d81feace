-- The events of a run's one vCPU, as rounds.
use Rattle.std.proofs.Common.{◌≡◌, ℕ, zero, suc, ◌+◌, refl, ◌∙◌, sym, ap, subst, List, [], ◌∷◌, ◌++◌, replicate, append_assoc, append-nil}
use Rattle.vcpu_core.specs.World.{World, go_all}
use Rattle.guest_runs.specs.Engine.{RunsOut, rounds_of, round_of}
use Rattle.guest_runs.proofs.Events.{go_all-append}

-- rounds of one vCPU, with one more before them
rounds-more : (n : ℕ) → 0 ∷ rounds_of 1 n ≡ rounds_of 1 (suc n)
rounds-more zero = refl
rounds-more (suc n) = ap (λ (is : List ℕ). is ++ 0 ∷ []) (rounds-more n)

-- so many rounds make these events
abbrev pub AreRounds : List ℕ → Type 0
AreRounds is = (n : ℕ) × (is ≡ rounds_of 1 n)

pub row-rounds : (n : ℕ) → AreRounds (replicate n 0)
row-rounds zero = (0, refl)
row-rounds (suc n) = let r : AreRounds (replicate n 0) = row-rounds n in (suc r.0, ap (λ (is : List ℕ). 0 ∷ is) r.1 ∙ rounds-more r.0)

rounds-add : (m n : ℕ) → AreRounds (rounds_of 1 m ++ rounds_of 1 n)
rounds-add m zero = (m, append-nil (rounds_of 1 m))
rounds-add m (suc n) =
    let r : AreRounds (rounds_of 1 m ++ rounds_of 1 n) = rounds-add m n in
    (suc r.0, sym (append_assoc (rounds_of 1 m) (rounds_of 1 n) (round_of 1)) ∙ ap (λ (is : List ℕ). is ++ round_of 1) r.1)

-- rounds led here, and a row goes on from here
pub rounds-on : (first now new : World) (m n : ℕ) → now ≡ go_all first (rounds_of 1 m) → new ≡ go_all now (replicate n 0)
    → (k : ℕ) × (new ≡ go_all first (rounds_of 1 k))
rounds-on first now new m n led goes =
    let r : AreRounds (replicate n 0) = row-rounds n in
    let both : AreRounds (rounds_of 1 m ++ rounds_of 1 r.0) = rounds-add m r.0 in (
      both.0,
      goes ∙ ap (λ (is : List ℕ). go_all now is) r.1 ∙ ap (λ (w : World). go_all w (rounds_of 1 r.0)) led
          ∙ sym (go_all-append first (rounds_of 1 m) (rounds_of 1 r.0)) ∙ ap (λ (is : List ℕ). go_all first is) both.1,
    )

-- they go behind a script
pub alone-behind : (first now last : World) (script : List ℕ) (vcpus : ℕ) → now ≡ go_all first script → RunsOut [] 1 now last → vcpus ≡ 1 → RunsOut script vcpus first last
alone-behind first now last script vcpus led alone one =
    subst (λ n. RunsOut script n first last) (sym one) (record {
      rounds = alone.rounds;
      leads = alone.leads ∙ ap (λ (w : World). go_all w (rounds_of 1 alone.rounds)) led ∙ sym (go_all-append first script (rounds_of 1 alone.rounds));
      idle = alone.idle;
    })
