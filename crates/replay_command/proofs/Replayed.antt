-- What a replay makes, from what was found.
use Rattle.std.proofs.Common.{◌≡◌, ℕ, Bool, true, false, cond, not, List, [], ◌∷◌, ◌++◌, Some, None, Result, Ok, Err, IfOk, length, take, refl, ◌∙◌, sym, ap, subst, arith}
use Rattle.std.specs.Prelude.{◌==◌}
use Rattle.std.proofs.lemmas.Bool.Decides.{nat_tests}
use Rattle.std.proofs.lemmas.Grind.{common_steps}
use Rattle.trace_file.specs.Trace.{Told}
use Rattle.trace_file.specs.declared.state.State.{State as VcpuState}
use Rattle.run_trace.specs.Told.{memory_digest}
use Rattle.guest_board.specs.Board.{State}
use Rattle.run_evidence.specs.Config.{Config, full}
use Rattle.full_run.specs.Replay.{IsLongest}
use Rattle.full_run.specs.Laws.{EachHasLongest}
use Rattle.command_frame.specs.Products.{ended_of}
use Rattle.command_frame.specs.declared.product.Product.{Product}
use Rattle.replay_command.specs.declared.comparison.Comparison.{Comparison}
use Rattle.replay_command.specs.declared.comparison.Comparison.TheVariants.{Vcpus, Schedule, Ending, Memory}
use Rattle.replay_command.specs.Comparisons.{differs, first_difference, run_compared, vcpus_compared}
use Rattle.replay_command.specs.Replay.{IsReplay, IsSame, IsProductOfDifference, Tells}
use Rattle.replay_command.proofs.Vcpus.{behind, front}

-- the first comparison differs, or the difference is among the others
pub first-differs : (x : Comparison) (rest : List Comparison) → differs x ≡ true → first_difference (x ∷ rest) ≡ Some x
first-differs x rest e = rw e refl

pub first-same : (x : Comparison) (rest : List Comparison) → differs x ≡ false → first_difference (x ∷ rest) ≡ first_difference rest
first-same x rest e = rw e refl

-- none differs, so the first does not
none-first : (x : Comparison) (rest : List Comparison) → first_difference (x ∷ rest) ≡ None → differs x ≡ false
none-first x rest none = by (differs x) none
  where
    by : (b : Bool) → cond b (Some x) (first_difference rest) ≡ None → b ≡ false
    by true h = absurd (cc)
    by false h = refl

same-numbers : (m n : ℕ) → not (m == n) ≡ false → m ≡ n
same-numbers m n e = grind (arith, nat_tests, e)

pub same-vcpus : (m n : ℕ) → differs (Vcpus m n) ≡ false → m ≡ n
same-vcpus m n e = same-numbers m n e

-- what holds of each product holds of one that was made
pub if-ok : {E : Type 0} {P Q : Product → Type 0} (r : Result Product E) → ((p : Product) → P p → Q p) → IfOk r P → IfOk r Q
if-ok (Ok p) f h = f p h
if-ok (Err e) f h = tt

module _ (s : State) (t : Told) (made : ℕ) (schedule : differs (Schedule made (length t.schedule)) ≡ false) (ending : differs (Ending s.end t.end) ≡ false) where
  -- neither the schedule nor the end differs
  rest : first_difference (run_compared s t made) ≡ first_difference (vcpus_compared s t.states t.vcpus ++ Memory (memory_digest s.ram) t.memory ∷ [])
  rest = first-same (Schedule made (length t.schedule)) (Ending s.end t.end ∷ vcpus_compared s t.states t.vcpus ++ Memory (memory_digest s.ram) t.memory ∷ []) schedule
      ∙ first-same (Ending s.end t.end) (vcpus_compared s t.states t.vcpus ++ Memory (memory_digest s.ram) t.memory ∷ []) ending

  -- all states are compared
  all-states : (states : List VcpuState) → states ≡ t.states → length t.states ≡ t.vcpus
      → first_difference (vcpus_compared s states (length states)) ≡ first_difference (vcpus_compared s t.states t.vcpus)
  all-states states same each = ap (λ xs. first_difference (vcpus_compared s xs (length xs))) same ∙ ap (λ n. first_difference (vcpus_compared s t.states n)) each

  pub value-differs : (x : Comparison) (states : List VcpuState) → states ≡ t.states → length t.states ≡ t.vcpus
      → Some x ≡ first_difference (vcpus_compared s states (length states)) → Some x ≡ first_difference (run_compared s t made)
  value-differs x states same each e =
      sym (rest ∙ front (vcpus_compared s t.states t.vcpus) (Memory (memory_digest s.ram) t.memory ∷ []) x (sym (e ∙ all-states states same each)))

  behind-values : (states : List VcpuState) → states ≡ t.states → length t.states ≡ t.vcpus → None ≡ first_difference (vcpus_compared s states (length states))
      → first_difference (run_compared s t made) ≡ first_difference (Memory (memory_digest s.ram) t.memory ∷ [])
  behind-values states same each e =
      rest ∙ behind (vcpus_compared s t.states t.vcpus) (Memory (memory_digest s.ram) t.memory ∷ []) (sym (e ∙ all-states states same each))

  pub memory-differs : (states : List VcpuState) (digest : List ℕ) → states ≡ t.states → length t.states ≡ t.vcpus → None ≡ first_difference (vcpus_compared s states (length states))
      → digest ≡ memory_digest s.ram → differs (Memory digest t.memory) ≡ true → Some (Memory digest t.memory) ≡ first_difference (run_compared s t made)
  memory-differs states digest same each e is bad =
      ap (λ d. Some (Memory d t.memory)) is
      ∙ sym (behind-values states same each e ∙ first-differs (Memory (memory_digest s.ram) t.memory) [] (subst (λ d. differs (Memory d t.memory) ≡ true) is bad))

  pub none-differs : (states : List VcpuState) (digest : List ℕ) → states ≡ t.states → length t.states ≡ t.vcpus → None ≡ first_difference (vcpus_compared s states (length states))
      → digest ≡ memory_digest s.ram → differs (Memory digest t.memory) ≡ false → None ≡ first_difference (run_compared s t made)
  none-differs states digest same each e is good =
      sym (behind-values states same each e ∙ first-same (Memory (memory_digest s.ram) t.memory) [] (subst (λ d. differs (Memory d t.memory) ≡ false) is good))

module _ (c : Config) (t : Told) (p : Product) where
  pub vcpus-differ : EachHasLongest → differs (Vcpus c.setup.vcpus t.vcpus) ≡ true → IsProductOfDifference (Vcpus c.setup.vcpus t.vcpus) p → IsReplay c t p
  vcpus-differ each e told =
      let l = each c t.schedule in
      record {
        made = l.0;
        longest = l.1;
        tells = subst (λ o. Tells c t o p) (sym (first-differs (Vcpus c.setup.vcpus t.vcpus) (run_compared (full c (take l.0 t.schedule)) t l.0) e)) told;
      }

  module _ (made : ℕ) (longest : IsLongest c t.schedule made) (vcpus : differs (Vcpus c.setup.vcpus t.vcpus) ≡ false) where
    pub run-differs : (x : Comparison) → Some x ≡ first_difference (run_compared (full c (take made t.schedule)) t made) → IsProductOfDifference x p → IsReplay c t p
    run-differs x e told = record {
      made = made;
      longest = longest;
      tells = subst (λ o. Tells c t o p) (e ∙ sym (first-same (Vcpus c.setup.vcpus t.vcpus) (run_compared (full c (take made t.schedule)) t made) vcpus)) told;
    }

    take-whole : (xs : List ℕ) (n : ℕ) → n ≡ length xs → take n xs ≡ xs
    take-whole xs n e = grind (arith, common_steps, e)

    pub all-same : None ≡ first_difference (run_compared (full c (take made t.schedule)) t made) → p.ended ≡ ended_of t.end → p.files ≡ []
        → p.out ≡ (full c (take made t.schedule)).console → IsReplay c t p
    all-same e ended files out =
        let first : differs (Schedule made (length t.schedule)) ≡ false = none-first (Schedule made (length t.schedule))
        (Ending (full c (take made t.schedule)).end t.end ∷ vcpus_compared (full c (take made t.schedule)) t.states t.vcpus ++ Memory (memory_digest (full c (take made t.schedule)).ram) t.memory ∷ []) (sym e) in
        let whole : made ≡ length t.schedule = same-numbers made (length t.schedule) first in
        let same : IsSame c t p = record { ends = ended; files = files; out = out ∙ ap (λ (h : List ℕ). (full c h).console) (take-whole t.schedule made whole) } in
        record {
          made = made;
          longest = longest;
          tells = subst (λ o. Tells c t o p) (e ∙ sym (first-same (Vcpus c.setup.vcpus t.vcpus) (run_compared (full c (take made t.schedule)) t made) vcpus)) same;
        }
