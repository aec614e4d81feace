-- One more step of a schedule that is run.
use Rattle.std.proofs.Common.{◌≡◌, ℕ, suc, ◌+◌, ◌<◌, ◌≤◌, true, false, List, [], ◌∷◌, ◌++◌, length, take, refl, sym, ap, subst, ◌∙◌, arith, rules, add-one}
use Rattle.std.specs.Prelude.{slice_index, if◌then◌else◌}
use Rattle.std.proofs.Math.Seq.{take-suc}
use Rattle.guest_board.specs.declared.board.Full.TheVariants.{Stepped, Over}
use Rattle.guest_board.specs.Board.{Seat, may, moved, step_of, next_of, full_after, full_answer}
use Rattle.run_evidence.specs.Config.{Config, rules_in, full, IsLawfulSchedule}
use Rattle.run_evidence.specs.Growing.{board_of, BoardsMove, LawfulGrows}
use Rattle.full_run.specs.Replay.{IsLongest}

-- the board has made the first steps of the schedule, so many, and each of them exists
pub record HasMade (c : Config) (schedule : List ℕ) (made : ℕ) (b : Seat) : Type 0 where
  pub board : b ≡ board_of c (take made schedule)
  pub lawful : IsLawfulSchedule c (take made schedule)

-- a step that was made exists
went : (b : Seat) (i : ℕ) → (full_answer b i ≡ Over → ⊥) → may b.rules b.state i ≡ true
went b i stepped = elim (may b.rules b.state i) as (λ v. ((if v then Stepped (next_of b.state i) else Over) ≡ Over → ⊥) → v ≡ true) [ true ↦ λ h. refl | false ↦ λ h. absurd (h refl) ] stepped

pub stuck : (b : Seat) (i : ℕ) → full_answer b i ≡ Over → may b.rules b.state i ≡ false
stuck b i over = elim (may b.rules b.state i) as (λ v. (if v then Stepped (next_of b.state i) else Over) ≡ Over → v ≡ false) [ true ↦ λ h. absurd (cc) | false ↦ λ h. refl ] over

after-went : (b : Seat) (i : ℕ) → may b.rules b.state i ≡ true → full_after b i ≡ moved b i (step_of b.rules b.state i)
after-went b i goes = rw goes refl

pub more : (schedule : List ℕ) (made : ℕ) → made < length schedule → take (made + 1) schedule ≡ take made schedule ++ slice_index schedule made ∷ []
more schedule made within = rw (add-one made) (take-suc schedule made 0 within)

pub made-more : BoardsMove → LawfulGrows → (c : Config) (schedule : List ℕ) (made i : ℕ) (board next : Seat) → made < length schedule → slice_index schedule made ≡ i
    → HasMade c schedule made board → (full_answer board i ≡ Over → ⊥) → next ≡ full_after board i → HasMade c schedule (made + 1) next
made-more moves grows c schedule made i board next within here h stepped is =
    let so_far : List ℕ = take made schedule in
    let longer : take (made + 1) schedule ≡ so_far ++ i ∷ [] = more schedule made within ∙ ap (λ x. so_far ++ x ∷ []) here in
    let goes : may (rules_in c) (full c so_far) i ≡ true = subst (λ (b : Seat). may b.rules b.state i ≡ true) h.board (went board i stepped) in
    let now : full_after board i ≡ board_of c (so_far ++ i ∷ [])
    = subst (λ (b : Seat). full_after b i ≡ board_of c (so_far ++ i ∷ [])) (sym h.board) (after-went (board_of c so_far) i goes ∙ sym (moves c so_far i)) in
    record {
      board = is ∙ now ∙ ap (board_of c) (sym longer);
      lawful = subst (IsLawfulSchedule c) (sym longer) (grows c so_far i h.lawful goes);
    }

-- no step is left
pub whole : (c : Config) (schedule : List ℕ) (made : ℕ) (board : Seat) → made ≡ length schedule → HasMade c schedule made board → IsLongest c schedule made
whole c schedule made board all h = record { within = omega (arith, all); lawful = h.lawful; ends = λ within. absurd (omega (arith, all, within)) }

-- the next step does not exist
pub cut : (c : Config) (schedule : List ℕ) (made i : ℕ) (board : Seat) → made < length schedule → slice_index schedule made ≡ i
    → HasMade c schedule made board → full_answer board i ≡ Over → IsLongest c schedule made
cut c schedule made i board within here h over = record {
  within = omega (arith, within);
  lawful = h.lawful;
  ends = λ _. subst (λ x. may (rules_in c) (full c (take made schedule)) x ≡ false) (sym here) (subst (λ (b : Seat). may b.rules b.state i ≡ false) h.board (stuck board i over));
}
