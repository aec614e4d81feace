-- A step keeps kernel text, and each page counts one more store at most.
use Rattle.std.proofs.Common.{◌≡◌, ◌∙◌, ℕ, refl, sym, subst, arith, Option, Some, None, List, length}
use Rattle.gstage.specs.Stage.{IsFor}
use Rattle.fc_numbers.specs.declared.places.Span.{Span}
use Rattle.guest_ram.specs.Ram.{Ram, IsLaid, IsLawful}
use Rattle.rv_decode.specs.declared.Inst.{Inst}
use Rattle.rv_decode.specs.Rows.{decode_of, decode16_of}
use Rattle.rv_step.specs.Site.{Site}
use Rattle.rv_step.specs.Kept.{KeepsText}
use Rattle.rv_step.proofs.Keeps.{did_keeps_text}
use Rattle.guest_board.specs.declared.fetch.Fetched.TheVariants.{Short, Long, Faults, Stops}
use Rattle.guest_board.specs.declared.rules.Rules.{Rules}
use Rattle.guest_board.specs.declared.step.StepStart.{StepStart}
use Rattle.guest_board.specs.declared.step.StepStart.TheVariants.{Interrupt, Fetches}
use Rattle.guest_board.specs.Made.{Made}
use Rattle.guest_board.specs.Step.{by_inst, made_by, word}
use Rattle.guest_board.specs.Board.{State, site_of, stepped_by, after_made}

keeps_same : (ram : Ram) → KeepsText ram ram
keeps_same ram = record { text = refl; size = refl; frames = refl; bytes = λ at h. refl; stamp_least = λ frame. omega arith; stamp_most = λ frame. omega arith }

inst_keeps : (inst : Option Inst) (bits len clock : ℕ) (s : Site) → IsLaid s.ram → KeepsText s.ram (by_inst inst bits len clock s).ram
unfolding by_inst
inst_keeps None bits len clock s laid = keeps_same s.ram
inst_keeps (Some inst) bits len clock s laid = did_keeps_text inst len clock s laid

made_keeps : (start : StepStart) (clock : ℕ) (s : Site) → IsLaid s.ram → KeepsText s.ram (made_by start clock s).ram
unfolding made_by
made_keeps (Interrupt code) clock s laid = keeps_same s.ram
made_keeps (Fetches (Short text p h)) clock s laid = inst_keeps (decode16_of h) h 2 clock s laid
made_keeps (Fetches (Long text p h g)) clock s laid = inst_keeps (decode_of (word h g)) (word h g) 4 clock s laid
made_keeps (Fetches (Faults cause tval)) clock s laid = keeps_same s.ram
made_keeps (Fetches (Stops stop)) clock s laid = keeps_same s.ram

pub laid_kept : (old new : Ram) → KeepsText old new → IsLaid old → IsLaid new
laid_kept old new k laid = record {
  lawful = subst (λ (t : List Span). IsLawful (length new.bytes) t) (sym k.text) (subst (λ n. IsLawful n old.text) (sym k.size) laid.lawful);
  frames = rw (k.size, k.frames) laid.frames;
}

-- a step keeps kernel text
pub stepped_keeps : (rules : Rules) (s : State) (i : ℕ) (start : StepStart) → IsLaid s.ram → KeepsText s.ram (stepped_by rules s i start).ram
unfolding after_made
stepped_keeps rules s i start laid = made_keeps start s.clock (site_of s i) laid

-- the same, where the memory after the step is told
pub carried_keeps : (start : StepStart) (clock : ℕ) (s : Site) (m : Made) (ram : Ram) → m ≡ made_by start clock s → m.ram ≡ ram → IsLaid s.ram → KeepsText s.ram ram
carried_keeps start clock s m ram is same laid = subst (λ (r : Ram). KeepsText s.ram r) same (subst (λ (x : Made). KeepsText s.ram x.ram) (sym is) (made_keeps start clock s laid))

-- a stage that fits a memory fits the memory after a step
pub stage_kept : (text : List Span) (span : Span) (old new : Ram) → KeepsText old new → IsFor text span old → IsFor text span new
stage_kept text span old new k for = record { same_text = for.same_text ∙ sym k.text; start = for.start; end = rw k.size for.end }

-- where nothing was done, text is kept
pub keeps_itself : (ram : Ram) → KeepsText ram ram
keeps_itself ram = keeps_same ram
