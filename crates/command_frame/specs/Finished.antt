-- How a product is written, and what an answer leaves.
-- The rule: the output files in order, then standard output; nothing is written behind a fault.
use Rattle.std.specs.Prelude.{◌≡◌, ◌≢◌, ℕ, ◌⊎◌, Option, Some, None, List, [], ◌∷◌, take, slice_get, Result, Ok, Err}
use Rattle.fc_outside.specs.Outside.{Files, Faults, IsFaultOf, IsFault, SameBut, holding, with_more, GrewByPart}
use Rattle.command_frame.specs.Answers.{word_at}
use Rattle.command_frame.specs.declared.answer.Answer.{Answer}
use Rattle.command_frame.specs.declared.answer.Answer.TheVariants.{Served, Refused, Unread, Unwritten, NoMemory}
use Rattle.command_frame.specs.declared.product.Written.{Written}
use Rattle.command_frame.specs.declared.product.Product.{Product}
use Rattle.command_frame.specs.declared.product.Refusal.{Refusal}
use Rattle.command_frame.specs.declared.product.Refusal.TheVariants as no

-- what the store and standard output are at a moment: the files, where the store tells them, and the faults of its reads
-- and writes; the bytes that went out, where that is told, and how many faults there were
pub record Outside : Type 0 where
  pub files : Files
  pub reads : Faults
  pub writes : Faults
  pub out : Option (List ℕ)
  pub puts : ℕ

abbrev pub outside_of : Files → Faults → Faults → Option (List ℕ) → ℕ → Outside
outside_of files reads writes out puts = record { files = files; reads = reads; writes = writes; out = out; puts = puts }

-- the files, once these are written one after another
abbrev pub written : List (List ℕ) → List Written → Files → Files
written words [] files = files
written words (f ∷ fs) files = written words fs (holding (word_at words f.word) f.bytes files)

-- one of these files, that of place n, was not written: those before it are, and none behind it
pub record IsLost (words : List (List ℕ)) (fs : List Written) (n : ℕ) (before after : Files) : Type 0 where
  pub at : ℕ
  pub file : Written
  pub is : slice_get fs at ≡ Some file
  pub named : file.word ≡ n
  pub others : SameBut (word_at words n) (written words (take at fs) before) after

-- what writing files answers
abbrev pub Writes : List (List ℕ) → List Written → Files → Files → Faults → Faults → Result Unit ℕ → Type 0
Writes words fs before after faults faults_after (Ok done) = (after ≡ written words fs before) × (faults_after ≡ faults)
Writes words fs before after faults faults_after (Err n) = IsLost words fs n before after × IsFaultOf (word_at words n) faults faults_after

-- the product is where it belongs
pub record IsDelivered (words : List (List ℕ)) (p : Product) (before after : Outside) : Type 0 where
  pub files : after.files ≡ written words p.files before.files
  pub out : after.out ≡ with_more p.out before.out
  pub reads : after.reads ≡ before.reads
  pub writes : after.writes ≡ before.writes
  pub puts : after.puts ≡ before.puts

-- the file of place n was not written
pub record IsFileLost (words : List (List ℕ)) (p : Product) (n : ℕ) (before after : Outside) : Type 0 where
  pub lost : IsLost words p.files n before.files after.files
  pub out : after.out ≡ before.out
  pub reads : after.reads ≡ before.reads
  pub writes : IsFaultOf (word_at words n) before.writes after.writes
  pub puts : after.puts ≡ before.puts

-- the files were written, and a part of what goes to standard output
pub record IsOutLost (words : List (List ℕ)) (p : Product) (before after : Outside) : Type 0 where
  pub some : p.out ≢ []
  pub files : after.files ≡ written words p.files before.files
  pub part : GrewByPart p.out before.out after.out
  pub reads : after.reads ≡ before.reads
  pub writes : after.writes ≡ before.writes
  pub puts : IsFault before.puts after.puts

-- what writing a product answers
abbrev pub IsDone : List (List ℕ) → Product → Outside → Outside → Answer → Type 0
IsDone words p before after (Served ended) = (ended ≡ p.ended) × IsDelivered words p before after
IsDone words p before after (Unwritten (Some n)) = IsFileLost words p n before after
IsDone words p before after (Unwritten None) = IsOutLost words p before after
IsDone words p before after other = ⊥

-- the answer of a command that makes nothing; want of memory may come in place of a fault's text
abbrev pub IsAnswerOf : Refusal → Answer → Type 0
IsAnswerOf (no.Fault why) answer = (answer ≡ Refused why) ⊎ (answer ≡ NoMemory)
IsAnswerOf (no.Unread n) answer = answer ≡ Unread n
IsAnswerOf no.NoMemory answer = answer ≡ NoMemory

-- the answer to what was made, or to why nothing was
abbrev pub Finishes : List (List ℕ) → Result Product Refusal → Outside → Outside → Answer → Type 0
Finishes words (Ok p) before after answer = IsDone words p before after answer
Finishes words (Err why) before after answer = IsAnswerOf why answer × (after ≡ before)
