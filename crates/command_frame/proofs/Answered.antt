-- What making and finishing promise, put together.
use Rattle.std.proofs.Common.{◌≡◌, ◌≢◌, ℕ, zero, suc, true, false, List, [], ◌∷◌, take, refl, ap, sym, subst, ◌∙◌, inl, inr, Some, None, Ok, Err, ◌⊎◌}
use Rattle.std.specs.Prelude.{map, Result, slice_get, Option}
use Rattle.std.specs.Str.{bytes_eq}
use Rattle.std.proofs.lemmas.Slice.Eq.{bytes_eq-Decides}
use Rattle.fc_outside.specs.Outside.{Files, Faults, file_at, holding, SameBut, IsFaultOf}
use Rattle.command_frame.specs.Answers.{word_at}
use Rattle.command_frame.specs.Finished.{Outside, written, IsLost, IsDelivered, IsFileLost, IsOutLost, IsDone, Finishes}
use Rattle.command_frame.specs.Promise.{Request, FileContents, Keeps, Refuses, Reaches}
use Rattle.command_frame.specs.Command.{IsAmong, MakeSaid, MakeCounts, HasOutputs, IsSaid, SameOthers, IsAsBefore, IsAnswer}
use Rattle.command_frame.specs.declared.answer.Answer.{Answer}
use Rattle.command_frame.specs.declared.answer.Answer.TheVariants.{Served, Refused, Unread, Unwritten, NoMemory}
use Rattle.command_frame.specs.declared.product.Written.{Written}
use Rattle.command_frame.specs.declared.product.Product.{Product}
use Rattle.command_frame.specs.declared.product.Refusal.{Refusal}
use Rattle.command_frame.specs.declared.product.Refusal.TheVariants as no

differs : (q name : List ℕ) → q ≢ name → bytes_eq q name ≡ false
differs q name other = elim (bytes_eq q name) as (λ v. bytes_eq q name ≡ v → v ≡ false) [
  | true ↦ λ e. absurd (other ((bytes_eq-Decides q name).0 e))
  | false ↦ λ e. refl
] refl

holding-other : (name bytes : List ℕ) (files : Files) (q : List ℕ) → q ≢ name → file_at q (holding name bytes files) ≡ file_at q files
holding-other name bytes None q other = refl
holding-other name bytes (Some at) q other = let apart : bytes_eq q name ≡ false = differs q name other in rw apart refl

written-others : (words : List (List ℕ)) (fs : List Written) (files : Files) (q : List ℕ)
    → ((n : ℕ) → IsAmong (map (λ (f : Written). f.word) fs) n → q ≢ word_at words n) → file_at q (written words fs files) ≡ file_at q files
written-others words [] files q others = refl
written-others words (f ∷ fs) files q others =
    written-others words fs (holding (word_at words f.word) f.bytes files) q (λ n h. others n (inr h))
    ∙ holding-other (word_at words f.word) f.bytes files q (others f.word (inl refl))

take-among : (fs : List Written) (k n : ℕ) → IsAmong (map (λ (f : Written). f.word) (take k fs)) n → IsAmong (map (λ (f : Written). f.word) fs) n
take-among [] zero n h = absurd h
take-among [] (suc k) n h = absurd h
take-among (f ∷ fs) zero n h = absurd h
take-among (f ∷ fs) (suc k) n h = elim h [ inl e ↦ inl e | inr g ↦ inr (take-among fs k n g) ]

at-among : (fs : List Written) (k : ℕ) (f : Written) → slice_get fs k ≡ Some f → IsAmong (map (λ (g : Written). g.word) fs) f.word
at-among [] zero f is = absurd (cc is)
at-among [] (suc k) f is = absurd (cc is)
at-among (g ∷ fs) zero f is = inl (let same : f ≡ g = cc is in ap (λ (h : Written). h.word) same)
at-among (g ∷ fs) (suc k) f is = inr (at-among fs k f is)

lost-among : (words : List (List ℕ)) (fs : List Written) (n : ℕ) (b a : Files) → IsLost words fs n b a → IsAmong (map (λ (g : Written). g.word) fs) n
lost-among words fs n b a l = subst (IsAmong (map (λ (g : Written). g.word) fs)) l.named (at-among fs l.at l.file l.is)

lost-others : (words : List (List ℕ)) (fs : List Written) (n : ℕ) (b a : Files) → IsLost words fs n b a → SameOthers words (map (λ (f : Written). f.word) fs) b a
lost-others words fs n b a l = λ q others. l.others q (others n (lost-among words fs n b a l))
    ∙ written-others words (take l.at fs) b q (λ m h. others m (take-among fs l.at m h))

module _ (r : Request) (b : Outside) (a : Outside) where
  done-answer : (p : Product) (x : Answer) → ((at : FileContents) → b.files ≡ Some at → Keeps r.words at p r.promise) → map (λ (f : Written). f.word) p.files ≡ r.outputs
      → IsDone r.words p b a x → IsAnswer r b a x
  done-answer p (Served ended) said outputs k = record {
    said = λ at told. (p, said at told, k);
    reads = k.1.reads;
    writes = k.1.writes;
    puts = k.1.puts;
    kept = λ q others. ap (file_at q) k.1.files ∙ written-others r.words p.files b.files q (subst (λ ns. (n : ℕ) → IsAmong ns n → q ≢ word_at r.words n) (sym outputs) others);
  }
  done-answer p (Unwritten (Some n)) said outputs k = record {
    said = λ at told. (p, said at told, k);
    reads = k.reads;
    writes = (subst (λ ns. IsAmong ns n) outputs (lost-among r.words p.files n b.files a.files k.lost), k.writes);
    puts = k.puts;
    kept = (subst (λ ns. SameOthers r.words ns b.files a.files) outputs (lost-others r.words p.files n b.files a.files k.lost), k.out);
  }
  done-answer p (Unwritten None) said outputs k = record {
    said = λ at told. (p, said at told, k);
    reads = k.reads;
    writes = k.writes;
    puts = k.puts;
    kept = λ q others. ap (file_at q) k.files ∙ written-others r.words p.files b.files q (subst (λ ns. (n : ℕ) → IsAmong ns n → q ≢ word_at r.words n) (sym outputs) others);
  }
  done-answer p (Refused why) said outputs k = absurd k
  done-answer p (Unread n) said outputs k = absurd k
  done-answer p NoMemory said outputs k = absurd k

  pub answered : (reads : Faults) (made : Result Product Refusal) (x : Answer) → ((at : FileContents) → b.files ≡ Some at → MakeSaid r at made) → MakeCounts r b.reads reads made
      → HasOutputs r made → Finishes r.words made (record b { reads = reads }) a x → IsAnswer r b a x
  answered reads (Ok p) x said counts outputs k = done-answer p x said outputs (subst (λ (n : Faults). IsDone r.words p (record b { reads = n }) a x) counts k)
  answered reads (Err (no.Fault why)) x said counts outputs k =
      let same : a ≡ b = k.1 ∙ ap (λ (n : Faults). record b { reads = n }) counts in
      elim k.0 [
        | inl e ↦ subst (IsAnswer r b a) (sym e) (record { said = said; reads = ap (λ (o : Outside). o.reads) same; writes = ap (λ (o : Outside). o.writes) same; puts = ap (λ (o : Outside). o.puts) same; kept = record { files = ap (λ (o : Outside). o.files) same; out = ap (λ (o : Outside). o.out) same } })
        | inr e ↦ subst (IsAnswer r b a) (sym e) (record { said = λ at told. tt; reads = ap (λ (o : Outside). o.reads) same; writes = ap (λ (o : Outside). o.writes) same; puts = ap (λ (o : Outside). o.puts) same; kept = record { files = ap (λ (o : Outside). o.files) same; out = ap (λ (o : Outside). o.out) same } })
      ]
  answered reads (Err (no.Unread n)) x said counts outputs k = subst (IsAnswer r b a) (sym k.0) (record {
    said = said;
    reads = (counts.0, subst (λ (o : Outside). IsFaultOf (word_at r.words n) b.reads o.reads) (sym k.1) counts.1);
    writes = ap (λ (o : Outside). o.writes) k.1;
    puts = ap (λ (o : Outside). o.puts) k.1;
    kept = record { files = ap (λ (o : Outside). o.files) k.1; out = ap (λ (o : Outside). o.out) k.1 };
  })
  answered reads (Err no.NoMemory) x said counts outputs k =
      let same : a ≡ b = k.1 ∙ ap (λ (n : Faults). record b { reads = n }) counts in
      subst (IsAnswer r b a) (sym k.0) (record { said = λ at told. tt; reads = ap (λ (o : Outside). o.reads) same; writes = ap (λ (o : Outside). o.writes) same; puts = ap (λ (o : Outside). o.puts) same; kept = record { files = ap (λ (o : Outside). o.files) same; out = ap (λ (o : Outside). o.out) same } })
