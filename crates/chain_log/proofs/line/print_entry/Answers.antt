use Rattle.std.proofs.Common.{◌≡◌, ◌++◌, ◌∷◌, List, ℕ, append_assoc, ap, ◌∙◌}
use Rattle.std.specs.Prelude.{codes}
use Rattle.chain_log.specs.Line.{line_of, spaced}
use Rattle.chain_log.proofs.line.print_entry.Goals as goal

-- a word behind a space, and what follows
word-then : (line word rest : List ℕ) → (line ++ 32 ∷ word) ++ rest ≡ line ++ 32 ∷ (word ++ rest)
word-then line word rest = append_assoc line (32 ∷ word) rest

words-then : (at vcpu app pc place start end rest : List ℕ)
    → ((((((at ++ 32 ∷ vcpu) ++ 32 ∷ app) ++ 32 ∷ pc) ++ 32 ∷ place) ++ 32 ∷ start) ++ 32 ∷ end) ++ rest
    ≡ at ++ 32 ∷ (vcpu ++ 32 ∷ (app ++ 32 ∷ (pc ++ 32 ∷ (place ++ 32 ∷ (start ++ 32 ∷ (end ++ rest))))))
words-then at vcpu app pc place start end rest =
    word-then (((((at ++ 32 ∷ vcpu) ++ 32 ∷ app) ++ 32 ∷ pc) ++ 32 ∷ place) ++ 32 ∷ start) end rest
    ∙ word-then ((((at ++ 32 ∷ vcpu) ++ 32 ∷ app) ++ 32 ∷ pc) ++ 32 ∷ place) start (32 ∷ (end ++ rest))
    ∙ word-then (((at ++ 32 ∷ vcpu) ++ 32 ∷ app) ++ 32 ∷ pc) place (32 ∷ (start ++ 32 ∷ (end ++ rest)))
    ∙ word-then ((at ++ 32 ∷ vcpu) ++ 32 ∷ app) pc (32 ∷ (place ++ 32 ∷ (start ++ 32 ∷ (end ++ rest))))
    ∙ word-then (at ++ 32 ∷ vcpu) app (32 ∷ (pc ++ 32 ∷ (place ++ 32 ∷ (start ++ 32 ∷ (end ++ rest)))))
    ∙ word-then at vcpu (32 ∷ (app ++ 32 ∷ (pc ++ 32 ∷ (place ++ 32 ∷ (start ++ 32 ∷ (end ++ rest))))))

-- words that are appended one by one, each behind a space
line-joined : (at vcpu app pc place start end : List ℕ) (chain : List (List ℕ))
    → (((((((at ++ 32 ∷ vcpu) ++ 32 ∷ app) ++ 32 ∷ pc) ++ 32 ∷ place) ++ 32 ∷ start) ++ 32 ∷ end) ++ spaced chain) ++ codes "\n"
    ≡ at ++ spaced (vcpu ∷ app ∷ pc ∷ place ∷ start ∷ end ∷ chain) ++ codes "\n"
line-joined at vcpu app pc place start end chain =
    ap (λ xs. xs ++ codes "\n") (words-then at vcpu app pc place start end (spaced chain))

pub returns : goal.returns
unfolding line_of
returns c =
    rw (c.in_ok-push.ensures.items, c.in_ok-push_places.ensures, c.as_slice.ensures.value, c.in_ok-push_number-3.ensures, c.in_ok-push_number-2.ensures, c.in_ok-push_place.ensures, c.in_ok-push_number.ensures, c.in_ok-push_word.ensures, c.in_ok-push_vcpu.ensures, c.in_ok-line.ensures.items, c.as_bytes.ensures.value, c.in_ok-head.ensures.ok, c.range-range.ensures.value, c.requires.table)
    (line-joined _ _ _ _ _ _ _ _)
