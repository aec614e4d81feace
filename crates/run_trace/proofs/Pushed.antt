-- Lists that grow at their ends.
use Rattle.std.proofs.Common.{◌≡◌, ℕ, ◌+◌, ◌<◌, refl, ◌∙◌, sym, ap, subst, List, [], ◌∷◌, ◌++◌, length, take, get_or, append_assoc}
use Rattle.std.specs.List.{AllByRecursion}
use Rattle.std.proofs.lemmas.List.{take_more}

all-more : {A : Type 0} (P : A → Type 0) (xs : List A) (x : A) → AllByRecursion P xs → P x → AllByRecursion P (xs ++ x ∷ [])
all-more P [] x all one = (one, tt)
all-more P (y ∷ ys) x all one = (all.0, all-more P ys x all.1 one)

pub all-pushed : {A : Type 0} (P : A → Type 0) (before after : List A) (x : A) → after ≡ before ++ x ∷ [] → AllByRecursion P before → P x → AllByRecursion P after
all-pushed P before after x is all one = subst (AllByRecursion P) (sym is) (all-more P before x all one)

-- one more item of a list behind another
pub one-more : {A : Type 0} (first before after items : List A) (k : ℕ) (x item : A) → after ≡ before ++ x ∷ [] → before ≡ first ++ take k items → x ≡ item
    → item ≡ get_or items k item → k < length items → after ≡ first ++ take (k + 1) items
one-more first before after items k x item pushed led same is within =
    let last : take (k + 1) items ≡ take k items ++ item ∷ [] = take_more items k item within ∙ ap (λ y. take k items ++ y ∷ []) (sym is) in
    let joined : first ++ take (k + 1) items ≡ (first ++ take k items) ++ item ∷ [] = ap (λ xs. first ++ xs) last ∙ sym (append_assoc first (take k items) (item ∷ [])) in
    let grown : after ≡ (first ++ take k items) ++ item ∷ [] = pushed ∙ ap (λ xs. xs ++ x ∷ []) led ∙ ap (λ y. (first ++ take k items) ++ y ∷ []) same in
    grown ∙ sym joined
