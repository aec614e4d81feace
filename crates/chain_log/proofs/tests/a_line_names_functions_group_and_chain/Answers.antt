use Rattle.std.proofs.Common.{◌≡◌, ℕ, zero, suc, ◌+◌, ◌<◌, true, List, [], ◌∷◌, length, arith, ap, refl, sym, ◌∙◌}
use Rattle.std.specs.Prelude.{slice_index_or}
use Rattle.std.proofs.lemmas.Grind.{common_steps}
use Rattle.function_table.specs.Groups.{Groups, in_groups_text}
use Rattle.function_table.proofs.TestKernels.{two_pages}
use Rattle.chain_log.proofs.tests.a_line_names_functions_group_and_chain.Goals as goal

all-one : (t : Groups) (x : ℕ) (xs : List ℕ) → xs ≡ x ∷ [] → in_groups_text t x ≡ true → (k d : ℕ) → k < length xs → in_groups_text t (slice_index_or xs k d) ≡ true
all-one t x xs e text zero d within = rw e text
all-one t x xs e text (suc k) d within = let one : length xs ≡ 1 = ap length e in absurd (omega arith)

pub print_entry-requires-clause-pc : goal.print_entry-requires-clause-pc
print_entry-requires-clause-pc g c = rw (c.in_ok-table.ensures, c.in_ok-image.ensures.spans) refl

pub print_entry-requires-clause-chain : goal.print_entry-requires-clause-chain
print_entry-requires-clause-chain g c =
    all-one c.in_ok-table.table 0x80000004 c.push.new.self.items (grind (arith, common_steps))
    (rw (c.in_ok-table.ensures, c.in_ok-image.ensures.spans) refl)
