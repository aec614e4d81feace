use Rattle.std.proofs.Common.{ℕ, List, Some, true, refl, ap, ◌∙◌}
use Rattle.fc_outside.specs.Outside.{holding}
use Rattle.fc_outside.specs.Memory.{Memory, held_at}
use Rattle.fc_outside.proofs.Files.{holds_after}
use Rattle.fc_outside.proofs.memory.MemStoreStore.write.Goals as goal

pub returns-then-done-clause-written : goal.returns-then-done-clause-written
returns-then-done-clause-written c =
    let bytes = c.args.bytes.now in
    holds_after c.self.inside.files.items c.write_to-done.new.files.items c.as_bytes.result.now bytes c.is_listed-listed.result true refl c.if-done.ensures.done c.if-done.ensures.files
    ∙ ap (λ (n : List ℕ). holding n bytes (Some (held_at c.self.inside.files.items))) c.as_bytes.ensures.value
    ∙ ap (λ (m : Memory). holding c.args.name.now bytes (Some (held_at m.files))) c.self.view_is
