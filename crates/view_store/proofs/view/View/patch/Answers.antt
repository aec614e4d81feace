use Rattle.std.proofs.Common.{arith, ◌∙◌, length, ◌<◌, ◌+◌, ◌≡◌, false, length-set, subst, sym}
use Rattle.std.proofs.lemmas.Grind.{common_steps}
use Rattle.std.specs.Prelude.{count_by, not, slice_set, true, slice_index_or}
use Rattle.function_table.specs.Groups.{groups_count}
use Rattle.view_store.specs.Paged.{PagedView}
use Rattle.view_store.specs.PagedIn.{paged_of}
use Rattle.view_store.proofs.PageLemmas.{masked-logged, marks-logged, absent-set, absent-apart, missed-logged}
use Rattle.view_store.proofs.view.View.patch.Goals as goal

pub invariant_of-self : goal.invariant_of-self
invariant_of-self c =
    let i = c.self.invariant in
    let known : c.args.entry.group < groups_count c.self.inside.table = subst (λ (p : PagedView). c.args.entry.group < groups_count p.groups) (sym c.self.view_is) c.requires.group in
    let view : c.args.entry.view ≡ c.self.inside.number = subst (λ (p : PagedView). c.args.entry.view ≡ p.number) (sym c.self.view_is) c.requires.view in
    let within : c.args.entry.group < length c.self.inside.present.items = omega (arith, known, i.marks) in
    let absent : slice_index_or c.self.inside.present.items c.args.entry.group false ≡ false = grind (arith, common_steps) in
    let fewer : count_by not (slice_set c.self.inside.present.items c.args.entry.group true) + 1 ≡ count_by not c.self.inside.present.items = absent-set _ c.args.entry.group within absent in
    let apart = absent-apart c.self.inside.base.items c.self.inside.log.items c.args.entry.group (sym (i.present c.args.entry.group) ∙ absent) in
    record {
      paged = record {
        groups = i.paged.groups;
        size = i.paged.size;
        base = i.paged.base;
        log = rw c.in-Ok.ensures.items (missed-logged _ _ _ c.args.entry i.paged.log view (omega (arith, known, i.paged.base)) apart.0 apart.1);
      };
      long = omega (arith, c.restore_group.ensures.len, i.long);
      pages = λ n. rw c.in-Ok.ensures.items (masked-logged (paged_of c.self.inside) c.args.entry c.self.inside.pages.items c.restore_group.new.pages.items n (i.pages n) (rw c.as_slice.ensures at (c.restore_group.ensures.each n)));
      present = rw (c.in-Ok.ensures.items, c.group.view_is) (marks-logged _ _ _ c.args.entry within i.present);
      marks = simp length-set i.marks;
      room = rw c.group.view_is (omega (arith, fewer, i.room, c.in-Ok.ensures.len, c.push.ensures.capacity));
    }
