use Rattle.std.proofs.Common.{◌≡◌, ◌+◌, ◌*◌, ◌<◌, ◌≤◌, length, arith, sym, ◌∙◌, ap, subst}
use Rattle.std.proofs.lemmas.Bool.Decides.{nat_tests}
use Rattle.fc_numbers.specs.Spans.{end_in, text_size}
use Rattle.view_store.specs.Paged.{PagedView, mask_of}
use Rattle.view_store.specs.PagedIn.{paged_of}
use Rattle.view_store.proofs.PageLemmas.{line-within, mask_same, window-of}
use Rattle.view_store.proofs.view.View.read_line.Goals as goal

line_in : (c : goal.After-copy_line-arg-1) → (32 * c.args.line + 32 ≤ length c.deref.result.now) × (64 * c.args.line + 64 < end_in c.self.inside.table.text (64 * c.args.line) → 32 * c.args.line + 32 < length c.deref.result.now)
line_in c =
    let i = c.self.invariant in
    let within : 64 * c.args.line < text_size c.self.inside.table.text = subst (λ (p : PagedView). 64 * c.args.line < text_size p.groups.text) (sym c.self.view_is) c.requires in
    let long : length c.deref.result.now ≡ length c.self.inside.pages.items = ap length c.deref.ensures.value in
    line-within c.self.inside.table c.args.line (length c.deref.result.now) i.paged.groups (omega (arith, long, i.long, i.paged.size)) within

pub copy_line-requires-clause-inside : goal.copy_line-requires-clause-inside
copy_line-requires-clause-inside c = (line_in c).0

pub copy_line-requires-clause-more : goal.copy_line-requires-clause-more
copy_line-requires-clause-more c = λ goes.
    let end : c.end_of-end.result ≡ end_in c.self.inside.table.text (64 * c.args.line) = c.end_of-end.ensures ∙ ap (λ t. end_in t (64 * c.args.line)) c.text.ensures.value in
    (line_in c).1 (grind (arith, nat_tests, goes, end))

pub returns : goal.returns
returns c =
    let i = c.self.invariant in
    let end : c.end_of-end.result ≡ end_in c.self.inside.table.text (64 * c.args.line) = c.end_of-end.ensures ∙ ap (λ t. end_in t (64 * c.args.line)) c.text.ensures.value in
    let pages : c.deref.result.now ≡ c.self.inside.pages.items = c.deref.ensures.value in
    let same : c.self.inside.pages.items ≡ mask_of (paged_of c.self.inside) = mask_same (paged_of c.self.inside) c.self.inside.pages.items i.paged i.long i.pages in
    rw (← c.self.view_is) (c.copy_line.ensures ∙ (rw (end, pages) (window-of (paged_of c.self.inside) c.self.inside.pages.items c.args.line same i.pages)))
