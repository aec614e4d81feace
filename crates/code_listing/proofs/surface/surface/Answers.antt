use Rattle.std.proofs.Common.{◌≡◌, ◌∙◌, ap, refl, append_assoc, append-nil}
use Rattle.std.specs.List.{flat_map, range_with_len}
use Rattle.guest_input.specs.Text.{bytes_of}
use Rattle.view_store.specs.Paged.{PagedView, mask_of}
use Rattle.code_listing.specs.Surface.{app_line, full_line, text_halves}
use Rattle.code_listing.proofs.FigureLemmas.{full-mask}
use Rattle.code_listing.proofs.LineLemmas.{flat-more}
use Rattle.code_listing.proofs.surface.surface.Goals as goal

pub loop-n-init : goal.loop-n-init
loop-n-init c =
    let original : c.pages.result.now ≡ text_halves (bytes_of c.args.image.now.ranges) =
    c.pages.ensures.value ∙ ap (λ (p : PagedView). mask_of p) c.in_ok-full.ensures ∙ full-mask c.args.image.now c.args.views.now in
    rw (c.in_ok-push_full.ensures, c.new-out.ensures.items, original, append-nil) refl

pub push_app-requires-clause-text : goal.push_app-requires-clause-text
push_app-requires-clause-text c = c.pages-in-loop-n.ensures.value ∙ ap (λ (p : PagedView). mask_of p) c.in_ok-full.ensures ∙ full-mask c.args.image.now c.args.views.now

pub loop-n-preserved : goal.loop-n-preserved
loop-n-preserved c =
    let i = c.args.image.now in
    let lines = app_line i c.args.views.now in
    rw (c.in_ok-push_app.ensures, c.loop-n.invariant, flat-more (app_line c.args.image.now c.args.views.now) c.loop-n.n)
    (append_assoc (full_line (text_halves (bytes_of i.ranges))) (flat_map lines (range_with_len 0 c.loop-n.n)) (lines c.loop-n.n))
