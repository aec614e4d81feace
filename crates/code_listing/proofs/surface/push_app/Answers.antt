use Rattle.std.proofs.Common.{◌≡◌, ◌+◌, ◌∙◌, ap, count_by}
use Rattle.lane_kernels.specs.Kernels.{is_open}
use Rattle.view_store.specs.Paged.{PagedView, mask_of}
use Rattle.code_listing.specs.Surface.{app_line, built_view, figures_line, present_halves, same_pages}
use Rattle.code_listing.proofs.surface.push_app.Goals as goal

pub returns : goal.returns
returns c =
    let built : c.in_ok-view.view ≡ built_view c.args.image.now c.args.views.now (c.args.n + 1) = c.in_ok-view.ensures in
    let halves = c.figures_of-figures.ensures.halves ∙ ap (λ (p : PagedView). present_halves p) built in
    let opened = c.figures_of-figures.ensures.opened ∙ ap (λ (p : PagedView). count_by is_open (mask_of p)) built in
    let pages = c.figures_of-figures.ensures.pages ∙ ap (λ (p : PagedView). same_pages (mask_of p) c.args.original.now) built
    ∙ ap (same_pages (mask_of (built_view c.args.image.now c.args.views.now (c.args.n + 1)))) c.requires.text in
    let line : figures_line c.app_name.result.now c.figures_of-figures.result.halves c.figures_of-figures.result.opened c.figures_of-figures.result.pages
    ≡ app_line c.args.image.now c.args.views.now c.args.n = (λ i. figures_line (c.app_name.ensures i) (halves i) (opened i) (pages i)) in
    rw (← line) c.push_figures.ensures
