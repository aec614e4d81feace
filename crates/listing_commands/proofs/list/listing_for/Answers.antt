use Rattle.std.proofs.Common.{◌≡◌, ◌∙◌, ap, subst, Some}
use Rattle.std.specs.Prelude.{IfOk}
use Rattle.view_file.specs.Named.{view_named}
use Rattle.view_store.specs.Paged.{PagedView}
use Rattle.code_listing.specs.Listing.{listing_of}
use Rattle.code_listing.specs.Surface.{built_view}
use Rattle.listing_commands.proofs.list.listing_for.Goals as goal

pub returns : goal.returns
returns c =
    let i = c.args.image.now in
    let v = c.args.views.now in
    let built : c.in_ok-view.view ≡ built_view c.args.image.now c.args.views.now (view_named c.args.views.now (Some c.args.app.now))
    = c.in_ok-view.ensures ∙ ap (built_view i v) c.choose.ensures.value in
    subst (λ (p : PagedView). IfOk c.listing.result (λ text. text.items ≡ listing_of c.args.image.now p)) built c.listing.ensures
