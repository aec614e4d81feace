use Rattle.std.proofs.Common.{◌≡◌, ap, sym, subst, ◌∙◌, append_assoc}
use Rattle.view_commands.proofs.Groups.{image-known}
use Rattle.view_commands.proofs.show.push_line.Goals as goal

pub count_functions-requires-clause-known : goal.count_functions-requires-clause-known
count_functions-requires-clause-known c = rw (c.as_slice.ensures, c.requires.table) (image-known c.args.image.now c.requires.image)

pub returns : goal.returns
returns c =
    rw (
      c.in_ok-push.ensures.items,
      c.in_ok-push_number-3.ensures,
      c.in_ok-push_number-2.ensures,
      c.in_ok-push_number.ensures,
      c.in_ok-extend_from_slice.ensures.items,
      c.count_bytes.ensures,
      c.count_groups.ensures,
      c.count_functions.ensures,
      c.as_slice.ensures,
      c.requires.table,
    ) (simp append_assoc)
