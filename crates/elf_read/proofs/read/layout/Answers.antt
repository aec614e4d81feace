use Rattle.std.proofs.Common.{not, ap, ◌∙◌}
use Rattle.std.specs.List.{list_all}
use Rattle.elf_read.specs.Fields.{is_executable}
use Rattle.elf_read.specs.Elf.{is_loaded}
use Rattle.elf_read.proofs.Segments.{passes-filter}
use Rattle.elf_read.proofs.read.layout.Goals as goal

pub loaded-requires : goal.loaded-requires
loaded-requires c =
    ap (list_all (is_loaded c.args.file.now)) c.requires.code ∙ passes-filter (is_loaded c.args.file.now) is_executable c.args.segments.now c.requires.loaded

pub loaded-requires-2 : goal.loaded-requires-2
loaded-requires-2 c =
    ap (list_all (is_loaded c.args.file.now)) (c.as_slice.ensures.value ∙ c.in_ok-others.ensures)
    ∙ passes-filter (is_loaded c.args.file.now) (λ p. not (is_executable p)) c.args.segments.now c.requires.loaded
