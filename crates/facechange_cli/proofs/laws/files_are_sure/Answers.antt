use Rattle.facechange_cli.proofs.laws.files_are_sure.Goals as goal

pub returns : goal.returns
returns c = record {
  image = c.image_files_are_sure.ensures;
  setup = c.setup_files_are_sure.ensures;
  views = c.views_files_are_sure.ensures;
  script = c.script_files_are_sure.ensures;
  trace = c.trace_files_are_sure.ensures;
  free = c.free_views_files_are_sure.ensures;
}
