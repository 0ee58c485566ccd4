use Rattle.plain_unit_files.proofs.Whole.{plain_unit_sets_are_faithful}
use Rattle.plain_unit_files.proofs.faithful_files.plain_unit_sets_are_faithful.Goals as goal

pub returns : goal.returns
returns c = plain_unit_sets_are_faithful c.well_formed_runs_are_meant.ensures.runs
