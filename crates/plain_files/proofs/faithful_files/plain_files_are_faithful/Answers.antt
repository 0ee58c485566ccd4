use Rattle.plain_files.proofs.Composed.{plain_files_are_faithful}
use Rattle.plain_files.proofs.faithful_files.plain_files_are_faithful.Goals as goal

pub returns : goal.returns
returns c = plain_files_are_faithful c.well_formed_runs_are_meant.ensures.runs
