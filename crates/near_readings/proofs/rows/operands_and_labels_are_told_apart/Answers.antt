use Rattle.std.proofs.Common.{refl}
use Rattle.fortran_checks.specs.f_tree.Meaning.{everything}
use Rattle.fortran_checks.specs.f_tree.Runs.{runs_opened}
use Rattle.fortran_rows.specs.ActsSources.{acts_sources_opened}
use Rattle.fortran_rows.specs.WorkedSources.{sources_opened}
use Rattle.near_readings.proofs.rows.operands_and_labels_are_told_apart.Goals as goal

pub returns-clause-from_the_left : goal.returns-clause-from_the_left
unfolding everything runs_opened sources_opened
returns-clause-from_the_left c = record { goes_on = refl; ends = refl; wrote = refl }

pub returns-clause-decided : goal.returns-clause-decided
unfolding everything runs_opened sources_opened
returns-clause-decided c = record { goes_on = refl; ends = refl; wrote = refl }

pub returns-clause-label : goal.returns-clause-label
unfolding everything runs_opened acts_sources_opened
returns-clause-label c = record { goes_on = refl; meets = refl }
