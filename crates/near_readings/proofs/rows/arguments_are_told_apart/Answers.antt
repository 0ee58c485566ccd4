use Rattle.std.proofs.Common.{refl}
use Rattle.fortran_checks.specs.f_tree.Meaning.{everything}
use Rattle.fortran_checks.specs.f_tree.Runs.{runs_opened}
use Rattle.fortran_rows.specs.FurtherSources.{further_sources_opened}
use Rattle.fortran_rows.specs.WorkedSources.{sources_opened}
use Rattle.near_readings.proofs.rows.arguments_are_told_apart.Goals as goal

pub returns-clause-overlaps : goal.returns-clause-overlaps
unfolding everything runs_opened sources_opened
returns-clause-overlaps c = record { goes_on = refl; ends = refl; wrote = refl }

pub returns-clause-in_parentheses : goal.returns-clause-in_parentheses
unfolding everything runs_opened further_sources_opened
returns-clause-in_parentheses c = record { steps = 250; comes_to = refl }
