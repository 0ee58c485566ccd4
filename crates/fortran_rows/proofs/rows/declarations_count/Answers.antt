use Rattle.std.proofs.Common.{refl}
use Rattle.fortran_checks.specs.f_tree.Meaning.{everything}
use Rattle.fortran_checks.specs.f_tree.Runs.{runs_opened}
use Rattle.fortran_rows.specs.WorkedSources.{sources_opened}
use Rattle.fortran_rows.proofs.rows.declarations_count.Goals as goal

pub returns-clause-from_data : goal.returns-clause-from_data
unfolding everything runs_opened sources_opened
returns-clause-from_data c = record { goes_on = refl; ends = refl; wrote = refl }

pub returns-clause-constants : goal.returns-clause-constants
unfolding everything runs_opened sources_opened
returns-clause-constants c = record { goes_on = refl; ends = refl; wrote = refl }
