use Rattle.std.proofs.Common.{refl}
use Rattle.fortran_checks.specs.f_tree.Meaning.{everything}
use Rattle.fortran_checks.specs.f_tree.Runs.{runs_opened}
use Rattle.fortran_rows.specs.WorkedSources.{sources_opened}
use Rattle.fortran_rows.proofs.rows.storage_is_shared.Goals as goal

pub returns-clause-common : goal.returns-clause-common
unfolding everything runs_opened sources_opened
returns-clause-common c = record { goes_on = refl; ends = refl; wrote = refl }

pub returns-clause-arrays : goal.returns-clause-arrays
unfolding everything runs_opened sources_opened
returns-clause-arrays c = record { goes_on = refl; ends = refl; wrote = refl }

pub returns-clause-types : goal.returns-clause-types
unfolding everything runs_opened sources_opened
returns-clause-types c = record { goes_on = refl; ends = refl; wrote = refl }

pub returns-clause-other_type : goal.returns-clause-other_type
unfolding everything runs_opened sources_opened
returns-clause-other_type c = record { goes_on = refl; meets = refl }
