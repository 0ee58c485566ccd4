use Rattle.std.proofs.Common.{refl}
use Rattle.fortran_checks.specs.f_tree.Meaning.{everything}
use Rattle.fortran_checks.specs.f_tree.Runs.{runs_opened}
use Rattle.fortran_rows.specs.WorkedSources.{sources_opened}
use Rattle.fortran_rows.specs.ErrorSources.{error_sources_opened}
use Rattle.fortran_rows.proofs.rows.units_change.Goals as goal

pub returns-clause-fails : goal.returns-clause-fails
unfolding everything runs_opened sources_opened
returns-clause-fails c = record { goes_on = refl; ends = refl; wrote = refl }

pub returns-clause-status : goal.returns-clause-status
unfolding everything runs_opened sources_opened
returns-clause-status c = record { goes_on = refl; ends = refl; wrote = refl }

pub returns-clause-over : goal.returns-clause-over
unfolding everything runs_opened sources_opened
returns-clause-over c = record { goes_on = refl; ends = refl; wrote = refl }

pub returns-clause-stops : goal.returns-clause-stops
unfolding everything runs_opened sources_opened
returns-clause-stops c = record { goes_on = refl; ends = refl; wrote = refl }

pub returns-clause-stops_plainly : goal.returns-clause-stops_plainly
unfolding everything runs_opened sources_opened error_sources_opened
returns-clause-stops_plainly c = record { goes_on = refl; ends = refl; wrote = refl }
