use Rattle.std.proofs.Common.{refl}
use Rattle.fortran_checks.specs.f_tree.Meaning.{everything}
use Rattle.fortran_checks.specs.f_tree.Runs.{runs_opened}
use Rattle.fortran_rows.specs.WorkedSources.{sources_opened}
use Rattle.fortran_rows.proofs.rows.calls_run.Goals as goal

pub returns-clause-entries : goal.returns-clause-entries
unfolding everything runs_opened sources_opened
returns-clause-entries c = record { goes_on = refl; ends = refl; wrote = refl }

pub returns-clause-alternates : goal.returns-clause-alternates
unfolding everything runs_opened sources_opened
returns-clause-alternates c = record { goes_on = refl; ends = refl; wrote = refl }
