use Rattle.std.proofs.Common.{refl}
use Rattle.fortran_checks.specs.f_tree.Meaning.{everything}
use Rattle.fortran_checks.specs.f_tree.Runs.{runs_opened}
use Rattle.fortran_rows.specs.WorkedSources.{sources_opened}
use Rattle.fortran_rows.specs.ErrorSources.{error_sources_opened}
use Rattle.fortran_rows.proofs.rows.texts_run.Goals as goal

pub returns-clause-texts : goal.returns-clause-texts
unfolding everything runs_opened sources_opened
returns-clause-texts c = record { goes_on = refl; ends = refl; wrote = refl }

pub returns-clause-nested : goal.returns-clause-nested
unfolding everything runs_opened sources_opened
returns-clause-nested c = record { goes_on = refl; ends = refl; wrote = refl }

pub returns-clause-apart : goal.returns-clause-apart
unfolding everything runs_opened sources_opened
returns-clause-apart c = record { goes_on = refl; ends = refl; wrote = refl }

pub returns-clause-within : goal.returns-clause-within
unfolding everything runs_opened sources_opened
returns-clause-within c = record { goes_on = refl; meets = refl }

pub returns-clause-within_parentheses : goal.returns-clause-within_parentheses
unfolding everything runs_opened sources_opened error_sources_opened
returns-clause-within_parentheses c = record { goes_on = refl; meets = refl }

pub returns-clause-code : goal.returns-clause-code
unfolding everything runs_opened sources_opened
returns-clause-code c = record { goes_on = refl; meets = refl }
