use Rattle.std.proofs.Common.{refl}
use Rattle.fortran_checks.specs.f_tree.Meaning.{everything}
use Rattle.fortran_checks.specs.f_tree.Runs.{runs_opened}
use Rattle.fortran_rows.specs.WorkedSources.{sources_opened}
use Rattle.fortran_rows.proofs.rows.loops_run.Goals as goal

pub returns-clause-looks_alike : goal.returns-clause-looks_alike
unfolding everything runs_opened sources_opened
returns-clause-looks_alike c = record { goes_on = refl; ends = refl; wrote = refl }

pub returns-clause-never_turns : goal.returns-clause-never_turns
unfolding everything runs_opened sources_opened
returns-clause-never_turns c = record { goes_on = refl; ends = refl; wrote = refl }

pub returns-clause-turns_once : goal.returns-clause-turns_once
unfolding everything runs_opened sources_opened
returns-clause-turns_once c = record { goes_on = refl; ends = refl; wrote = refl }

pub returns-clause-shares_terminal : goal.returns-clause-shares_terminal
unfolding everything runs_opened sources_opened
returns-clause-shares_terminal c = record { goes_on = refl; ends = refl; wrote = refl }

pub returns-clause-implied : goal.returns-clause-implied
unfolding everything runs_opened sources_opened
returns-clause-implied c = record { goes_on = refl; ends = refl; wrote = refl }
