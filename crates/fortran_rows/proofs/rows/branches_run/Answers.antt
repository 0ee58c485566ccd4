use Rattle.std.proofs.Common.{refl}
use Rattle.fortran_checks.specs.f_tree.Meaning.{everything}
use Rattle.fortran_checks.specs.f_tree.Runs.{runs_opened}
use Rattle.fortran_rows.specs.WorkedSources.{sources_opened}
use Rattle.fortran_rows.proofs.rows.branches_run.Goals as goal

pub returns-clause-first_arm : goal.returns-clause-first_arm
unfolding everything runs_opened sources_opened
returns-clause-first_arm c = record { goes_on = refl; ends = refl; wrote = refl }

pub returns-clause-second_arm : goal.returns-clause-second_arm
unfolding everything runs_opened sources_opened
returns-clause-second_arm c = record { goes_on = refl; ends = refl; wrote = refl }

pub returns-clause-last_arm : goal.returns-clause-last_arm
unfolding everything runs_opened sources_opened
returns-clause-last_arm c = record { goes_on = refl; ends = refl; wrote = refl }

pub returns-clause-assigned : goal.returns-clause-assigned
unfolding everything runs_opened sources_opened
returns-clause-assigned c = record { goes_on = refl; ends = refl; wrote = refl }

pub returns-clause-assigned_alone : goal.returns-clause-assigned_alone
unfolding everything runs_opened sources_opened
returns-clause-assigned_alone c = record { goes_on = refl; ends = refl; wrote = refl }

pub returns-clause-least : goal.returns-clause-least
unfolding everything runs_opened sources_opened
returns-clause-least c = record { goes_on = refl; ends = refl; wrote = refl }

pub returns-clause-sign_of_least : goal.returns-clause-sign_of_least
unfolding everything runs_opened sources_opened
returns-clause-sign_of_least c = record { goes_on = refl; ends = refl; wrote = refl }
