use Rattle.std.proofs.Common.{refl}
use Rattle.fortran_checks.specs.f_tree.Meaning.{everything}
use Rattle.fortran_checks.specs.f_tree.Runs.{runs_opened}
use Rattle.fortran_rows.specs.WorkedSources.{sources_opened}
use Rattle.fortran_rows.proofs.rows.procedures_and_lengths.Goals as goal

pub returns-clause-passed : goal.returns-clause-passed
unfolding everything runs_opened sources_opened
returns-clause-passed c = record { goes_on = refl; ends = refl; wrote = refl }

pub returns-clause-any_length : goal.returns-clause-any_length
unfolding everything runs_opened sources_opened
returns-clause-any_length c = record { goes_on = refl; ends = refl; wrote = refl }

pub returns-clause-dummy_array : goal.returns-clause-dummy_array
unfolding everything runs_opened sources_opened
returns-clause-dummy_array c = record { goes_on = refl; ends = refl; wrote = refl }

pub returns-clause-two_types : goal.returns-clause-two_types
unfolding everything runs_opened sources_opened
returns-clause-two_types c = record { goes_on = refl; ends = refl; wrote = refl }
