use Rattle.std.proofs.Common.{refl}
use Rattle.fortran_checks.specs.f_tree.Meaning.{everything}
use Rattle.fortran_checks.specs.f_tree.Runs.{runs_opened}
use Rattle.fortran_rows.specs.WorkedSources.{sources_opened}
use Rattle.fortran_rows.proofs.rows.acts_of_values.Goals as goal

pub returns-clause-overflow : goal.returns-clause-overflow
unfolding everything runs_opened sources_opened
returns-clause-overflow c = record { goes_on = refl; meets = refl }

pub returns-clause-zero_divide : goal.returns-clause-zero_divide
unfolding everything runs_opened sources_opened
returns-clause-zero_divide c = record { goes_on = refl; meets = refl }

pub returns-clause-no_value : goal.returns-clause-no_value
unfolding everything runs_opened sources_opened
returns-clause-no_value c = record { goes_on = refl; meets = refl }

pub returns-clause-out_of_bounds : goal.returns-clause-out_of_bounds
unfolding everything runs_opened sources_opened
returns-clause-out_of_bounds c = record { goes_on = refl; meets = refl }

pub returns-clause-sign_overflow : goal.returns-clause-sign_overflow
unfolding everything runs_opened sources_opened
returns-clause-sign_overflow c = record { goes_on = refl; meets = refl }
