use Rattle.std.proofs.Common.{refl}
use Rattle.fortran_checks.specs.f_tree.Meaning.{everything}
use Rattle.fortran_checks.specs.f_tree.Runs.{runs_opened}
use Rattle.fortran_rows.specs.WorkedSources.{sources_opened}
use Rattle.fortran_rows.specs.OrderSources.{order_sources_opened}
use Rattle.fortran_rows.proofs.rows.acts_of_calls.Goals as goal

pub returns-clause-active : goal.returns-clause-active
unfolding everything runs_opened sources_opened
returns-clause-active c = record { goes_on = refl; meets = refl }

pub returns-clause-read_only : goal.returns-clause-read_only
unfolding everything runs_opened sources_opened
returns-clause-read_only c = record { goes_on = refl; meets = refl }

pub returns-clause-disagrees : goal.returns-clause-disagrees
unfolding everything runs_opened sources_opened
returns-clause-disagrees c = record { goes_on = refl; meets = refl }

pub returns-clause-label : goal.returns-clause-label
unfolding everything runs_opened sources_opened order_sources_opened
returns-clause-label c = record { goes_on = refl; meets = refl }

pub returns-clause-procedure : goal.returns-clause-procedure
unfolding everything runs_opened sources_opened order_sources_opened
returns-clause-procedure c = record { goes_on = refl; meets = refl }

pub returns-clause-no_result : goal.returns-clause-no_result
unfolding everything runs_opened sources_opened
returns-clause-no_result c = record { goes_on = refl; meets = refl }

pub returns-clause-missing : goal.returns-clause-missing
unfolding everything runs_opened sources_opened
returns-clause-missing c = record { goes_on = refl; meets = refl }

pub returns-clause-dimension : goal.returns-clause-dimension
unfolding everything runs_opened sources_opened
returns-clause-dimension c = record { goes_on = refl; meets = refl }

pub returns-clause-past_extent : goal.returns-clause-past_extent
unfolding everything runs_opened sources_opened
returns-clause-past_extent c = record { goes_on = refl; meets = refl }

pub returns-clause-other_entry : goal.returns-clause-other_entry
unfolding everything runs_opened sources_opened
returns-clause-other_entry c = record { goes_on = refl; meets = refl }

pub returns-clause-array_past_extent : goal.returns-clause-array_past_extent
unfolding everything runs_opened sources_opened
returns-clause-array_past_extent c = record { goes_on = refl; meets = refl }
