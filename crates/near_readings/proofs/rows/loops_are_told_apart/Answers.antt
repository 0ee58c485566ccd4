use Rattle.std.proofs.Common.{refl}
use Rattle.fortran_checks.specs.f_tree.Meaning.{everything}
use Rattle.fortran_checks.specs.f_tree.Runs.{runs_opened}
use Rattle.fortran_rows.specs.ControlSources.{control_sources_opened}
use Rattle.fortran_rows.specs.OrderSources.{order_sources_opened}
use Rattle.fortran_rows.specs.WorkedSources.{sources_opened}
use Rattle.near_readings.proofs.rows.loops_are_told_apart.Goals as goal

pub returns-clause-limits : goal.returns-clause-limits
unfolding everything runs_opened control_sources_opened
returns-clause-limits c = record { steps = 250; comes_to = refl }

pub returns-clause-items : goal.returns-clause-items
unfolding everything runs_opened sources_opened order_sources_opened
returns-clause-items c = record { goes_on = refl; ends = refl; wrote = refl }
