use Rattle.std.proofs.Common.{refl}
use Rattle.fortran_checks.specs.f_tree.Meaning.{everything}
use Rattle.fortran_checks.specs.f_tree.Runs.{runs_opened}
use Rattle.fortran_rows.specs.WorkedSources.{sources_opened}
use Rattle.fortran_rows.specs.OrderSources.{order_sources_opened}
use Rattle.fortran_rows.proofs.rows.orders_run.Goals as goal

pub returns-clause-right_side : goal.returns-clause-right_side
unfolding everything runs_opened sources_opened order_sources_opened
returns-clause-right_side c = record { goes_on = refl; ends = refl; wrote = refl }

pub returns-clause-pieces : goal.returns-clause-pieces
unfolding everything runs_opened sources_opened order_sources_opened
returns-clause-pieces c = record { goes_on = refl; ends = refl; wrote = refl }

pub returns-clause-format : goal.returns-clause-format
unfolding everything runs_opened sources_opened order_sources_opened
returns-clause-format c = record { goes_on = refl; ends = refl; wrote = refl }

pub returns-clause-no_turn : goal.returns-clause-no_turn
unfolding everything runs_opened sources_opened order_sources_opened
returns-clause-no_turn c = record { goes_on = refl; ends = refl; wrote = refl }

pub returns-clause-other_entry : goal.returns-clause-other_entry
unfolding everything runs_opened sources_opened order_sources_opened
returns-clause-other_entry c = record { goes_on = refl; ends = refl; wrote = refl }
