use Rattle.std.proofs.Common.{refl}
use Rattle.fortran_checks.specs.f_tree.Meaning.{everything}
use Rattle.fortran_checks.specs.f_tree.Runs.{runs_opened}
use Rattle.fortran_rows.specs.BitsSources.{bits_sources_opened}
use Rattle.fortran_rows.proofs.bit_rows.bits_run.Goals as goal

pub returns-clause-by_value : goal.returns-clause-by_value
unfolding everything runs_opened bits_sources_opened
returns-clause-by_value c = record { goes_on = refl; ends = refl; wrote = refl }

pub returns-clause-by_position : goal.returns-clause-by_position
unfolding everything runs_opened bits_sources_opened
returns-clause-by_position c = record { goes_on = refl; ends = refl; wrote = refl }

pub returns-clause-at_the_edges : goal.returns-clause-at_the_edges
unfolding everything runs_opened bits_sources_opened
returns-clause-at_the_edges c = record { steps = 250; comes_to = refl }
