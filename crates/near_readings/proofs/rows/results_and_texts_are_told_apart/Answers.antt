use Rattle.std.proofs.Common.{refl}
use Rattle.fortran_checks.specs.f_tree.Meaning.{everything}
use Rattle.fortran_checks.specs.f_tree.Runs.{runs_opened}
use Rattle.fortran_rows.specs.TellingSources.{telling_sources_opened}
use Rattle.near_readings.proofs.rows.results_and_texts_are_told_apart.Goals as goal

pub returns-clause-entry : goal.returns-clause-entry
unfolding everything runs_opened telling_sources_opened
returns-clause-entry c = record { goes_on = refl; ends = refl; wrote = refl }

pub returns-clause-padding : goal.returns-clause-padding
unfolding everything runs_opened telling_sources_opened
returns-clause-padding c = record { goes_on = refl; ends = refl; wrote = refl }
