use Rattle.std.proofs.Common.{refl}
use Rattle.fortran_rows.specs.LongSources.{sum_of_a_thousand}
use Rattle.fortran_checks.specs.f_tree.Meaning.{everything}
use Rattle.fortran_checks.specs.f_tree.Runs.{runs_opened}
use Rattle.fortran_rows.proofs.rows.thousands_of_steps_run.Goals as goal

pub returns : goal.returns
unfolding everything runs_opened sum_of_a_thousand
returns c = record { sums = record { goes_on = refl; ends = refl; wrote = refl } }
