use Rattle.std.proofs.Common.{refl}
use Rattle.fortran_checks.specs.f_tree.Meaning.{everything}
use Rattle.fortran_checks.specs.f_tree.Runs.{runs_opened}
use Rattle.fortran_rows.specs.LoopsSources.{loops_sources_opened}
use Rattle.fortran_rows.proofs.loop_rows.loops_by_end_do_run.Goals as goal

pub returns-clause-by_end_do : goal.returns-clause-by_end_do
unfolding everything runs_opened loops_sources_opened
returns-clause-by_end_do c = record { steps = 250; comes_to = refl }

pub returns-clause-every_name : goal.returns-clause-every_name
unfolding everything runs_opened loops_sources_opened
returns-clause-every_name c = record { steps = 250; comes_to = refl }
