use Rattle.std.proofs.Common.{refl}
use Rattle.fortran_checks.specs.f_tree.Meaning.{everything}
use Rattle.fortran_checks.specs.f_tree.Runs.{runs_opened}
use Rattle.fortran_rows.specs.LoopsSources.{loops_sources_opened}
use Rattle.fortran_rows.proofs.loop_rows.while_loops_run.Goals as goal

pub returns-clause-counted : goal.returns-clause-counted
unfolding everything runs_opened loops_sources_opened
returns-clause-counted c = record { goes_on = refl; ends = refl; wrote = refl }

pub returns-clause-without_label : goal.returns-clause-without_label
unfolding everything runs_opened loops_sources_opened
returns-clause-without_label c = record { steps = 250; comes_to = refl }

pub returns-clause-at_least_once : goal.returns-clause-at_least_once
unfolding everything runs_opened loops_sources_opened
returns-clause-at_least_once c = record { steps = 250; comes_to = refl }

pub returns-clause-with_label : goal.returns-clause-with_label
unfolding everything runs_opened loops_sources_opened
returns-clause-with_label c = record { steps = 250; comes_to = refl }

pub returns-clause-with_a_function : goal.returns-clause-with_a_function
unfolding everything runs_opened loops_sources_opened
returns-clause-with_a_function c = record { steps = 250; comes_to = refl }

pub returns-clause-left_by_a_branch : goal.returns-clause-left_by_a_branch
unfolding everything runs_opened loops_sources_opened
returns-clause-left_by_a_branch c = record { steps = 250; comes_to = refl }

pub returns-clause-shares_its_end : goal.returns-clause-shares_its_end
unfolding everything runs_opened loops_sources_opened
returns-clause-shares_its_end c = record { steps = 250; comes_to = refl }
