use Rattle.std.proofs.Common.{refl}
use Rattle.fortran_checks.specs.f_tree.Meaning.{everything}
use Rattle.fortran_checks.specs.f_tree.Runs.{runs_opened}
use Rattle.fortran_rows.specs.ExpressionsSources.{expressions_sources_opened}
use Rattle.fortran_rows.proofs.example_rows.expressions_programs.Goals as goal

pub returns-clause-powers_and_quotients_ends : goal.returns-clause-powers_and_quotients_ends
unfolding everything runs_opened expressions_sources_opened
returns-clause-powers_and_quotients_ends c = record { steps = 250; comes_to = refl }

pub returns-clause-constants_by_name_ends : goal.returns-clause-constants_by_name_ends
unfolding everything runs_opened expressions_sources_opened
returns-clause-constants_by_name_ends c = record { steps = 250; comes_to = refl }

pub returns-clause-operands_of_logicals_ends : goal.returns-clause-operands_of_logicals_ends
unfolding everything runs_opened expressions_sources_opened
returns-clause-operands_of_logicals_ends c = record { steps = 250; comes_to = refl }

pub returns-clause-lists_by_value_ends : goal.returns-clause-lists_by_value_ends
unfolding everything runs_opened expressions_sources_opened
returns-clause-lists_by_value_ends c = record { steps = 250; comes_to = refl }
