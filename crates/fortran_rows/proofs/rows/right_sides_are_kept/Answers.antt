use Rattle.std.proofs.Common.{refl}
use Rattle.fortran_checks.specs.f_tree.Meaning.{everything}
use Rattle.fortran_checks.specs.f_tree.Runs.{runs_opened}
use Rattle.fortran_rows.specs.SubstringsSources.{substrings_sources_opened}
use Rattle.fortran_rows.proofs.SettingExamples.{right_side_before_a_function_placed}
use Rattle.fortran_rows.proofs.rows.right_sides_are_kept.Goals as goal

pub returns-clause-placed : goal.returns-clause-placed
returns-clause-placed c = right_side_before_a_function_placed

pub returns-clause-function : goal.returns-clause-function
unfolding everything runs_opened substrings_sources_opened
returns-clause-function c = record { goes_on = refl; ends = refl; wrote = refl }

pub returns-clause-statement_function : goal.returns-clause-statement_function
unfolding everything runs_opened substrings_sources_opened
returns-clause-statement_function c = record { goes_on = refl; ends = refl; wrote = refl }

pub returns-clause-whole : goal.returns-clause-whole
unfolding everything runs_opened substrings_sources_opened
returns-clause-whole c = record { goes_on = refl; meets = refl }
