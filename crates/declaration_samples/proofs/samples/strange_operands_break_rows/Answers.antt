use Rattle.std.proofs.Common.{refl}
use Rattle.declaration_rows.specs.f_tree.Meaning.{everything}
use Rattle.declaration_rows.specs.f_tree.Runs.{runs_opened}
use Rattle.declaration_rows.specs.f_tree.Checks.{checks_opened}
use Rattle.fortran_rows.specs.OperandsSources.{operands_sources_opened}
use Rattle.fortran_rows.specs.WorkedSources.{sources_opened}
use Rattle.declaration_rows.specs.Judgement.{judgement_opened}
use Rattle.declaration_rows.specs.StatementRows.{statement_rows_opened}
use Rattle.declaration_rows.specs.NameRows.{name_rows_opened}
use Rattle.declaration_rows.specs.UnitRows.{unit_rows_opened}
use Rattle.declaration_rows.specs.SetRows.{set_rows_opened}
use Rattle.declaration_samples.specs.CardRows.{card_rows_opened}
use Rattle.declaration_samples.proofs.samples.strange_operands_break_rows.Goals as goal

pub returns-clause-part_of_a_constant : goal.returns-clause-part_of_a_constant
unfolding everything runs_opened checks_opened operands_sources_opened sources_opened judgement_opened statement_rows_opened name_rows_opened unit_rows_opened set_rows_opened card_rows_opened
returns-clause-part_of_a_constant c = refl

pub returns-clause-part_of_a_dummy : goal.returns-clause-part_of_a_dummy
unfolding everything runs_opened checks_opened operands_sources_opened sources_opened judgement_opened statement_rows_opened name_rows_opened unit_rows_opened set_rows_opened card_rows_opened
returns-clause-part_of_a_dummy c = refl

pub returns-clause-part_of_a_value : goal.returns-clause-part_of_a_value
unfolding everything runs_opened checks_opened operands_sources_opened sources_opened judgement_opened statement_rows_opened name_rows_opened unit_rows_opened set_rows_opened card_rows_opened
returns-clause-part_of_a_value c = refl

pub returns-clause-no_such_intrinsic : goal.returns-clause-no_such_intrinsic
unfolding everything runs_opened checks_opened operands_sources_opened sources_opened judgement_opened statement_rows_opened name_rows_opened unit_rows_opened set_rows_opened card_rows_opened
returns-clause-no_such_intrinsic c = refl

pub returns-clause-remainder_of_one : goal.returns-clause-remainder_of_one
unfolding everything runs_opened checks_opened operands_sources_opened sources_opened judgement_opened statement_rows_opened name_rows_opened unit_rows_opened set_rows_opened card_rows_opened
returns-clause-remainder_of_one c = refl

pub returns-clause-remainder_of_three : goal.returns-clause-remainder_of_three
unfolding everything runs_opened checks_opened operands_sources_opened sources_opened judgement_opened statement_rows_opened name_rows_opened unit_rows_opened set_rows_opened card_rows_opened
returns-clause-remainder_of_three c = refl

pub returns-clause-arguments_too_few : goal.returns-clause-arguments_too_few
unfolding everything runs_opened checks_opened operands_sources_opened sources_opened judgement_opened statement_rows_opened name_rows_opened unit_rows_opened set_rows_opened card_rows_opened
returns-clause-arguments_too_few c = refl

pub returns-clause-subroutine_as_operand : goal.returns-clause-subroutine_as_operand
unfolding everything runs_opened checks_opened operands_sources_opened sources_opened judgement_opened statement_rows_opened name_rows_opened unit_rows_opened set_rows_opened card_rows_opened
returns-clause-subroutine_as_operand c = refl

pub returns-clause-subroutine_as_argument : goal.returns-clause-subroutine_as_argument
unfolding everything runs_opened checks_opened operands_sources_opened sources_opened judgement_opened statement_rows_opened name_rows_opened unit_rows_opened set_rows_opened card_rows_opened
returns-clause-subroutine_as_argument c = refl

pub returns-clause-program_as_operand : goal.returns-clause-program_as_operand
unfolding everything runs_opened checks_opened operands_sources_opened sources_opened judgement_opened statement_rows_opened name_rows_opened unit_rows_opened set_rows_opened card_rows_opened
returns-clause-program_as_operand c = refl
