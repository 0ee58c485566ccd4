use Rattle.std.proofs.Common.{refl}
use Rattle.std.specs.Prelude.{[], ◌∷◌}
use Rattle.fortran_checks.specs.f_tree.Meaning.{everything}
use Rattle.fortran_checks.specs.f_tree.Runs.{runs_opened}
use Rattle.fortran_checks.specs.f_tree.Checks.{checks_opened}
use Rattle.fortran_rows.specs.WorkedSources.{num}
use Rattle.fortran_rows.specs.OperandsSources.{operands_sources_opened, arguments_too_few, no_such_intrinsic, part_of_a_constant, part_of_a_dummy, part_of_a_value, program_as_operand, remainder_over, subroutine_as_argument, subroutine_as_operand}
use Rattle.fortran_totality.proofs.IllFormedLemmas.{ill_formed}
use Rattle.fortran_rows.proofs.well_formed_rows.what_is_no_operand_is_found.Goals as goal

pub returns-clause-part_of_a_constant_is : goal.returns-clause-part_of_a_constant_is
unfolding everything runs_opened checks_opened operands_sources_opened
returns-clause-part_of_a_constant_is c = ill_formed part_of_a_constant _ refl (record { goes_on = refl; meets = refl })

pub returns-clause-part_of_a_dummy_is : goal.returns-clause-part_of_a_dummy_is
unfolding everything runs_opened checks_opened operands_sources_opened
returns-clause-part_of_a_dummy_is c = ill_formed part_of_a_dummy _ refl (record { goes_on = refl; meets = refl })

pub returns-clause-part_of_a_value_is : goal.returns-clause-part_of_a_value_is
unfolding everything runs_opened checks_opened operands_sources_opened
returns-clause-part_of_a_value_is c = ill_formed part_of_a_value _ refl (record { goes_on = refl; meets = refl })

pub returns-clause-no_such_intrinsic_is : goal.returns-clause-no_such_intrinsic_is
unfolding everything runs_opened checks_opened operands_sources_opened
returns-clause-no_such_intrinsic_is c = ill_formed no_such_intrinsic _ refl (record { goes_on = refl; meets = refl })

pub returns-clause-intrinsic_over_one_is : goal.returns-clause-intrinsic_over_one_is
unfolding everything runs_opened checks_opened operands_sources_opened
returns-clause-intrinsic_over_one_is c = ill_formed (remainder_over (num 7 ∷ [])) _ refl (record { goes_on = refl; meets = refl })

pub returns-clause-intrinsic_over_three_is : goal.returns-clause-intrinsic_over_three_is
unfolding everything runs_opened checks_opened operands_sources_opened
returns-clause-intrinsic_over_three_is c = ill_formed (remainder_over (num 7 ∷ num 4 ∷ num 2 ∷ [])) _ refl (record { goes_on = refl; meets = refl })

pub returns-clause-arguments_too_few_is : goal.returns-clause-arguments_too_few_is
unfolding everything runs_opened checks_opened operands_sources_opened
returns-clause-arguments_too_few_is c = ill_formed arguments_too_few _ refl (record { goes_on = refl; meets = refl })

pub returns-clause-subroutine_as_operand_is : goal.returns-clause-subroutine_as_operand_is
unfolding everything runs_opened checks_opened operands_sources_opened
returns-clause-subroutine_as_operand_is c = ill_formed subroutine_as_operand _ refl (record { goes_on = refl; meets = refl })

pub returns-clause-subroutine_as_argument_is : goal.returns-clause-subroutine_as_argument_is
unfolding everything runs_opened checks_opened operands_sources_opened
returns-clause-subroutine_as_argument_is c = ill_formed subroutine_as_argument _ refl (record { goes_on = refl; meets = refl })

pub returns-clause-program_as_operand_is : goal.returns-clause-program_as_operand_is
unfolding everything runs_opened checks_opened operands_sources_opened
returns-clause-program_as_operand_is c = ill_formed program_as_operand _ refl (record { goes_on = refl; meets = refl })
