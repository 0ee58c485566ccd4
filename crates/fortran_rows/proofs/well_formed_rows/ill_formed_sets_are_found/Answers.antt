use Rattle.std.proofs.Common.{refl}
use Rattle.fortran_checks.specs.f_tree.Meaning.{everything}
use Rattle.fortran_checks.specs.f_tree.Runs.{runs_opened}
use Rattle.fortran_checks.specs.f_tree.Checks.{checks_opened}
use Rattle.fortran_rows.specs.IllFormedSources.{ill_formed_sources_opened, text_to_an_integer, sum_with_a_logical, variable_without_type, branch_to_no_statement, block_left_open, unit_without_its_end, loop_without_its_end, subscripts_too_few, format_that_is_nowhere, transfer_without_format, variable_of_any_length, array_of_any_size_in_a_list, dimension_of_another_type}
use Rattle.fortran_totality.proofs.IllFormedLemmas.{ill_formed}
use Rattle.fortran_rows.proofs.well_formed_rows.ill_formed_sets_are_found.Goals as goal

pub returns-clause-text_to_an_integer_is : goal.returns-clause-text_to_an_integer_is
unfolding everything runs_opened checks_opened ill_formed_sources_opened
returns-clause-text_to_an_integer_is c = ill_formed text_to_an_integer _ refl (record { goes_on = refl; meets = refl })

pub returns-clause-sum_with_a_logical_is : goal.returns-clause-sum_with_a_logical_is
unfolding everything runs_opened checks_opened ill_formed_sources_opened
returns-clause-sum_with_a_logical_is c = ill_formed sum_with_a_logical _ refl (record { goes_on = refl; meets = refl })

pub returns-clause-variable_without_type_is : goal.returns-clause-variable_without_type_is
unfolding everything runs_opened checks_opened ill_formed_sources_opened
returns-clause-variable_without_type_is c = ill_formed variable_without_type _ refl (record { goes_on = refl; meets = refl })

pub returns-clause-branch_to_no_statement_is : goal.returns-clause-branch_to_no_statement_is
unfolding everything runs_opened checks_opened ill_formed_sources_opened
returns-clause-branch_to_no_statement_is c = ill_formed branch_to_no_statement _ refl (record { goes_on = refl; meets = refl })

pub returns-clause-block_left_open_is : goal.returns-clause-block_left_open_is
unfolding everything runs_opened checks_opened ill_formed_sources_opened
returns-clause-block_left_open_is c = ill_formed block_left_open _ refl (record { goes_on = refl; meets = refl })

pub returns-clause-unit_without_its_end_is : goal.returns-clause-unit_without_its_end_is
unfolding everything runs_opened checks_opened ill_formed_sources_opened
returns-clause-unit_without_its_end_is c = ill_formed unit_without_its_end _ refl (record { goes_on = refl; meets = refl })

pub returns-clause-loop_without_its_end_is : goal.returns-clause-loop_without_its_end_is
unfolding everything runs_opened checks_opened ill_formed_sources_opened
returns-clause-loop_without_its_end_is c = ill_formed loop_without_its_end _ refl (record { goes_on = refl; meets = refl })

pub returns-clause-subscripts_too_few_is : goal.returns-clause-subscripts_too_few_is
unfolding everything runs_opened checks_opened ill_formed_sources_opened
returns-clause-subscripts_too_few_is c = ill_formed subscripts_too_few _ refl (record { goes_on = refl; meets = refl })

pub returns-clause-format_that_is_nowhere_is : goal.returns-clause-format_that_is_nowhere_is
unfolding everything runs_opened checks_opened ill_formed_sources_opened
returns-clause-format_that_is_nowhere_is c = ill_formed format_that_is_nowhere _ refl (record { goes_on = refl; meets = refl })

pub returns-clause-transfer_without_format_is : goal.returns-clause-transfer_without_format_is
unfolding everything runs_opened checks_opened ill_formed_sources_opened
returns-clause-transfer_without_format_is c = ill_formed transfer_without_format _ refl (record { goes_on = refl; meets = refl })

pub returns-clause-variable_of_any_length_is : goal.returns-clause-variable_of_any_length_is
unfolding everything runs_opened checks_opened ill_formed_sources_opened
returns-clause-variable_of_any_length_is c = ill_formed variable_of_any_length _ refl (record { goes_on = refl; meets = refl })

pub returns-clause-array_of_any_size_in_a_list_is : goal.returns-clause-array_of_any_size_in_a_list_is
unfolding everything runs_opened checks_opened ill_formed_sources_opened
returns-clause-array_of_any_size_in_a_list_is c = ill_formed array_of_any_size_in_a_list _ refl (record { goes_on = refl; meets = refl })

pub returns-clause-dimension_of_another_type_is : goal.returns-clause-dimension_of_another_type_is
unfolding everything runs_opened checks_opened ill_formed_sources_opened
returns-clause-dimension_of_another_type_is c = ill_formed dimension_of_another_type _ refl (record { goes_on = refl; meets = refl })
