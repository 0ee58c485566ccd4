use Rattle.fortran_rows.proofs.SettingExamples.{arrays_over_their_file_placed, other_type_placed, block_named_external_placed, overlay_of_a_matrix_placed, overlay_in_a_chain_placed, common_that_differs_by_unit_placed, common_made_longer_placed, texts_that_overlap_placed, values_of_a_block_placed, common_that_is_passed_placed, stock_report_placed, block_with_values_placed, common_seen_twice_placed, arrays_equivalenced_placed, types_equivalenced_placed, character_in_a_number_placed, numbers_that_overlap_placed, other_number_placed}
use Rattle.fortran_rows.proofs.example_rows.settings_of_storage.Goals as goal

pub returns-clause-overlay_of_a_matrix_placed : goal.returns-clause-overlay_of_a_matrix_placed
returns-clause-overlay_of_a_matrix_placed c = overlay_of_a_matrix_placed

pub returns-clause-overlay_in_a_chain_placed : goal.returns-clause-overlay_in_a_chain_placed
returns-clause-overlay_in_a_chain_placed c = overlay_in_a_chain_placed

pub returns-clause-common_that_differs_by_unit_placed : goal.returns-clause-common_that_differs_by_unit_placed
returns-clause-common_that_differs_by_unit_placed c = common_that_differs_by_unit_placed

pub returns-clause-common_made_longer_placed : goal.returns-clause-common_made_longer_placed
returns-clause-common_made_longer_placed c = common_made_longer_placed

pub returns-clause-texts_that_overlap_placed : goal.returns-clause-texts_that_overlap_placed
returns-clause-texts_that_overlap_placed c = texts_that_overlap_placed

pub returns-clause-arrays_over_their_file_placed : goal.returns-clause-arrays_over_their_file_placed
returns-clause-arrays_over_their_file_placed c = arrays_over_their_file_placed

pub returns-clause-values_of_a_block_placed : goal.returns-clause-values_of_a_block_placed
returns-clause-values_of_a_block_placed c = values_of_a_block_placed

pub returns-clause-block_named_external_placed : goal.returns-clause-block_named_external_placed
returns-clause-block_named_external_placed c = block_named_external_placed

pub returns-clause-common_that_is_passed_placed : goal.returns-clause-common_that_is_passed_placed
returns-clause-common_that_is_passed_placed c = common_that_is_passed_placed

pub returns-clause-stock_report_placed : goal.returns-clause-stock_report_placed
returns-clause-stock_report_placed c = stock_report_placed

pub returns-clause-block_with_values_placed : goal.returns-clause-block_with_values_placed
returns-clause-block_with_values_placed c = block_with_values_placed

pub returns-clause-common_seen_twice_placed : goal.returns-clause-common_seen_twice_placed
returns-clause-common_seen_twice_placed c = common_seen_twice_placed

pub returns-clause-arrays_equivalenced_placed : goal.returns-clause-arrays_equivalenced_placed
returns-clause-arrays_equivalenced_placed c = arrays_equivalenced_placed

pub returns-clause-types_equivalenced_placed : goal.returns-clause-types_equivalenced_placed
returns-clause-types_equivalenced_placed c = types_equivalenced_placed

pub returns-clause-other_type_placed : goal.returns-clause-other_type_placed
returns-clause-other_type_placed c = other_type_placed

pub returns-clause-character_in_a_number_placed : goal.returns-clause-character_in_a_number_placed
returns-clause-character_in_a_number_placed c = character_in_a_number_placed

pub returns-clause-numbers_that_overlap_placed : goal.returns-clause-numbers_that_overlap_placed
returns-clause-numbers_that_overlap_placed c = numbers_that_overlap_placed

pub returns-clause-other_number_placed : goal.returns-clause-other_number_placed
returns-clause-other_number_placed c = other_number_placed
