-- The worked programs whose stored names each stand in a sequence of their own.
use Rattle.std.specs.Prelude.{List, [], ◌∷◌, ◌++◌, codes}
use Rattle.fortran_checks.specs.f_tree.declared.units.FileSet.{FileSet}
use Rattle.fortran_rows.specs.ActsSources.{argument_of_another_type, close_in_a_transfer, descriptor_of_another_type, dimension_past_32_bits, format_that_ends_early, function_of_another_type, item_of_another_type, label_in_a_block, label_of_another_unit, part_past_its_text, record_without_value, remainder_past_32_bits, text_too_short_for_its_dummy, zero_to_a_negative_power}
use Rattle.fortran_rows.specs.BitsSources.{bits_by_position, bits_by_value, elements_longer_than_the_actual, functions_of_bits, length_of_a_sum_of_texts, longer_elements_past_the_actual, part_of_an_element}
use Rattle.fortran_rows.specs.ControlSources.{assigned_branches, blocks_in_blocks, branches_by_number, goto_without_labels, jumps_out_of_loops, jumps_to_the_outer_loop, limits_valued_once, loops_that_share_their_end, returns_into_a_loop}
use Rattle.fortran_rows.specs.ErrorSources.{end_is_no_error, files_by_their_names, items_before_an_error, items_with_step_of_zero, numbers_of_errors, record_of_an_error, stopped_without_a_text, text_in_parentheses_moved, unit_before_format}
use Rattle.fortran_rows.specs.ExpressionsSources.{constants_by_name, lists_by_value, operands_of_logicals, powers_and_quotients}
use Rattle.fortran_rows.specs.FormatsSources.{columns_of_a_record, fields_of_each_kind, formats_that_are_texts, lists_in_lists, reversion_to_the_last_group, texts_as_files}
use Rattle.fortran_rows.specs.FurtherSources.{argument_in_parentheses, branch_with_a_list, format_gone_on_with, integer_with_a_letter, loops_with_one_end, matrix_of_a_dummy, record_read_back, sum_of_a_square, text_cut, text_repeated}
use Rattle.fortran_rows.specs.InputSources.{ends_and_errors, fields_with_blanks, records_and_columns, sorted_names, values_by_lists}
use Rattle.fortran_rows.specs.LoopsSources.{counted_while, every_name_declared, loops_by_end_do, while_left_by_a_branch, while_that_shares_its_end, while_with_a_function, while_with_label, while_without_label}
use Rattle.fortran_rows.specs.OrderSources.{dimension_of_another_entry, format_fetched_last, items_of_no_turn, label_for_a_variable, pieces_fetched_last, procedure_for_a_variable, right_side_first}
use Rattle.fortran_rows.specs.ProceduresSources.{dimensions_by_the_call, entries_with_one_result, entries_with_their_dummies, entry_of_another_type, functions_of_statements, parts_of_one_array, procedures_that_are_passed, returns_to_labels, two_names_of_one_place, values_that_are_passed}
use Rattle.fortran_rows.specs.RangeSources.{element_behind_an_entry, element_past_three, first_subscript_past_two, overflow_before_an_element, part_from_zero}
use Rattle.fortran_rows.specs.StorageSources.{locals_that_stay, values_before_the_run}
use Rattle.fortran_rows.specs.TextsSources.{entries_of_texts, functions_of_any_length, functions_of_texts, parts_of_elements, texts_compared, texts_cut_and_filled}
use Rattle.fortran_rows.specs.TransferSources.{bounds_from_zero, digits_of_a_square, file_opened_twice, many_continuations, nothing_to_read, nulls_and_a_slash, reversion_and_fields, text_continued}
use Rattle.fortran_rows.specs.UnitsSources.{blanks_as_zeros, records_read_again, statuses_of_units}
use Rattle.fortran_rows.specs.WorkedSources.{alternate_returns, argument_too_many, arms, array_of_a_dummy, assigned_branch, call_of_nothing, code_of_no_character, constant_defined, constants_and_bounds, decided_and, dimension_of_no_element, division_by_zero, dummies_that_overlap, dummy_of_another_entry, element_past_the_argument, element_past_the_last, entries_of_two_types, entries_share_a_result, function_of_any_length, function_without_result, implied_loops, least_integer, loop_look_alike, loop_that_never_turns, loop_to_the_last_integer, num, operands_from_the_left, procedure_passed, recursion, shared_terminal, statement_function_in_another, status_in, step_of_zero, stopped, sum_printed, text_apart_from_itself, text_moved_within_itself, texts_and_a_statement_function, transfer_in_a_transfer, unit_not_connected, values_from_data, variable_changed_in_its_loop, variable_without_value, written_over}

unfoldable pub acts_apart : List FileSet
acts_apart = descriptor_of_another_type ∷ item_of_another_type ∷ format_that_ends_early ∷ record_without_value ∷ remainder_past_32_bits ∷ zero_to_a_negative_power ∷ part_past_its_text ∷ label_in_a_block ∷ label_of_another_unit ∷ text_too_short_for_its_dummy ∷ argument_of_another_type ∷ function_of_another_type ∷ close_in_a_transfer ∷ dimension_past_32_bits ∷ []

unfoldable pub bits_apart : List FileSet
bits_apart = bits_by_value ∷ bits_by_position ∷ functions_of_bits ∷ length_of_a_sum_of_texts ∷ elements_longer_than_the_actual ∷ longer_elements_past_the_actual ∷ part_of_an_element (num 4) ∷ part_of_an_element (num 6) ∷ part_of_an_element (num 2) ∷ []

unfoldable pub control_apart : List FileSet
control_apart = loops_that_share_their_end ∷ jumps_out_of_loops ∷ limits_valued_once ∷ branches_by_number ∷ assigned_branches ∷ goto_without_labels ∷ blocks_in_blocks ∷ jumps_to_the_outer_loop ∷ returns_into_a_loop ∷ []

unfoldable pub errors_apart : List FileSet
errors_apart = items_with_step_of_zero ∷ text_in_parentheses_moved ∷ numbers_of_errors ∷ items_before_an_error ∷ record_of_an_error ∷ unit_before_format ∷ end_is_no_error ∷ stopped_without_a_text ∷ files_by_their_names ∷ []

unfoldable pub expressions_apart : List FileSet
expressions_apart = powers_and_quotients ∷ constants_by_name ∷ operands_of_logicals ∷ lists_by_value ∷ []

unfoldable pub formats_apart : List FileSet
formats_apart = reversion_to_the_last_group ∷ lists_in_lists ∷ fields_of_each_kind ∷ columns_of_a_record ∷ formats_that_are_texts ∷ texts_as_files ∷ []

unfoldable pub further_apart : List FileSet
further_apart = branch_with_a_list ∷ loops_with_one_end ∷ matrix_of_a_dummy ∷ argument_in_parentheses ∷ text_cut ∷ text_repeated ∷ sum_of_a_square ∷ format_gone_on_with ∷ integer_with_a_letter ∷ record_read_back ∷ []

unfoldable pub inputs_apart : List FileSet
inputs_apart = fields_with_blanks ∷ records_and_columns ∷ values_by_lists ∷ ends_and_errors ∷ sorted_names ∷ []

unfoldable pub loops_apart : List FileSet
loops_apart = counted_while ∷ while_without_label ∷ while_with_label ∷ while_with_a_function ∷ while_left_by_a_branch ∷ while_that_shares_its_end ∷ loops_by_end_do ∷ every_name_declared ∷ []

unfoldable pub orders_apart : List FileSet
orders_apart = right_side_first ∷ pieces_fetched_last ∷ format_fetched_last ∷ items_of_no_turn ∷ dimension_of_another_entry ∷ label_for_a_variable ∷ procedure_for_a_variable ∷ []

unfoldable pub procedures_apart : List FileSet
procedures_apart = two_names_of_one_place ∷ parts_of_one_array ∷ entries_with_one_result ∷ entry_of_another_type ∷ entries_with_their_dummies ∷ returns_to_labels ∷ functions_of_statements ∷ procedures_that_are_passed ∷ dimensions_by_the_call ∷ values_that_are_passed ∷ []

unfoldable pub ranges_apart : List FileSet
ranges_apart = element_past_three ∷ first_subscript_past_two ∷ overflow_before_an_element ∷ part_from_zero ∷ element_behind_an_entry ∷ []

unfoldable pub storage_apart : List FileSet
storage_apart = values_before_the_run ∷ locals_that_stay ∷ []

unfoldable pub texts_apart : List FileSet
texts_apart = functions_of_any_length ∷ texts_cut_and_filled ∷ texts_compared ∷ functions_of_texts ∷ parts_of_elements ∷ entries_of_texts ∷ []

unfoldable pub transfers_apart : List FileSet
transfers_apart = text_continued ∷ many_continuations ∷ reversion_and_fields ∷ nulls_and_a_slash ∷ digits_of_a_square ∷ nothing_to_read ∷ bounds_from_zero ∷ file_opened_twice ∷ []

unfoldable pub units_apart : List FileSet
units_apart = records_read_again ∷ statuses_of_units ∷ blanks_as_zeros ∷ []

unfoldable pub worked_apart : List FileSet
worked_apart = sum_printed ∷ loop_look_alike ∷ loop_that_never_turns ∷ shared_terminal ∷ implied_loops ∷ (arms 1) ∷ (arms 2) ∷ (arms 3) ∷ decided_and ∷ (assigned_branch (10 ∷ [])) ∷ (assigned_branch []) ∷ least_integer ∷ operands_from_the_left ∷ dummies_that_overlap ∷ entries_share_a_result ∷ alternate_returns ∷ loop_to_the_last_integer ∷ division_by_zero ∷ variable_without_value ∷ element_past_the_last ∷ step_of_zero ∷ variable_changed_in_its_loop ∷ (assigned_branch (20 ∷ [])) ∷ transfer_in_a_transfer ∷ recursion ∷ constant_defined ∷ argument_too_many ∷ function_without_result ∷ call_of_nothing ∷ dimension_of_no_element ∷ element_past_the_argument ∷ dummy_of_another_entry ∷ (array_of_a_dummy 5) ∷ texts_and_a_statement_function ∷ statement_function_in_another ∷ text_apart_from_itself ∷ text_moved_within_itself ∷ code_of_no_character ∷ values_from_data ∷ constants_and_bounds ∷ procedure_passed ∷ function_of_any_length ∷ (array_of_a_dummy 3) ∷ entries_of_two_types ∷ (unit_not_connected []) ∷ (unit_not_connected (status_in (codes "n") ∷ [])) ∷ written_over ∷ stopped ∷ []

unfoldable pub sources_apart : List FileSet
sources_apart = acts_apart ++ bits_apart ++ control_apart ++ errors_apart ++ expressions_apart ++ formats_apart ++ further_apart ++ inputs_apart ++ loops_apart ++ orders_apart ++ procedures_apart ++ ranges_apart ++ storage_apart ++ texts_apart ++ transfers_apart ++ units_apart ++ worked_apart

unfoldable pub apart_sources_opened : Unit {0}
unfolding sources_apart acts_apart bits_apart loops_apart ranges_apart control_apart errors_apart expressions_apart formats_apart further_apart inputs_apart orders_apart procedures_apart storage_apart texts_apart transfers_apart units_apart worked_apart
apart_sources_opened = tt
