-- The settings of the programs over COMMON and EQUIVALENCE, checked against what a setting is.
use Rattle.std.proofs.Common.{[], ◌∷◌, Some, None, codes, refl}
use Rattle.fortran_checks.specs.f_tree.Setting.{IsSetting, setting_opened, first_in, later_in, here, there, none_left, is_next}
use Rattle.fortran_checks.specs.f_tree.Lines.{lines_opened}
use Rattle.fortran_checks.specs.f_tree.Meaning.{everything, units_of}
use Rattle.fortran_checks.specs.f_tree.Runs.{no_options}
use Rattle.fortran_rows.specs.BitsSources.{character_in_a_number, character_in_a_number_setting, numbers_that_overlap, numbers_that_overlap_setting, bits_sources_opened}
use Rattle.fortran_rows.specs.StorageSources.{overlay_of_a_matrix, overlay_of_a_matrix_setting, overlay_in_a_chain, overlay_in_a_chain_setting, common_that_differs_by_unit, common_that_differs_by_unit_setting, common_made_longer, common_made_longer_setting, texts_that_overlap, texts_that_overlap_setting, arrays_over_their_file, arrays_over_their_file_setting, values_of_a_block, values_of_a_block_setting, block_named_external, block_named_external_setting, storage_sources_opened}
use Rattle.fortran_rows.specs.CourseSources.{shifted_by_elements, shifted_by_reversion, shifted_by_slashes, shifted_by_values, shifted_setting, course_sources_opened}
use Rattle.fortran_rows.specs.ProceduresSources.{common_that_is_passed, common_that_is_passed_setting, procedures_sources_opened}
use Rattle.fortran_rows.specs.TellingSources.{common_after_its_types, common_after_its_types_setting, numbers_equivalenced, numbers_equivalenced_setting, telling_sources_opened}
use Rattle.fortran_rows.specs.TransferSources.{stock_report, stock_report_setting, transfer_sources_opened}
use Rattle.fortran_rows.specs.FurtherSources.{block_with_values, block_with_values_setting, further_sources_opened}
use Rattle.fortran_rows.specs.SubstringsSources.{right_side_before_a_function, right_side_before_a_function_setting, substrings_sources_opened}
use Rattle.fortran_rows.specs.WorkedSources.{common_seen_twice, common_setting, arrays_equivalenced, arrays_setting, types_equivalenced, types_setting, sources_opened}
use Rattle.fortran_rows.proofs.SettingChecks.{Layout, Checks, block_among, leader_among, one_name, turned, joined, in_block, in_tie, seen, checks_opened, written_setting}

overlay_of_a_matrix_unit_0 : Layout
overlay_of_a_matrix_unit_0 = record {
  stored = (record { name = (codes "a"); size = 24 } ∷ record { name = (codes "b"); size = 24 } ∷ record { name = (codes "i"); size = 4 } ∷ record { name = (codes "j"); size = 4 } ∷ []);
  blocks = [];
  ties = (record { one = record { name = (codes "a"); before = 0 }; other = record { name = (codes "b"); before = 0 } } ∷ []);
}

overlay_of_a_matrix_checks : Checks (overlay_of_a_matrix_unit_0 ∷ []) overlay_of_a_matrix_setting (block_among []) (leader_among (record { unit = 0; name = (codes "a") } ∷ record { unit = 0; name = (codes "i") } ∷ record { unit = 0; name = (codes "j") } ∷ []))
unfolding setting_opened checks_opened lines_opened storage_sources_opened overlay_of_a_matrix_unit_0
overlay_of_a_matrix_checks = record {
  blocks = (tt, tt);
  ties = (((refl, refl), tt), tt);
  linked = ((one_name, (turned (in_tie refl first_in), (one_name, (one_name, tt)))), tt);
  numbered = is_next refl (seen 0 refl (is_next refl (is_next refl none_left)));
  least = (refl, (refl, (refl, tt)));
  within = (((0, refl), ((0, refl), ((0, refl), ((0, refl), tt)))), tt);
  reached = (record { unit = 0; layout = overlay_of_a_matrix_unit_0; member = record { name = (codes "a"); size = 24 }; first = 0; is_there = refl; is_in = first_in; stands = refl; ends = refl }, (record { unit = 0; layout = overlay_of_a_matrix_unit_0; member = record { name = (codes "i"); size = 4 }; first = 0; is_there = refl; is_in = (later_in (later_in first_in)); stands = refl; ends = refl }, (record { unit = 0; layout = overlay_of_a_matrix_unit_0; member = record { name = (codes "j"); size = 4 }; first = 0; is_there = refl; is_in = (later_in (later_in (later_in first_in))); stands = refl; ends = refl }, tt)));
}

pub overlay_of_a_matrix_placed : IsSetting (units_of no_options (overlay_of_a_matrix)) overlay_of_a_matrix_setting
unfolding everything checks_opened storage_sources_opened overlay_of_a_matrix_unit_0
overlay_of_a_matrix_placed = written_setting (units_of no_options (overlay_of_a_matrix)) overlay_of_a_matrix_setting (overlay_of_a_matrix_unit_0 ∷ []) (block_among []) (leader_among (record { unit = 0; name = (codes "a") } ∷ record { unit = 0; name = (codes "i") } ∷ record { unit = 0; name = (codes "j") } ∷ [])) refl refl overlay_of_a_matrix_checks

overlay_in_a_chain_unit_0 : Layout
overlay_in_a_chain_unit_0 = record {
  stored = (record { name = (codes "a"); size = 16 } ∷ record { name = (codes "b"); size = 16 } ∷ record { name = (codes "c"); size = 16 } ∷ record { name = (codes "i"); size = 4 } ∷ []);
  blocks = [];
  ties = (record { one = record { name = (codes "a"); before = 0 }; other = record { name = (codes "b"); before = 8 } } ∷ record { one = record { name = (codes "b"); before = 0 }; other = record { name = (codes "c"); before = 4 } } ∷ []);
}

overlay_in_a_chain_checks : Checks (overlay_in_a_chain_unit_0 ∷ []) overlay_in_a_chain_setting (block_among []) (leader_among (record { unit = 0; name = (codes "c") } ∷ record { unit = 0; name = (codes "i") } ∷ []))
unfolding setting_opened checks_opened lines_opened storage_sources_opened overlay_in_a_chain_unit_0
overlay_in_a_chain_checks = record {
  blocks = (tt, tt);
  ties = (((refl, refl), ((refl, refl), tt)), tt);
  linked = ((joined {y = record { unit = 0; name = (codes "b") }} (in_tie refl first_in) (in_tie refl (later_in first_in)), (in_tie refl (later_in first_in), (one_name, (one_name, tt)))), tt);
  numbered = is_next refl (seen 0 refl (seen 0 refl (is_next refl none_left)));
  least = (refl, (refl, tt));
  within = (((0, refl), ((8, refl), ((12, refl), ((0, refl), tt)))), tt);
  reached = (record { unit = 0; layout = overlay_in_a_chain_unit_0; member = record { name = (codes "a"); size = 16 }; first = 12; is_there = refl; is_in = first_in; stands = refl; ends = refl }, (record { unit = 0; layout = overlay_in_a_chain_unit_0; member = record { name = (codes "i"); size = 4 }; first = 0; is_there = refl; is_in = (later_in (later_in (later_in first_in))); stands = refl; ends = refl }, tt));
}

pub overlay_in_a_chain_placed : IsSetting (units_of no_options (overlay_in_a_chain)) overlay_in_a_chain_setting
unfolding everything checks_opened storage_sources_opened overlay_in_a_chain_unit_0
overlay_in_a_chain_placed = written_setting (units_of no_options (overlay_in_a_chain)) overlay_in_a_chain_setting (overlay_in_a_chain_unit_0 ∷ []) (block_among []) (leader_among (record { unit = 0; name = (codes "c") } ∷ record { unit = 0; name = (codes "i") } ∷ [])) refl refl overlay_in_a_chain_checks

common_that_differs_by_unit_unit_0 : Layout
common_that_differs_by_unit_unit_0 = record {
  stored = (record { name = (codes "i"); size = 4 } ∷ record { name = (codes "j"); size = 8 } ∷ record { name = (codes "k"); size = 4 } ∷ record { name = (codes "m"); size = 4 } ∷ []);
  blocks = (record { name = Some (codes "b"); members = (record { name = (codes "i"); size = 4 } ∷ record { name = (codes "j"); size = 8 } ∷ record { name = (codes "k"); size = 4 } ∷ []) } ∷ record { name = None; members = (record { name = (codes "m"); size = 4 } ∷ []) } ∷ []);
  ties = [];
}

common_that_differs_by_unit_unit_1 : Layout
common_that_differs_by_unit_unit_1 = record {
  stored = (record { name = (codes "l"); size = 4 } ∷ record { name = (codes "n"); size = 16 } ∷ record { name = (codes "new"); size = 4 } ∷ []);
  blocks = (record { name = None; members = (record { name = (codes "l"); size = 4 } ∷ record { name = (codes "new"); size = 4 } ∷ []) } ∷ record { name = Some (codes "b"); members = (record { name = (codes "n"); size = 16 } ∷ []) } ∷ []);
  ties = [];
}

common_that_differs_by_unit_checks : Checks (common_that_differs_by_unit_unit_0 ∷ common_that_differs_by_unit_unit_1 ∷ []) common_that_differs_by_unit_setting (block_among (record { block = Some (codes "b"); sequence = 0 } ∷ record { block = None; sequence = 1 } ∷ [])) (leader_among (record { unit = 0; name = (codes "i") } ∷ record { unit = 0; name = (codes "m") } ∷ []))
unfolding setting_opened checks_opened lines_opened storage_sources_opened common_that_differs_by_unit_unit_0 common_that_differs_by_unit_unit_1
common_that_differs_by_unit_checks = record {
  blocks = (((refl, (refl, (refl, tt))), ((refl, tt), tt)), (((refl, (refl, tt)), ((refl, tt), tt)), tt));
  ties = (tt, (tt, tt));
  linked = ((one_name, (in_block refl refl first_in first_in refl (there here) here, (in_block refl refl first_in first_in refl (there (there here)) here, (one_name, tt)))), ((in_block refl refl first_in (later_in first_in) refl here here, (in_block refl refl (later_in first_in) first_in refl here here, (in_block refl refl first_in (later_in first_in) refl (there here) here, tt))), tt));
  numbered = is_next refl (seen 0 refl (seen 0 refl (is_next refl (seen 0 refl (seen 1 refl (seen 0 refl none_left))))));
  least = (refl, (refl, tt));
  within = (((12, refl), ((4, refl), ((0, refl), ((4, refl), tt)))), (((4, refl), ((0, refl), ((0, refl), tt))), tt));
  reached = (record { unit = 0; layout = common_that_differs_by_unit_unit_0; member = record { name = (codes "k"); size = 4 }; first = 12; is_there = refl; is_in = (later_in (later_in first_in)); stands = refl; ends = refl }, (record { unit = 1; layout = common_that_differs_by_unit_unit_1; member = record { name = (codes "new"); size = 4 }; first = 4; is_there = refl; is_in = (later_in (later_in first_in)); stands = refl; ends = refl }, tt));
}

pub common_that_differs_by_unit_placed : IsSetting (units_of no_options (common_that_differs_by_unit)) common_that_differs_by_unit_setting
unfolding everything checks_opened storage_sources_opened common_that_differs_by_unit_unit_0 common_that_differs_by_unit_unit_1
common_that_differs_by_unit_placed = written_setting (units_of no_options (common_that_differs_by_unit)) common_that_differs_by_unit_setting (common_that_differs_by_unit_unit_0 ∷ common_that_differs_by_unit_unit_1 ∷ []) (block_among (record { block = Some (codes "b"); sequence = 0 } ∷ record { block = None; sequence = 1 } ∷ [])) (leader_among (record { unit = 0; name = (codes "i") } ∷ record { unit = 0; name = (codes "m") } ∷ [])) refl refl common_that_differs_by_unit_checks

common_made_longer_unit_0 : Layout
common_made_longer_unit_0 = record {
  stored = (record { name = (codes "i"); size = 4 } ∷ record { name = (codes "a"); size = 12 } ∷ []);
  blocks = (record { name = None; members = (record { name = (codes "i"); size = 4 } ∷ []) } ∷ []);
  ties = (record { one = record { name = (codes "i"); before = 0 }; other = record { name = (codes "a"); before = 0 } } ∷ []);
}

common_made_longer_unit_1 : Layout
common_made_longer_unit_1 = record {
  stored = (record { name = (codes "j"); size = 4 } ∷ record { name = (codes "k"); size = 4 } ∷ record { name = (codes "l"); size = 4 } ∷ []);
  blocks = (record { name = None; members = (record { name = (codes "j"); size = 4 } ∷ record { name = (codes "k"); size = 4 } ∷ record { name = (codes "l"); size = 4 } ∷ []) } ∷ []);
  ties = [];
}

common_made_longer_checks : Checks (common_made_longer_unit_0 ∷ common_made_longer_unit_1 ∷ []) common_made_longer_setting (block_among (record { block = None; sequence = 0 } ∷ [])) (leader_among (record { unit = 0; name = (codes "i") } ∷ []))
unfolding setting_opened checks_opened lines_opened storage_sources_opened common_made_longer_unit_0 common_made_longer_unit_1
common_made_longer_checks = record {
  blocks = (((refl, tt), tt), (((refl, (refl, (refl, tt))), tt), tt));
  ties = (((refl, refl), tt), (tt, tt));
  linked = ((one_name, (turned (in_tie refl first_in), tt)), ((in_block refl refl first_in first_in refl here here, (in_block refl refl first_in first_in refl (there here) here, (in_block refl refl first_in first_in refl (there (there here)) here, tt))), tt));
  numbered = is_next refl (seen 0 refl (seen 0 refl (seen 0 refl (seen 0 refl none_left))));
  least = (refl, tt);
  within = (((8, refl), ((0, refl), tt)), (((8, refl), ((4, refl), ((0, refl), tt))), tt));
  reached = (record { unit = 0; layout = common_made_longer_unit_0; member = record { name = (codes "a"); size = 12 }; first = 0; is_there = refl; is_in = (later_in first_in); stands = refl; ends = refl }, tt);
}

pub common_made_longer_placed : IsSetting (units_of no_options (common_made_longer)) common_made_longer_setting
unfolding everything checks_opened storage_sources_opened common_made_longer_unit_0 common_made_longer_unit_1
common_made_longer_placed = written_setting (units_of no_options (common_made_longer)) common_made_longer_setting (common_made_longer_unit_0 ∷ common_made_longer_unit_1 ∷ []) (block_among (record { block = None; sequence = 0 } ∷ [])) (leader_among (record { unit = 0; name = (codes "i") } ∷ [])) refl refl common_made_longer_checks

texts_that_overlap_unit_0 : Layout
texts_that_overlap_unit_0 = record {
  stored = (record { name = (codes "a"); size = 4 } ∷ record { name = (codes "b"); size = 6 } ∷ []);
  blocks = [];
  ties = (record { one = record { name = (codes "a"); before = 2 }; other = record { name = (codes "b"); before = 1 } } ∷ []);
}

texts_that_overlap_checks : Checks (texts_that_overlap_unit_0 ∷ []) texts_that_overlap_setting (block_among []) (leader_among (record { unit = 0; name = (codes "a") } ∷ []))
unfolding setting_opened checks_opened lines_opened storage_sources_opened texts_that_overlap_unit_0
texts_that_overlap_checks = record {
  blocks = (tt, tt);
  ties = (((refl, refl), tt), tt);
  linked = ((one_name, (turned (in_tie refl first_in), tt)), tt);
  numbered = is_next refl (seen 0 refl none_left);
  least = (refl, tt);
  within = (((3, refl), ((0, refl), tt)), tt);
  reached = (record { unit = 0; layout = texts_that_overlap_unit_0; member = record { name = (codes "b"); size = 6 }; first = 1; is_there = refl; is_in = (later_in first_in); stands = refl; ends = refl }, tt);
}

pub texts_that_overlap_placed : IsSetting (units_of no_options (texts_that_overlap)) texts_that_overlap_setting
unfolding everything checks_opened storage_sources_opened texts_that_overlap_unit_0
texts_that_overlap_placed = written_setting (units_of no_options (texts_that_overlap)) texts_that_overlap_setting (texts_that_overlap_unit_0 ∷ []) (block_among []) (leader_among (record { unit = 0; name = (codes "a") } ∷ [])) refl refl texts_that_overlap_checks

arrays_over_their_file_unit_0 : Layout
arrays_over_their_file_unit_0 = record {
  stored = (record { name = (codes "s"); size = 6 } ∷ record { name = (codes "t"); size = 6 } ∷ record { name = (codes "u"); size = 6 } ∷ record { name = (codes "v"); size = 6 } ∷ []);
  blocks = [];
  ties = (record { one = record { name = (codes "s"); before = 2 }; other = record { name = (codes "t"); before = 0 } } ∷ record { one = record { name = (codes "u"); before = 0 }; other = record { name = (codes "v"); before = 4 } } ∷ []);
}

arrays_over_their_file_checks : Checks (arrays_over_their_file_unit_0 ∷ []) arrays_over_their_file_setting (block_among []) (leader_among (record { unit = 0; name = (codes "s") } ∷ record { unit = 0; name = (codes "v") } ∷ []))
unfolding setting_opened checks_opened lines_opened storage_sources_opened arrays_over_their_file_unit_0
arrays_over_their_file_checks = record {
  blocks = (tt, tt);
  ties = (((refl, refl), ((refl, refl), tt)), tt);
  linked = ((one_name, (turned (in_tie refl first_in), (in_tie refl (later_in first_in), (one_name, tt)))), tt);
  numbered = is_next refl (seen 0 refl (is_next refl (seen 0 refl none_left)));
  least = (refl, (refl, tt));
  within = (((2, refl), ((0, refl), ((0, refl), ((4, refl), tt)))), tt);
  reached = (record { unit = 0; layout = arrays_over_their_file_unit_0; member = record { name = (codes "t"); size = 6 }; first = 2; is_there = refl; is_in = (later_in first_in); stands = refl; ends = refl }, (record { unit = 0; layout = arrays_over_their_file_unit_0; member = record { name = (codes "u"); size = 6 }; first = 4; is_there = refl; is_in = (later_in (later_in first_in)); stands = refl; ends = refl }, tt));
}

pub arrays_over_their_file_placed : IsSetting (units_of no_options (arrays_over_their_file)) arrays_over_their_file_setting
unfolding everything checks_opened storage_sources_opened arrays_over_their_file_unit_0
arrays_over_their_file_placed = written_setting (units_of no_options (arrays_over_their_file)) arrays_over_their_file_setting (arrays_over_their_file_unit_0 ∷ []) (block_among []) (leader_among (record { unit = 0; name = (codes "s") } ∷ record { unit = 0; name = (codes "v") } ∷ [])) refl refl arrays_over_their_file_checks

values_of_a_block_unit_0 : Layout
values_of_a_block_unit_0 = record {
  stored = (record { name = (codes "i"); size = 20 } ∷ record { name = (codes "c"); size = 3 } ∷ []);
  blocks = (record { name = Some (codes "t"); members = (record { name = (codes "i"); size = 20 } ∷ []) } ∷ record { name = Some (codes "u"); members = (record { name = (codes "c"); size = 3 } ∷ []) } ∷ []);
  ties = [];
}

values_of_a_block_unit_1 : Layout
values_of_a_block_unit_1 = record {
  stored = (record { name = (codes "j"); size = 8 } ∷ record { name = (codes "k"); size = 12 } ∷ record { name = (codes "c"); size = 3 } ∷ []);
  blocks = (record { name = Some (codes "t"); members = (record { name = (codes "j"); size = 8 } ∷ record { name = (codes "k"); size = 12 } ∷ []) } ∷ record { name = Some (codes "u"); members = (record { name = (codes "c"); size = 3 } ∷ []) } ∷ []);
  ties = [];
}

values_of_a_block_checks : Checks (values_of_a_block_unit_0 ∷ values_of_a_block_unit_1 ∷ []) values_of_a_block_setting (block_among (record { block = Some (codes "t"); sequence = 0 } ∷ record { block = Some (codes "u"); sequence = 1 } ∷ [])) (leader_among (record { unit = 0; name = (codes "i") } ∷ record { unit = 0; name = (codes "c") } ∷ []))
unfolding setting_opened checks_opened lines_opened storage_sources_opened values_of_a_block_unit_0 values_of_a_block_unit_1
values_of_a_block_checks = record {
  blocks = (((refl, tt), ((refl, tt), tt)), (((refl, (refl, tt)), ((refl, tt), tt)), tt));
  ties = (tt, (tt, tt));
  linked = ((one_name, (one_name, tt)), ((in_block refl refl first_in first_in refl here here, (in_block refl refl first_in first_in refl (there here) here, (in_block refl refl (later_in first_in) (later_in first_in) refl here here, tt))), tt));
  numbered = is_next refl (is_next refl (seen 1 refl (seen 1 refl (seen 0 refl none_left))));
  least = (refl, (refl, tt));
  within = (((0, refl), ((0, refl), tt)), (((12, refl), ((0, refl), ((0, refl), tt))), tt));
  reached = (record { unit = 0; layout = values_of_a_block_unit_0; member = record { name = (codes "i"); size = 20 }; first = 0; is_there = refl; is_in = first_in; stands = refl; ends = refl }, (record { unit = 0; layout = values_of_a_block_unit_0; member = record { name = (codes "c"); size = 3 }; first = 0; is_there = refl; is_in = (later_in first_in); stands = refl; ends = refl }, tt));
}

pub values_of_a_block_placed : IsSetting (units_of no_options (values_of_a_block)) values_of_a_block_setting
unfolding everything checks_opened storage_sources_opened values_of_a_block_unit_0 values_of_a_block_unit_1
values_of_a_block_placed = written_setting (units_of no_options (values_of_a_block)) values_of_a_block_setting (values_of_a_block_unit_0 ∷ values_of_a_block_unit_1 ∷ []) (block_among (record { block = Some (codes "t"); sequence = 0 } ∷ record { block = Some (codes "u"); sequence = 1 } ∷ [])) (leader_among (record { unit = 0; name = (codes "i") } ∷ record { unit = 0; name = (codes "c") } ∷ [])) refl refl values_of_a_block_checks

block_named_external_unit : Layout
block_named_external_unit = record {
  stored = (record { name = (codes "i"); size = 4 } ∷ []);
  blocks = (record { name = Some (codes "t"); members = (record { name = (codes "i"); size = 4 } ∷ []) } ∷ []);
  ties = [];
}

block_named_external_checks : Checks (block_named_external_unit ∷ block_named_external_unit ∷ []) block_named_external_setting (block_among (record { block = Some (codes "t"); sequence = 0 } ∷ [])) (leader_among (record { unit = 0; name = (codes "i") } ∷ []))
unfolding setting_opened checks_opened lines_opened storage_sources_opened block_named_external_unit
block_named_external_checks = record {
  blocks = (((refl, tt), tt), (((refl, tt), tt), tt));
  ties = (tt, (tt, tt));
  linked = ((one_name, tt), ((in_block refl refl first_in first_in refl here here, tt), tt));
  numbered = is_next refl (seen 0 refl none_left);
  least = (refl, tt);
  within = (((0, refl), tt), (((0, refl), tt), tt));
  reached = (record { unit = 0; layout = block_named_external_unit; member = record { name = (codes "i"); size = 4 }; first = 0; is_there = refl; is_in = first_in; stands = refl; ends = refl }, tt);
}

pub block_named_external_placed : IsSetting (units_of no_options (block_named_external)) block_named_external_setting
unfolding everything checks_opened storage_sources_opened block_named_external_unit
block_named_external_placed = written_setting (units_of no_options (block_named_external)) block_named_external_setting (block_named_external_unit ∷ block_named_external_unit ∷ []) (block_among (record { block = Some (codes "t"); sequence = 0 } ∷ [])) (leader_among (record { unit = 0; name = (codes "i") } ∷ [])) refl refl block_named_external_checks

common_that_is_passed_unit_0 : Layout
common_that_is_passed_unit_0 = record {
  stored = (record { name = (codes "n"); size = 4 } ∷ []);
  blocks = (record { name = None; members = (record { name = (codes "n"); size = 4 } ∷ []) } ∷ []);
  ties = [];
}

common_that_is_passed_unit_1 : Layout
common_that_is_passed_unit_1 = record {
  stored = (record { name = (codes "n"); size = 4 } ∷ []);
  blocks = (record { name = None; members = (record { name = (codes "n"); size = 4 } ∷ []) } ∷ []);
  ties = [];
}

common_that_is_passed_checks : Checks (common_that_is_passed_unit_0 ∷ common_that_is_passed_unit_1 ∷ []) common_that_is_passed_setting (block_among (record { block = None; sequence = 0 } ∷ [])) (leader_among (record { unit = 0; name = (codes "n") } ∷ []))
unfolding setting_opened checks_opened lines_opened procedures_sources_opened common_that_is_passed_unit_0 common_that_is_passed_unit_1
common_that_is_passed_checks = record {
  blocks = (((refl, tt), tt), (((refl, tt), tt), tt));
  ties = (tt, (tt, tt));
  linked = ((one_name, tt), ((in_block refl refl first_in first_in refl here here, tt), tt));
  numbered = is_next refl (seen 0 refl none_left);
  least = (refl, tt);
  within = (((0, refl), tt), (((0, refl), tt), tt));
  reached = (record { unit = 0; layout = common_that_is_passed_unit_0; member = record { name = (codes "n"); size = 4 }; first = 0; is_there = refl; is_in = first_in; stands = refl; ends = refl }, tt);
}

pub common_that_is_passed_placed : IsSetting (units_of no_options (common_that_is_passed)) common_that_is_passed_setting
unfolding everything checks_opened procedures_sources_opened common_that_is_passed_unit_0 common_that_is_passed_unit_1
common_that_is_passed_placed = written_setting (units_of no_options (common_that_is_passed)) common_that_is_passed_setting (common_that_is_passed_unit_0 ∷ common_that_is_passed_unit_1 ∷ []) (block_among (record { block = None; sequence = 0 } ∷ [])) (leader_among (record { unit = 0; name = (codes "n") } ∷ [])) refl refl common_that_is_passed_checks

stock_report_unit_0 : Layout
stock_report_unit_0 = record {
  stored = (record { name = (codes "name"); size = 400 } ∷ record { name = (codes "count"); size = 200 } ∷ record { name = (codes "total"); size = 4 } ∷ record { name = (codes "num"); size = 4 } ∷ record { name = (codes "i"); size = 4 } ∷ []);
  blocks = (record { name = Some (codes "names"); members = (record { name = (codes "name"); size = 400 } ∷ []) } ∷ record { name = Some (codes "tab"); members = (record { name = (codes "count"); size = 200 } ∷ record { name = (codes "num"); size = 4 } ∷ []) } ∷ []);
  ties = [];
}

stock_report_unit_1 : Layout
stock_report_unit_1 = record {
  stored = (record { name = (codes "name"); size = 400 } ∷ record { name = (codes "t"); size = 8 } ∷ record { name = (codes "count"); size = 200 } ∷ record { name = (codes "num"); size = 4 } ∷ record { name = (codes "i"); size = 4 } ∷ record { name = (codes "j"); size = 4 } ∷ record { name = (codes "k"); size = 4 } ∷ []);
  blocks = (record { name = Some (codes "names"); members = (record { name = (codes "name"); size = 400 } ∷ []) } ∷ record { name = Some (codes "tab"); members = (record { name = (codes "count"); size = 200 } ∷ record { name = (codes "num"); size = 4 } ∷ []) } ∷ []);
  ties = [];
}

stock_report_checks : Checks (stock_report_unit_0 ∷ stock_report_unit_1 ∷ []) stock_report_setting (block_among (record { block = Some (codes "names"); sequence = 0 } ∷ record { block = Some (codes "tab"); sequence = 1 } ∷ [])) (leader_among (record { unit = 0; name = (codes "name") } ∷ record { unit = 0; name = (codes "count") } ∷ record { unit = 0; name = (codes "total") } ∷ record { unit = 0; name = (codes "i") } ∷ record { unit = 1; name = (codes "t") } ∷ record { unit = 1; name = (codes "i") } ∷ record { unit = 1; name = (codes "j") } ∷ record { unit = 1; name = (codes "k") } ∷ []))
unfolding setting_opened checks_opened lines_opened transfer_sources_opened stock_report_unit_0 stock_report_unit_1
stock_report_checks = record {
  blocks = (((refl, tt), ((refl, (refl, tt)), tt)), (((refl, tt), ((refl, (refl, tt)), tt)), tt));
  ties = (tt, (tt, tt));
  linked = ((one_name, (one_name, (one_name, (in_block refl refl (later_in first_in) (later_in first_in) refl (there here) here, (one_name, tt))))), ((in_block refl refl first_in first_in refl here here, (one_name, (in_block refl refl (later_in first_in) (later_in first_in) refl here here, (in_block refl refl (later_in first_in) (later_in first_in) refl (there here) here, (one_name, (one_name, (one_name, tt))))))), tt));
  numbered = is_next refl (is_next refl (is_next refl (seen 1 refl (is_next refl (seen 3 refl (is_next refl (seen 3 refl (seen 3 refl (is_next refl (is_next refl (is_next refl none_left)))))))))));
  least = (refl, (refl, (refl, (refl, (refl, (refl, (refl, (refl, tt))))))));
  within = (((0, refl), ((4, refl), ((0, refl), ((0, refl), ((0, refl), tt))))), (((0, refl), ((0, refl), ((4, refl), ((0, refl), ((0, refl), ((0, refl), ((0, refl), tt))))))), tt));
  reached = (record { unit = 0; layout = stock_report_unit_0; member = record { name = (codes "name"); size = 400 }; first = 0; is_there = refl; is_in = first_in; stands = refl; ends = refl }, (record { unit = 0; layout = stock_report_unit_0; member = record { name = (codes "num"); size = 4 }; first = 200; is_there = refl; is_in = (later_in (later_in (later_in first_in))); stands = refl; ends = refl }, (record { unit = 0; layout = stock_report_unit_0; member = record { name = (codes "total"); size = 4 }; first = 0; is_there = refl; is_in = (later_in (later_in first_in)); stands = refl; ends = refl }, (record { unit = 0; layout = stock_report_unit_0; member = record { name = (codes "i"); size = 4 }; first = 0; is_there = refl; is_in = (later_in (later_in (later_in (later_in first_in)))); stands = refl; ends = refl }, (record { unit = 1; layout = stock_report_unit_1; member = record { name = (codes "t"); size = 8 }; first = 0; is_there = refl; is_in = (later_in first_in); stands = refl; ends = refl }, (record { unit = 1; layout = stock_report_unit_1; member = record { name = (codes "i"); size = 4 }; first = 0; is_there = refl; is_in = (later_in (later_in (later_in (later_in first_in)))); stands = refl; ends = refl }, (record { unit = 1; layout = stock_report_unit_1; member = record { name = (codes "j"); size = 4 }; first = 0; is_there = refl; is_in = (later_in (later_in (later_in (later_in (later_in first_in))))); stands = refl; ends = refl }, (record { unit = 1; layout = stock_report_unit_1; member = record { name = (codes "k"); size = 4 }; first = 0; is_there = refl; is_in = (later_in (later_in (later_in (later_in (later_in (later_in first_in)))))); stands = refl; ends = refl }, tt))))))));
}

pub stock_report_placed : IsSetting (units_of no_options (stock_report)) stock_report_setting
unfolding everything checks_opened transfer_sources_opened stock_report_unit_0 stock_report_unit_1
stock_report_placed = written_setting (units_of no_options (stock_report)) stock_report_setting (stock_report_unit_0 ∷ stock_report_unit_1 ∷ []) (block_among (record { block = Some (codes "names"); sequence = 0 } ∷ record { block = Some (codes "tab"); sequence = 1 } ∷ [])) (leader_among (record { unit = 0; name = (codes "name") } ∷ record { unit = 0; name = (codes "count") } ∷ record { unit = 0; name = (codes "total") } ∷ record { unit = 0; name = (codes "i") } ∷ record { unit = 1; name = (codes "t") } ∷ record { unit = 1; name = (codes "i") } ∷ record { unit = 1; name = (codes "j") } ∷ record { unit = 1; name = (codes "k") } ∷ [])) refl refl stock_report_checks

block_with_values_unit_0 : Layout
block_with_values_unit_0 = record {
  stored = (record { name = (codes "i"); size = 20 } ∷ []);
  blocks = (record { name = Some (codes "t"); members = (record { name = (codes "i"); size = 20 } ∷ []) } ∷ []);
  ties = [];
}

block_with_values_unit_1 : Layout
block_with_values_unit_1 = record {
  stored = (record { name = (codes "j"); size = 20 } ∷ []);
  blocks = (record { name = Some (codes "t"); members = (record { name = (codes "j"); size = 20 } ∷ []) } ∷ []);
  ties = [];
}

block_with_values_checks : Checks (block_with_values_unit_0 ∷ block_with_values_unit_1 ∷ []) block_with_values_setting (block_among (record { block = Some (codes "t"); sequence = 0 } ∷ [])) (leader_among (record { unit = 0; name = (codes "i") } ∷ []))
unfolding setting_opened checks_opened lines_opened further_sources_opened block_with_values_unit_0 block_with_values_unit_1
block_with_values_checks = record {
  blocks = (((refl, tt), tt), (((refl, tt), tt), tt));
  ties = (tt, (tt, tt));
  linked = ((one_name, tt), ((in_block refl refl first_in first_in refl here here, tt), tt));
  numbered = is_next refl (seen 0 refl none_left);
  least = (refl, tt);
  within = (((0, refl), tt), (((0, refl), tt), tt));
  reached = (record { unit = 0; layout = block_with_values_unit_0; member = record { name = (codes "i"); size = 20 }; first = 0; is_there = refl; is_in = first_in; stands = refl; ends = refl }, tt);
}

pub block_with_values_placed : IsSetting (units_of no_options (block_with_values)) block_with_values_setting
unfolding everything checks_opened further_sources_opened block_with_values_unit_0 block_with_values_unit_1
block_with_values_placed = written_setting (units_of no_options (block_with_values)) block_with_values_setting (block_with_values_unit_0 ∷ block_with_values_unit_1 ∷ []) (block_among (record { block = Some (codes "t"); sequence = 0 } ∷ [])) (leader_among (record { unit = 0; name = (codes "i") } ∷ [])) refl refl block_with_values_checks

common_seen_twice_unit_0 : Layout
common_seen_twice_unit_0 = record {
  stored = (record { name = (codes "i"); size = 4 } ∷ record { name = (codes "j"); size = 8 } ∷ []);
  blocks = (record { name = Some (codes "b"); members = (record { name = (codes "i"); size = 4 } ∷ record { name = (codes "j"); size = 8 } ∷ []) } ∷ []);
  ties = [];
}

common_seen_twice_unit_1 : Layout
common_seen_twice_unit_1 = record {
  stored = (record { name = (codes "k"); size = 12 } ∷ []);
  blocks = (record { name = Some (codes "b"); members = (record { name = (codes "k"); size = 12 } ∷ []) } ∷ []);
  ties = [];
}

common_seen_twice_checks : Checks (common_seen_twice_unit_0 ∷ common_seen_twice_unit_1 ∷ []) common_setting (block_among (record { block = Some (codes "b"); sequence = 0 } ∷ [])) (leader_among (record { unit = 0; name = (codes "i") } ∷ []))
unfolding setting_opened checks_opened lines_opened sources_opened common_seen_twice_unit_0 common_seen_twice_unit_1
common_seen_twice_checks = record {
  blocks = (((refl, (refl, tt)), tt), (((refl, tt), tt), tt));
  ties = (tt, (tt, tt));
  linked = ((one_name, (in_block refl refl first_in first_in refl (there here) here, tt)), ((in_block refl refl first_in first_in refl here here, tt), tt));
  numbered = is_next refl (seen 0 refl (seen 0 refl none_left));
  least = (refl, tt);
  within = (((8, refl), ((0, refl), tt)), (((0, refl), tt), tt));
  reached = (record { unit = 0; layout = common_seen_twice_unit_0; member = record { name = (codes "j"); size = 8 }; first = 4; is_there = refl; is_in = (later_in first_in); stands = refl; ends = refl }, tt);
}

pub common_seen_twice_placed : IsSetting (units_of no_options (common_seen_twice)) common_setting
unfolding everything checks_opened sources_opened common_seen_twice_unit_0 common_seen_twice_unit_1
common_seen_twice_placed = written_setting (units_of no_options (common_seen_twice)) common_setting (common_seen_twice_unit_0 ∷ common_seen_twice_unit_1 ∷ []) (block_among (record { block = Some (codes "b"); sequence = 0 } ∷ [])) (leader_among (record { unit = 0; name = (codes "i") } ∷ [])) refl refl common_seen_twice_checks

arrays_equivalenced_unit_0 : Layout
arrays_equivalenced_unit_0 = record {
  stored = (record { name = (codes "a"); size = 16 } ∷ record { name = (codes "b"); size = 16 } ∷ []);
  blocks = [];
  ties = (record { one = record { name = (codes "a"); before = 8 }; other = record { name = (codes "b"); before = 0 } } ∷ []);
}

arrays_equivalenced_checks : Checks (arrays_equivalenced_unit_0 ∷ []) arrays_setting (block_among []) (leader_among (record { unit = 0; name = (codes "a") } ∷ []))
unfolding setting_opened checks_opened lines_opened sources_opened arrays_equivalenced_unit_0
arrays_equivalenced_checks = record {
  blocks = (tt, tt);
  ties = (((refl, refl), tt), tt);
  linked = ((one_name, (turned (in_tie refl first_in), tt)), tt);
  numbered = is_next refl (seen 0 refl none_left);
  least = (refl, tt);
  within = (((8, refl), ((0, refl), tt)), tt);
  reached = (record { unit = 0; layout = arrays_equivalenced_unit_0; member = record { name = (codes "b"); size = 16 }; first = 8; is_there = refl; is_in = (later_in first_in); stands = refl; ends = refl }, tt);
}

pub arrays_equivalenced_placed : IsSetting (units_of no_options (arrays_equivalenced)) arrays_setting
unfolding everything checks_opened sources_opened arrays_equivalenced_unit_0
arrays_equivalenced_placed = written_setting (units_of no_options (arrays_equivalenced)) arrays_setting (arrays_equivalenced_unit_0 ∷ []) (block_among []) (leader_among (record { unit = 0; name = (codes "a") } ∷ [])) refl refl arrays_equivalenced_checks

types_equivalenced_unit_0 : Layout
types_equivalenced_unit_0 = record {
  stored = (record { name = (codes "l"); size = 4 } ∷ record { name = (codes "i"); size = 4 } ∷ []);
  blocks = [];
  ties = (record { one = record { name = (codes "i"); before = 0 }; other = record { name = (codes "l"); before = 0 } } ∷ []);
}

types_equivalenced_checks : Checks (types_equivalenced_unit_0 ∷ []) types_setting (block_among []) (leader_among (record { unit = 0; name = (codes "l") } ∷ []))
unfolding setting_opened checks_opened lines_opened sources_opened types_equivalenced_unit_0
types_equivalenced_checks = record {
  blocks = (tt, tt);
  ties = (((refl, refl), tt), tt);
  linked = ((one_name, (in_tie refl first_in, tt)), tt);
  numbered = is_next refl (seen 0 refl none_left);
  least = (refl, tt);
  within = (((0, refl), ((0, refl), tt)), tt);
  reached = (record { unit = 0; layout = types_equivalenced_unit_0; member = record { name = (codes "l"); size = 4 }; first = 0; is_there = refl; is_in = first_in; stands = refl; ends = refl }, tt);
}

pub types_equivalenced_placed : IsSetting (units_of no_options (types_equivalenced (codes "l"))) types_setting
unfolding everything checks_opened sources_opened types_equivalenced_unit_0
types_equivalenced_placed = written_setting (units_of no_options (types_equivalenced (codes "l"))) types_setting (types_equivalenced_unit_0 ∷ []) (block_among []) (leader_among (record { unit = 0; name = (codes "l") } ∷ [])) refl refl types_equivalenced_checks

pub other_type_placed : IsSetting (units_of no_options (types_equivalenced (codes "i"))) types_setting
unfolding everything checks_opened sources_opened types_equivalenced_unit_0
other_type_placed = written_setting (units_of no_options (types_equivalenced (codes "i"))) types_setting (types_equivalenced_unit_0 ∷ []) (block_among []) (leader_among (record { unit = 0; name = (codes "l") } ∷ [])) refl refl types_equivalenced_checks

shifted_unit_0 : Layout
shifted_unit_0 = record {
  stored = (record { name = (codes "u"); size = 6 } ∷ record { name = (codes "v"); size = 6 } ∷ []);
  blocks = [];
  ties = (record { one = record { name = (codes "u"); before = 0 }; other = record { name = (codes "v"); before = 2 } } ∷ []);
}

shifted_checks : Checks (shifted_unit_0 ∷ []) shifted_setting (block_among []) (leader_among (record { unit = 0; name = (codes "v") } ∷ []))
unfolding setting_opened checks_opened lines_opened course_sources_opened shifted_unit_0
shifted_checks = record {
  blocks = (tt, tt);
  ties = (((refl, refl), tt), tt);
  linked = ((in_tie refl first_in, (one_name, tt)), tt);
  numbered = is_next refl (seen 0 refl none_left);
  least = (refl, tt);
  within = (((0, refl), ((2, refl), tt)), tt);
  reached = (record { unit = 0; layout = shifted_unit_0; member = record { name = (codes "u"); size = 6 }; first = 2; is_there = refl; is_in = first_in; stands = refl; ends = refl }, tt);
}

pub reversion_placed : IsSetting (units_of no_options shifted_by_reversion) shifted_setting
unfolding everything checks_opened course_sources_opened shifted_unit_0
reversion_placed = written_setting (units_of no_options shifted_by_reversion) shifted_setting (shifted_unit_0 ∷ []) (block_among []) (leader_among (record { unit = 0; name = (codes "v") } ∷ [])) refl refl shifted_checks

pub slashes_placed : IsSetting (units_of no_options shifted_by_slashes) shifted_setting
unfolding everything checks_opened course_sources_opened shifted_unit_0
slashes_placed = written_setting (units_of no_options shifted_by_slashes) shifted_setting (shifted_unit_0 ∷ []) (block_among []) (leader_among (record { unit = 0; name = (codes "v") } ∷ [])) refl refl shifted_checks

pub elements_placed : IsSetting (units_of no_options shifted_by_elements) shifted_setting
unfolding everything checks_opened course_sources_opened shifted_unit_0
elements_placed = written_setting (units_of no_options shifted_by_elements) shifted_setting (shifted_unit_0 ∷ []) (block_among []) (leader_among (record { unit = 0; name = (codes "v") } ∷ [])) refl refl shifted_checks

pub values_placed : IsSetting (units_of no_options shifted_by_values) shifted_setting
unfolding everything checks_opened course_sources_opened shifted_unit_0
values_placed = written_setting (units_of no_options shifted_by_values) shifted_setting (shifted_unit_0 ∷ []) (block_among []) (leader_among (record { unit = 0; name = (codes "v") } ∷ [])) refl refl shifted_checks

right_side_before_a_function_unit_0 : Layout
right_side_before_a_function_unit_0 = record {
  stored = (record { name = (codes "s"); size = 3 } ∷ record { name = (codes "t"); size = 3 } ∷ []);
  blocks = (record { name = Some (codes "b"); members = (record { name = (codes "t"); size = 3 } ∷ []) } ∷ []);
  ties = [];
}

right_side_before_a_function_unit_1 : Layout
right_side_before_a_function_unit_1 = record {
  stored = (record { name = (codes "t"); size = 3 } ∷ []);
  blocks = (record { name = Some (codes "b"); members = (record { name = (codes "t"); size = 3 } ∷ []) } ∷ []);
  ties = [];
}

right_side_before_a_function_checks : Checks (right_side_before_a_function_unit_0 ∷ right_side_before_a_function_unit_1 ∷ []) right_side_before_a_function_setting (block_among (record { block = Some (codes "b"); sequence = 1 } ∷ [])) (leader_among (record { unit = 0; name = (codes "s") } ∷ record { unit = 0; name = (codes "t") } ∷ []))
unfolding setting_opened checks_opened lines_opened substrings_sources_opened right_side_before_a_function_unit_0 right_side_before_a_function_unit_1
right_side_before_a_function_checks = record {
  blocks = (((refl, tt), tt), (((refl, tt), tt), tt));
  ties = (tt, (tt, tt));
  linked = ((one_name, (one_name, tt)), ((in_block refl refl first_in first_in refl here here, tt), tt));
  numbered = is_next refl (is_next refl (seen 0 refl none_left));
  least = (refl, (refl, tt));
  within = (((0, refl), ((0, refl), tt)), (((0, refl), tt), tt));
  reached = (record { unit = 0; layout = right_side_before_a_function_unit_0; member = record { name = (codes "s"); size = 3 }; first = 0; is_there = refl; is_in = first_in; stands = refl; ends = refl }, (record { unit = 0; layout = right_side_before_a_function_unit_0; member = record { name = (codes "t"); size = 3 }; first = 0; is_there = refl; is_in = (later_in first_in); stands = refl; ends = refl }, tt));
}

pub right_side_before_a_function_placed : IsSetting (units_of no_options (right_side_before_a_function)) right_side_before_a_function_setting
unfolding everything checks_opened substrings_sources_opened right_side_before_a_function_unit_0 right_side_before_a_function_unit_1
right_side_before_a_function_placed = written_setting (units_of no_options (right_side_before_a_function)) right_side_before_a_function_setting (right_side_before_a_function_unit_0 ∷ right_side_before_a_function_unit_1 ∷ []) (block_among (record { block = Some (codes "b"); sequence = 1 } ∷ [])) (leader_among (record { unit = 0; name = (codes "s") } ∷ record { unit = 0; name = (codes "t") } ∷ [])) refl refl right_side_before_a_function_checks

character_in_a_number_unit_0 : Layout
character_in_a_number_unit_0 = record {
  stored = (record { name = (codes "c"); size = 4 } ∷ record { name = (codes "i"); size = 4 } ∷ []);
  blocks = [];
  ties = (record { one = record { name = (codes "c"); before = 0 }; other = record { name = (codes "i"); before = 0 } } ∷ []);
}

character_in_a_number_checks : Checks (character_in_a_number_unit_0 ∷ []) character_in_a_number_setting (block_among []) (leader_among (record { unit = 0; name = (codes "c") } ∷ []))
unfolding setting_opened checks_opened lines_opened bits_sources_opened character_in_a_number_unit_0
character_in_a_number_checks = record {
  blocks = (tt, tt);
  ties = (((refl, refl), tt), tt);
  linked = ((one_name, (turned (in_tie refl first_in), tt)), tt);
  numbered = is_next refl (seen 0 refl none_left);
  least = (refl, tt);
  within = (((0, refl), ((0, refl), tt)), tt);
  reached = (record { unit = 0; layout = character_in_a_number_unit_0; member = record { name = (codes "c"); size = 4 }; first = 0; is_there = refl; is_in = first_in; stands = refl; ends = refl }, tt);
}

pub character_in_a_number_placed : IsSetting (units_of no_options character_in_a_number) character_in_a_number_setting
unfolding everything checks_opened bits_sources_opened character_in_a_number_unit_0
character_in_a_number_placed = written_setting (units_of no_options character_in_a_number) character_in_a_number_setting (character_in_a_number_unit_0 ∷ []) (block_among []) (leader_among (record { unit = 0; name = (codes "c") } ∷ [])) refl refl character_in_a_number_checks

numbers_that_overlap_unit_0 : Layout
numbers_that_overlap_unit_0 = record {
  stored = (record { name = (codes "c"); size = 6 } ∷ record { name = (codes "i"); size = 4 } ∷ record { name = (codes "j"); size = 4 } ∷ []);
  blocks = [];
  ties = (record { one = record { name = (codes "c"); before = 0 }; other = record { name = (codes "i"); before = 0 } } ∷ record { one = record { name = (codes "c"); before = 2 }; other = record { name = (codes "j"); before = 0 } } ∷ []);
}

numbers_that_overlap_checks : Checks (numbers_that_overlap_unit_0 ∷ []) numbers_that_overlap_setting (block_among []) (leader_among (record { unit = 0; name = (codes "c") } ∷ []))
unfolding setting_opened checks_opened lines_opened bits_sources_opened numbers_that_overlap_unit_0
numbers_that_overlap_checks = record {
  blocks = (tt, tt);
  ties = (((refl, refl), ((refl, refl), tt)), tt);
  linked = ((one_name, (turned (in_tie refl first_in), (turned (in_tie refl (later_in first_in)), tt))), tt);
  numbered = is_next refl (seen 0 refl (seen 0 refl none_left));
  least = (refl, tt);
  within = (((0, refl), ((2, refl), ((0, refl), tt))), tt);
  reached = (record { unit = 0; layout = numbers_that_overlap_unit_0; member = record { name = (codes "c"); size = 6 }; first = 0; is_there = refl; is_in = first_in; stands = refl; ends = refl }, tt);
}

pub numbers_that_overlap_placed : IsSetting (units_of no_options (numbers_that_overlap (codes "i"))) numbers_that_overlap_setting
unfolding everything checks_opened bits_sources_opened numbers_that_overlap_unit_0
numbers_that_overlap_placed = written_setting (units_of no_options (numbers_that_overlap (codes "i"))) numbers_that_overlap_setting (numbers_that_overlap_unit_0 ∷ []) (block_among []) (leader_among (record { unit = 0; name = (codes "c") } ∷ [])) refl refl numbers_that_overlap_checks

pub other_number_placed : IsSetting (units_of no_options (numbers_that_overlap (codes "j"))) numbers_that_overlap_setting
unfolding everything checks_opened bits_sources_opened numbers_that_overlap_unit_0
other_number_placed = written_setting (units_of no_options (numbers_that_overlap (codes "j"))) numbers_that_overlap_setting (numbers_that_overlap_unit_0 ∷ []) (block_among []) (leader_among (record { unit = 0; name = (codes "c") } ∷ [])) refl refl numbers_that_overlap_checks

numbers_equivalenced_unit_0 : Layout
numbers_equivalenced_unit_0 = record {
  stored = (record { name = (codes "i"); size = 4 } ∷ record { name = (codes "j"); size = 4 } ∷ []);
  blocks = [];
  ties = (record { one = record { name = (codes "i"); before = 0 }; other = record { name = (codes "j"); before = 0 } } ∷ []);
}

numbers_equivalenced_checks : Checks (numbers_equivalenced_unit_0 ∷ []) numbers_equivalenced_setting (block_among []) (leader_among (record { unit = 0; name = (codes "i") } ∷ []))
unfolding setting_opened checks_opened lines_opened telling_sources_opened numbers_equivalenced_unit_0
numbers_equivalenced_checks = record {
  blocks = (tt, tt);
  ties = (((refl, refl), tt), tt);
  linked = ((one_name, (turned (in_tie refl first_in), tt)), tt);
  numbered = is_next refl (seen 0 refl none_left);
  least = (refl, tt);
  within = (((0, refl), ((0, refl), tt)), tt);
  reached = (record { unit = 0; layout = numbers_equivalenced_unit_0; member = record { name = (codes "i"); size = 4 }; first = 0; is_there = refl; is_in = first_in; stands = refl; ends = refl }, tt);
}

pub numbers_equivalenced_placed : IsSetting (units_of no_options numbers_equivalenced) numbers_equivalenced_setting
unfolding everything checks_opened telling_sources_opened numbers_equivalenced_unit_0
numbers_equivalenced_placed = written_setting (units_of no_options numbers_equivalenced) numbers_equivalenced_setting (numbers_equivalenced_unit_0 ∷ []) (block_among []) (leader_among (record { unit = 0; name = (codes "i") } ∷ [])) refl refl numbers_equivalenced_checks

common_after_its_types_unit_0 : Layout
common_after_its_types_unit_0 = record {
  stored = (record { name = (codes "j"); size = 4 } ∷ record { name = (codes "i"); size = 4 } ∷ []);
  blocks = (record { name = Some (codes "b"); members = (record { name = (codes "i"); size = 4 } ∷ record { name = (codes "j"); size = 4 } ∷ []) } ∷ []);
  ties = [];
}

common_after_its_types_unit_1 : Layout
common_after_its_types_unit_1 = record {
  stored = (record { name = (codes "k"); size = 4 } ∷ record { name = (codes "l"); size = 4 } ∷ []);
  blocks = (record { name = Some (codes "b"); members = (record { name = (codes "k"); size = 4 } ∷ record { name = (codes "l"); size = 4 } ∷ []) } ∷ []);
  ties = [];
}

common_after_its_types_checks : Checks (common_after_its_types_unit_0 ∷ common_after_its_types_unit_1 ∷ []) common_after_its_types_setting (block_among (record { block = Some (codes "b"); sequence = 0 } ∷ [])) (leader_among (record { unit = 0; name = (codes "i") } ∷ []))
unfolding setting_opened checks_opened lines_opened telling_sources_opened common_after_its_types_unit_0 common_after_its_types_unit_1
common_after_its_types_checks = record {
  blocks = (((refl, (refl, tt)), tt), (((refl, (refl, tt)), tt), tt));
  ties = (tt, (tt, tt));
  linked = ((in_block refl refl first_in first_in refl (there here) here, (one_name, tt)), ((in_block refl refl first_in first_in refl here here, (in_block refl refl first_in first_in refl (there here) here, tt)), tt));
  numbered = is_next refl (seen 0 refl (seen 0 refl (seen 0 refl none_left)));
  least = (refl, tt);
  within = (((0, refl), ((4, refl), tt)), (((4, refl), ((0, refl), tt)), tt));
  reached = (record { unit = 0; layout = common_after_its_types_unit_0; member = record { name = (codes "j"); size = 4 }; first = 4; is_there = refl; is_in = first_in; stands = refl; ends = refl }, tt);
}

pub common_after_its_types_placed : IsSetting (units_of no_options common_after_its_types) common_after_its_types_setting
unfolding everything checks_opened telling_sources_opened common_after_its_types_unit_0 common_after_its_types_unit_1
common_after_its_types_placed = written_setting (units_of no_options common_after_its_types) common_after_its_types_setting (common_after_its_types_unit_0 ∷ common_after_its_types_unit_1 ∷ []) (block_among (record { block = Some (codes "b"); sequence = 0 } ∷ [])) (leader_among (record { unit = 0; name = (codes "i") } ∷ [])) refl refl common_after_its_types_checks
