use Rattle.std.proofs.Common.{refl}
use Rattle.fortran_checks.specs.f_tree.Meaning.{everything}
use Rattle.fortran_checks.specs.f_tree.Runs.{runs_opened, no_options}
use Rattle.fortran_checks.specs.f_tree.Checks.{checks_opened}
use Rattle.fortran_checks.proofs.CheckLemmas.{checked_well, sets_well}
use Rattle.fortran_rows.specs.StorageSources.{arrays_over_their_file, storage_sources_opened, block_named_external, common_made_longer, common_that_differs_by_unit, overlay_in_a_chain, overlay_of_a_matrix, texts_that_overlap, values_of_a_block}
use Rattle.fortran_rows.specs.ControlSources.{control_sources_opened}
use Rattle.fortran_rows.specs.ProceduresSources.{procedures_sources_opened, common_that_is_passed}
use Rattle.fortran_rows.specs.TextsSources.{texts_sources_opened}
use Rattle.fortran_rows.specs.FormatsSources.{formats_sources_opened}
use Rattle.fortran_rows.specs.InputSources.{input_sources_opened}
use Rattle.fortran_rows.specs.UnitsSources.{units_sources_opened}
use Rattle.fortran_rows.specs.ExpressionsSources.{expressions_sources_opened}
use Rattle.fortran_rows.proofs.well_formed_rows.example_sets_are_well_formed.Goals as goal

pub returns-clause-storage : goal.returns-clause-storage
unfolding everything runs_opened checks_opened storage_sources_opened
returns-clause-storage c = sets_well _ refl

pub returns-clause-overlay_of_a_matrix : goal.returns-clause-overlay_of_a_matrix
unfolding everything runs_opened checks_opened storage_sources_opened
returns-clause-overlay_of_a_matrix c = checked_well no_options _ overlay_of_a_matrix refl

pub returns-clause-overlay_in_a_chain : goal.returns-clause-overlay_in_a_chain
unfolding everything runs_opened checks_opened storage_sources_opened
returns-clause-overlay_in_a_chain c = checked_well no_options _ overlay_in_a_chain refl

pub returns-clause-common_that_differs_by_unit : goal.returns-clause-common_that_differs_by_unit
unfolding everything runs_opened checks_opened storage_sources_opened
returns-clause-common_that_differs_by_unit c = checked_well no_options _ common_that_differs_by_unit refl

pub returns-clause-common_made_longer : goal.returns-clause-common_made_longer
unfolding everything runs_opened checks_opened storage_sources_opened
returns-clause-common_made_longer c = checked_well no_options _ common_made_longer refl

pub returns-clause-texts_that_overlap : goal.returns-clause-texts_that_overlap
unfolding everything runs_opened checks_opened storage_sources_opened
returns-clause-texts_that_overlap c = checked_well no_options _ texts_that_overlap refl

pub returns-clause-arrays_over_their_file : goal.returns-clause-arrays_over_their_file
unfolding everything runs_opened checks_opened storage_sources_opened
returns-clause-arrays_over_their_file c = checked_well no_options _ arrays_over_their_file refl

pub returns-clause-block_named_external : goal.returns-clause-block_named_external
unfolding everything runs_opened checks_opened storage_sources_opened
returns-clause-block_named_external c = checked_well no_options _ block_named_external refl

pub returns-clause-values_of_a_block : goal.returns-clause-values_of_a_block
unfolding everything runs_opened checks_opened storage_sources_opened
returns-clause-values_of_a_block c = checked_well no_options _ values_of_a_block refl

pub returns-clause-control : goal.returns-clause-control
unfolding everything runs_opened checks_opened control_sources_opened
returns-clause-control c = sets_well _ refl

pub returns-clause-procedures : goal.returns-clause-procedures
unfolding everything runs_opened checks_opened procedures_sources_opened
returns-clause-procedures c = sets_well _ refl

pub returns-clause-common_that_is_passed : goal.returns-clause-common_that_is_passed
unfolding everything runs_opened checks_opened procedures_sources_opened
returns-clause-common_that_is_passed c = checked_well no_options _ common_that_is_passed refl

pub returns-clause-texts : goal.returns-clause-texts
unfolding everything runs_opened checks_opened texts_sources_opened
returns-clause-texts c = sets_well _ refl

pub returns-clause-formats : goal.returns-clause-formats
unfolding everything runs_opened checks_opened formats_sources_opened
returns-clause-formats c = sets_well _ refl

pub returns-clause-input : goal.returns-clause-input
unfolding everything runs_opened checks_opened input_sources_opened
returns-clause-input c = sets_well _ refl

pub returns-clause-units : goal.returns-clause-units
unfolding everything runs_opened checks_opened units_sources_opened
returns-clause-units c = sets_well _ refl

pub returns-clause-expressions : goal.returns-clause-expressions
unfolding everything runs_opened checks_opened expressions_sources_opened
returns-clause-expressions c = sets_well _ refl
