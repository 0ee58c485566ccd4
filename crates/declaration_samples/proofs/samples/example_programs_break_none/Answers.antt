use Rattle.std.proofs.Common.{refl}
use Rattle.declaration_rows.specs.f_tree.Meaning.{everything}
use Rattle.declaration_rows.specs.f_tree.Runs.{runs_opened}
use Rattle.declaration_rows.specs.f_tree.Checks.{checks_opened}
use Rattle.fortran_rows.specs.ControlSources.{control_sources_opened}
use Rattle.fortran_rows.specs.ExpressionsSources.{expressions_sources_opened}
use Rattle.fortran_rows.specs.FormatsSources.{formats_sources_opened}
use Rattle.fortran_rows.specs.InputSources.{input_sources_opened}
use Rattle.fortran_rows.specs.ProceduresSources.{procedures_sources_opened}
use Rattle.fortran_rows.specs.StorageSources.{storage_sources_opened}
use Rattle.fortran_rows.specs.TextsSources.{texts_sources_opened}
use Rattle.fortran_rows.specs.UnitsSources.{units_sources_opened}
use Rattle.fortran_rows.specs.WorkedSources.{sources_opened}
use Rattle.declaration_rows.specs.Judgement.{judgement_opened}
use Rattle.declaration_rows.specs.StatementRows.{statement_rows_opened}
use Rattle.declaration_rows.specs.NameRows.{name_rows_opened}
use Rattle.declaration_rows.specs.UnitRows.{unit_rows_opened}
use Rattle.declaration_rows.specs.SetRows.{set_rows_opened}
use Rattle.declaration_samples.specs.CardRows.{card_rows_opened}
use Rattle.declaration_samples.proofs.samples.example_programs_break_none.Goals as goal

pub returns-clause-storage : goal.returns-clause-storage
unfolding everything runs_opened checks_opened storage_sources_opened sources_opened judgement_opened statement_rows_opened name_rows_opened unit_rows_opened set_rows_opened card_rows_opened
returns-clause-storage c = refl

pub returns-clause-overlay_of_a_matrix : goal.returns-clause-overlay_of_a_matrix
unfolding everything runs_opened checks_opened storage_sources_opened sources_opened judgement_opened statement_rows_opened name_rows_opened unit_rows_opened set_rows_opened card_rows_opened
returns-clause-overlay_of_a_matrix c = refl

pub returns-clause-overlay_in_a_chain : goal.returns-clause-overlay_in_a_chain
unfolding everything runs_opened checks_opened storage_sources_opened sources_opened judgement_opened statement_rows_opened name_rows_opened unit_rows_opened set_rows_opened card_rows_opened
returns-clause-overlay_in_a_chain c = refl

pub returns-clause-common_that_differs_by_unit : goal.returns-clause-common_that_differs_by_unit
unfolding everything runs_opened checks_opened storage_sources_opened sources_opened judgement_opened statement_rows_opened name_rows_opened unit_rows_opened set_rows_opened card_rows_opened
returns-clause-common_that_differs_by_unit c = refl

pub returns-clause-common_made_longer : goal.returns-clause-common_made_longer
unfolding everything runs_opened checks_opened storage_sources_opened sources_opened judgement_opened statement_rows_opened name_rows_opened unit_rows_opened set_rows_opened card_rows_opened
returns-clause-common_made_longer c = refl

pub returns-clause-texts_that_overlap : goal.returns-clause-texts_that_overlap
unfolding everything runs_opened checks_opened storage_sources_opened sources_opened judgement_opened statement_rows_opened name_rows_opened unit_rows_opened set_rows_opened card_rows_opened
returns-clause-texts_that_overlap c = refl

pub returns-clause-arrays_over_their_file : goal.returns-clause-arrays_over_their_file
unfolding everything runs_opened checks_opened storage_sources_opened sources_opened judgement_opened statement_rows_opened name_rows_opened unit_rows_opened set_rows_opened card_rows_opened
returns-clause-arrays_over_their_file c = refl

pub returns-clause-block_named_external : goal.returns-clause-block_named_external
unfolding everything runs_opened checks_opened storage_sources_opened sources_opened judgement_opened statement_rows_opened name_rows_opened unit_rows_opened set_rows_opened card_rows_opened
returns-clause-block_named_external c = refl

pub returns-clause-values_of_a_block : goal.returns-clause-values_of_a_block
unfolding everything runs_opened checks_opened storage_sources_opened sources_opened judgement_opened statement_rows_opened name_rows_opened unit_rows_opened set_rows_opened card_rows_opened
returns-clause-values_of_a_block c = refl

pub returns-clause-control : goal.returns-clause-control
unfolding everything runs_opened checks_opened control_sources_opened sources_opened judgement_opened statement_rows_opened name_rows_opened unit_rows_opened set_rows_opened card_rows_opened
returns-clause-control c = refl

pub returns-clause-procedures : goal.returns-clause-procedures
unfolding everything runs_opened checks_opened procedures_sources_opened sources_opened judgement_opened statement_rows_opened name_rows_opened unit_rows_opened set_rows_opened card_rows_opened
returns-clause-procedures c = refl

pub returns-clause-common_that_is_passed : goal.returns-clause-common_that_is_passed
unfolding everything runs_opened checks_opened procedures_sources_opened sources_opened judgement_opened statement_rows_opened name_rows_opened unit_rows_opened set_rows_opened card_rows_opened
returns-clause-common_that_is_passed c = refl

pub returns-clause-texts : goal.returns-clause-texts
unfolding everything runs_opened checks_opened texts_sources_opened sources_opened judgement_opened statement_rows_opened name_rows_opened unit_rows_opened set_rows_opened card_rows_opened
returns-clause-texts c = refl

pub returns-clause-formats : goal.returns-clause-formats
unfolding everything runs_opened checks_opened formats_sources_opened sources_opened judgement_opened statement_rows_opened name_rows_opened unit_rows_opened set_rows_opened card_rows_opened
returns-clause-formats c = refl

pub returns-clause-input : goal.returns-clause-input
unfolding everything runs_opened checks_opened input_sources_opened sources_opened judgement_opened statement_rows_opened name_rows_opened unit_rows_opened set_rows_opened card_rows_opened
returns-clause-input c = refl

pub returns-clause-units : goal.returns-clause-units
unfolding everything runs_opened checks_opened units_sources_opened sources_opened judgement_opened statement_rows_opened name_rows_opened unit_rows_opened set_rows_opened card_rows_opened
returns-clause-units c = refl

pub returns-clause-expressions : goal.returns-clause-expressions
unfolding everything runs_opened checks_opened expressions_sources_opened sources_opened judgement_opened statement_rows_opened name_rows_opened unit_rows_opened set_rows_opened card_rows_opened
returns-clause-expressions c = refl
