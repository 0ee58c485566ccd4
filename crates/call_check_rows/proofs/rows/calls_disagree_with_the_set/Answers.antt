use Rattle.std.proofs.Common.{refl}
use Rattle.call_shapes.specs.f_tree.Meaning.{everything}
use Rattle.call_shapes.specs.f_tree.Runs.{runs_opened}
use Rattle.call_shapes.specs.f_tree.Checks.{checks_opened}
use Rattle.call_shapes.specs.declaration_rows.Judgement.{judgement_opened}
use Rattle.call_shapes.specs.declaration_rows.StatementRows.{statement_rows_opened}
use Rattle.call_shapes.specs.declaration_rows.NameRows.{name_rows_opened}
use Rattle.call_shapes.specs.declaration_rows.ReferenceRows.{reference_rows_opened}
use Rattle.call_shapes.specs.declaration_rows.GlobalRows.{global_rows_opened}
use Rattle.call_shapes.specs.Disagreements.{disagreements_opened}
use Rattle.call_check_rows.specs.CallSources.{call_sources_opened}
use Rattle.call_check_rows.proofs.rows.calls_disagree_with_the_set.Goals as goal

pub returns-clause-number : goal.returns-clause-number
unfolding everything runs_opened checks_opened judgement_opened statement_rows_opened name_rows_opened reference_rows_opened global_rows_opened disagreements_opened call_sources_opened
returns-clause-number c = refl

pub returns-clause-argument : goal.returns-clause-argument
unfolding everything runs_opened checks_opened judgement_opened statement_rows_opened name_rows_opened reference_rows_opened global_rows_opened disagreements_opened call_sources_opened
returns-clause-argument c = refl

pub returns-clause-agrees : goal.returns-clause-agrees
unfolding everything runs_opened checks_opened judgement_opened statement_rows_opened name_rows_opened reference_rows_opened global_rows_opened disagreements_opened call_sources_opened
returns-clause-agrees c = refl

pub returns-clause-as_subroutine : goal.returns-clause-as_subroutine
unfolding everything runs_opened checks_opened judgement_opened statement_rows_opened name_rows_opened reference_rows_opened global_rows_opened disagreements_opened call_sources_opened
returns-clause-as_subroutine c = refl

pub returns-clause-as_function : goal.returns-clause-as_function
unfolding everything runs_opened checks_opened judgement_opened statement_rows_opened name_rows_opened reference_rows_opened global_rows_opened disagreements_opened call_sources_opened
returns-clause-as_function c = refl

pub returns-clause-result_type : goal.returns-clause-result_type
unfolding everything runs_opened checks_opened judgement_opened statement_rows_opened name_rows_opened reference_rows_opened global_rows_opened disagreements_opened call_sources_opened
returns-clause-result_type c = refl
