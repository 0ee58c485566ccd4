use Rattle.std.proofs.Common.{refl}
use Rattle.call_shapes.specs.f_tree.Meaning.{everything}
use Rattle.call_shapes.specs.f_tree.Runs.{runs_opened}
use Rattle.call_shapes.specs.f_tree.Checks.{checks_opened}
use Rattle.call_shapes.specs.declaration_rows.Judgement.{judgement_opened}
use Rattle.call_shapes.specs.declaration_rows.StatementRows.{statement_rows_opened}
use Rattle.call_shapes.specs.declaration_rows.NameRows.{name_rows_opened}
use Rattle.call_shapes.specs.declaration_rows.ReferenceRows.{reference_rows_opened}
use Rattle.call_shapes.specs.declaration_rows.GlobalRows.{global_rows_opened}
use Rattle.call_shapes.specs.Disagreements.{disagreements_opened}
use Rattle.call_check_rows.specs.CallSources.{call_sources_opened}
use Rattle.call_check_rows.proofs.rows.calls_are_listed_in_order.Goals as goal

pub returns-clause-from_the_left : goal.returns-clause-from_the_left
unfolding everything runs_opened checks_opened judgement_opened statement_rows_opened name_rows_opened reference_rows_opened global_rows_opened disagreements_opened call_sources_opened
returns-clause-from_the_left c = refl

pub returns-clause-at_the_definition : goal.returns-clause-at_the_definition
unfolding everything runs_opened checks_opened judgement_opened statement_rows_opened name_rows_opened reference_rows_opened global_rows_opened disagreements_opened call_sources_opened
returns-clause-at_the_definition c = refl

pub returns-clause-once_for_each_unit : goal.returns-clause-once_for_each_unit
unfolding everything runs_opened checks_opened judgement_opened statement_rows_opened name_rows_opened reference_rows_opened global_rows_opened disagreements_opened call_sources_opened
returns-clause-once_for_each_unit c = refl
