use Rattle.std.proofs.Common.{refl}
use Rattle.call_shapes.specs.f_tree.Meaning.{everything}
use Rattle.call_shapes.specs.f_tree.Runs.{runs_opened}
use Rattle.call_shapes.specs.f_tree.Checks.{checks_opened}
use Rattle.call_shapes.specs.declaration_rows.Judgement.{judgement_opened}
use Rattle.call_shapes.specs.declaration_rows.StatementRows.{statement_rows_opened}
use Rattle.call_shapes.specs.declaration_rows.NameRows.{name_rows_opened}
use Rattle.call_shapes.specs.declaration_rows.ReferenceRows.{reference_rows_opened}
use Rattle.call_shapes.specs.declaration_rows.GlobalRows.{global_rows_opened}
use Rattle.call_shapes.specs.Disagreements.{disagreements_opened}
use Rattle.call_check_rows.specs.CallSources.{call_sources_opened}
use Rattle.call_check_rows.proofs.rows.calls_disagree_with_lines.Goals as goal

pub returns-clause-first_line : goal.returns-clause-first_line
unfolding everything runs_opened checks_opened judgement_opened statement_rows_opened name_rows_opened reference_rows_opened global_rows_opened disagreements_opened call_sources_opened
returns-clause-first_line c = refl

pub returns-clause-no_counterpart : goal.returns-clause-no_counterpart
unfolding everything runs_opened checks_opened judgement_opened statement_rows_opened name_rows_opened reference_rows_opened global_rows_opened disagreements_opened call_sources_opened
returns-clause-no_counterpart c = refl

pub returns-clause-labels_left_out : goal.returns-clause-labels_left_out
unfolding everything runs_opened checks_opened judgement_opened statement_rows_opened name_rows_opened reference_rows_opened global_rows_opened disagreements_opened call_sources_opened
returns-clause-labels_left_out c = refl

pub returns-clause-set_first : goal.returns-clause-set_first
unfolding everything runs_opened checks_opened judgement_opened statement_rows_opened name_rows_opened reference_rows_opened global_rows_opened disagreements_opened call_sources_opened
returns-clause-set_first c = refl
