use Rattle.std.proofs.Common.{refl}
use Rattle.declaration_rows.specs.f_tree.Meaning.{everything}
use Rattle.declaration_rows.specs.f_tree.Runs.{runs_opened}
use Rattle.declaration_rows.specs.f_tree.Checks.{checks_opened}
use Rattle.fortran_rows.specs.WorkedSources.{sources_opened}
use Rattle.declaration_rows.specs.Judgement.{judgement_opened}
use Rattle.declaration_rows.specs.StatementRows.{statement_rows_opened}
use Rattle.declaration_rows.specs.NameRows.{name_rows_opened}
use Rattle.declaration_rows.specs.UnitRows.{unit_rows_opened}
use Rattle.declaration_rows.specs.SetRows.{set_rows_opened}
use Rattle.declaration_rows.specs.GlobalRows.{global_rows_opened}
use Rattle.declaration_rows.specs.Verdicts.{verdicts_opened}
use Rattle.declaration_samples.specs.CardRows.{card_rows_opened}
use Rattle.declaration_samples.specs.OrderSources.{order_sources_opened}
use Rattle.declaration_samples.proofs.orders.calls_and_formats_break_rows.Goals as goal

pub returns-clause-one_argument_more : goal.returns-clause-one_argument_more
unfolding everything runs_opened checks_opened sources_opened judgement_opened statement_rows_opened name_rows_opened unit_rows_opened set_rows_opened global_rows_opened verdicts_opened card_rows_opened order_sources_opened
returns-clause-one_argument_more c = refl

pub returns-clause-text_for_a_number : goal.returns-clause-text_for_a_number
unfolding everything runs_opened checks_opened sources_opened judgement_opened statement_rows_opened name_rows_opened unit_rows_opened set_rows_opened global_rows_opened verdicts_opened card_rows_opened order_sources_opened
returns-clause-text_for_a_number c = refl

pub returns-clause-another_number : goal.returns-clause-another_number
unfolding everything runs_opened checks_opened sources_opened judgement_opened statement_rows_opened name_rows_opened unit_rows_opened set_rows_opened global_rows_opened verdicts_opened card_rows_opened order_sources_opened
returns-clause-another_number c = refl

pub returns-clause-character_function_passed : goal.returns-clause-character_function_passed
unfolding everything runs_opened checks_opened sources_opened judgement_opened statement_rows_opened name_rows_opened unit_rows_opened set_rows_opened global_rows_opened verdicts_opened card_rows_opened order_sources_opened
returns-clause-character_function_passed c = refl

pub returns-clause-strange_letter : goal.returns-clause-strange_letter
unfolding everything runs_opened checks_opened sources_opened judgement_opened statement_rows_opened name_rows_opened unit_rows_opened set_rows_opened global_rows_opened verdicts_opened card_rows_opened order_sources_opened
returns-clause-strange_letter c = refl

pub returns-clause-real_descriptor : goal.returns-clause-real_descriptor
unfolding everything runs_opened checks_opened sources_opened judgement_opened statement_rows_opened name_rows_opened unit_rows_opened set_rows_opened global_rows_opened verdicts_opened card_rows_opened order_sources_opened
returns-clause-real_descriptor c = refl

pub returns-clause-letter_in_a_text : goal.returns-clause-letter_in_a_text
unfolding everything runs_opened checks_opened sources_opened judgement_opened statement_rows_opened name_rows_opened unit_rows_opened set_rows_opened global_rows_opened verdicts_opened card_rows_opened order_sources_opened
returns-clause-letter_in_a_text c = refl

pub returns-clause-text_without_end : goal.returns-clause-text_without_end
unfolding everything runs_opened checks_opened sources_opened judgement_opened statement_rows_opened name_rows_opened unit_rows_opened set_rows_opened global_rows_opened verdicts_opened card_rows_opened order_sources_opened
returns-clause-text_without_end c = refl

pub returns-clause-format_written_out : goal.returns-clause-format_written_out
unfolding everything runs_opened checks_opened sources_opened judgement_opened statement_rows_opened name_rows_opened unit_rows_opened set_rows_opened global_rows_opened verdicts_opened card_rows_opened order_sources_opened
returns-clause-format_written_out c = refl

pub returns-clause-format_in_parentheses : goal.returns-clause-format_in_parentheses
unfolding everything runs_opened checks_opened sources_opened judgement_opened statement_rows_opened name_rows_opened unit_rows_opened set_rows_opened global_rows_opened verdicts_opened card_rows_opened order_sources_opened
returns-clause-format_in_parentheses c = refl
