use Rattle.std.proofs.Common.{refl}
use Rattle.declaration_rows.specs.f_tree.Meaning.{everything}
use Rattle.declaration_rows.specs.f_tree.Runs.{runs_opened}
use Rattle.declaration_rows.specs.f_tree.Checks.{checks_opened}
use Rattle.fortran_rows.specs.WorkedSources.{sources_opened}
use Rattle.declaration_rows.specs.Judgement.{judgement_opened}
use Rattle.declaration_rows.specs.StatementRows.{statement_rows_opened}
use Rattle.declaration_rows.specs.NameRows.{name_rows_opened}
use Rattle.declaration_rows.specs.UnitRows.{unit_rows_opened}
use Rattle.declaration_rows.specs.SetRows.{set_rows_opened}
use Rattle.declaration_rows.specs.GlobalRows.{global_rows_opened}
use Rattle.declaration_rows.specs.Verdicts.{verdicts_opened}
use Rattle.declaration_samples.specs.CardRows.{card_rows_opened}
use Rattle.declaration_samples.specs.OrderSources.{order_sources_opened}
use Rattle.declaration_samples.proofs.orders.blocks_break_rows.Goals as goal

pub returns-clause-entry_of_a_main_program : goal.returns-clause-entry_of_a_main_program
unfolding everything runs_opened checks_opened sources_opened judgement_opened statement_rows_opened name_rows_opened unit_rows_opened set_rows_opened global_rows_opened verdicts_opened card_rows_opened order_sources_opened
returns-clause-entry_of_a_main_program c = refl

pub returns-clause-entry_in_a_loop : goal.returns-clause-entry_in_a_loop
unfolding everything runs_opened checks_opened sources_opened judgement_opened statement_rows_opened name_rows_opened unit_rows_opened set_rows_opened global_rows_opened verdicts_opened card_rows_opened order_sources_opened
returns-clause-entry_in_a_loop c = refl

pub returns-clause-branch_into_a_loop : goal.returns-clause-branch_into_a_loop
unfolding everything runs_opened checks_opened sources_opened judgement_opened statement_rows_opened name_rows_opened unit_rows_opened set_rows_opened global_rows_opened verdicts_opened card_rows_opened order_sources_opened
returns-clause-branch_into_a_loop c = refl

pub returns-clause-branch_within_a_loop : goal.returns-clause-branch_within_a_loop
unfolding everything runs_opened checks_opened sources_opened judgement_opened statement_rows_opened name_rows_opened unit_rows_opened set_rows_opened global_rows_opened verdicts_opened card_rows_opened order_sources_opened
returns-clause-branch_within_a_loop c = refl

pub returns-clause-branch_to_another_arm : goal.returns-clause-branch_to_another_arm
unfolding everything runs_opened checks_opened sources_opened judgement_opened statement_rows_opened name_rows_opened unit_rows_opened set_rows_opened global_rows_opened verdicts_opened card_rows_opened order_sources_opened
returns-clause-branch_to_another_arm c = refl

pub returns-clause-branch_to_the_end : goal.returns-clause-branch_to_the_end
unfolding everything runs_opened checks_opened sources_opened judgement_opened statement_rows_opened name_rows_opened unit_rows_opened set_rows_opened global_rows_opened verdicts_opened card_rows_opened order_sources_opened
returns-clause-branch_to_the_end c = refl

pub returns-clause-computed_branch_into_an_arm : goal.returns-clause-computed_branch_into_an_arm
unfolding everything runs_opened checks_opened sources_opened judgement_opened statement_rows_opened name_rows_opened unit_rows_opened set_rows_opened global_rows_opened verdicts_opened card_rows_opened order_sources_opened
returns-clause-computed_branch_into_an_arm c = refl
