use Rattle.std.proofs.Common.{refl}
use Rattle.declaration_rows.specs.f_tree.Meaning.{everything}
use Rattle.declaration_rows.specs.f_tree.Runs.{runs_opened}
use Rattle.declaration_rows.specs.f_tree.Checks.{checks_opened}
use Rattle.fortran_rows.specs.WorkedSources.{sources_opened}
use Rattle.declaration_rows.specs.Judgement.{judgement_opened}
use Rattle.declaration_rows.specs.StatementRows.{statement_rows_opened}
use Rattle.declaration_rows.specs.NameRows.{name_rows_opened}
use Rattle.declaration_rows.specs.UnitRows.{unit_rows_opened}
use Rattle.declaration_rows.specs.SetRows.{set_rows_opened}
use Rattle.declaration_rows.specs.GlobalRows.{global_rows_opened}
use Rattle.declaration_rows.specs.Verdicts.{verdicts_opened}
use Rattle.declaration_samples.specs.CardRows.{card_rows_opened}
use Rattle.declaration_samples.specs.OrderSources.{order_sources_opened}
use Rattle.declaration_samples.proofs.orders.units_break_rows.Goals as goal

pub returns-clause-subroutine_twice : goal.returns-clause-subroutine_twice
unfolding everything runs_opened checks_opened sources_opened judgement_opened statement_rows_opened name_rows_opened unit_rows_opened set_rows_opened global_rows_opened verdicts_opened card_rows_opened order_sources_opened
returns-clause-subroutine_twice c = refl

pub returns-clause-subroutine_and_block : goal.returns-clause-subroutine_and_block
unfolding everything runs_opened checks_opened sources_opened judgement_opened statement_rows_opened name_rows_opened unit_rows_opened set_rows_opened global_rows_opened verdicts_opened card_rows_opened order_sources_opened
returns-clause-subroutine_and_block c = refl

pub returns-clause-block_twice : goal.returns-clause-block_twice
unfolding everything runs_opened checks_opened sources_opened judgement_opened statement_rows_opened name_rows_opened unit_rows_opened set_rows_opened global_rows_opened verdicts_opened card_rows_opened order_sources_opened
returns-clause-block_twice c = refl

pub returns-clause-two_main_programs : goal.returns-clause-two_main_programs
unfolding everything runs_opened checks_opened sources_opened judgement_opened statement_rows_opened name_rows_opened unit_rows_opened set_rows_opened global_rows_opened verdicts_opened card_rows_opened order_sources_opened
returns-clause-two_main_programs c = refl

pub returns-clause-two_subroutines : goal.returns-clause-two_subroutines
unfolding everything runs_opened checks_opened sources_opened judgement_opened statement_rows_opened name_rows_opened unit_rows_opened set_rows_opened global_rows_opened verdicts_opened card_rows_opened order_sources_opened
returns-clause-two_subroutines c = refl
