use Rattle.std.proofs.Common.{refl}
use Rattle.declaration_rows.specs.f_tree.Meaning.{everything}
use Rattle.declaration_rows.specs.f_tree.Runs.{runs_opened}
use Rattle.declaration_rows.specs.f_tree.Checks.{checks_opened}
use Rattle.fortran_rows.specs.WorkedSources.{sources_opened}
use Rattle.declaration_rows.specs.Judgement.{judgement_opened}
use Rattle.declaration_rows.specs.StatementRows.{statement_rows_opened}
use Rattle.declaration_rows.specs.NameRows.{name_rows_opened}
use Rattle.declaration_rows.specs.UnitRows.{unit_rows_opened}
use Rattle.declaration_rows.specs.SetRows.{set_rows_opened}
use Rattle.declaration_rows.specs.GlobalRows.{global_rows_opened}
use Rattle.declaration_rows.specs.Verdicts.{verdicts_opened}
use Rattle.declaration_samples.specs.CardRows.{card_rows_opened}
use Rattle.declaration_samples.specs.OrderSources.{order_sources_opened}
use Rattle.declaration_samples.proofs.orders.names_given_twice_break_rows.Goals as goal

pub returns-clause-shaped_twice : goal.returns-clause-shaped_twice
unfolding everything runs_opened checks_opened sources_opened judgement_opened statement_rows_opened name_rows_opened unit_rows_opened set_rows_opened global_rows_opened verdicts_opened card_rows_opened order_sources_opened
returns-clause-shaped_twice c = refl

pub returns-clause-typed_twice : goal.returns-clause-typed_twice
unfolding everything runs_opened checks_opened sources_opened judgement_opened statement_rows_opened name_rows_opened unit_rows_opened set_rows_opened global_rows_opened verdicts_opened card_rows_opened order_sources_opened
returns-clause-typed_twice c = refl

pub returns-clause-external_and_intrinsic : goal.returns-clause-external_and_intrinsic
unfolding everything runs_opened checks_opened sources_opened judgement_opened statement_rows_opened name_rows_opened unit_rows_opened set_rows_opened global_rows_opened verdicts_opened card_rows_opened order_sources_opened
returns-clause-external_and_intrinsic c = refl

pub returns-clause-common_saved : goal.returns-clause-common_saved
unfolding everything runs_opened checks_opened sources_opened judgement_opened statement_rows_opened name_rows_opened unit_rows_opened set_rows_opened global_rows_opened verdicts_opened card_rows_opened order_sources_opened
returns-clause-common_saved c = refl

pub returns-clause-saved_and_typed : goal.returns-clause-saved_and_typed
unfolding everything runs_opened checks_opened sources_opened judgement_opened statement_rows_opened name_rows_opened unit_rows_opened set_rows_opened global_rows_opened verdicts_opened card_rows_opened order_sources_opened
returns-clause-saved_and_typed c = refl

pub returns-clause-constant_shaped : goal.returns-clause-constant_shaped
unfolding everything runs_opened checks_opened sources_opened judgement_opened statement_rows_opened name_rows_opened unit_rows_opened set_rows_opened global_rows_opened verdicts_opened card_rows_opened order_sources_opened
returns-clause-constant_shaped c = refl

pub returns-clause-dummy_twice : goal.returns-clause-dummy_twice
unfolding everything runs_opened checks_opened sources_opened judgement_opened statement_rows_opened name_rows_opened unit_rows_opened set_rows_opened global_rows_opened verdicts_opened card_rows_opened order_sources_opened
returns-clause-dummy_twice c = refl
