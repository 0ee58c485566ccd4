use Rattle.std.proofs.Common.{refl}
use Rattle.declaration_rows.specs.f_tree.Meaning.{everything}
use Rattle.declaration_rows.specs.f_tree.Runs.{runs_opened}
use Rattle.declaration_rows.specs.f_tree.Checks.{checks_opened}
use Rattle.fortran_rows.specs.WorkedSources.{sources_opened}
use Rattle.declaration_rows.specs.Judgement.{judgement_opened}
use Rattle.declaration_rows.specs.StatementRows.{statement_rows_opened}
use Rattle.declaration_rows.specs.NameRows.{name_rows_opened}
use Rattle.declaration_rows.specs.UnitRows.{unit_rows_opened}
use Rattle.declaration_rows.specs.SetRows.{set_rows_opened}
use Rattle.declaration_samples.specs.Strays.{strays_opened}
use Rattle.declaration_samples.specs.CardRows.{card_rows_opened}
use Rattle.declaration_samples.proofs.samples.strays_break_rows.Goals as goal

pub returns-clause-ranges_that_cross : goal.returns-clause-ranges_that_cross
unfolding everything runs_opened checks_opened sources_opened judgement_opened statement_rows_opened name_rows_opened unit_rows_opened set_rows_opened strays_opened card_rows_opened
returns-clause-ranges_that_cross c = refl

pub returns-clause-label_twice : goal.returns-clause-label_twice
unfolding everything runs_opened checks_opened sources_opened judgement_opened statement_rows_opened name_rows_opened unit_rows_opened set_rows_opened strays_opened card_rows_opened
returns-clause-label_twice c = refl

pub returns-clause-array_without_elements : goal.returns-clause-array_without_elements
unfolding everything runs_opened checks_opened sources_opened judgement_opened statement_rows_opened name_rows_opened unit_rows_opened set_rows_opened strays_opened card_rows_opened
returns-clause-array_without_elements c = refl

pub returns-clause-function_without_type : goal.returns-clause-function_without_type
unfolding everything runs_opened checks_opened sources_opened judgement_opened statement_rows_opened name_rows_opened unit_rows_opened set_rows_opened strays_opened card_rows_opened
returns-clause-function_without_type c = refl
