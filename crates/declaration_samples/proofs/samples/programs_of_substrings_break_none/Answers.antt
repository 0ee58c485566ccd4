use Rattle.std.proofs.Common.{refl}
use Rattle.declaration_rows.specs.f_tree.Meaning.{everything}
use Rattle.declaration_rows.specs.f_tree.Runs.{runs_opened}
use Rattle.declaration_rows.specs.f_tree.Checks.{checks_opened}
use Rattle.fortran_rows.specs.SubstringsSources.{substrings_sources_opened}
use Rattle.fortran_rows.specs.WorkedSources.{sources_opened}
use Rattle.declaration_rows.specs.Judgement.{judgement_opened}
use Rattle.declaration_rows.specs.StatementRows.{statement_rows_opened}
use Rattle.declaration_rows.specs.NameRows.{name_rows_opened}
use Rattle.declaration_rows.specs.UnitRows.{unit_rows_opened}
use Rattle.declaration_rows.specs.SetRows.{set_rows_opened}
use Rattle.declaration_samples.specs.CardRows.{card_rows_opened}
use Rattle.declaration_samples.proofs.samples.programs_of_substrings_break_none.Goals as goal

pub returns-clause-function : goal.returns-clause-function
unfolding everything runs_opened checks_opened substrings_sources_opened sources_opened judgement_opened statement_rows_opened name_rows_opened unit_rows_opened set_rows_opened card_rows_opened
returns-clause-function c = refl

pub returns-clause-right_sides : goal.returns-clause-right_sides
unfolding everything runs_opened checks_opened substrings_sources_opened sources_opened judgement_opened statement_rows_opened name_rows_opened unit_rows_opened set_rows_opened card_rows_opened
returns-clause-right_sides c = refl

pub returns-clause-passed : goal.returns-clause-passed
unfolding everything runs_opened checks_opened substrings_sources_opened sources_opened judgement_opened statement_rows_opened name_rows_opened unit_rows_opened set_rows_opened card_rows_opened
returns-clause-passed c = refl

pub returns-clause-places : goal.returns-clause-places
unfolding everything runs_opened checks_opened substrings_sources_opened sources_opened judgement_opened statement_rows_opened name_rows_opened unit_rows_opened set_rows_opened card_rows_opened
returns-clause-places c = refl
