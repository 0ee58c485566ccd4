use Rattle.std.proofs.Common.{refl}
use Rattle.declaration_rows.specs.f_tree.Meaning.{everything}
use Rattle.declaration_rows.specs.f_tree.Runs.{runs_opened}
use Rattle.declaration_rows.specs.f_tree.Checks.{checks_opened}
use Rattle.fortran_rows.specs.WorkedSources.{sources_opened}
use Rattle.declaration_rows.specs.Judgement.{judgement_opened}
use Rattle.declaration_rows.specs.StatementRows.{statement_rows_opened}
use Rattle.declaration_rows.specs.NameRows.{name_rows_opened}
use Rattle.declaration_rows.specs.UnitRows.{unit_rows_opened}
use Rattle.declaration_rows.specs.SetRows.{set_rows_opened}
use Rattle.declaration_samples.specs.CardRows.{card_rows_opened}
use Rattle.declaration_samples.proofs.samples.worked_programs_break_none.Goals as goal

pub returns-clause-sum : goal.returns-clause-sum
unfolding everything runs_opened checks_opened sources_opened judgement_opened statement_rows_opened name_rows_opened unit_rows_opened set_rows_opened card_rows_opened
returns-clause-sum c = refl

pub returns-clause-loops : goal.returns-clause-loops
unfolding everything runs_opened checks_opened sources_opened judgement_opened statement_rows_opened name_rows_opened unit_rows_opened set_rows_opened card_rows_opened
returns-clause-loops c = refl

pub returns-clause-branches : goal.returns-clause-branches
unfolding everything runs_opened checks_opened sources_opened judgement_opened statement_rows_opened name_rows_opened unit_rows_opened set_rows_opened card_rows_opened
returns-clause-branches c = refl

pub returns-clause-calls : goal.returns-clause-calls
unfolding everything runs_opened checks_opened sources_opened judgement_opened statement_rows_opened name_rows_opened unit_rows_opened set_rows_opened card_rows_opened
returns-clause-calls c = refl

pub returns-clause-acts_of_values : goal.returns-clause-acts_of_values
unfolding everything runs_opened checks_opened sources_opened judgement_opened statement_rows_opened name_rows_opened unit_rows_opened set_rows_opened card_rows_opened
returns-clause-acts_of_values c = refl

pub returns-clause-acts_of_control : goal.returns-clause-acts_of_control
unfolding everything runs_opened checks_opened sources_opened judgement_opened statement_rows_opened name_rows_opened unit_rows_opened set_rows_opened card_rows_opened
returns-clause-acts_of_control c = refl

pub returns-clause-acts_of_calls : goal.returns-clause-acts_of_calls
unfolding everything runs_opened checks_opened sources_opened judgement_opened statement_rows_opened name_rows_opened unit_rows_opened set_rows_opened card_rows_opened
returns-clause-acts_of_calls c = refl

pub returns-clause-texts : goal.returns-clause-texts
unfolding everything runs_opened checks_opened sources_opened judgement_opened statement_rows_opened name_rows_opened unit_rows_opened set_rows_opened card_rows_opened
returns-clause-texts c = refl

pub returns-clause-declarations : goal.returns-clause-declarations
unfolding everything runs_opened checks_opened sources_opened judgement_opened statement_rows_opened name_rows_opened unit_rows_opened set_rows_opened card_rows_opened
returns-clause-declarations c = refl

pub returns-clause-procedures : goal.returns-clause-procedures
unfolding everything runs_opened checks_opened sources_opened judgement_opened statement_rows_opened name_rows_opened unit_rows_opened set_rows_opened card_rows_opened
returns-clause-procedures c = refl

pub returns-clause-units : goal.returns-clause-units
unfolding everything runs_opened checks_opened sources_opened judgement_opened statement_rows_opened name_rows_opened unit_rows_opened set_rows_opened card_rows_opened
returns-clause-units c = refl

pub returns-clause-common_seen_twice : goal.returns-clause-common_seen_twice
unfolding everything runs_opened checks_opened sources_opened judgement_opened statement_rows_opened name_rows_opened unit_rows_opened set_rows_opened card_rows_opened
returns-clause-common_seen_twice c = refl

pub returns-clause-arrays_equivalenced : goal.returns-clause-arrays_equivalenced
unfolding everything runs_opened checks_opened sources_opened judgement_opened statement_rows_opened name_rows_opened unit_rows_opened set_rows_opened card_rows_opened
returns-clause-arrays_equivalenced c = refl

pub returns-clause-types_equivalenced : goal.returns-clause-types_equivalenced
unfolding everything runs_opened checks_opened sources_opened judgement_opened statement_rows_opened name_rows_opened unit_rows_opened set_rows_opened card_rows_opened
returns-clause-types_equivalenced c = refl

pub returns-clause-types_equivalenced_again : goal.returns-clause-types_equivalenced_again
unfolding everything runs_opened checks_opened sources_opened judgement_opened statement_rows_opened name_rows_opened unit_rows_opened set_rows_opened card_rows_opened
returns-clause-types_equivalenced_again c = refl
