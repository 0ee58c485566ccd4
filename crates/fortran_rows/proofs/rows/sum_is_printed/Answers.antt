use Rattle.std.proofs.Common.{refl}
use Rattle.fortran_checks.specs.f_tree.Meaning.{everything}
use Rattle.fortran_checks.specs.f_tree.Runs.{runs_opened}
use Rattle.fortran_rows.specs.WorkedSources.{sources_opened}
use Rattle.fortran_checks.specs.f_tree.Setting.{no_names, another_name}
use Rattle.fortran_laws.proofs.SettingsApart.{unit_setting}
use Rattle.fortran_rows.proofs.rows.sum_is_printed.Goals as goal

pub returns-clause-closed : goal.returns-clause-closed
unfolding everything runs_opened sources_opened
returns-clause-closed c = record { one_main = refl; found = refl }

pub returns-clause-placed : goal.returns-clause-placed
unfolding everything sources_opened
returns-clause-placed c = unit_setting _ refl refl (another_name (λ i. elim i [ ]) no_names)

pub returns-clause-runs : goal.returns-clause-runs
unfolding everything runs_opened sources_opened
returns-clause-runs c = record { goes_on = refl; ends = refl; wrote = refl }
