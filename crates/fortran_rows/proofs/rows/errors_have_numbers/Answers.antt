use Rattle.std.proofs.Common.{refl}
use Rattle.fortran_checks.specs.f_tree.Meaning.{everything}
use Rattle.fortran_checks.specs.f_tree.Runs.{runs_opened}
use Rattle.fortran_rows.specs.WorkedSources.{sources_opened}
use Rattle.fortran_rows.specs.ErrorSources.{error_sources_opened}
use Rattle.fortran_rows.proofs.rows.errors_have_numbers.Goals as goal

pub returns-clause-numbers : goal.returns-clause-numbers
unfolding everything runs_opened sources_opened error_sources_opened
returns-clause-numbers c = record { steps = 100; comes_to = refl }

pub returns-clause-items : goal.returns-clause-items
unfolding everything runs_opened sources_opened error_sources_opened
returns-clause-items c = record { steps = 100; comes_to = refl }

pub returns-clause-record : goal.returns-clause-record
unfolding everything runs_opened sources_opened error_sources_opened
returns-clause-record c = record { steps = 100; comes_to = refl }

pub returns-clause-files : goal.returns-clause-files
unfolding everything runs_opened sources_opened error_sources_opened
returns-clause-files c = record { steps = 100; comes_to = refl }

pub returns-clause-unit_first : goal.returns-clause-unit_first
unfolding everything runs_opened sources_opened error_sources_opened
returns-clause-unit_first c = record { steps = 100; comes_to = refl }

pub returns-clause-end_alone : goal.returns-clause-end_alone
unfolding everything runs_opened sources_opened error_sources_opened
returns-clause-end_alone c = record { steps = 100; comes_to = refl }
