use Rattle.std.proofs.Common.{refl}
use Rattle.fortran_checks.specs.f_tree.Meaning.{everything}
use Rattle.fortran_checks.specs.f_tree.Runs.{runs_opened}
use Rattle.fortran_rows.specs.SubstringsSources.{substrings_sources_opened}
use Rattle.fortran_rows.proofs.rows.substrings_are_passed.Goals as goal

pub returns-clause-element : goal.returns-clause-element
unfolding everything runs_opened substrings_sources_opened
returns-clause-element c = record { goes_on = refl; meets = refl }

pub returns-clause-array : goal.returns-clause-array
unfolding everything runs_opened substrings_sources_opened
returns-clause-array c = record { goes_on = refl; meets = refl }
