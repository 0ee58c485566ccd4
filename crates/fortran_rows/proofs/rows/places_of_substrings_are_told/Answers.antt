use Rattle.std.proofs.Common.{refl}
use Rattle.fortran_checks.specs.f_tree.Meaning.{everything}
use Rattle.fortran_checks.specs.f_tree.Runs.{runs_opened}
use Rattle.fortran_rows.specs.SubstringsSources.{substrings_sources_opened}
use Rattle.fortran_rows.proofs.rows.places_of_substrings_are_told.Goals as goal

pub returns-clause-first_and_second : goal.returns-clause-first_and_second
unfolding everything runs_opened substrings_sources_opened
returns-clause-first_and_second c = record { goes_on = refl; meets = refl }

pub returns-clause-first : goal.returns-clause-first
unfolding everything runs_opened substrings_sources_opened
returns-clause-first c = record { goes_on = refl; meets = refl }

pub returns-clause-below_one : goal.returns-clause-below_one
unfolding everything runs_opened substrings_sources_opened
returns-clause-below_one c = record { goes_on = refl; meets = refl }

pub returns-clause-second : goal.returns-clause-second
unfolding everything runs_opened substrings_sources_opened
returns-clause-second c = record { goes_on = refl; meets = refl }

pub returns-clause-before_the_first : goal.returns-clause-before_the_first
unfolding everything runs_opened substrings_sources_opened
returns-clause-before_the_first c = record { goes_on = refl; meets = refl }
