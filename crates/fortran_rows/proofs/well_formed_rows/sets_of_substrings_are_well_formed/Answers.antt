use Rattle.std.proofs.Common.{refl}
use Rattle.fortran_checks.specs.f_tree.Meaning.{everything}
use Rattle.fortran_checks.specs.f_tree.Runs.{runs_opened, no_options}
use Rattle.fortran_checks.specs.f_tree.Checks.{checks_opened}
use Rattle.fortran_checks.proofs.CheckLemmas.{checked_well, sets_well}
use Rattle.fortran_rows.specs.SubstringsSources.{substrings_sources_opened, right_side_before_a_function}
use Rattle.fortran_rows.proofs.well_formed_rows.sets_of_substrings_are_well_formed.Goals as goal

pub returns-clause-function : goal.returns-clause-function
unfolding everything runs_opened checks_opened substrings_sources_opened
returns-clause-function c = checked_well no_options _ right_side_before_a_function refl

pub returns-clause-right_sides : goal.returns-clause-right_sides
unfolding everything runs_opened checks_opened substrings_sources_opened
returns-clause-right_sides c = sets_well _ refl

pub returns-clause-passed : goal.returns-clause-passed
unfolding everything runs_opened checks_opened substrings_sources_opened
returns-clause-passed c = sets_well _ refl

pub returns-clause-places : goal.returns-clause-places
unfolding everything runs_opened checks_opened substrings_sources_opened
returns-clause-places c = sets_well _ refl
