use Rattle.std.proofs.Common.{refl}
use Rattle.std.specs.Prelude.{codes}
use Rattle.fortran_checks.specs.f_tree.Meaning.{everything}
use Rattle.fortran_checks.specs.f_tree.Runs.{runs_opened, no_options}
use Rattle.fortran_checks.specs.f_tree.Checks.{checks_opened}
use Rattle.fortran_checks.proofs.CheckLemmas.{checked_well, sets_well}
use Rattle.fortran_rows.specs.BitsSources.{bits_sources_opened, character_in_a_number, numbers_that_overlap}
use Rattle.fortran_rows.specs.LoopsSources.{loops_sources_opened}
use Rattle.fortran_rows.specs.RangeSources.{range_sources_opened}
use Rattle.fortran_rows.proofs.well_formed_rows.sets_of_loops_and_bits_are_well_formed.Goals as goal

pub returns-clause-loops : goal.returns-clause-loops
unfolding everything runs_opened checks_opened loops_sources_opened bits_sources_opened range_sources_opened
returns-clause-loops c = sets_well _ refl

pub returns-clause-bits : goal.returns-clause-bits
unfolding everything runs_opened checks_opened loops_sources_opened bits_sources_opened range_sources_opened
returns-clause-bits c = sets_well _ refl

pub returns-clause-lengths : goal.returns-clause-lengths
unfolding everything runs_opened checks_opened loops_sources_opened bits_sources_opened range_sources_opened
returns-clause-lengths c = sets_well _ refl

pub returns-clause-places : goal.returns-clause-places
unfolding everything runs_opened checks_opened loops_sources_opened bits_sources_opened range_sources_opened
returns-clause-places c = sets_well _ refl

pub returns-clause-character_within : goal.returns-clause-character_within
unfolding everything runs_opened checks_opened loops_sources_opened bits_sources_opened range_sources_opened
returns-clause-character_within c = checked_well no_options _ character_in_a_number refl

pub returns-clause-half_of_another : goal.returns-clause-half_of_another
unfolding everything runs_opened checks_opened loops_sources_opened bits_sources_opened range_sources_opened
returns-clause-half_of_another c = checked_well no_options _ (numbers_that_overlap (codes "i")) refl
