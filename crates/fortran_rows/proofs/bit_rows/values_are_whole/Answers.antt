use Rattle.std.proofs.Common.{refl}
use Rattle.fortran_checks.specs.f_tree.Meaning.{everything}
use Rattle.fortran_checks.specs.f_tree.Runs.{runs_opened}
use Rattle.fortran_rows.specs.BitsSources.{bits_sources_opened}
use Rattle.fortran_rows.proofs.bit_rows.values_are_whole.Goals as goal

pub returns-clause-character_within : goal.returns-clause-character_within
unfolding everything runs_opened bits_sources_opened
returns-clause-character_within c = record { goes_on = refl; meets = refl }

pub returns-clause-half_of_another : goal.returns-clause-half_of_another
unfolding everything runs_opened bits_sources_opened
returns-clause-half_of_another c = record { goes_on = refl; meets = refl }

pub returns-clause-other_is_whole : goal.returns-clause-other_is_whole
unfolding everything runs_opened bits_sources_opened
returns-clause-other_is_whole c = record { goes_on = refl; ends = refl; wrote = refl }

pub returns-clause-part_within : goal.returns-clause-part_within
unfolding everything runs_opened bits_sources_opened
returns-clause-part_within c = record { goes_on = refl; ends = refl; wrote = refl }

pub returns-clause-part_past_its_element : goal.returns-clause-part_past_its_element
unfolding everything runs_opened bits_sources_opened
returns-clause-part_past_its_element c = record { goes_on = refl; meets = refl }

pub returns-clause-part_before_its_first : goal.returns-clause-part_before_its_first
unfolding everything runs_opened bits_sources_opened
returns-clause-part_before_its_first c = record { goes_on = refl; meets = refl }
