use Rattle.std.proofs.Common.{refl}
use Rattle.fortran_checks.specs.f_tree.Meaning.{everything}
use Rattle.fortran_checks.specs.f_tree.Runs.{runs_opened}
use Rattle.fortran_rows.specs.TellingSources.{telling_sources_opened}
use Rattle.fortran_rows.proofs.SettingExamples.{numbers_equivalenced_placed, common_after_its_types_placed}
use Rattle.near_readings.proofs.rows.shared_places_are_told_apart.Goals as goal

pub returns-clause-equivalence_placed : goal.returns-clause-equivalence_placed
returns-clause-equivalence_placed c = numbers_equivalenced_placed

pub returns-clause-equivalence : goal.returns-clause-equivalence
unfolding everything runs_opened telling_sources_opened
returns-clause-equivalence c = record { goes_on = refl; ends = refl; wrote = refl }

pub returns-clause-common_placed : goal.returns-clause-common_placed
returns-clause-common_placed c = common_after_its_types_placed

pub returns-clause-common : goal.returns-clause-common
unfolding everything runs_opened telling_sources_opened
returns-clause-common c = record { goes_on = refl; ends = refl; wrote = refl }
