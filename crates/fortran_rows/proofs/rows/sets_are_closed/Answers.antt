use Rattle.std.proofs.Common.{refl}
use Rattle.fortran_checks.specs.f_tree.Meaning.{everything}
use Rattle.fortran_checks.specs.f_tree.Runs.{runs_opened}
use Rattle.fortran_rows.specs.StorageSources.{storage_sources_opened}
use Rattle.fortran_rows.specs.WorkedSources.{sources_opened}
use Rattle.fortran_rows.proofs.rows.sets_are_closed.Goals as goal

pub returns-clause-passes : goal.returns-clause-passes
unfolding everything runs_opened sources_opened
returns-clause-passes c = record { one_main = refl; found = refl }

pub returns-clause-names_a_block : goal.returns-clause-names_a_block
unfolding everything runs_opened storage_sources_opened
returns-clause-names_a_block c = record { one_main = refl; found = refl }

pub returns-clause-lacks_one : goal.returns-clause-lacks_one
unfolding everything runs_opened sources_opened
returns-clause-lacks_one c = λ h. let e = h.found in absurd (cc)
