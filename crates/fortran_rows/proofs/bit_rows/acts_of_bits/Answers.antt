use Rattle.std.proofs.Common.{refl}
use Rattle.fortran_checks.specs.f_tree.Meaning.{everything}
use Rattle.fortran_checks.specs.f_tree.Runs.{runs_opened}
use Rattle.fortran_rows.specs.BitsSources.{bits_sources_opened}
use Rattle.fortran_rows.proofs.bit_rows.acts_of_bits.Goals as goal

pub returns-clause-left : goal.returns-clause-left
unfolding everything runs_opened bits_sources_opened
returns-clause-left c = record { goes_on = refl; meets = refl }

pub returns-clause-right : goal.returns-clause-right
unfolding everything runs_opened bits_sources_opened
returns-clause-right c = record { goes_on = refl; meets = refl }

pub returns-clause-set_high : goal.returns-clause-set_high
unfolding everything runs_opened bits_sources_opened
returns-clause-set_high c = record { goes_on = refl; meets = refl }

pub returns-clause-set_low : goal.returns-clause-set_low
unfolding everything runs_opened bits_sources_opened
returns-clause-set_low c = record { goes_on = refl; meets = refl }

pub returns-clause-clear_high : goal.returns-clause-clear_high
unfolding everything runs_opened bits_sources_opened
returns-clause-clear_high c = record { goes_on = refl; meets = refl }

pub returns-clause-clear_low : goal.returns-clause-clear_low
unfolding everything runs_opened bits_sources_opened
returns-clause-clear_low c = record { goes_on = refl; meets = refl }

pub returns-clause-test_high : goal.returns-clause-test_high
unfolding everything runs_opened bits_sources_opened
returns-clause-test_high c = record { goes_on = refl; meets = refl }

pub returns-clause-test_low : goal.returns-clause-test_low
unfolding everything runs_opened bits_sources_opened
returns-clause-test_low c = record { goes_on = refl; meets = refl }
