use Rattle.std.proofs.Common.{refl}
use Rattle.fortran_checks.specs.f_tree.Meaning.{everything}
use Rattle.fortran_checks.specs.f_tree.Runs.{runs_opened}
use Rattle.fortran_checks.specs.f_tree.Checks.{checks_opened}
use Rattle.fortran_rows.specs.IllFormedSources.{ill_formed_sources_opened, bit_of_a_logical, while_over_a_number, while_without_its_end}
use Rattle.fortran_rows.specs.NestsSources.{nests_sources_opened, loop_without_its_end_do}
use Rattle.fortran_totality.proofs.IllFormedLemmas.{ill_formed}
use Rattle.fortran_rows.proofs.well_formed_rows.ill_formed_loops_are_found.Goals as goal

pub returns-clause-loop_without_its_end_do_is : goal.returns-clause-loop_without_its_end_do_is
unfolding everything runs_opened checks_opened ill_formed_sources_opened nests_sources_opened
returns-clause-loop_without_its_end_do_is c = ill_formed loop_without_its_end_do _ refl (record { goes_on = refl; meets = refl })

pub returns-clause-while_without_its_end_is : goal.returns-clause-while_without_its_end_is
unfolding everything runs_opened checks_opened ill_formed_sources_opened nests_sources_opened
returns-clause-while_without_its_end_is c = ill_formed while_without_its_end _ refl (record { goes_on = refl; meets = refl })

pub returns-clause-while_over_a_number_is : goal.returns-clause-while_over_a_number_is
unfolding everything runs_opened checks_opened ill_formed_sources_opened nests_sources_opened
returns-clause-while_over_a_number_is c = ill_formed while_over_a_number _ refl (record { goes_on = refl; meets = refl })

pub returns-clause-bit_of_a_logical_is : goal.returns-clause-bit_of_a_logical_is
unfolding everything runs_opened checks_opened ill_formed_sources_opened nests_sources_opened
returns-clause-bit_of_a_logical_is c = ill_formed bit_of_a_logical _ refl (record { goes_on = refl; meets = refl })
