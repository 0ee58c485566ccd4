use Rattle.std.proofs.Common.{refl}
use Rattle.fortran_checks.specs.f_tree.Meaning.{everything}
use Rattle.fortran_checks.specs.f_tree.Runs.{runs_opened}
use Rattle.fortran_rows.specs.SubstringsSources.{substrings_sources_opened}
use Rattle.fortran_rows.proofs.example_rows.substrings_programs.Goals as goal

pub returns-clause-part_that_begins_an_array_ends : goal.returns-clause-part_that_begins_an_array_ends
unfolding everything runs_opened substrings_sources_opened
returns-clause-part_that_begins_an_array_ends c = record { steps = 250; comes_to = refl }

pub returns-clause-parts_that_are_one_item_ends : goal.returns-clause-parts_that_are_one_item_ends
unfolding everything runs_opened substrings_sources_opened
returns-clause-parts_that_are_one_item_ends c = record { steps = 250; comes_to = refl }
