use Rattle.std.proofs.Common.{refl}
use Rattle.fortran_checks.specs.f_tree.Meaning.{everything}
use Rattle.fortran_checks.specs.f_tree.RangeActs.{range_acts_opened}
use Rattle.fortran_checks.specs.f_tree.Runs.{runs_opened}
use Rattle.fortran_rows.specs.RangeSources.{range_sources_opened}
use Rattle.fortran_rows.proofs.range_rows.range_acts_are_told.Goals as goal

pub returns-clause-element : goal.returns-clause-element
unfolding everything runs_opened range_acts_opened range_sources_opened
returns-clause-element c = record { first = record { meets = refl }; computed = refl }

pub returns-clause-subscript : goal.returns-clause-subscript
unfolding everything runs_opened range_acts_opened range_sources_opened
returns-clause-subscript c = record { first = record { meets = refl }; computed = refl }

pub returns-clause-overflow_first : goal.returns-clause-overflow_first
unfolding everything runs_opened range_acts_opened range_sources_opened
returns-clause-overflow_first c = record { meets = record { goes_on = refl; meets = refl }; none = refl }

pub returns-clause-part : goal.returns-clause-part
unfolding everything runs_opened range_acts_opened range_sources_opened
returns-clause-part c = record { first = record { meets = refl }; computed = refl }

pub returns-clause-entry : goal.returns-clause-entry
unfolding everything runs_opened range_acts_opened range_sources_opened
returns-clause-entry c = record { first = record { meets = refl }; computed = refl }
