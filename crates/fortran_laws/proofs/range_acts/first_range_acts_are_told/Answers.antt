use Rattle.fortran_laws.proofs.RangeActLaws.{first_is_one, computed_is_first, first_is_computed}
use Rattle.fortran_laws.proofs.range_acts.first_range_acts_are_told.Goals as goal

pub returns : goal.returns
returns c = record { one = first_is_one; computed = computed_is_first; found = first_is_computed }
