use Rattle.bound_names.proofs.ToldNames.{lowers_are_told, sizes_are_told, lowers_are_no_sizes, bounds_are_no_temporaries, bounds_are_no_lists, bounds_are_no_constants, bounds_end_in_digits}
use Rattle.bound_names.proofs.names.bound_names_are_told.Goals as goal

pub returns-clause-lowers : goal.returns-clause-lowers
returns-clause-lowers c = lowers_are_told

pub returns-clause-sizes : goal.returns-clause-sizes
returns-clause-sizes c = sizes_are_told

pub returns-clause-apart : goal.returns-clause-apart
returns-clause-apart c = lowers_are_no_sizes

pub returns-clause-temporaries : goal.returns-clause-temporaries
returns-clause-temporaries c = bounds_are_no_temporaries

pub returns-clause-lists : goal.returns-clause-lists
returns-clause-lists c = bounds_are_no_lists

pub returns-clause-constants : goal.returns-clause-constants
returns-clause-constants c = bounds_are_no_constants

pub returns-clause-digits : goal.returns-clause-digits
returns-clause-digits c = bounds_end_in_digits
