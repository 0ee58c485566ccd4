use Rattle.fortran_totality.proofs.MeantLemmas.{each_term, each_list, prefixed_meant, operated_meant, applied_meant, is_met}
use Rattle.fortran_totality.proofs.totality.well_typed_expressions_are_meant.Goals as goal

pub returns-clause-terms : goal.returns-clause-terms
returns-clause-terms c = each_term

pub returns-clause-lists : goal.returns-clause-lists
returns-clause-lists c = each_list

pub returns-clause-prefixes : goal.returns-clause-prefixes
returns-clause-prefixes c = prefixed_meant

pub returns-clause-operators : goal.returns-clause-operators
returns-clause-operators c = operated_meant

pub returns-clause-functions : goal.returns-clause-functions
returns-clause-functions c = applied_meant

pub returns-clause-met : goal.returns-clause-met
returns-clause-met c = is_met
