use Rattle.fortran_laws.proofs.CNameLaws.{variable_name-injective, variable_name-not_reserved, external_name-injective, variable_name-external}
use Rattle.refusal_laws.proofs.laws.names_in_c_are_distinct.Goals as goal

pub returns-clause-variables : goal.returns-clause-variables
returns-clause-variables c = variable_name-injective

pub returns-clause-unreserved : goal.returns-clause-unreserved
returns-clause-unreserved c = variable_name-not_reserved

pub returns-clause-externals : goal.returns-clause-externals
returns-clause-externals c = external_name-injective

pub returns-clause-both : goal.returns-clause-both
returns-clause-both c = variable_name-external
