use Rattle.call_lines.proofs.NameLemmas.{names_found, found_named_so}
use Rattle.call_lines.proofs.laws.fortran_names_are_found.Goals as goal

pub returns-clause-found : goal.returns-clause-found
returns-clause-found c = names_found

pub returns-clause-named : goal.returns-clause-named
returns-clause-named c = found_named_so
