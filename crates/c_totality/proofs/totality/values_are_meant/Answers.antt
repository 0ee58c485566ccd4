use Rattle.c_totality.proofs.LibraryMeant.{library-meant}
use Rattle.c_totality.proofs.ValueSound.{value_of-meant, place_named-meant}
use Rattle.c_totality.proofs.totality.values_are_meant.Goals as goal

pub returns-clause-terms : goal.returns-clause-terms
returns-clause-terms c objects term known = (value_of-meant objects term known, place_named-meant objects term known)

pub returns-clause-calls : goal.returns-clause-calls
returns-clause-calls c = library-meant
