use Rattle.std.proofs.Common.{◌≡◌, drop}
use Rattle.c_tree.specs.Values as values
use Rattle.linked_terms.specs.LinkedTerms.{terms_of}
use Rattle.term_values.proofs.ValueLists.{found_first}
use Rattle.term_values.proofs.values.values_of.Given as goal

abbrev pub invariant-loop-term : goal.invariant-loop-term
invariant-loop-term l = values.values_of l.run (terms_of l.terms) ≡ found_first l.run l.found.items (drop l.term-index l.terms)
