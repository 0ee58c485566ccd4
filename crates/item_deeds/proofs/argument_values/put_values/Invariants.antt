use Rattle.std.proofs.Common.{◌≡◌, take, drop}
use Rattle.c_tree.specs.Values as values
use Rattle.linked_terms.specs.LinkedTerms.{terms_of}
use Rattle.term_values.proofs.ValueLists.{found_first}
use Rattle.item_deeds.proofs.argument_values.put_values.Given as goal

abbrev pub invariant-loop-number : goal.invariant-loop-number
invariant-loop-number l = values.values_of l.run (terms_of l.terms) ≡ found_first l.run (take l.number l.buffer) (drop l.number l.terms)
