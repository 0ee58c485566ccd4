-- Values from the left, as a loop puts them into a buffer (C89, 3.3.2.2).
use Rattle.std.specs.Prelude.{◌≡◌, List, [], Ok}
use Rattle.std.proofs.Common.{ap, append-nil}
use Rattle.c_tree.specs.declared.outcome.CValue.{CValue}
use Rattle.c_tree.specs.Objects.{Object}
use Rattle.term_values.proofs.ValueLists.{found_first, first-none, first-one, first-fault}

-- all values are found
pub first-all : (objects : List Object) (found : List CValue) → found_first objects found [] ≡ Ok found
first-all objects found = ap Ok (append-nil found)

pub ruleset argument_laws = (first-none, first-one, first-fault, first-all)
