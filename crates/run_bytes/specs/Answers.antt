-- What a function answers, as the meaning of C texts has it: a fault is why the run cannot go on.
use Rattle.std.specs.Prelude.{Result, Ok, Err}
use Rattle.c_tree.specs.declared.outcome.CFault.{CFault}
use Rattle.c_tree.specs.Faults.{Or, failing}

abbrev pub answered : {A B : Type 0} → (A → B) → Result A CFault → Or B
answered shown (Ok value) = Ok (shown value)
answered shown (Err fault) = failing fault
