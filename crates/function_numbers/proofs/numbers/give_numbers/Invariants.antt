use Rattle.std.proofs.Common.{◌≡◌, ℕ, List, position, bytes_eq, drop}
use Rattle.expression_linker.specs.StringsSeen.{texts}
use Rattle.first_names.specs.FirstNames.{first_of}
use Rattle.function_numbers.proofs.NumberLaws.{given}
use Rattle.function_numbers.proofs.numbers.give_numbers.Given as goal

abbrev pub invariant-loop-number : goal.invariant-loop-number
invariant-loop-number l =
    (q : List ℕ) → position (bytes_eq q) (texts l.names) ≡ given (first_of l.numbers q) l.number (texts (drop l.number l.names)) q
