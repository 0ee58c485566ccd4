use Rattle.std.proofs.Common.{◌≡◌, drop}
use Rattle.std.specs.List.{list_any}
use Rattle.statement_order.specs.BeforeSteps.{letter_typed}
use Rattle.statement_order.proofs.before.types_any_letter.Given as goal

abbrev pub invariant-loop-letter : goal.invariant-loop-letter
invariant-loop-letter l = list_any (letter_typed l.groups) l.letters ≡ list_any (letter_typed l.groups) (drop l.letter-index l.letters)
