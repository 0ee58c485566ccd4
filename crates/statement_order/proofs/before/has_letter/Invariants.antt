use Rattle.std.proofs.Common.{◌≡◌, drop}
use Rattle.std.specs.List.{list_any}
use Rattle.std.proofs.Common.{nat_eq}
use Rattle.statement_order.proofs.before.has_letter.Given as goal

abbrev pub invariant-loop-other : goal.invariant-loop-other
invariant-loop-other l = list_any (λ c. nat_eq l.letter c) l.letters ≡ list_any (λ c. nat_eq l.letter c) (drop l.other-index l.letters)
