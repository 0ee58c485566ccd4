use Rattle.std.proofs.Common.{◌≡◌, drop}
use Rattle.std.specs.List.{list_any}
use Rattle.f_tree.specs.declared.statements.ImplicitGroup.{ImplicitGroup}
use Rattle.statement_order.specs.BeforeSteps.{in_range}
use Rattle.statement_order.proofs.before.types_letter.Given as goal

abbrev pub invariant-loop-group : goal.invariant-loop-group
invariant-loop-group l =
    list_any (λ (g : ImplicitGroup). list_any (in_range l.letter) g.letters) l.groups ≡ list_any (λ (g : ImplicitGroup). list_any (in_range l.letter) g.letters) (drop l.group-index l.groups)
