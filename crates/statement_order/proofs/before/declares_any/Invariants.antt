use Rattle.std.proofs.Common.{◌≡◌, drop}
use Rattle.std.specs.List.{list_any}
use Rattle.f_tree.specs.Uses.{is_among}
use Rattle.name_table.specs.Named.{names_in}
use Rattle.f_tree.specs.declared.statements.Declarator.{Declarator}
use Rattle.statement_order.proofs.before.declares_any.Given as goal

abbrev pub invariant-loop-item : goal.invariant-loop-item
invariant-loop-item l = list_any (λ (d : Declarator). is_among d.name (names_in l.names)) l.items ≡ list_any (λ (d : Declarator). is_among d.name (names_in l.names)) (drop l.item-index l.items)
