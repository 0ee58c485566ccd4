use Rattle.std.proofs.Common.{◌≡◌, drop}
use Rattle.std.specs.List.{list_any}
use Rattle.f_tree.specs.Uses.{is_among}
use Rattle.name_table.specs.Named.{names_in}
use Rattle.f_tree.specs.declared.statements.ConstantDefinition.{ConstantDefinition}
use Rattle.statement_order.proofs.before.any_used.Given as goal

abbrev pub invariant-loop-item : goal.invariant-loop-item
invariant-loop-item l = list_any (λ (d : ConstantDefinition). is_among d.name (names_in l.used)) l.items ≡ list_any (λ (d : ConstantDefinition). is_among d.name (names_in l.used)) (drop l.item-index l.items)
