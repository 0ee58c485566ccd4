use Rattle.std.proofs.Common.{◌≡◌, ◌++◌, drop, map}
use Rattle.f_tree.specs.declared.statements.Declarator.{Declarator}
use Rattle.name_table.specs.Named.{names_in, IsNameSet}
use Rattle.name_classes.proofs.statements.add_declarators.Given as goal

abbrev pub invariant-loop-item : goal.invariant-loop-item
invariant-loop-item l = record {
  is_set : IsNameSet l.names;
  put : names_in l.initial.names ++ map (λ (d : Declarator). d.name) l.items ≡ names_in l.names ++ map (λ (d : Declarator). d.name) (drop l.item-index l.items);
}
