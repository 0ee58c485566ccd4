use Rattle.std.proofs.Common.{◌≡◌, ◌++◌, drop, map}
use Rattle.name_table.specs.Named.{names_in, IsNameSet}
use Rattle.name_classes.proofs.statements.add_texts.Given as goal

abbrev pub invariant-loop-item : goal.invariant-loop-item
invariant-loop-item l = record {
  is_set : IsNameSet l.names;
  put : names_in l.initial.names ++ l.items ≡ names_in l.names ++ (drop l.item-index l.items);
}
