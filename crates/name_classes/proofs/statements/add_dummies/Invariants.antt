use Rattle.std.proofs.Common.{◌≡◌, ◌++◌, drop}
use Rattle.f_tree.specs.Attributes.{named_dummies}
use Rattle.name_table.specs.Named.{names_in, IsNameSet}
use Rattle.name_classes.proofs.statements.add_dummies.Given as goal

abbrev pub invariant-loop-dummy : goal.invariant-loop-dummy
invariant-loop-dummy l = record {
  is_set : IsNameSet l.names;
  put : names_in l.initial.names ++ named_dummies l.dummies ≡ names_in l.names ++ named_dummies (drop l.dummy-index l.dummies);
}
