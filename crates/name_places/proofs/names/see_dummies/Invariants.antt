use Rattle.std.proofs.Common.{◌≡◌, drop}
use Rattle.name_table.specs.Named.{texts}
use Rattle.f_tree.specs.Attributes.{named_dummies}
use Rattle.name_places.specs.SeenNames.{with_names, AreSeen}
use Rattle.name_places.proofs.names.see_dummies.Given as goal

abbrev pub invariant-loop-dummy : goal.invariant-loop-dummy
invariant-loop-dummy l = record {
  names : with_names (texts l.initial.names.items) (named_dummies l.dummies) ≡ with_names (texts l.names.items) (named_dummies (drop l.dummy-index l.dummies));
  seen : AreSeen l.seen (texts l.names.items);
}
