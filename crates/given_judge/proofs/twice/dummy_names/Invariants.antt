use Rattle.std.proofs.Common.{◌≡◌, ◌++◌, drop}
use Rattle.f_tree.specs.Attributes.{named_dummies}
use Rattle.name_table.specs.Named.{texts}
use Rattle.given_judge.proofs.twice.dummy_names.Given as goal

abbrev pub invariant-loop-dummy : goal.invariant-loop-dummy
invariant-loop-dummy l = named_dummies l.dummies ≡ texts l.names.items ++ named_dummies (drop l.dummy-index l.dummies)
