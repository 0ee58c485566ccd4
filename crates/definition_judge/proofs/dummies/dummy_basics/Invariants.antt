use Rattle.std.proofs.Common.{◌≡◌, ◌++◌, drop, map}
use Rattle.declaration_rows.specs.NameRows.{own_attributes}
use Rattle.name_table.specs.Named.{texts}
use Rattle.definition_judge.proofs.dummies.dummy_basics.Given as goal

abbrev pub invariant-loop-dummy : goal.invariant-loop-dummy
invariant-loop-dummy l =
    map (λ y. (own_attributes l.unit y).basic) (texts l.dummies) ≡ l.basics.items ++ map (λ y. (own_attributes l.unit y).basic) (texts (drop l.dummy-index l.dummies))
