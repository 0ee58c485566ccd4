use Rattle.std.proofs.Common.{◌≡◌, ◌++◌, drop}
use Rattle.declaration_rows.specs.LengthRows.{item_rows}
use Rattle.name_table.specs.Named.{texts}
use Rattle.length_judge.proofs.items.add_items_rows.Given as goal

abbrev pub invariant-loop-name : goal.invariant-loop-name
invariant-loop-name l = l.initial.found.items ++ item_rows l.unit (texts l.names) ≡ l.found.items ++ item_rows l.unit (texts (drop l.name-index l.names))
