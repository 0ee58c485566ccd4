use Rattle.std.proofs.Common.{◌≡◌, ◌++◌, drop}
use Rattle.unit_writer.proofs.LocalLaws.{locals_behind}
use Rattle.unit_writer.proofs.locals.add_variables.Given as goal

abbrev pub invariant-loop-name : goal.invariant-loop-name
invariant-loop-name l = l.initial.locals.items ++ locals_behind l.table l.names ≡ l.locals.items ++ locals_behind l.table (drop l.name-index l.names)
