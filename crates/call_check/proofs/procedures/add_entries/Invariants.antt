use Rattle.std.proofs.Common.{◌≡◌, ◌++◌, drop}
use Rattle.f_tree.specs.Attributes.{from_all}
use Rattle.call_check.specs.ProceduresSeen.{seen_entry}
use Rattle.call_check.proofs.procedures.add_entries.Given as goal

abbrev pub invariant-loop-statement : goal.invariant-loop-statement
invariant-loop-statement l =
    l.initial.shapes.items ++ from_all (seen_entry l.names l.kind) l.statements
    ≡ l.shapes.items ++ from_all (seen_entry l.names l.kind) (drop l.statement-index l.statements)
