use Rattle.std.proofs.Common.{◌≡◌, ◌++◌, drop}
use Rattle.f_tree.specs.Attributes.{from_all, implicit_in}
use Rattle.declared_types.specs.TypeTables.{groups_in}
use Rattle.declared_types.proofs.implied.implicit_groups.Given as goal

abbrev pub invariant-loop-statement : goal.invariant-loop-statement
invariant-loop-statement l = from_all implicit_in l.statements ≡ groups_in l.groups.items ++ from_all implicit_in (drop l.statement-index l.statements)
