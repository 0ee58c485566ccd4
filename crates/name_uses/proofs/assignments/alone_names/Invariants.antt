use Rattle.std.proofs.Common.{◌≡◌, ◌++◌, drop, map}
use Rattle.f_tree.specs.Uses.{heading_of, alone_in}
use Rattle.name_table.specs.Named.{texts}
use Rattle.name_uses.proofs.assignments.alone_names.Given as goal

abbrev pub invariant-loop-e : goal.invariant-loop-e
invariant-loop-e l = alone_in (map heading_of l.es) ≡ texts l.names.items ++ alone_in (map heading_of (drop l.e-index l.es))
