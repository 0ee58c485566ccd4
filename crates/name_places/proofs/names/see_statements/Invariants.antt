use Rattle.std.proofs.Common.{◌≡◌, drop}
use Rattle.name_table.specs.Named.{texts}
use Rattle.name_table.specs.Named.{names_in}
use Rattle.f_tree.specs.Uses.{uses_of_statements}
use Rattle.name_places.specs.FirstPlaces.{use_names}
use Rattle.name_places.specs.SeenNames.{with_names, AreSeen}
use Rattle.name_places.proofs.names.see_statements.Given as goal

abbrev pub invariant-loop-statement : goal.invariant-loop-statement
invariant-loop-statement l = record {
  names : with_names (texts l.initial.names.items) (use_names (uses_of_statements (names_in l.arrays) l.statements)) ≡ with_names (texts l.names.items) (use_names (uses_of_statements (names_in l.arrays) (drop l.statement-index l.statements)));
  seen : AreSeen l.seen (texts l.names.items);
}
