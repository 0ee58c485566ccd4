use Rattle.std.proofs.Common.{◌≡◌, ◌++◌, drop}
use Rattle.f_tree.specs.Attributes.{array_names, from_all, shaped_in}
use Rattle.name_table.specs.Named.{names_in, IsNameSet}
use Rattle.name_uses.proofs.arrays.arrays_among.Given as goal

abbrev pub invariant-loop-statement : goal.invariant-loop-statement
invariant-loop-statement l = record {
  is_set : IsNameSet l.arrays;
  names : array_names (from_all shaped_in l.statements) ≡ names_in l.arrays ++ array_names (from_all shaped_in (drop l.statement-index l.statements));
}
