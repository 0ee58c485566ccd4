use Rattle.std.proofs.Common.{◌≡◌, ◌++◌, ◌||◌, drop}
use Rattle.f_tree.specs.Values.{Bytes}
use Rattle.f_tree.specs.Uses.{is_among}
use Rattle.f_tree.specs.Attributes.{named_dummies}
use Rattle.name_table.specs.Named.{names_in, IsNameSet}
use Rattle.unit_names.specs.Undeclared.{head_row, new_rows}
use Rattle.unit_names.proofs.name_rows.note_dummies.Given as goal

abbrev pub invariant-loop-dummy : goal.invariant-loop-dummy
invariant-loop-dummy l = record {
  is_set : IsNameSet l.seen;
  rows : l.initial.found.items ++ new_rows (head_row l.unit) (names_in l.initial.seen) (named_dummies l.unit.dummies)
      ≡ l.found.items ++ new_rows (head_row l.unit) (names_in l.seen) (named_dummies (drop l.dummy-index l.unit.dummies));
  has : (q : Bytes) → (is_among q (named_dummies l.unit.dummies) || is_among q (names_in l.initial.seen))
      ≡ (is_among q (named_dummies (drop l.dummy-index l.unit.dummies)) || is_among q (names_in l.seen));
}
