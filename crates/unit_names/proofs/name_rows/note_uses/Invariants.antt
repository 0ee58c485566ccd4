use Rattle.std.proofs.Common.{◌≡◌, ◌++◌, ◌||◌, drop}
use Rattle.f_tree.specs.Values.{Bytes}
use Rattle.f_tree.specs.Uses.{is_among}
use Rattle.name_table.specs.Named.{names_in, IsNameSet}
use Rattle.name_uses.specs.UsesSeen.{used_in}
use Rattle.unit_names.specs.Undeclared.{row_at, new_rows, use_names}
use Rattle.unit_names.proofs.name_rows.note_uses.Given as goal

abbrev pub invariant-loop-one : goal.invariant-loop-one
invariant-loop-one l = record {
  is_set : IsNameSet l.seen;
  rows : l.initial.found.items ++ new_rows (row_at l.unit l.statement) (names_in l.initial.seen) (use_names (used_in l.uses))
      ≡ l.found.items ++ new_rows (row_at l.unit l.statement) (names_in l.seen) (use_names (used_in (drop l.one-index l.uses)));
  has : (q : Bytes) → (is_among q (use_names (used_in l.uses)) || is_among q (names_in l.initial.seen))
      ≡ (is_among q (use_names (used_in (drop l.one-index l.uses))) || is_among q (names_in l.seen));
}
