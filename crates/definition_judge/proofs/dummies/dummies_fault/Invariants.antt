use Rattle.std.proofs.Common.{◌≡◌, ◌-◌, length, drop}
use Rattle.declaration_rows.specs.NameRows.{own_attributes, dummies_rows}
use Rattle.f_tree.specs.Uses.{is_among}
use Rattle.f_tree.specs.Values.{Bytes}
use Rattle.name_table.specs.Named.{texts, names_in, IsNameSet}
use Rattle.refusal_order.specs.Earliest.{least_of}
use Rattle.definition_judge.proofs.dummies.dummies_fault.Given as goal

abbrev pub invariant-loop-behind : goal.invariant-loop-behind
invariant-loop-behind l = record {
  is_set : IsNameSet l.later;
  names : (q : Bytes) → is_among q (names_in l.later) ≡ is_among q (texts (drop (length l.dummies - l.behind) l.dummies));
  rows : l.fault ≡ least_of (dummies_rows (own_attributes l.unit) (texts (drop (length l.dummies - l.behind) l.dummies)));
}
