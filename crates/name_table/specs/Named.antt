-- What a table has at a name, and at a label.
use Rattle.std.specs.Prelude.{◌≡◌, ℕ, List, map, Option, is_some, bytes_eq, nat_eq}
use Rattle.std.specs.Map.{lookup}
use Rattle.name_table.specs.declared.NameTable.{NameTable}
use Rattle.name_table.specs.declared.LabelTable.{LabelTable}
use Rattle.name_table.specs.declared.name_set.NameSet.{NameSet}
use Rattle.std.specs.Borrow.{Bor}
use Rattle.f_tree.specs.Uses.{is_among}

unfoldable pub value_of : {V : Type 0} → NameTable V → List ℕ → Option V
value_of t q = lookup (λ key. bytes_eq q key.now) t.values.entries

unfoldable pub labelled : {V : Type 0} → LabelTable V → ℕ → Option V
labelled t q = lookup (λ key. nat_eq q key) t.values.entries

-- the texts that references point to
abbrev pub texts : List (Bor (List ℕ)) → List (List ℕ)
texts references = map (λ reference. reference.now) references

abbrev pub names_in : NameSet → List (List ℕ)
names_in s = texts s.names.items

-- the table has the names of the set, and no others
pub record IsNameSet (s : NameSet) : Type 0 where
  pub has : (x : List ℕ) → is_some (value_of s.table x) ≡ is_among x (names_in s)
