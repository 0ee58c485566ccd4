-- Names in the order in which they are first seen.
use Rattle.std.specs.Prelude.{◌≡◌, List, [], ◌∷◌, ◌++◌, if◌then◌else◌}
use Rattle.f_tree.specs.declared.statements.DummyArgument.{DummyArgument}
use Rattle.f_tree.specs.declared.statements.DummyArgument.TheVariants as dummy
use Rattle.f_tree.specs.Values.{Bytes}
use Rattle.f_tree.specs.Uses.{is_among}
use Rattle.name_table.specs.declared.name_set.NameSet.{NameSet}
use Rattle.name_table.specs.Named.{names_in, IsNameSet}

-- a name behind others, unless it is among them
unfoldable pub with_name : List Bytes → Bytes → List Bytes
with_name seen x = if is_among x seen then seen else seen ++ x ∷ []

unfoldable pub with_names : List Bytes → List Bytes → List Bytes
with_names seen [] = seen
with_names seen (x ∷ xs) = with_names (with_name seen x) xs

unfoldable pub dummy_name : DummyArgument → List Bytes
dummy_name (dummy.Named x) = x ∷ []
dummy_name dummy.AlternateReturn = []

-- a set has the names of a list
pub record AreSeen (seen : NameSet) (listed : List Bytes) : Type 0 where
  pub names : names_in seen ≡ listed
  pub is_set : IsNameSet seen
