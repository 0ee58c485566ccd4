-- Where the names of common blocks stand first, and which of them may stand.
use Rattle.std.specs.Prelude.{◌≡◌, ℕ, Bool, true, false, not, ◌&&◌}
use Rattle.f_tree.specs.declared.names.Class.{Class}
use Rattle.f_tree.specs.declared.names.Class.TheVariants as class
use Rattle.f_tree.specs.declared.units.Unit.{Unit as WrittenUnit}
use Rattle.f_tree.specs.Values.{Bytes}
use Rattle.declaration_rows.specs.GivenRows.{is_block_in, has_underscore}
use Rattle.expression_judge.specs.declared.names.Names.{Names}
use Rattle.expression_judge.specs.SeenNames.{fact_in}
use Rattle.name_table.specs.declared.NameTable.{NameTable}
use Rattle.name_table.specs.Named.{value_of}
use Rattle.name_places.specs.FirstPlaces.{first_at}

-- a table has the number of the first statement in which each common block stands
pub record AreFirstBlocks (u : WrittenUnit) (table : NameTable ℕ) : Type 0 where
  pub first : (x : Bytes) → value_of table x ≡ first_at (is_block_in x) u.statements

-- the class of a variable, an array or a dummy procedure
unfoldable pub is_variable_class : Class → Bool
is_variable_class class.Stored = true
is_variable_class class.Dummy = true
is_variable_class class.Result = true
is_variable_class class.DummyProcedure = true
is_variable_class _ = false

-- may a name be that of a common block, by what is seen of it
unfoldable pub is_alone : Names → Bytes → Bool
is_alone names x = not (has_underscore x && is_variable_class (fact_in names x).class)
