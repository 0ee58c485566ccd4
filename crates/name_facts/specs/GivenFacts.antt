-- What a table says of the names of a unit, and when it is what all statements of the unit give.
-- ANSI X3.9-1978, sections 4.1 (types), 5.1 (arrays), 8 (specification statements) and 18.
use Rattle.std.specs.Prelude.{◌≡◌, true, [], map, length, bytes_eq, Option, Some, None, option_map}
use Rattle.std.specs.HashMap.{get_by}
use Rattle.f_tree.specs.declared.names.Basic.TheVariants.{Untyped}
use Rattle.f_tree.specs.declared.names.Class.TheVariants as class
use Rattle.f_tree.specs.declared.units.Unit.{Unit as WrittenUnit}
use Rattle.f_tree.specs.Values.{Bytes, Datum, IsInt, IsLog, IsText, IsLabel}
use Rattle.f_tree.specs.Facts.{Bounds, Attribute}
use Rattle.f_tree.specs.WellTyped.{has_size}
use Rattle.declaration_rows.specs.NameRows.{given_names, own_attributes}
use Rattle.name_facts.specs.declared.fact.Bound.{Bound}
use Rattle.name_facts.specs.declared.fact.ConstantValue.{ConstantValue}
use Rattle.name_facts.specs.declared.fact.ConstantValue.TheVariants as value
use Rattle.name_facts.specs.declared.fact.NameFact.{NameFact}
use Rattle.name_facts.specs.declared.table.NameFacts.{NameFacts}

-- a constant's value as the meaning has it
unfoldable pub datum_of : ConstantValue → Datum
datum_of (value.Integer z) = IsInt z
datum_of (value.Logical b) = IsLog b
datum_of (value.Text cs) = IsText cs
datum_of (value.Label l) = IsLabel l

-- the bounds of a dimension as the meaning has them
unfoldable pub bounds_of : Bound → Bounds
bounds_of b = record { lower = b.lower; upper = b.upper }

-- what is said of a name is what it is
pub record IsNameFact (a : Attribute) (fact : NameFact) : Type 0 where
  pub class : fact.class ≡ a.class
  pub basic : fact.basic ≡ a.basic
  pub width : fact.width ≡ a.width
  pub rank : fact.rank ≡ length a.dimensions
  pub sized : fact.sized ≡ has_size a.dimensions
  pub bounds : map bounds_of fact.bounds ≡ a.bounds
  pub constant : option_map datum_of fact.constant ≡ a.constant

-- what a name is that the table does not have
unfoldable pub no_fact : NameFact
no_fact = record { class = class.Unit; basic = Untyped; width = None; rank = 0; sized = true; bounds = []; constant = None }

unfoldable pub fact_or : Option NameFact → NameFact
fact_or None = no_fact
fact_or (Some fact) = fact

unfoldable pub fact_in : NameFacts → Bytes → NameFact
fact_in table x = fact_or (get_by (λ k. bytes_eq x k.now) table.facts)

-- the table says of each name what the unit gives it
pub record AreNameFacts (u : WrittenUnit) (table : NameFacts) : Type 0 where
  pub facts : (x : Bytes) → IsNameFact (given_names u x) (fact_in table x)

-- what is said of a name is what the statements make of it, were it a name of the unit: also of the dummy arguments of statement functions
pub record IsOwnFact (u : WrittenUnit) (x : Bytes) (fact : NameFact) : Type 0 where
  pub is : IsNameFact (own_attributes u x) fact
