-- The rows that one name breaks, by what a table says of it.
use Rattle.std.specs.List.{list_all}
use Rattle.std.specs.Prelude.{nat_eq, Bool, true, false, not, ◌&&◌, ◌||◌, List, [], ◌∷◌, ◌++◌, length, Option, Some, None, option_map, is_some}
use Rattle.f_tree.specs.declared.names.Basic.{Basic}
use Rattle.f_tree.specs.declared.names.Basic.TheVariants.{Integer, Logical, Character}
use Rattle.f_tree.specs.declared.names.Class.{Class}
use Rattle.f_tree.specs.declared.names.Class.TheVariants as class
use Rattle.f_tree.specs.declared.refusals.Kind.{Kind}
use Rattle.f_tree.specs.declared.refusals.Kind.TheVariants.{NameHasTypeReal, ConflictingAttributes, BoundNotConstant, ArrayOfNoElement, BadParameterValue}
use Rattle.f_tree.specs.declared.refusals.Refusal.{Refusal}
use Rattle.f_tree.specs.declared.units.Unit.{Unit as WrittenUnit}
use Rattle.f_tree.specs.Values.{Bytes}
use Rattle.f_tree.specs.Lines.{Naming}
use Rattle.declaration_rows.specs.Judgement.{unless}
use Rattle.declaration_rows.specs.NameRows as rows
use Rattle.declaration_rows.specs.NameRows.{name_rows, given_names}
use Rattle.declaration_rows.specs.StatementRows.{is_typed}
use Rattle.name_facts.specs.declared.fact.Bound.{Bound}
use Rattle.name_facts.specs.declared.fact.ConstantValue.{ConstantValue}
use Rattle.name_facts.specs.declared.fact.ConstantValue.TheVariants as value
use Rattle.name_facts.specs.declared.fact.NameFact.{NameFact}
use Rattle.name_facts.specs.declared.table.NameFacts.{NameFacts}
use Rattle.name_facts.specs.Dimensions.{is_closed}
use Rattle.name_facts.specs.GivenFacts.{datum_of, fact_in}
use Rattle.declared_types.specs.TypeTables.{AreTypes, AreShapes}
use Rattle.name_places.specs.FirstPlaces.{ArePlaces}
use Rattle.name_judge.specs.declared.tables.Tables.{Tables}

-- the tables of a unit
pub record AreTables (u : WrittenUnit) (tables : Tables) : Type 0 where
  pub types : AreTypes u tables.types
  pub shapes : AreShapes u tables.shapes
  pub places : ArePlaces u tables.places

-- TYPES: a variable, an array, a result or a statement function, and a procedure that is referenced as a function
unfoldable pub class_has_type : Bool → Class → Bool
class_has_type referenced class.Stored = true
class_has_type referenced class.Dummy = true
class_has_type referenced class.Result = true
class_has_type referenced class.StatementFunction = true
class_has_type referenced class.Procedure = referenced
class_has_type referenced class.DummyProcedure = referenced
class_has_type referenced class.Constant = false
class_has_type referenced class.Unit = false
class_has_type referenced class.Intrinsic = false

unfoldable pub type_kinds : Bool → NameFact → List Kind
type_kinds referenced f = unless (not (class_has_type referenced f.class) || is_typed f.basic) NameHasTypeReal

-- WHAT HAS NO DIMENSIONS
unfoldable pub result_kinds : Bool → NameFact → List Kind
result_kinds function f =
    unless (nat_eq f.rank 0) ConflictingAttributes ++ (unless (nat_eq (length f.bounds) 0) ConflictingAttributes ++ unless function ConflictingAttributes)

unfoldable pub conflict_by : Class → Bool → NameFact → List Kind
conflict_by class.Constant function f = unless (nat_eq f.rank 0) ConflictingAttributes
conflict_by class.DummyProcedure function f = unless (nat_eq f.rank 0) ConflictingAttributes
conflict_by class.Result function f = result_kinds function f
conflict_by _ function f = []

-- LENGTHS AND BOUNDS
unfoldable pub stored_kinds : Kind → NameFact → List Kind
stored_kinds row f = unless (is_some f.width) row ++ (unless (nat_eq (length f.bounds) f.rank) BoundNotConstant ++ unless (list_all is_closed f.bounds) BoundNotConstant)

unfoldable pub bound_by : Class → Kind → Bool → NameFact → List Kind
bound_by class.Stored row are_bounds f = stored_kinds row f
bound_by class.Dummy row are_bounds f = unless are_bounds BoundNotConstant
bound_by _ row are_bounds f = []

unfoldable pub reaches : Bound → Bool
reaches b = rows.reaches b.lower b.upper

unfoldable pub have_elements : List Bound → Bool
have_elements [] = true
have_elements (b ∷ bs) = reaches b && have_elements bs

unfoldable pub element_kinds : NameFact → List Kind
element_kinds f = unless (have_elements f.bounds) ArrayOfNoElement

-- CONSTANTS
unfoldable pub has_value : Basic → Option ConstantValue → Bool
has_value Integer (Some (value.Integer z)) = true
has_value Logical (Some (value.Logical b)) = true
has_value Character (Some (value.Text cs)) = true
has_value _ _ = false

unfoldable pub constant_by : Class → NameFact → List Kind
constant_by class.Constant f = unless (has_value f.basic f.constant) BadParameterValue
constant_by _ f = []

-- NAMES IN BOUNDS, as far as bounds ask
unfoldable pub naming_in : NameFacts → Naming
naming_in table x = record {
  basic = (fact_in table x).basic;
  class = (fact_in table x).class;
  width = None;
  dimensions = [];
  bounds = [];
  constant = option_map datum_of (fact_in table x).constant;
  expansion = None;
}

-- the rows of names, one after the other
unfoldable pub given_rows : WrittenUnit → Bytes → List Refusal
given_rows u x = name_rows u x (given_names u x)
