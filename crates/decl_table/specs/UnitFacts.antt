-- What tables tell of the names of a unit, as the statements declare them.
-- ANSI X3.9-1978, sections 4.1, 5.1, 8 and 18.
use Rattle.std.specs.Prelude.{◌≡◌, ℕ, ℤ, nat_abs, Bool, true, false, not, ◌&&◌, ◌||◌, List, [], ◌∷◌, ◌++◌, map, bytes_eq, Option, Some, None, option_map, if◌then◌else◌}
use Rattle.f_tree.specs.declared.names.Class.{Class}
use Rattle.f_tree.specs.declared.names.Class.TheVariants as class
use Rattle.f_tree.specs.declared.expressions.Expr.{Expr}
use Rattle.f_tree.specs.declared.statements.ConstantDefinition.{ConstantDefinition}
use Rattle.f_tree.specs.declared.statements.Dimension.{Dimension as WrittenDimension}
use Rattle.f_tree.specs.declared.statements.LengthSpec.{LengthSpec}
use Rattle.f_tree.specs.declared.statements.UpperBound.{UpperBound}
use Rattle.f_tree.specs.declared.statements.UpperBound.TheVariants as upper
use Rattle.f_tree.specs.declared.units.Unit.{Unit as WrittenUnit}
use Rattle.f_tree.specs.Values.{Bytes, Datum, IsInt}
use Rattle.f_tree.specs.Facts.{Attribute}
use Rattle.f_tree.specs.Uses.{is_among}
use Rattle.f_tree.specs.Attributes as written
use Rattle.f_tree.specs.Attributes.{Constant, Typed, constants_from, constants_of, class_of, dimension_read, lower_read, upper_read, constant_term, constant_upper, constant_bounds, fitted_to, bare}
use Rattle.name_facts.specs.declaration_rows.NameRows.{own_attributes}
use Rattle.name_table.specs.declared.name_set.NameSet.{NameSet}
use Rattle.name_table.specs.Named.{IsNameSet, names_in}
use Rattle.name_facts.specs.declared.fact.Bound.{Bound}
use Rattle.name_facts.specs.declared.fact.ConstantValue.{ConstantValue}
use Rattle.name_facts.specs.GivenFacts.{datum_of, bounds_of, IsNameFact, fact_in}
use Rattle.name_facts.specs.declared.table.NameFacts.{NameFacts}
use Rattle.constant_values.specs.declared.constants.Constants.{Constants}
use Rattle.constant_values.specs.Folded.{IsKnownAs}
use Rattle.constant_values.specs.KnownConstants.{AreConstants, known_by}
use Rattle.name_classes.specs.KnownSigns.{AreSigns, unit_uses}
use Rattle.declared_types.specs.declared.types.DeclaredType.{DeclaredType}
use Rattle.declared_types.specs.TypeTables.{typed_of, AreTypes, AreShapes}
use Rattle.decl_table.specs.declared.declarations.Declarations.{Declarations}

-- LENGTHS: the units that a value is worth
unfoldable pub measured : Option Datum → Option ℕ
measured (Some (IsInt z)) = Some (nat_abs z)
measured _ = None

-- a type of CHARACTER with this length has this width
pub record IsLengthOf (table : Constants) (length : LengthSpec) (width : Option ℕ) : Type 0 where
  pub units : (cs : List Constant) → AreConstants cs table →
      width ≡ written.width_by cs (record { basic = Rattle.f_tree.specs.declared.names.Basic.TheVariants.Character; length = Some length })

pub record IsWidthOf (table : Constants) (typed : DeclaredType) (width : Option ℕ) : Type 0 where
  pub units : (cs : List Constant) → AreConstants cs table → width ≡ written.width_by cs (typed_of typed)

-- CONSTANTS
pub record IsFitted (width : Option ℕ) (value kept : ConstantValue) : Type 0 where
  pub fitted : Some (datum_of kept) ≡ fitted_to width (Some (datum_of value))

-- the value of a definition, given the constants before it and the length of its name
pub record IsDefinedValue (table : Constants) (width : Option ℕ) (e : Expr) (v : Option ConstantValue) : Type 0 where
  pub value : (cs : List Constant) → AreConstants cs table → option_map datum_of v ≡ fitted_to width (written.constant_value cs e)

-- the definitions of a list are added to those that a table has
pub record DefinesConstants (u : WrittenUnit) (old new : Constants) (ds : List ConstantDefinition) : Type 0 where
  pub defined : (cs : List Constant) → AreConstants cs old → AreConstants (constants_from u cs ds) new

pub record AreUnitConstants (u : WrittenUnit) (table : Constants) : Type 0 where
  pub constants : AreConstants (constants_of u) table

-- INTRINSIC FUNCTIONS among the names of a unit
unfoldable pub is_intrinsic : Class → Bool
is_intrinsic class.Intrinsic = true
is_intrinsic _ = false

pub record AddsFunction (u : WrittenUnit) (old new : NameSet) (x : Bytes) : Type 0 where
  pub has : (q : Bytes) → is_among q (names_in new) ≡ (is_among q (names_in old) || (bytes_eq q x && is_intrinsic (class_of u (unit_uses u) q)))
  pub is_set : IsNameSet new

pub record AreFunctionsAmong (u : WrittenUnit) (xs : List Bytes) (functions : NameSet) : Type 0 where
  pub has : (q : Bytes) → is_among q (names_in functions) ≡ (is_among q xs && is_intrinsic (class_of u (unit_uses u) q))
  pub is_set : IsNameSet functions

pub record AreFunctions (u : WrittenUnit) (functions : NameSet) : Type 0 where
  pub has : (x : Bytes) → is_among x (names_in functions) ≡ is_intrinsic (class_of u (unit_uses u) x)
  pub is_set : IsNameSet functions

-- DIMENSIONS, over the attributes of the names in them
abbrev pub Known : Constants → List Bytes → (Bytes → Attribute) → Type 0
Known table functions names = (x : Bytes) → IsKnownAs x (names x) (known_by table functions)

pub record IsLowerOf (table : Constants) (functions : List Bytes) (lower : Option Expr) (number : Option ℤ) : Type 0 where
  pub worth : (names : Bytes → Attribute) → Known table functions names → number ≡ constant_term (lower_read names lower)

pub record IsUpperOf (table : Constants) (functions : List Bytes) (bound : UpperBound) (number : Option (Option ℤ)) : Type 0 where
  pub worth : (names : Bytes → Attribute) → Known table functions names → number ≡ constant_upper (upper_read names bound)

pub record AddsBounds (table : Constants) (functions : List Bytes) (old new : List Bound) (ds : List WrittenDimension) : Type 0 where
  pub added : (names : Bytes → Attribute) → Known table functions names →
      map bounds_of new ≡ map bounds_of old ++ constant_bounds (map (dimension_read names) ds)

unfoldable pub is_open : WrittenDimension → Bool
is_open d = elim d.upper [ upper.Star ↦ true | upper.Value e ↦ false ]

unfoldable pub all_closed : List WrittenDimension → Bool
all_closed [] = true
all_closed (d ∷ ds) = not (is_open d) && all_closed ds

-- ALL OF A UNIT
pub record AreDeclarations (u : WrittenUnit) (declared : Declarations) : Type 0 where
  pub signs : AreSigns u declared.signs
  pub types : AreTypes u declared.types
  pub shapes : AreShapes u declared.shapes
  pub functions : AreFunctions u declared.functions
  pub constants : AreUnitConstants u declared.constants

-- the table says of each of the names what the statements make of it, and of others nothing
pub record AreFactsAmong (u : WrittenUnit) (xs : List Bytes) (table : NameFacts) : Type 0 where
  pub facts : (x : Bytes) → IsNameFact (if is_among x xs then own_attributes u x else bare class.Unit None) (fact_in table x)
