-- What lengths ask of the names where an expression stands: in the definition of a statement function its dummy arguments have the types that the
-- names have of their own. ANSI X3.9-1978, sections 8.4.2 and 15.4.
use Rattle.std.specs.Prelude.{◌≡◌, ℕ, Bool, false, not, ◌&&◌, List, [], Option, Some, None, is_some, if◌then◌else◌}
use Rattle.f_tree.specs.declared.expressions.Expr.{Expr}
use Rattle.f_tree.specs.declared.names.Basic.{Basic}
use Rattle.f_tree.specs.declared.names.Class.{Class}
use Rattle.f_tree.specs.declared.statements.Body.{Body}
use Rattle.f_tree.specs.declared.statements.Body.TheOpen as body
use Rattle.f_tree.specs.declared.units.Unit.{Unit as WrittenUnit}
use Rattle.f_tree.specs.Values.{Bytes}
use Rattle.f_tree.specs.Facts.{Attribute}
use Rattle.f_tree.specs.Folds.{layer_of}
use Rattle.f_tree.specs.Lines.{Naming, is_character}
use Rattle.f_tree.specs.Uses.{is_among, heading_of, defines_function}
use Rattle.f_tree.specs.Attributes.{Constant, constants_of, typed_name}
use Rattle.declaration_rows.specs.LengthRows.{declared_width}
use Rattle.declaration_rows.specs.NameRows.{given_names, own_attributes, is_star}
use Rattle.name_facts.specs.declared.fact.NameFact.{NameFact}
use Rattle.name_facts.specs.GivenFacts.{AreNameFacts}
use Rattle.name_table.specs.declared.NameTable.{NameTable}
use Rattle.name_table.specs.Named.{value_of}
use Rattle.constant_values.specs.KnownConstants.{AreConstants}
use Rattle.length_judge.specs.declared.names.NameLength.{NameLength}
use Rattle.length_judge.specs.declared.names.Names.{Names}

-- a name by its class, its type and its width
unfoldable pub text_measured : Class → Option ℕ → NameLength
text_measured k w = record { class = k; is_star = not (is_some w); characters = declared_width w }

unfoldable pub measured : Class → Basic → Option ℕ → NameLength
measured k b w = if is_character b then text_measured k w else record { class = k; is_star = false; characters = 0 }

unfoldable pub length_of : Attribute → NameLength
length_of a = measured a.class a.basic a.width

unfoldable pub fact_length : NameFact → NameLength
fact_length f = measured f.class f.basic f.width

-- a dummy argument of the definition around an expression is a name of its own
unfoldable pub naming_in : Names → Naming
naming_in names x = if is_some (value_of names.dummies x) then own_attributes names.unit.now x else given_names names.unit.now x

unfoldable pub constants_in : Names → List Constant
constants_in names = constants_of names.unit.now

-- what is known of the names is what the unit says
pub record AreKnown (names : Names) : Type 0 where
  pub given : AreNameFacts names.unit.now names.table.now
  pub constants : AreConstants (constants_of names.unit.now) names.constants.now
  pub own : (x : Bytes) (n : NameLength) → value_of names.dummies x ≡ Some n → n ≡ length_of (own_attributes names.unit.now x)

-- DEFINITIONS of statement functions: the dummy arguments of the one that a statement is
unfoldable pub target_dummies : List Bytes → Expr → List Bytes
target_dummies arrays target = if defines_function arrays (heading_of target) then (heading_of target).arguments else []

unfoldable pub dummies_in : List Bytes → Body → List Bytes
dummies_in arrays b = elim (layer_of b) [ body.Assign target e ↦ target_dummies arrays target | _ ↦ [] ]

unfoldable pub naming_with : WrittenUnit → List Bytes → Naming
naming_with u ds x = if is_among x ds then own_attributes u x else given_names u x

-- a table of dummy arguments with their own lengths
pub record AreOwn (u : WrittenUnit) (ds : List Bytes) (table : NameTable NameLength) : Type 0 where
  pub has : (x : Bytes) → value_of table x ≡ (if is_among x ds then Some (length_of (own_attributes u x)) else None)

-- a dummy argument that has length (*)
unfoldable pub is_star_dummy : WrittenUnit → Bytes → Bool
is_star_dummy u y = is_character (own_attributes u y).basic && is_star (typed_name u y).length
