-- What tables tell of the types and the dimensions of names.
use Rattle.std.specs.Prelude.{◌≡◌, List, [], ◌∷◌, bytes_eq, Option, Some, None, option_map, map, if◌then◌else◌}
use Rattle.std.specs.Borrow.{Bor}
use Rattle.f_tree.specs.declared.statements.Dimension.{Dimension as WrittenDimension}
use Rattle.f_tree.specs.declared.statements.ImplicitGroup.{ImplicitGroup}
use Rattle.f_tree.specs.declared.statements.Stmt.{Stmt}
use Rattle.f_tree.specs.declared.statements.TypeSpec.{TypeSpec}
use Rattle.f_tree.specs.declared.names.Basic.TheVariants.{Untyped}
use Rattle.f_tree.specs.declared.units.Unit.{Unit as WrittenUnit}
use Rattle.f_tree.specs.Values.{Bytes}
use Rattle.f_tree.specs.Attributes.{TypedName, Typed, Shaped, from_all, typed_in, shaped_in, implicit_in, type_among, dimensions_among, typed_by, heading_type, implied}
use Rattle.name_table.specs.declared.NameTable.{NameTable}
use Rattle.name_table.specs.Named.{value_of}
use Rattle.declared_types.specs.declared.types.DeclaredType.{DeclaredType}
use Rattle.declared_types.specs.declared.types.Types.{Types}
use Rattle.declared_types.specs.declared.shapes.Shapes.{Shapes}

-- TYPES
unfoldable pub typed_of : DeclaredType → Typed
typed_of d = record { basic = d.basic; length = option_map (λ length. length.now) d.length }

unfoldable pub type_at : NameTable DeclaredType → Bytes → Option Typed
type_at table q = option_map typed_of (value_of table q)

unfoldable pub type_in : TypedName → Typed
type_in t = typed_by t.spec t.item.length

-- the first type of a name stays
unfoldable pub type_or : Option Typed → Option TypedName → Option Typed
type_or (Some t) more = Some t
type_or None more = option_map type_in more

pub record NotesTypes (old new : NameTable DeclaredType) (ts : List TypedName) : Type 0 where
  pub has : (q : Bytes) → type_at new q ≡ type_or (type_at old q) (type_among q ts)

abbrev pub groups_in : List (Bor ImplicitGroup) → List ImplicitGroup
groups_in groups = map (λ group. group.now) groups

pub record AreTypesAmong (ss : List Stmt) (table : NameTable DeclaredType) : Type 0 where
  pub has : (q : Bytes) → type_at table q ≡ option_map type_in (type_among q (from_all typed_in ss))

pub record AreTypes (u : WrittenUnit) (types : Types) : Type 0 where
  pub declared : (q : Bytes) → type_at types.declared q ≡ option_map type_in (type_among q (from_all typed_in u.statements))
  pub implicit : groups_in types.implicit.items ≡ from_all implicit_in u.statements

-- the type that the FUNCTION statement writes
unfoldable pub typed_spec : TypeSpec → Option TypeSpec
typed_spec spec = elim spec.basic [ Untyped ↦ None | _ ↦ Some spec ]

unfoldable pub named_type : TypeSpec → Option Bytes → Bytes → Option TypeSpec
named_type spec None x = None
named_type spec (Some y) x = if bytes_eq x y then typed_spec spec else None

-- a type without a length of its own
unfoldable pub plain_type : TypeSpec → Typed
plain_type spec = typed_by spec None

unfoldable pub no_type : Typed
no_type = record { basic = Untyped; length = None }

unfoldable pub type_else : Typed → Option Typed → Typed
type_else other None = other
type_else other (Some t) = t

-- of a name that no type statement has
unfoldable pub implied_type : WrittenUnit → Bytes → Typed
implied_type u x = type_else no_type (option_map plain_type (implied x (from_all implicit_in u.statements)))

unfoldable pub undeclared_type : WrittenUnit → Bytes → Typed
undeclared_type u x = type_else (implied_type u x) (option_map plain_type (heading_type u x None))

-- DIMENSIONS
unfoldable pub dimensions_of : Option (Bor (List WrittenDimension)) → List WrittenDimension
dimensions_of None = []
dimensions_of (Some dimensions) = dimensions.now

unfoldable pub shape_at : Shapes → Bytes → List WrittenDimension
shape_at shapes q = dimensions_of (value_of shapes.table q)

-- the first dimensions of a name stay
unfoldable pub shape_or : List WrittenDimension → List WrittenDimension → List WrittenDimension
shape_or [] more = more
shape_or (d ∷ ds) more = d ∷ ds

pub record NotesShapes (old new : Shapes) (ss : List Shaped) : Type 0 where
  pub has : (q : Bytes) → shape_at new q ≡ shape_or (shape_at old q) (dimensions_among q ss)

pub record AreShapesAmong (ss : List Stmt) (shapes : Shapes) : Type 0 where
  pub has : (q : Bytes) → shape_at shapes q ≡ dimensions_among q (from_all shaped_in ss)

pub record AreShapes (u : WrittenUnit) (shapes : Shapes) : Type 0 where
  pub has : (q : Bytes) → shape_at shapes q ≡ dimensions_among q (from_all shaped_in u.statements)
