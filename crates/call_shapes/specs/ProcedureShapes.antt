-- The shape of each procedure of a set: whether it is a subroutine or a function of some type, and what each of its dummy arguments is. An array and
-- a scalar are not told apart. ANSI X3.9-1978, sections 15.5.1 (FUNCTION), 15.6.1 (SUBROUTINE), 15.7 (ENTRY) and 15.9.2 (dummy arguments).
use Rattle.std.specs.Prelude.{List, [], ◌∷◌, ◌++◌, map, Option, Some, None}
use Rattle.f_tree.specs.declared.names.Basic.{Basic}
use Rattle.f_tree.specs.declared.names.Basic.TheVariants as type
use Rattle.f_tree.specs.declared.names.Class.TheVariants as class
use Rattle.f_tree.specs.declared.statements.Body.{Body}
use Rattle.f_tree.specs.declared.statements.Body.TheOpen as body
use Rattle.f_tree.specs.declared.statements.DummyArgument.{DummyArgument}
use Rattle.f_tree.specs.declared.statements.DummyArgument.TheVariants as dummy
use Rattle.f_tree.specs.declared.statements.UnitKind.TheVariants as kind
use Rattle.f_tree.specs.declared.units.Unit.{Unit as WrittenUnit}
use Rattle.f_tree.specs.Folds.{layer_of}
use Rattle.f_tree.specs.Values.{Bytes}
use Rattle.f_tree.specs.Facts.{Attribute}
use Rattle.f_tree.specs.Attributes.{from_all}
use Rattle.declaration_rows.specs.NameRows.{given_names}
use Rattle.call_shapes.specs.declared.shapes.Argument.{Argument}
use Rattle.call_shapes.specs.declared.shapes.Argument.TheVariants.{Integer, Logical, Text, Procedure, Label}
use Rattle.call_shapes.specs.declared.shapes.NamedShape.{NamedShape}
use Rattle.call_shapes.specs.declared.shapes.ShapeResult.{ShapeResult}
use Rattle.call_shapes.specs.declared.shapes.ShapeResult.TheVariants.{Subroutine, Function}

-- a variable, an array or a value by its type; only a procedure has none in a unit that is accepted
unfoldable pub argument_of_type : Basic → Argument
argument_of_type type.Integer = Integer
argument_of_type type.Logical = Logical
argument_of_type type.Character = Text
argument_of_type type.Untyped = Procedure

-- a dummy argument by what its name is in the unit, and the place of an alternate return
unfoldable pub argument_of_name : Attribute → Argument
argument_of_name a = elim a.class [ class.DummyProcedure ↦ Procedure | _ ↦ argument_of_type a.basic ]

unfoldable pub dummy_argument : WrittenUnit → DummyArgument → Argument
dummy_argument u (dummy.Named x) = argument_of_name (given_names u x)
dummy_argument u dummy.AlternateReturn = Label

-- a main program and block data are not called
unfoldable pub result_of : WrittenUnit → Bytes → Option ShapeResult
result_of u x = elim u.kind [
  | kind.Subroutine ↦ Some Subroutine
  | kind.Function spec ↦ Some (Function (given_names u x).basic)
  | _ ↦ None
]

unfoldable pub shaped : Bytes → List Argument → Option ShapeResult → List NamedShape
shaped x arguments None = []
shaped x arguments (Some result) = record { name = x; shape = record { result = result; arguments = arguments } } ∷ []

unfoldable pub procedure_of : WrittenUnit → Bytes → List DummyArgument → List NamedShape
procedure_of u x dummies = shaped x (map (dummy_argument u) dummies) (result_of u x)

unfoldable pub own_procedure : WrittenUnit → Option Bytes → List NamedShape
own_procedure u None = []
own_procedure u (Some x) = procedure_of u x u.dummies

unfoldable pub entry_procedure : WrittenUnit → Body → List NamedShape
entry_procedure u b = elim (layer_of b) [ body.Entry x dummies ↦ procedure_of u x dummies | _ ↦ [] ]

-- the procedure that a unit is, and then its entries
unfoldable pub unit_procedures : WrittenUnit → List NamedShape
unit_procedures u = own_procedure u u.name ++ from_all (entry_procedure u) u.statements

-- those of some units, in their order
unfoldable pub procedures_of : List WrittenUnit → List NamedShape
procedures_of [] = []
procedures_of (u ∷ us) = unit_procedures u ++ procedures_of us

unfoldable pub procedure_shapes_opened : Unit {0}
unfolding argument_of_type argument_of_name dummy_argument result_of shaped procedure_of own_procedure entry_procedure unit_procedures procedures_of
procedure_shapes_opened = tt
