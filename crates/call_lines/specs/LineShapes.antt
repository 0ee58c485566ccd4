-- The shape that a line of a prototype file has: that of the procedure whose C function it declares. CSTR 149; ANSI X3.9-1978, sections 15.5 to 15.9.
use Rattle.std.specs.Prelude.{◌≡◌, ℕ, ◌-◌, List, length, take, drop, bytes_eq, Option, Some, None, option_map, option_to_list, if◌then◌else◌}
use Rattle.std.specs.List.{flat_map}
use Rattle.f_tree.specs.declared.names.Basic.TheVariants as type
use Rattle.f_tree.specs.Attributes.{first_of_two}
use Rattle.f_tree.specs.CNames.{external_name}
use Rattle.c_tree.specs.declared.types.ResultType.{ResultType}
use Rattle.c_tree.specs.declared.types.ResultType.TheVariants as gives
use Rattle.c_tree.specs.declared.types.ParameterType.{ParameterType}
use Rattle.c_tree.specs.declared.types.ParameterType.TheVariants as parameter
use Rattle.c_tree.specs.declared.declaration.CParam.{CParam}
use Rattle.prototypes.specs.declared.prototype.Prototype.{Prototype}
use Rattle.call_shapes.specs.declared.shapes.Argument.{Argument}
use Rattle.call_shapes.specs.declared.shapes.Argument.TheVariants as argument
use Rattle.call_shapes.specs.declared.shapes.NamedShape.{NamedShape}
use Rattle.call_shapes.specs.declared.shapes.Shape.{Shape}
use Rattle.call_shapes.specs.declared.shapes.ShapeResult.{ShapeResult}
use Rattle.call_shapes.specs.declared.shapes.ShapeResult.TheVariants.{Subroutine, Function}

-- what a function is called as: a subroutine gives the number of an alternate return, and a CHARACTER function no value
unfoldable pub result_for : ResultType → ShapeResult
result_for gives.Int = Subroutine
result_for gives.Integer = Function type.Integer
result_for gives.Logical = Function type.Logical
result_for gives.Void = Function type.Character

-- what stands for a parameter in a call; nothing does for the length of a text, nor for a number by value
unfoldable pub argument_for : ParameterType → Option Argument
argument_for parameter.Integers = Some argument.Integer
argument_for parameter.Logicals = Some argument.Logical
argument_for parameter.Chars = Some argument.Text
argument_for parameter.Length = None
argument_for parameter.Int = None
argument_for (parameter.Function to) = Some argument.Procedure

-- the parameters behind the result of a CHARACTER function, which is the first two: its place and its length
unfoldable pub behind_result : ResultType → List CParam → List CParam
behind_result gives.Int params = params
behind_result gives.Integer params = params
behind_result gives.Logical params = params
behind_result gives.Void params = drop 2 params

unfoldable pub arguments_for : List CParam → List Argument
arguments_for params = flat_map (λ p. option_to_list (argument_for p.of)) params

unfoldable pub shape_for : ResultType → List CParam → Shape
shape_for result params = record { result = result_for result; arguments = arguments_for (behind_result result params) }

-- a name, where C has the other one for it
unfoldable pub named_so : List ℕ → List ℕ → Option (List ℕ)
named_so given name = if bytes_eq (external_name name) given then Some name else None

unfoldable pub without_end : ℕ → List ℕ → List ℕ
without_end count given = take (length given - count) given

-- the FORTRAN name for which C has this one, if there is such a name: it lacks one underscore at the end, or two
unfoldable pub fortran_name : List ℕ → Option (List ℕ)
fortran_name given = first_of_two (named_so given (without_end 1 given)) (named_so given (without_end 2 given))

-- a line has the shape under its FORTRAN name; one that comes from no FORTRAN name has none
unfoldable pub line_shape : Prototype → Option NamedShape
line_shape p = option_map (λ name. record { name = name; shape = shape_for p.result p.params }) (fortran_name p.name)

-- the shapes of lines, in their order
unfoldable pub line_shapes : List Prototype → List NamedShape
line_shapes prototypes = flat_map (λ p. option_to_list (line_shape p)) prototypes

-- LAWS
-- each FORTRAN name is found by the name that C has for it, and no other is
abbrev pub FortranNamesAreFound : Type 0
FortranNamesAreFound = (name : List ℕ) → fortran_name (external_name name) ≡ Some name

abbrev pub FoundNamesAreNamedSo : Type 0
FoundNamesAreNamedSo = (given name : List ℕ) → fortran_name given ≡ Some name → external_name name ≡ given
