-- The shapes of the procedures of a unit, by what a table has of the names.
use Rattle.std.specs.Prelude.{List, [], ◌++◌, map, Option, Some, None}
use Rattle.f_tree.specs.declared.names.Basic.{Basic}
use Rattle.f_tree.specs.declared.names.Class.{Class}
use Rattle.f_tree.specs.declared.names.Class.TheVariants as class
use Rattle.f_tree.specs.declared.statements.Body.{Body}
use Rattle.f_tree.specs.declared.statements.Body.TheOpen as body
use Rattle.f_tree.specs.declared.statements.DummyArgument.{DummyArgument}
use Rattle.f_tree.specs.declared.statements.DummyArgument.TheVariants as dummy
use Rattle.f_tree.specs.declared.statements.UnitKind.{UnitKind}
use Rattle.f_tree.specs.declared.statements.UnitKind.TheVariants as kind
use Rattle.f_tree.specs.declared.units.Unit.{Unit as WrittenUnit}
use Rattle.f_tree.specs.Folds.{layer_of}
use Rattle.f_tree.specs.Values.{Bytes}
use Rattle.f_tree.specs.Attributes.{from_all}
use Rattle.expression_judge.specs.declared.names.Names.{Names}
use Rattle.expression_judge.specs.SeenNames.{fact_in}
use Rattle.call_shapes.specs.declared.shapes.Argument.{Argument}
use Rattle.call_shapes.specs.declared.shapes.Argument.TheVariants.{Procedure, Label}
use Rattle.call_shapes.specs.declared.shapes.NamedShape.{NamedShape}
use Rattle.call_shapes.specs.declared.shapes.ShapeResult.{ShapeResult}
use Rattle.call_shapes.specs.declared.shapes.ShapeResult.TheVariants.{Subroutine, Function}
use Rattle.call_shapes.specs.ProcedureShapes.{argument_of_type, shaped}

unfoldable pub argument_by_class : Class → Basic → Argument
argument_by_class class.DummyProcedure basic = Procedure
argument_by_class _ basic = argument_of_type basic

unfoldable pub seen_dummy : Names → DummyArgument → Argument
seen_dummy names (dummy.Named x) = argument_by_class (fact_in names x).class (fact_in names x).basic
seen_dummy names dummy.AlternateReturn = Label

unfoldable pub result_by_kind : UnitKind → Basic → Option ShapeResult
result_by_kind kind.Main basic = None
result_by_kind kind.Subroutine basic = Some Subroutine
result_by_kind (kind.Function spec) basic = Some (Function basic)
result_by_kind kind.BlockData basic = None

unfoldable pub seen_procedure : Names → UnitKind → Bytes → List DummyArgument → List NamedShape
seen_procedure names kind x dummies = shaped x (map (seen_dummy names) dummies) (result_by_kind kind (fact_in names x).basic)

unfoldable pub seen_own : Names → UnitKind → List DummyArgument → Option Bytes → List NamedShape
seen_own names kind dummies None = []
seen_own names kind dummies (Some x) = seen_procedure names kind x dummies

unfoldable pub seen_entry : Names → UnitKind → Body → List NamedShape
seen_entry names kind b = elim (layer_of b) [ body.Entry x dummies ↦ seen_procedure names kind x dummies | _ ↦ [] ]

unfoldable pub seen_procedures : Names → WrittenUnit → List NamedShape
seen_procedures names u = seen_own names u.kind u.dummies u.name ++ from_all (seen_entry names u.kind) u.statements
