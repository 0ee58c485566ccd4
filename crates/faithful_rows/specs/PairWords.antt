-- Words in which the trees of the worked pairs are written, FORTRAN and C.
use Rattle.std.specs.Prelude.{ℕ, pos, false, List, [], ◌∷◌, map, Option, Some, None}
use Rattle.faithful.specs.f_tree.declared.expressions.Expr.{Expr}
use Rattle.faithful.specs.f_tree.declared.expressions.Expr as expr
use Rattle.faithful.specs.f_tree.declared.statements.Body.{Body}
use Rattle.faithful.specs.f_tree.declared.statements.UnitKind.{UnitKind}
use Rattle.faithful.specs.f_tree.declared.statements.UnitKind.TheVariants as kind
use Rattle.faithful.specs.f_tree.declared.statements.DummyArgument.TheVariants as dummy
use Rattle.faithful.specs.f_tree.declared.statements.TypeSpec.{TypeSpec}
use Rattle.faithful.specs.f_tree.declared.statements.Declarator.{Declarator}
use Rattle.faithful.specs.f_tree.declared.statements.LengthSpec.TheVariants as length'
use Rattle.faithful.specs.f_tree.declared.statements.UpperBound.TheVariants as upper
use Rattle.faithful.specs.f_tree.declared.statements.Stmt.{Stmt}
use Rattle.faithful.specs.f_tree.declared.units.Unit.{Unit as WrittenUnit}
use Rattle.faithful.specs.f_tree.declared.units.FileSet.{FileSet}
use Rattle.faithful.specs.f_tree.declared.names.Basic.TheVariants.{Integer, Logical, Character}
use Rattle.faithful.specs.c_tree.declared.types.NumberType.TheVariants as number
use Rattle.faithful.specs.c_tree.declared.types.ResultType.{ResultType}
use Rattle.faithful.specs.c_tree.declared.types.ParameterType.{ParameterType}
use Rattle.faithful.specs.c_tree.declared.types.ArgumentType.TheVariants as argument
use Rattle.faithful.specs.c_tree.declared.expression.UnaryOp.TheVariants as prefix
use Rattle.faithful.specs.c_tree.declared.expression.CExpr.{CExpr}
use Rattle.faithful.specs.c_tree.declared.expression.CExpr.TheVariants as c
use Rattle.faithful.specs.c_tree.declared.expression.CCall.{CCall}
use Rattle.faithful.specs.c_tree.declared.statement.CStmt.{CStmt}
use Rattle.faithful.specs.c_tree.declared.statement.CStmt.TheVariants as stmt
use Rattle.faithful.specs.c_tree.declared.declaration.CLocal.{CLocal}
use Rattle.faithful.specs.c_tree.declared.declaration.CLocal.TheVariants as local
use Rattle.faithful.specs.c_tree.declared.declaration.CParam.{CParam}
use Rattle.faithful.specs.c_tree.declared.file.CFunction.{CFunction}
use Rattle.faithful.specs.c_tree.declared.file.CConstant.{CConstant}

-- ## FORTRAN

abbrev pub on_card : ℕ → Body → Stmt
on_card n b = record { label = None; file = 0; card = n; body = b }

abbrev pub num : ℕ → Expr
num n = expr.Int (pos n)

abbrev pub integers : TypeSpec
integers = record { basic = Integer; length = None }

abbrev pub logicals : TypeSpec
logicals = record { basic = Logical; length = None }

abbrev pub characters : ℕ → TypeSpec
characters n = record { basic = Character; length = Some (length'.Value (num n)) }

abbrev pub any_characters : TypeSpec
any_characters = record { basic = Character; length = Some length'.Star }

-- a name, and an array from 1 on
abbrev pub alone : List ℕ → Declarator
alone x = record { name = x; dimensions = []; length = None }

abbrev pub array_of : List ℕ → ℕ → Declarator
array_of x n = record { name = x; dimensions = record { lower = None; upper = upper.Value (num n) } ∷ []; length = None }

abbrev pub unit_of : UnitKind → Option (List ℕ) → List (List ℕ) → List Stmt → WrittenUnit
unit_of kind x dummies statements = record { file = 0; card = 1; kind = kind; name = x; dummies = map dummy.Named dummies; statements = statements }

abbrev pub main_unit : List Stmt → WrittenUnit
main_unit statements = unit_of kind.Main None [] statements

abbrev pub subroutine : List ℕ → List (List ℕ) → List Stmt → WrittenUnit
subroutine x dummies statements = unit_of kind.Subroutine (Some x) dummies statements

abbrev pub function : TypeSpec → List ℕ → List (List ℕ) → List Stmt → WrittenUnit
function type x dummies statements = unit_of (kind.Function type) (Some x) dummies statements

abbrev pub one_file : List WrittenUnit → FileSet
one_file units = record { files = record { units = units } ∷ [] }

-- ## C

abbrev pub c_name : List ℕ → CExpr
c_name x = c.Name x

abbrev pub c_num : ℕ → CExpr
c_num n = c.Number (pos n)

abbrev pub address_of : CExpr → CExpr
address_of e = c.Unary prefix.Address e

abbrev pub pointed : List ℕ → CExpr
pointed x = c.Unary prefix.Deref (c.Name x)

abbrev pub c_call : List ℕ → List CExpr → CCall
c_call x arguments = record { through = false; name = x; arguments = arguments }

abbrev pub does_call : List ℕ → List CExpr → CStmt
does_call x arguments = stmt.Call (c_call x arguments)

abbrev pub returns_zero : CStmt
returns_zero = stmt.Return (Some (c_num 0))

abbrev pub extern : ResultType → List ℕ → List ParameterType → CLocal
extern result x types = local.Extern result x (map argument.Parameter types)

abbrev pub static_integer : List ℕ → CLocal
static_integer x = local.StaticNumber number.Integer x None

abbrev pub static_array : List ℕ → ℕ → CLocal
static_array x n = local.StaticNumbers number.Integer x n None

abbrev pub param : ParameterType → List ℕ → CParam
param type x = record { of = type; name = x }

abbrev pub c_function : ResultType → List ℕ → List CParam → List CLocal → List CStmt → CFunction
c_function result x params locals statements = record { result = result; name = x; params = params; locals = locals; body = statements }

abbrev pub constant : List ℕ → ℕ → CConstant
constant x n = record { name = x; value = pos n }
