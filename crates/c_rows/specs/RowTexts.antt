-- Words in which the trees of the worked programs are written, and the units that they run on.
use Rattle.std.specs.Prelude.{◌≡◌, ◌-◌, ℕ, ℤ, pos, false, List, [], ◌∷◌, ◌++◌, Option, Some, None, codes, if◌then◌else◌}
use Rattle.std.specs.Ordering.{int_eq}
use Rattle.c_tree.specs.simulation.Machine.{State, Runs, Over, Broken}
use Rattle.c_tree.specs.run_state.Units.{Units, UnitState}
use Rattle.c_tree.specs.declared.types.ListType.TheVariants.{Transfer}
use Rattle.c_tree.specs.declared.types.NumberType.TheVariants as number
use Rattle.c_tree.specs.declared.types.ResultType.TheVariants as result
use Rattle.c_tree.specs.declared.types.ParameterType.TheVariants as parameter
use Rattle.c_tree.specs.declared.types.ArgumentType.TheVariants as argument
use Rattle.c_tree.specs.declared.types.CastType.TheVariants as to
use Rattle.c_tree.specs.declared.expression.UnaryOp.TheVariants as prefix
use Rattle.c_tree.specs.declared.expression.CExpr.{CExpr}
use Rattle.c_tree.specs.declared.expression.CExpr.TheVariants as expr
use Rattle.c_tree.specs.declared.expression.CCall.{CCall}
use Rattle.c_tree.specs.declared.statement.CStmt.{CStmt}
use Rattle.c_tree.specs.declared.statement.CStmt.TheVariants as stmt
use Rattle.c_tree.specs.declared.declaration.CLocal.{CLocal}
use Rattle.c_tree.specs.declared.declaration.CLocal.TheVariants as local
use Rattle.c_tree.specs.declared.declaration.CField.TheVariants as given
use Rattle.c_tree.specs.declared.file.CFile.{CFile}
use Rattle.c_tree.specs.declared.file.CFunction.{CFunction}
use Rattle.c_tree.specs.declared.file.CConstant.{CConstant}
use Rattle.c_tree.specs.Meaning.{meaning, outcome, Running, Ended, Fault}
use Rattle.c_tree.specs.declared.outcome.CFault.{CFault}
use Rattle.c_tree.specs.World.{Plain, Ending}
use Rattle.c_tree.specs.Steps.{sorts}

abbrev pub call : List ℕ → List CExpr → CCall
call name arguments = record { through = false; name = name; arguments = arguments }

abbrev pub address : List ℕ → CExpr
address name = expr.Unary prefix.Address (expr.Name name)

abbrev pub constant : List ℕ → ℤ → CConstant
constant name value = record { name = name; value = value }

-- the three functions of list-directed output
abbrev pub output_functions : List CLocal
output_functions =
    local.Extern result.Integer (codes "s_wsle") (argument.List Transfer ∷ [])
    ∷ local.Extern
    result.Integer
    (codes "do_lio")
    (argument.Parameter parameter.Integers
    ∷ argument.Parameter parameter.Integers
    ∷ argument.Parameter parameter.Chars
    ∷ argument.Parameter parameter.Length
    ∷ [])
    ∷ local.Extern result.Integer (codes "e_wsle") []
    ∷ []

-- `static cilist io___1 = { 0, 6, 0, 0, 0 };`
abbrev pub output_list : CLocal
output_list =
    local.StaticList
    Transfer
    (codes "io___1")
    (given.Number (pos 0) ∷ given.Number (pos 6) ∷ given.Number (pos 0) ∷ given.Number (pos 0) ∷ given.Number (pos 0) ∷ [])

-- the item in an `integer`, by its address
abbrev pub written_integer : List ℕ → CStmt
written_integer name =
    stmt.Call
    (call
    (codes "do_lio")
    (address (codes "c__3")
    ∷ address (codes "c__1")
    ∷ expr.Cast to.Chars (address name)
    ∷ expr.Cast to.Length expr.SizeInt
    ∷ []))

abbrev pub return_zero : CStmt
return_zero = stmt.Return (Some (expr.Number (pos 0)))

abbrev pub name : List ℕ → CExpr
name text = expr.Name text

abbrev pub whole_number : ℕ → CExpr
whole_number value = expr.Number (pos value)

abbrev pub set : List ℕ → CExpr → CStmt
set target value = stmt.Set (expr.Name target) value

abbrev pub do_call : List ℕ → List CExpr → CStmt
do_call function arguments = stmt.Call (call function arguments)

abbrev pub integer : List ℕ → CLocal
integer text = local.Number number.Integer text

-- `integer i__1;` and `integer i__2;`
abbrev pub two_integers : List CLocal
two_integers = integer (codes "i__1") ∷ integer (codes "i__2") ∷ []

abbrev pub extern_int : List ℕ → CLocal
extern_int text = local.Extern result.Int text []

-- `int name(void)` with these declarations and statements
abbrev pub function_named : List ℕ → List CLocal → List CStmt → CFunction
function_named text locals body = record {
  result = result.Int;
  name = text;
  params = [];
  locals = locals;
  body = body;
}

abbrev pub file_of : List CFunction → CFile
file_of functions = record { objects = []; constants = []; functions = functions }

-- statements of the main program of a file of its own, with two integers and further declarations; it returns 0
abbrev pub body_with : List CLocal → List CStmt → List CFile
body_with locals statements =
    file_of (function_named (codes "MAIN__") (two_integers ++ locals) (statements ++ return_zero ∷ []) ∷ []) ∷ []

-- `s_wsle(&io___1);`, the item in an `integer`, and `e_wsle();`
abbrev pub printed : List ℕ → List CStmt
printed text =
    do_call (codes "s_wsle") (address (codes "io___1") ∷ [])
    ∷ written_integer text
    ∷ do_call (codes "e_wsle") []
    ∷ []

abbrev pub output_constants : List CConstant
output_constants = constant (codes "c__1") (pos 1) ∷ constant (codes "c__3") (pos 3) ∷ []

abbrev pub output_locals : List CLocal
output_locals = output_list ∷ output_functions

-- as `body_with`, with what list-directed output needs, and further functions before
abbrev pub printing_with : List CFunction → List CLocal → List CStmt → List CFile
printing_with functions locals statements =
    record {
      objects = [];
      constants = output_constants;
      functions =
          functions
          ++ function_named
          (codes "MAIN__")
          (two_integers ++ locals ++ output_locals)
          (statements ++ return_zero ∷ [])
          ∷ [];
    }
    ∷ []

-- no unit is connected
abbrev pub no_units : Units
no_units = record { connected = λ number. None; drawer = [] }

abbrev pub empty_unit : UnitState
empty_unit = record { records = []; position = 0; end_mark = false; zero_blanks = false }

-- unit 6 is connected, and has no record
abbrev pub output_unit : Units
output_unit = record { connected = λ number. if int_eq number (pos 6) then Some empty_unit else None; drawer = [] }

abbrev pub records_in : Option UnitState → List (List ℕ)
records_in None = []
records_in (Some unit) = unit.records

-- the records of a unit
abbrev pub records_of : ℤ → State Ending sorts → List (List ℕ)
records_of number (Runs function view frames world) = records_in (world.units.connected number)
records_of number (Over ending frames world) = records_in (world.units.connected number)
records_of number (Broken fault numbers) = []

-- the files' program ends at this step and not before, and unit 6 has this record alone
pub record EndsPrinting (files : List CFile) (steps : ℕ) (line : List ℕ) : Type 0 where
  pub running : outcome (meaning files output_unit (steps - 1)) ≡ Running
  pub ended : outcome (meaning files output_unit steps) ≡ Ended Plain
  pub written : records_of (pos 6) (meaning files output_unit steps) ≡ line ∷ []

-- the files' program faults at this step and not before, in the function of this number
pub record FaultsAt (files : List CFile) (steps : ℕ) (fault : CFault) (function : ℕ) : Type 0 where
  pub running : outcome (meaning files no_units (steps - 1)) ≡ Running
  pub faulted : outcome (meaning files no_units steps) ≡ Fault fault function
