-- The meaning of a program of C texts: its state after any number of flat steps, and how it stands; and the
-- step factor of its functions.
use Rattle.std.specs.Prelude.{ℕ, ◌+◌, nat_lt, nat_le, ◌-◌, max, Bool, false, not, ◌&&◌, List, [], ◌∷◌, length, drop, position, Option, Some, None, bytes_eq, codes, slice_get, unwrap_or, option_map, if◌then◌else◌}
use Rattle.simulation.specs.Machine.{State, Runs, Over, Broken, Program, run, begun}
use Rattle.run_state.specs.Units.{Units}
use Rattle.c_tree.specs.declared.outcome.CFault.{CFault}
use Rattle.c_tree.specs.declared.types.ResultType.TheVariants as result
use Rattle.c_tree.specs.declared.expression.CCall.{CCall}
use Rattle.c_tree.specs.declared.statement.CStmt as stmt
use Rattle.c_tree.specs.declared.file.CFile.{CFile}
use Rattle.c_tree.specs.declared.file.CFunction.{CFunction}
use Rattle.c_tree.specs.Faults.{Faults, NoMeaning}
use Rattle.c_tree.specs.FlatForm.{whole_body}
use Rattle.c_tree.specs.Linking as linking
use Rattle.c_tree.specs.World.{World, Ending}
use Rattle.c_tree.specs.Steps.{sorts, language}

abbrev pub numbered : List linking.Function → ℕ → Option ℕ
numbered functions number = if nat_lt number (length functions) then Some number else None

-- stands at numbers that no function has
abbrev pub no_function : linking.Function
no_function = record {
  name = [];
  result = result.Void;
  parameters = [];
  frame = 0;
  fresh = [];
  code = [];
  own = 0;
}

abbrev pub text_of : List linking.Function → ℕ → linking.Function
text_of functions number = unwrap_or (slice_get functions number) no_function

-- the functions of a program as the texts of a machine
abbrev pub machine : linking.Program → Program sorts
machine program = record { find = numbered program.functions; text = text_of program.functions }

-- the number of the main program
abbrev pub main_number : linking.Program → ℕ
main_number program =
    unwrap_or (position (λ function. bytes_eq linking.main_name function.name) program.functions) 0

-- the objects hold their images, and no transfer is in progress
abbrev pub first_world : linking.Program → Units → World
first_world program units = record { objects = program.objects; units = units; transfer = None }

-- the linked program after so many steps, from its main program on
unfoldable pub run_of : linking.Program → Units → ℕ → State Ending sorts
run_of program units count =
    run language (machine program) count
    (begun language (machine program) (main_number program) [] (first_world program units))

-- the state of the files' program after so many flat steps
unfoldable pub meaning : List CFile → Units → ℕ → State Ending sorts
meaning files units count = run_of (linking.program files) units count

-- how a run stands; a fault names the function in which it comes
pub data Outcome : Type 0 where
  Running : Outcome
  Ended : Ending → Outcome
  Fault : CFault → ℕ → Outcome
  Meaningless : Outcome

unfoldable pub outcome : State Ending sorts → Outcome
outcome (Runs number view frames world) = Running
outcome (Over ending frames world) = Ended ending
outcome (Broken (Faults fault) (number ∷ numbers)) = Fault fault number
outcome (Broken (Faults fault) []) = Meaningless
outcome (Broken NoMeaning numbers) = Meaningless

-- the name of the function of a number
unfoldable pub function_name : List CFile → ℕ → Option (List ℕ)
function_name files number = option_map (λ function. function.name) (slice_get (linking.program files).functions number)

-- how many steps a function has
abbrev pub steps_of : CFunction → ℕ
steps_of function = (whole_body function.body).size

-- the name of a function that a wrapper calls ends so
abbrev pub inner_ending : List ℕ
inner_ending = codes "_0_"

abbrev pub is_inner : List ℕ → Bool
is_inner name = nat_le 3 (length name) && bytes_eq (drop (length name - 3) name) inner_ending

abbrev pub inner_call : CCall → Option (List ℕ)
inner_call call = if not call.through && is_inner call.name then Some call.name else None

-- the function that a body calls, where it is a wrapper's: one call of a function for several entries
abbrev pub wrapped_by : List stmt.CStmt → Option (List ℕ)
wrapped_by (stmt.ReturnCall call ∷ []) = inner_call call
wrapped_by (stmt.Call call ∷ []) = inner_call call
wrapped_by statements = None

abbrev pub wraps : List ℕ → Option (List ℕ) → Bool
wraps name None = false
wraps name (Some inner) = bytes_eq name inner

-- the steps of the longest wrapper of a function
abbrev pub wrapper_steps : List ℕ → List CFunction → ℕ
wrapper_steps name [] = 0
wrapper_steps name (function ∷ later) =
    if wraps name (wrapped_by function.body) then max (steps_of function) (wrapper_steps name later)
    else wrapper_steps name later

abbrev pub counted_steps : List CFunction → CFunction → Option (List ℕ) → ℕ
counted_steps all function None = steps_of function + wrapper_steps function.name all
counted_steps all function (Some inner) = 0

abbrev pub greatest_steps : List CFunction → List CFunction → ℕ
greatest_steps all [] = 0
greatest_steps all (function ∷ later) =
    max (counted_steps all function (wrapped_by function.body)) (greatest_steps all later)

-- the step factor: the greatest number of steps of a function that is no wrapper, with those of its longest wrapper
unfoldable pub step_factor : List CFile → ℕ
step_factor files = greatest_steps (linking.all_functions files) (linking.all_functions files)
