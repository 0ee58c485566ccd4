-- When a state of the FORTRAN run and a state of the C run are the same: equal units, transfers that agree, the image of storage
-- and of the active procedures, the functions of these in their order, and both running or both ended in one way.
use Rattle.std.specs.Prelude.{◌≡◌, ℕ, List, ◌∷◌, map, filter, Option, Some, None, option_and_then, slice_get, is_none, Bool, false}
use Rattle.c_tree.specs.simulation.Machine.{State, Runs, Over, Frame, Has, numbers}
use Rattle.c_tree.specs.run_state.Endings.{Ending}
use Rattle.f_tree.specs.Facts.{ProgramUnit}
use Rattle.f_tree.specs.Setting.{Setting}
use Rattle.f_tree.specs.World as fortran
use Rattle.f_tree.specs.Meaning.{RunState}
use Rattle.c_tree.specs.declared.file.CFile.{CFile}
use Rattle.c_tree.specs.declared.file.CFunction.{CFunction}
use Rattle.c_tree.specs.Linking as linking
use Rattle.c_tree.specs.Meaning as meaning
use Rattle.c_tree.specs.Steps.{sorts, View as FunctionView}
use Rattle.c_tree.specs.World as c
use Rattle.faithful.specs.StorageImage.{Homes, function_number}
use Rattle.faithful.specs.FrameImage.{Image}
use Rattle.faithful.specs.SameTransfer.{SameTransfer}

-- over some objects in which the sequences stand
pub record SameWorld (units : List ProgramUnit) (setting : Setting) (texts : List CFile) (procedures : List (Frame fortran.fortran_sorts)) (one : fortran.World) (other : c.World) : Type 0 where
  pub homes : Homes
  pub same_units : one.units ≡ other.units
  pub transfers : SameTransfer homes one.transfer other.transfer
  pub image : Image units setting texts homes one.store other.objects procedures

-- is the function of this number no wrapper
abbrev pub is_inner : Option CFunction → Bool
is_inner None = false
is_inner (Some function) = is_none (meaning.wrapped_by function.body)

abbrev pub without_wrappers : List CFile → List ℕ → List ℕ
without_wrappers texts active = filter (λ number. is_inner (slice_get (linking.all_functions texts) number)) active

-- the number of the function of the unit with a number
abbrev pub function_of : List ProgramUnit → List CFile → ℕ → Option ℕ
function_of units texts k = option_and_then (function_number texts) (slice_get units k)

-- the active functions, wrappers left out, are those of the active procedures in their order
abbrev pub SameActive : List ProgramUnit → List CFile → List ℕ → List ℕ → Type 0
SameActive units texts procedures functions =
    map (function_of units texts) procedures ≡ map Some (without_wrappers texts functions)

pub data Same (units : List ProgramUnit) (setting : Setting) (texts : List CFile) : RunState → State Ending sorts → Type 0 where
  running : (k : ℕ) (v : fortran.View) (procedures : List (Frame fortran.fortran_sorts)) (w : fortran.World)
      (j : ℕ) (x : FunctionView) (functions : List (Frame sorts)) (z : c.World)
      → SameWorld units setting texts (Has k v ∷ procedures) w z → SameActive units texts (k ∷ numbers procedures) (j ∷ numbers functions)
      → Same units setting texts (Runs k v procedures w) (Runs j x functions z)
  ended : (ending : Ending) (procedures : List (Frame fortran.fortran_sorts)) (w : fortran.World) (functions : List (Frame sorts)) (z : c.World)
      → SameWorld units setting texts procedures w z → SameActive units texts (numbers procedures) (numbers functions)
      → Same units setting texts (Over ending procedures w) (Over ending functions z)
