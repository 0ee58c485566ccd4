-- Where what belongs to an active procedure stands in the frame of its C function: its dummy arguments and their lengths in the
-- parameters, its result in `ret_val` or where `ret_val` points; and the image of storage whole.
-- Source: CSTR 149; ANSI X3.9-1978, sections 15.5.2, 15.7 and 15.9.
use Rattle.std.specs.Prelude.{◌≡◌, ℕ, ◌+◌, pos, List, [], ◌∷◌, ◌++◌, map, position, Option, Some, None, option_map, option_and_then, bytes_eq, slice_get}
use Rattle.c_tree.specs.simulation.Machine.{Frame, Has}
use Rattle.f_tree.specs.declared.names.Basic.{Basic}
use Rattle.f_tree.specs.declared.names.Basic.TheVariants.{Character}
use Rattle.f_tree.specs.declared.names.Class.TheVariants as class
use Rattle.f_tree.specs.Values.{Datum, IsSpot, IsProc, Spot}
use Rattle.f_tree.specs.Store.{Store}
use Rattle.f_tree.specs.Facts.{Attribute, Formal, Named, Alternate, ProgramUnit}
use Rattle.f_tree.specs.Facts as facts
use Rattle.f_tree.specs.Setting.{Setting, HasUnit}
use Rattle.f_tree.specs.World.{fortran_sorts}
use Rattle.f_tree.specs.CNames.{external_name, variable_name, made_name, FunctionResult, ResultLength, LengthOf}
use Rattle.c_tree.specs.declared.outcome.CValue.{CValue}
use Rattle.c_tree.specs.declared.outcome.CValue.TheVariants.{Pointer, Function}
use Rattle.c_tree.specs.declared.file.CFile.{CFile}
use Rattle.c_tree.specs.declared.file.CFunction.{CFunction}
use Rattle.c_tree.specs.Objects.{Object, Bytes, Values, bytes_of_number}
use Rattle.c_tree.specs.Declarations.{declared_parameters, declared_automatics}
use Rattle.c_tree.specs.Linking as linking
use Rattle.faithful.specs.StorageImage.{Homes, NamesStand, UnitsStand, number_named, function_number}

-- P holds of each of them
pub data Each {A : Type 0} (P : A → Type 0) : List A → Type 0 where
  none : Each P []
  more : (one : A) (later : List A) → P one → Each P later → Each P (one ∷ later)

-- ## Objects of a frame

abbrev pub frame_object_at : List ℕ → Option CFunction → Option linking.Function → Option ℕ
frame_object_at name (Some function) (Some linked) =
    option_map (λ place. linked.frame + place)
    (position (λ declared. bytes_eq declared.name name) (declared_parameters function.params ++ declared_automatics function.locals))
frame_object_at name _ _ = None

-- the object of a parameter or of an automatic name, in the frame of the function of a number
unfoldable pub frame_object : List CFile → ℕ → List ℕ → Option ℕ
frame_object texts function name =
    frame_object_at name (slice_get (linking.all_functions texts) function) (slice_get (linking.program texts).functions function)

abbrev pub held_by : Option Object → Option CValue
held_by (Some (Values held)) = option_and_then (λ value. value) (slice_get held.values 0)
held_by _ = None

-- the pointer or the function that an object holds
unfoldable pub value_in : List Object → Option ℕ → Option CValue
value_in objects None = None
value_in objects (Some number) = held_by (slice_get objects number)

-- the object has the four bytes of a number
abbrev pub HasNumber : List Object → Option ℕ → ℕ → Type 0
HasNumber objects place n = option_and_then (slice_get objects) place ≡ Some (Bytes (map Some (bytes_of_number (pos n))))

-- ## Dummy arguments

-- the object holds a pointer to where a place stands
abbrev pub PointsAt : Homes → List Object → Option ℕ → Spot → Type 0
PointsAt homes objects parameter spot =
    (object : ℕ) × (homes spot.sequence ≡ Some object) × (value_in objects parameter ≡ Some (Pointer object spot.first))

-- a parameter points where the first place of its dummy stands, or holds the function of its procedure
abbrev pub StandsFor : List CFile → Homes → List Object → Option ℕ → Datum → Type 0
StandsFor texts homes objects parameter (IsSpot spot) = PointsAt homes objects parameter spot
StandsFor texts homes objects parameter (IsProc name) =
    (number : ℕ) × (number_named texts (external_name name) ≡ Some number) × (value_in objects parameter ≡ Some (Function number))
StandsFor texts homes objects parameter other = Unit {0}

-- a dummy variable or array of type CHARACTER comes with a length
unfoldable pub HasLength : Attribute → Type 0
HasLength a = (a.class ≡ class.Dummy) × (a.basic ≡ Character)

pub record DummyStands (texts : List CFile) (homes : Homes) (objects : List Object) (function : ℕ) (unit : ProgramUnit) (frame : facts.Frame) (x : List ℕ) : Type 0 where
  pub parameter : (datum : Datum) → frame.bound x ≡ Some datum
      → StandsFor texts homes objects (frame_object texts function (variable_name x)) datum
  pub length : HasLength (unit.attribute x) → (n : ℕ) → frame.lengths x ≡ Some n
      → HasNumber objects (frame_object texts function (made_name (LengthOf (variable_name x)))) n

-- an alternate return is no parameter
abbrev pub FormalStands : List CFile → Homes → List Object → ℕ → ProgramUnit → facts.Frame → Formal → Type 0
FormalStands texts homes objects function unit frame (Named x) = DummyStands texts homes objects function unit frame x
FormalStands texts homes objects function unit frame Alternate = Unit {0}

-- ## Results

-- the result of a character function stands where `ret_val` points, with its length in `ret_val_len`; that of another in `ret_val`
abbrev pub ResultStandsAs : Basic → List CFile → Homes → List Object → ℕ → Spot → Type 0
ResultStandsAs Character texts homes objects function spot =
    PointsAt homes objects (frame_object texts function (made_name FunctionResult)) spot
    × HasNumber objects (frame_object texts function (made_name ResultLength)) spot.width
ResultStandsAs basic texts homes objects function spot =
    (object : ℕ) × (homes spot.sequence ≡ Some object) × (frame_object texts function (made_name FunctionResult) ≡ Some object)

abbrev pub ResultStands : List CFile → Homes → List Object → ℕ → Option Spot → Type 0
ResultStands texts homes objects function None = Unit {0}
ResultStands texts homes objects function (Some spot) = ResultStandsAs spot.basic texts homes objects function spot

-- ## Frames

-- what belongs to an active procedure stands in the frame of its function
pub record ProcedureStands (units : List ProgramUnit) (texts : List CFile) (homes : Homes) (objects : List Object) (k : ℕ) (frame : facts.Frame) : Type 0 where
  pub unit : ProgramUnit
  pub is : HasUnit units k unit
  pub function : ℕ
  pub has : function_number texts unit ≡ Some function
  pub dummies : Each (FormalStands texts homes objects function unit frame) frame.called.formals
  pub result : ResultStands texts homes objects function frame.result

abbrev pub FrameStands : List ProgramUnit → List CFile → Homes → List Object → Frame fortran_sorts → Type 0
FrameStands units texts homes objects (Has k view) = ProcedureStands units texts homes objects k view.frame

-- THE IMAGE of storage and of the active procedures, over the objects in which the sequences stand
pub record Image (units : List ProgramUnit) (setting : Setting) (texts : List CFile) (homes : Homes) (store : Store) (objects : List Object) (procedures : List (Frame fortran_sorts)) : Type 0 where
  pub names : NamesStand units setting texts homes
  pub stored : UnitsStand store objects homes
  pub active : Each (FrameStands units texts homes objects) procedures
