-- What two states that are the same have in common, bullet by bullet, in the words of the two machines.
use Rattle.std.specs.Prelude.{◌≡◌, ℕ, ◌+◌, ◌%◌, ◌<◌, ℤ, pos, Bool, true, false, List, ◌∷◌, map, length, Option, Some, None, option_map, Ok, slice_get, if◌then◌else◌}
use Rattle.faithful.specs.simulation.Machine.{State, Runs, Over, Broken, Frame, Has, numbers}
use Rattle.faithful.specs.edit_meaning.Formats.{Format, edits_for}
use Rattle.faithful.specs.run_state.Endings.{Ending}
use Rattle.faithful.specs.f_tree.declared.names.Basic.TheVariants.{Integer, Logical, Character}
use Rattle.faithful.specs.f_tree.Values.{Spot, IsSpot, IsProc, in_range}
use Rattle.faithful.specs.f_tree.Store.{Store, Whole, Number, Truth, Label, Chr, Part}
use Rattle.faithful.specs.f_tree.Facts.{Direction, Input, Output, Layout, Listed, Named, Home, Member, ProgramUnit}
use Rattle.faithful.specs.f_tree.Setting.{Setting, HasUnit, IsIn, unit_home}
use Rattle.faithful.specs.f_tree.CNames.{external_name, variable_name, made_name, FunctionResult, ResultLength, LengthOf}
use Rattle.faithful.specs.f_tree.Records.{record_count}
use Rattle.faithful.specs.f_tree.Transfers.{made_by}
use Rattle.faithful.specs.f_tree.World as fortran
use Rattle.faithful.specs.f_tree.Meaning.{RunState}
use Rattle.faithful.specs.c_tree.declared.file.CFile.{CFile}
use Rattle.faithful.specs.c_tree.declared.outcome.CValue.TheVariants as value
use Rattle.faithful.specs.c_tree.Access.{ToNumber, ToByte}
use Rattle.faithful.specs.c_tree.Objects.{Object, plain, fetched}
use Rattle.faithful.specs.c_tree.Linking as linking
use Rattle.faithful.specs.c_tree.TransferOutput.{made}
use Rattle.faithful.specs.c_tree.World as c
use Rattle.faithful.specs.c_tree.Meaning.{Outcome, outcome, Running, Ended, Meaningless}
use Rattle.faithful.specs.c_tree.Steps.{sorts}
use Rattle.faithful.specs.StorageImage.{block_of, object_for, takes_part, cell_of, function_name}
use Rattle.faithful.specs.FrameImage.{HasLength, HasNumber, frame_object, value_in}
use Rattle.faithful.specs.SameTransfer.{taken_so_far, last_read}
use Rattle.faithful.specs.SameState.{Same, without_wrappers}

-- ## Both states

abbrev pub OfSame : (List ProgramUnit → Setting → List CFile → RunState → State Ending sorts → Type 0) → Type 0
OfSame P =
    (units : List ProgramUnit) (setting : Setting) (texts : List CFile) (one : RunState) (other : State Ending sorts) → Same units setting texts one other → P units setting texts one other

-- what holds of the two worlds and of the active procedures; a run without a world is the same as none
abbrev pub OfWorlds : (fortran.World → c.World → List (Frame fortran.fortran_sorts) → Type 0) → RunState → State Ending sorts → Type 0
OfWorlds P (Runs k v procedures w) (Runs j x functions z) = P w z (Has k v ∷ procedures)
OfWorlds P (Over e procedures w) (Over f functions z) = P w z procedures
OfWorlds P one other = ⊥

-- ## How they stand, and the units

abbrev pub outcome_of : RunState → Outcome
outcome_of (Runs k v procedures w) = Running
outcome_of (Over e procedures w) = Ended e
outcome_of (Broken act ks) = Meaningless

abbrev pub OutcomesAreEqual : Type 0
OutcomesAreEqual = OfSame (λ units setting texts one other. outcome other ≡ outcome_of one)

abbrev pub UnitsAreEqual : Type 0
UnitsAreEqual = OfSame (λ units setting texts one other. OfWorlds (λ w z procedures. w.units ≡ z.units) one other)

-- ## The active functions

abbrev pub active_procedures : RunState → List ℕ
active_procedures (Runs k v procedures w) = k ∷ numbers procedures
active_procedures (Over e procedures w) = numbers procedures
active_procedures (Broken act ks) = ks

abbrev pub active_functions : State Ending sorts → List ℕ
active_functions (Runs j x functions z) = j ∷ numbers functions
active_functions (Over e functions z) = numbers functions
active_functions (Broken fault ks) = ks

-- the names of the functions, wrappers left out, are those that the active procedures have in C, in their order
abbrev pub FunctionsAreThoseOfProcedures : Type 0
FunctionsAreThoseOfProcedures = OfSame (λ units setting texts one other.
    map (λ k. option_map function_name (slice_get units k)) (active_procedures one)
    ≡ map (λ j. option_map (λ f. f.name) (slice_get (linking.all_functions texts) j)) (without_wrappers texts (active_functions other)))

-- ## The transfers

abbrev pub is_output : Direction → Bool
is_output Output = true
is_output Input = false

abbrev pub is_output_in_c : c.Direction → Bool
is_output_in_c c.Output = true
is_output_in_c c.Input = false

abbrev pub is_listed : Layout → Bool
is_listed Listed = true
is_listed _ = false

abbrev pub is_listed_in_c : c.Layout → Bool
is_listed_in_c c.Listed = true
is_listed_in_c (c.Formatted format) = false

-- one kind, one unit or an internal file of one shape, one format by what it gives
pub record SameKind (one : fortran.Transfer) (other : c.Transfer) : Type 0 where
  pub direction : is_output_in_c other.direction ≡ is_output one.direction
  pub listed : is_listed_in_c other.layout ≡ is_listed one.layout
  pub format : (given : Format) → other.layout ≡ c.Formatted given → given ≡ one.format
  pub unit : (number : ℤ) → one.medium ≡ fortran.External number → other.medium ≡ c.Unit number
  pub file : (place : Spot) → one.medium ≡ fortran.Internal place → (file : c.InternalFile) × (other.medium ≡ c.Internal file)
      × (file.offset ≡ place.first) × (file.size ≡ place.width) × (file.count ≡ record_count place) × (file.position ≡ one.written)

-- an output has the same values so far and has written as many records
pub record SameOutput (one : fortran.Transfer) (other : c.Transfer) : Type 0 where
  pub values : other.values ≡ one.values
  pub written : other.written ≡ one.written

-- a list-directed input has the same values so far, and stands at the same place of the same record
pub record SameListedInput (one : fortran.Transfer) (other : c.Transfer) : Type 0 where
  pub values : other.received ≡ one.taken
  pub line : last_read one.lines ≡ Some other.line
  pub place : other.place ≡ one.place
  pub slashed : other.slashed ≡ one.slashed

-- a formatted input has the same values so far and the same edits left, reads the same record, stands at the same column and reads blanks alike
pub record SameFormattedInput (one : fortran.Transfer) (other : c.Transfer) : Type 0 where
  pub values : other.received ≡ one.taken
  pub left : other.course.left ≡ (edits_for one.format (length one.wants)).left
  pub line : other.course.state.line ≡ (taken_so_far one).line
  pub before : other.course.state.before ≡ (taken_so_far one).before
  pub zeros : other.course.state.zeros ≡ (taken_so_far one).zeros
  pub goes_on : other.course.state.halted ≡ None

pub record SameTransfers (one : fortran.Transfer) (other : c.Transfer) : Type 0 where
  pub kind : SameKind one other
  pub output : one.direction ≡ Output → SameOutput one other
  -- the records that the values so far make, and those that they make once the output is closed
  pub making : one.direction ≡ Output → (closed : Bool) → (made other closed).records ≡ (made_by one.layout one closed).complete
  pub listed_input : one.direction ≡ Input → is_listed one.layout ≡ true → SameListedInput one other
  pub formatted_input : one.direction ≡ Input → is_listed one.layout ≡ false → SameFormattedInput one other

abbrev pub TransfersMatch : Option fortran.Transfer → Option c.Transfer → Type 0
TransfersMatch None None = Unit {0}
TransfersMatch (Some one) (Some other) = SameTransfers one other
TransfersMatch one other = ⊥

abbrev pub TransfersAgree : Type 0
TransfersAgree = OfSame (λ units setting texts one other. OfWorlds (λ w z procedures. TransfersMatch w.transfer z.transfer) one other)

-- ## What stands in objects

-- the four parts of a value stand on four units of a sequence, from a multiple of four on
pub record PartsStand (store : Store) (sequence first : ℕ) (whole : Whole) : Type 0 where
  pub aligned : first % 4 ≡ 0
  pub parts : (i : ℕ) → i < 4 → cell_of (slice_get store sequence) (first + i) ≡ Some (Part whole i)

abbrev pub ReadsNumber : List Object → ℕ → ℕ → ℤ → Type 0
ReadsNumber objects object first number =
    fetched objects (record { at = value.Pointer object first; access = ToNumber }) ≡ Ok (plain (value.Number number))

-- what the store holds in a sequence is read in an object: numbers, truths, labels and characters
pub record ValuesAreRead (store : Store) (objects : List Object) (sequence object : ℕ) : Type 0 where
  pub integers : (first : ℕ) (z : ℤ) → in_range z ≡ true → PartsStand store sequence first (Number z) → ReadsNumber objects object first z
  pub truths : (first : ℕ) (b : Bool) → PartsStand store sequence first (Truth b) → ReadsNumber objects object first (if b then pos 1 else pos 0)
  pub labels : (first number : ℕ) (owner : List ℕ) → in_range (pos number) ≡ true → PartsStand store sequence first (Label owner number)
      → ReadsNumber objects object first (pos number)
  pub characters : (place character : ℕ) → cell_of (slice_get store sequence) place ≡ Some (Chr character)
      → fetched objects (record { at = value.Pointer object place; access = ToByte }) ≡ Ok (plain (value.Number (pos character)))

-- every stored name that takes part in a run stands in its object
abbrev pub NamesAreRead : Type 0
NamesAreRead = OfSame (λ units setting texts one other. OfWorlds (λ w z procedures.
    (k : ℕ) (unit : ProgramUnit) (member : Member) (home : Home) → HasUnit units k unit → IsIn member unit.stored → unit_home setting k unit member.name ≡ Some home
    → takes_part unit.kind (block_of units setting home.sequence) ≡ true
    → (object : ℕ) × (object_for units setting texts k unit member.name home ≡ Some object) × ValuesAreRead w.store z.objects home.sequence object) one other)

-- ## What belongs to the active procedures

-- a parameter points at a place whose sequence is read in the object
abbrev pub PointsToPlace : Store → List Object → Option ℕ → Spot → Type 0
PointsToPlace store objects parameter spot =
    (object : ℕ) × (value_in objects parameter ≡ Some (value.Pointer object spot.first)) × ValuesAreRead store objects spot.sequence object

-- the procedure has its function, and what its dummies and its result are stands in the function's frame
pub record ProcedureIsRead (units : List ProgramUnit) (texts : List CFile) (store : Store) (objects : List Object) (k : ℕ) (view : fortran.View) : Type 0 where
  pub unit : ProgramUnit
  pub is : HasUnit units k unit
  pub function : ℕ
  pub places : (x : List ℕ) (spot : Spot) → IsIn (Named x) view.frame.called.formals → view.frame.bound x ≡ Some (IsSpot spot)
      → PointsToPlace store objects (frame_object texts function (variable_name x)) spot
  pub procedures : (x name : List ℕ) → IsIn (Named x) view.frame.called.formals → view.frame.bound x ≡ Some (IsProc name)
      → (number : ℕ) × (value_in objects (frame_object texts function (variable_name x)) ≡ Some (value.Function number))
      × (option_map (λ f. f.name) (slice_get (linking.all_functions texts) number) ≡ Some (external_name name))
  pub lengths : (x : List ℕ) (n : ℕ) → IsIn (Named x) view.frame.called.formals → HasLength (unit.attribute x) → view.frame.lengths x ≡ Some n
      → HasNumber objects (frame_object texts function (made_name (LengthOf (variable_name x)))) n
  pub text_result : (spot : Spot) → view.frame.result ≡ Some spot → spot.basic ≡ Character
      → PointsToPlace store objects (frame_object texts function (made_name FunctionResult)) spot
      × HasNumber objects (frame_object texts function (made_name ResultLength)) spot.width
  pub integer_result : (spot : Spot) → view.frame.result ≡ Some spot → spot.basic ≡ Integer
      → (object : ℕ) × (frame_object texts function (made_name FunctionResult) ≡ Some object) × ValuesAreRead store objects spot.sequence object
  pub logical_result : (spot : Spot) → view.frame.result ≡ Some spot → spot.basic ≡ Logical
      → (object : ℕ) × (frame_object texts function (made_name FunctionResult) ≡ Some object) × ValuesAreRead store objects spot.sequence object

abbrev pub ProceduresAreRead : Type 0
ProceduresAreRead = OfSame (λ units setting texts one other. OfWorlds (λ w z procedures.
    (k : ℕ) (view : fortran.View) → IsIn (Has k view) procedures → ProcedureIsRead units texts w.store z.objects k view) one other)
