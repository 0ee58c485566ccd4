-- The translation, as functions on lists: units are lowered to steps, and steps are emitted as items.
use Rattle.std.specs.Prelude.{ℕ, zero, suc, ◌+◌, ◌*◌, max, Bool, true, false, List, [], ◌∷◌, ◌++◌, length, map, Option, Some, None}
use Rattle.small_instance.specs.declared.source.Place.{Place}
use Rattle.small_instance.specs.declared.source.Place.TheVariants.{Common, First, Second}
use Rattle.small_instance.specs.declared.source.Operand.{Operand}
use Rattle.small_instance.specs.declared.source.Operand.TheVariants as operand
use Rattle.small_instance.specs.declared.source.Argument.{Argument}
use Rattle.small_instance.specs.declared.source.Argument.TheVariants.{ByReference, ByValue}
use Rattle.small_instance.specs.declared.source.Statement.{Statement}
use Rattle.small_instance.specs.declared.source.Statement.TheVariants.{Set, SetCalling, Unless, GoTo, Give, Stop}
use Rattle.small_instance.specs.declared.lowered.Atom.{Atom}
use Rattle.small_instance.specs.declared.lowered.Atom.TheVariants as atom
use Rattle.small_instance.specs.declared.lowered.Passed.{Passed}
use Rattle.small_instance.specs.declared.lowered.Passed.TheVariants.{Cell, Slot}
use Rattle.small_instance.specs.declared.lowered.Step.{Step}
use Rattle.small_instance.specs.declared.lowered.Step.TheVariants as step
use Rattle.small_instance.specs.declared.target.Spot.{Spot}
use Rattle.small_instance.specs.declared.target.Spot.TheVariants.{Block, Local, Through}
use Rattle.small_instance.specs.declared.target.Leaf.{Leaf}
use Rattle.small_instance.specs.declared.target.Leaf.TheVariants.{Literal, Read}
use Rattle.small_instance.specs.declared.target.Item.{Item}
use Rattle.small_instance.specs.declared.target.Item.TheVariants.{Assign, AssignSum, IfZero, IfNot, Goto, Nothing, Invoke, Return, Exit}
use Rattle.small_instance.specs.SourceLanguage.{Text}
use Rattle.small_instance.specs.TargetLanguage.{Code}

-- how many steps a statement becomes
abbrev pub size_of : Statement → ℕ
size_of (Set p l r) = 1
size_of (SetCalling p l unit by_second a b) = 5
size_of (Unless p n) = 1
size_of (GoTo n) = 1
size_of (Give o) = 1
size_of Stop = 1

-- the steps of the first n statements
abbrev pub sizes_before : List Statement → ℕ → ℕ
sizes_before [] n = 0
sizes_before (st ∷ rest) zero = 0
sizes_before (st ∷ rest) (suc n) = size_of st + sizes_before rest n

-- the first step of statement n; step 0 tells the two names apart
abbrev pub position_of : List Statement → ℕ → ℕ
position_of body n = suc (sizes_before body n)

abbrev pub atom_of : Operand → Atom
atom_of (operand.Constant n) = atom.Constant n
atom_of (operand.Of p) = atom.Load p

abbrev pub passed_of : Argument → Passed
passed_of (ByReference p) = Cell p
passed_of (ByValue o) = Slot

-- a value is put into its slot
abbrev pub fill_of : Bool → Argument → Step
fill_of k (ByReference p) = step.Pass
fill_of k (ByValue o) = step.Fill k (atom_of o)

-- the left operand of a call is saved before the arguments are valued
abbrev pub lowered_statement : List Statement → Statement → List Step
lowered_statement body (Set p l r) = step.Put p (atom_of l) (atom_of r) ∷ []
lowered_statement body (SetCalling p l unit by_second a b) =
    step.Keep false (atom_of l) ∷ (fill_of false a ∷ (fill_of true b ∷ (step.Call unit by_second (passed_of a) (passed_of b) ∷ (step.Put p (atom.Temporary false) (atom.Temporary true) ∷ []))))
lowered_statement body (Unless p n) = step.Unless p (position_of body n) ∷ []
lowered_statement body (GoTo n) = step.Jump (position_of body n) ∷ []
lowered_statement body (Give o) = step.Back (atom_of o) ∷ []
lowered_statement body Stop = step.Halt ∷ []

-- the statements that are left, of a whole body
abbrev pub lowered_body : List Statement → List Statement → List Step
lowered_body body [] = []
lowered_body body (st ∷ rest) = lowered_statement body st ++ lowered_body body rest

abbrev pub lowered : Text → List Step
lowered u = step.Select (position_of u.body u.second) ∷ lowered_body u.body u.body

-- A frame has the two addresses, the number of the name, the two temporaries and the two slots.
abbrev pub temporary_cell : Bool → ℕ
temporary_cell false = 3
temporary_cell true = 4

abbrev pub slot_cell : Bool → ℕ
slot_cell false = 5
slot_cell true = 6

abbrev pub spot_of : Place → Spot
spot_of (Common k) = Block k
spot_of First = Through 0
spot_of Second = Through 1

abbrev pub leaf_of : Atom → Leaf
leaf_of (atom.Constant n) = Literal n
leaf_of (atom.Load p) = Read (spot_of p)
leaf_of (atom.Temporary k) = Read (Local (temporary_cell k))

abbrev pub passed_spot : Bool → Passed → Spot
passed_spot k (Cell p) = spot_of p
passed_spot k Slot = Local (slot_cell k)

-- unit i has function 2 i and, under which its second name is called, wrapper 2 i + 1
abbrev pub function_called : ℕ → Bool → ℕ
function_called unit false = 2 * unit
function_called unit true = 2 * unit + 1

-- a direct call says that it is by the first name
abbrev pub number_passed : Bool → Option ℕ
number_passed false = Some 0
number_passed true = None

abbrev pub item_of : Step → Item
item_of (step.Select n) = IfNot (Local 2) n
item_of (step.Keep k a) = Assign (Local (temporary_cell k)) (leaf_of a)
item_of (step.Fill k a) = Assign (Local (slot_cell k)) (leaf_of a)
item_of step.Pass = Nothing
item_of (step.Put p a b) = AssignSum (spot_of p) (leaf_of a) (leaf_of b)
item_of (step.Unless p n) = IfZero (spot_of p) n
item_of (step.Jump n) = Goto n
item_of (step.Call unit by_second a b) = Invoke (temporary_cell true) (function_called unit by_second) (passed_spot false a) (passed_spot true b) (number_passed by_second)
item_of (step.Back a) = Return (leaf_of a)
item_of step.Halt = Exit

-- the objects of the frames of unit i's function and of its wrapper
abbrev pub frame_of : ℕ → ℕ
frame_of i = 2 * i + 1

abbrev pub wrapper_frame : ℕ → ℕ
wrapper_frame i = 2 * i + 2

-- the function of unit i
abbrev pub inner_code : ℕ → List Step → Code
inner_code i l = record { object = frame_of i; cells = 7; selected = true; items = map item_of l }

-- the wrapper of unit i: it passes its parameters on, says that the call is by the second name, and
-- hands the answer on
abbrev pub wrapper_code : ℕ → Code
wrapper_code i = record {
  object = wrapper_frame i;
  cells = 3;
  selected = false;
  items = Invoke 2 (2 * i) (Through 0) (Through 1) (Some 1) ∷ (Return (Read (Local 2)) ∷ []);
}

-- the functions of the units from number i on
abbrev pub translated_from : ℕ → List Text → List Code
translated_from i [] = []
translated_from i (u ∷ us) = inner_code i (lowered u) ∷ (wrapper_code i ∷ translated_from (suc i) us)

abbrev pub translated : List Text → List Code
translated us = translated_from 0 us

-- the step factor: the longest text, and the two items of a wrapper
abbrev pub longest : List Code → ℕ
longest [] = 0
longest (f ∷ fs) = max (length f.items) (longest fs)

abbrev pub factor_of : List Code → ℕ
factor_of fs = longest fs + 2
