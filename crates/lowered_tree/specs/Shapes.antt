-- The values and steps of the lowered language that the data of a translator stand for. ANSI X3.9-1978, sections 6, 10, 11, 12 and 15.
use Rattle.std.specs.Prelude.{List, [], ◌∷◌, map}
use Rattle.f_tree.specs.Values.{Datum, IsInt, IsLog, IsText, IsLabel, Nothing}
use Rattle.f_tree.specs.Terms as term
use Rattle.f_tree.specs.Facts as fact
use Rattle.l_core.specs.Pures as core
use Rattle.l_core.specs.Steps as act
use Rattle.lowered_tree.specs.declared.pures.Literal.{Literal}
use Rattle.lowered_tree.specs.declared.pures.Literal.TheVariants as literal
use Rattle.lowered_tree.specs.declared.pures.Prefix.{Prefix}
use Rattle.lowered_tree.specs.declared.pures.Prefix.TheVariants as prefix
use Rattle.lowered_tree.specs.declared.pures.Operator.{Operator}
use Rattle.lowered_tree.specs.declared.pures.Operator.TheVariants as op
use Rattle.lowered_tree.specs.declared.pures.Function.{Function}
use Rattle.lowered_tree.specs.declared.pures.Function.TheVariants as function
use Rattle.lowered_tree.specs.declared.pures.Wanted.{Wanted}
use Rattle.lowered_tree.specs.declared.pures.Wanted.TheVariants as wanted
use Rattle.lowered_tree.specs.declared.pures.Pure.{Pure, Constant, Temporary, Load', Name, AllOf, ElementOf', FirstOf', Substring', Concatenated', Prefixed', Operated', Applied', Chosen', Row_of-Pure, end_of-Pure, more_of-Pure}
use Rattle.lowered_tree.specs.declared.steps.Direction.{Direction}
use Rattle.lowered_tree.specs.declared.steps.Direction.TheVariants as direction
use Rattle.lowered_tree.specs.declared.steps.Layout.{Layout}
use Rattle.lowered_tree.specs.declared.steps.Layout.TheVariants as layout
use Rattle.lowered_tree.specs.declared.steps.Word.{Word}
use Rattle.lowered_tree.specs.declared.steps.Word.TheVariants as word
use Rattle.lowered_tree.specs.declared.steps.Controls.{Controls}
use Rattle.lowered_tree.specs.declared.steps.AuxiliaryKind.{AuxiliaryKind}
use Rattle.lowered_tree.specs.declared.steps.AuxiliaryKind.TheVariants as kind
use Rattle.lowered_tree.specs.declared.steps.Acting.{Acting}
use Rattle.lowered_tree.specs.declared.steps.Acting.TheVariants as acting
use Rattle.lowered_tree.specs.declared.steps.Callee.{Callee}
use Rattle.lowered_tree.specs.declared.steps.Step.{Step}
use Rattle.lowered_tree.specs.declared.steps.Step.TheVariants as step

abbrev pub datum_of : Literal → Datum
datum_of (literal.Integer z) = IsInt z
datum_of (literal.Logical b) = IsLog b
datum_of (literal.Text cs) = IsText cs
datum_of (literal.Label l) = IsLabel l
datum_of literal.Nothing = Nothing

abbrev pub prefix_of : Prefix → term.Prefix
prefix_of prefix.Negate = term.Negate
prefix_of prefix.Complement = term.Complement

abbrev pub operator_of : Operator → term.Operator
operator_of op.Add = term.Add
operator_of op.Subtract = term.Subtract
operator_of op.Multiply = term.Multiply
operator_of op.Divide = term.Divide
operator_of op.IsLess = term.IsLess
operator_of op.IsLessOrEqual = term.IsLessOrEqual
operator_of op.IsEqual = term.IsEqual
operator_of op.IsNotEqual = term.IsNotEqual
operator_of op.IsGreater = term.IsGreater
operator_of op.IsGreaterOrEqual = term.IsGreaterOrEqual
operator_of op.Both = term.Both
operator_of op.Either = term.Either
operator_of op.Same = term.Same
operator_of op.Different = term.Different

abbrev pub function_of : Function → term.Function
function_of function.Power = term.Power
function_of function.Truncation = term.Truncation
function_of function.Magnitude = term.Magnitude
function_of function.Remainder = term.Remainder
function_of function.SignTransfer = term.SignTransfer
function_of function.PositiveDifference = term.PositiveDifference
function_of function.Largest = term.Largest
function_of function.Smallest = term.Smallest
function_of function.CharacterCode = term.CharacterCode
function_of function.CharacterOfCode = term.CharacterOfCode
function_of function.TextLength = term.TextLength
function_of function.IndexOf = term.IndexOf
function_of function.LexicallyGreaterOrEqual = term.LexicallyGreaterOrEqual
function_of function.LexicallyGreater = term.LexicallyGreater
function_of function.LexicallyLessOrEqual = term.LexicallyLessOrEqual
function_of function.LexicallyLess = term.LexicallyLess
function_of (function.Front n) = term.Front n
function_of (function.Fitted n) = term.Fitted n
function_of function.InclusiveOr = term.InclusiveOr
function_of function.LogicalProduct = term.LogicalProduct
function_of function.ExclusiveOr = term.ExclusiveOr
function_of function.BitComplement = term.BitComplement
function_of function.BitShift = term.BitShift
function_of function.BitTest = term.BitTest
function_of function.BitSet = term.BitSet
function_of function.BitClear = term.BitClear

abbrev pub wanted_of : Wanted → term.Wanted
wanted_of wanted.Subroutine = term.AsSubroutine
wanted_of (wanted.Function basic width) = term.AsFunction basic width

-- a value, and values in a row
unfoldable mutual
  pub pure_of : Pure → core.Pure
  pure_of (Constant d) = core.Constant (datum_of d)
  pure_of (Temporary k) = core.Temporary k
  pure_of (Load' s (more_of-Pure p r)) = core.Load (pure_of p)
  pure_of (Name x) = core.Name x
  pure_of (AllOf x) = core.AllOf x
  pure_of (ElementOf' x s row) = core.ElementOf x (row_of row)
  pure_of (FirstOf' s (more_of-Pure p r)) = core.FirstOf (pure_of p)
  pure_of (Substring' x s (more_of-Pure p r) t (more_of-Pure a q) u (more_of-Pure b o)) = core.Substring x (pure_of p) (pure_of a) (pure_of b)
  pure_of (Concatenated' s row) = core.Concatenated (row_of row)
  pure_of (Prefixed' op s (more_of-Pure p r)) = core.Prefixed (prefix_of op) (pure_of p)
  pure_of (Operated' op s (more_of-Pure p r) t (more_of-Pure q o)) = core.Operated (operator_of op) (pure_of p) (pure_of q)
  pure_of (Applied' function s row) = core.Applied (function_of function) (row_of row)
  pure_of (Chosen' s (more_of-Pure p r) t (more_of-Pure a q) u (more_of-Pure b o)) = core.Chosen (pure_of p) (pure_of a) (pure_of b)

  pub row_of : {m : _} → Row_of-Pure m → core.Pures
  row_of end_of-Pure = core.NoPure
  row_of (more_of-Pure p row) = core.AndPure (pure_of p) (row_of row)

-- values in a list
unfoldable pub pures_of : List Pure → core.Pures
pures_of [] = core.NoPure
pures_of (p ∷ ps) = core.AndPure (pure_of p) (pures_of ps)

abbrev pub direction_of : Direction → fact.Direction
direction_of direction.Input = fact.Input
direction_of direction.Output = fact.Output

abbrev pub layout_of : Layout → fact.Layout
layout_of layout.Listed = fact.Listed
layout_of (layout.Labelled l) = fact.Labelled l
layout_of layout.Computed = fact.Computed
layout_of layout.Unformatted = fact.Unformatted

abbrev pub word_of : Word → fact.Word
word_of word.Unit = fact.UnitWord
word_of word.Format = fact.FormatWord
word_of word.Status = fact.StatusWord
word_of word.File = fact.FileWord
word_of word.FileStatus = fact.FileStatusWord
word_of word.Access = fact.AccessWord
word_of word.Form = fact.FormWord
word_of word.Blank = fact.BlankWord

abbrev pub controls_of : Controls → fact.Controls
controls_of c = record { words = map word_of c.words; on_error = c.on_error; on_end = c.on_end }

abbrev pub kind_of : AuxiliaryKind → fact.AuxiliaryKind
kind_of kind.OpenUnit = fact.OpenUnit
kind_of kind.CloseUnit = fact.CloseUnit
kind_of kind.BackspaceUnit = fact.BackspaceUnit
kind_of kind.EndFileUnit = fact.EndFileUnit
kind_of kind.RewindUnit = fact.RewindUnit

abbrev pub acting_of : Acting → act.Acting
acting_of (acting.Starts way how controls) = act.Starts (direction_of way) (layout_of how) (controls_of controls)
acting_of acting.Takes = act.Takes
acting_of acting.Finishes = act.Finishes
acting_of (acting.Auxiliary which controls) = act.Auxiliary (kind_of which) (controls_of controls)

abbrev pub callee_of : Callee → term.Callee
callee_of c = record { name = c.name; want = wanted_of c.want }

-- a step
abbrev pub step_of : Step → act.Step
step_of (step.Keep k p) = act.Keep k (pure_of p)
step_of (step.Put place p) = act.Put (pure_of place) (pure_of p)
step_of (step.PutText place ps) = act.PutText (pure_of place) (pures_of ps)
step_of (step.PutLabel place l) = act.PutLabel (pure_of place) l
step_of (step.Compute k f ps) = act.Compute k (function_of f) (pures_of ps)
step_of (step.Unless p n) = act.Unless (pure_of p) n
step_of (step.Skip n) = act.Skip n
step_of (step.Again n) = act.Again n
step_of (step.AgainIf p n) = act.AgainIf (pure_of p) n
step_of (step.Jump l) = act.Jump l
step_of (step.Select p count) = act.Select (pure_of p) count
step_of (step.JumpBy p ls) = act.JumpBy (pure_of p) ls
step_of step.Pass = act.Pass
step_of (step.CallFor k callee ps) = act.CallFor k (callee_of callee) (pures_of ps)
step_of (step.CallSub k x ps) = act.CallSub k x (pures_of ps)
step_of (step.Branch k count) = act.Branch k count
step_of (step.Way l) = act.Way l
step_of step.Back = act.Back
step_of (step.BackBy p) = act.BackBy (pure_of p)
step_of (step.Halt text) = act.Halt text
step_of (step.Acts what ps n) = act.Acts (acting_of what) (pures_of ps) n

abbrev pub steps_of : List Step → List act.Step
steps_of steps = map step_of steps

unfoldable pub shapes_opened : Unit {0}
unfolding pure_of row_of pures_of Rattle.lowered_tree.specs.declared.pures.Pure.TheBlock.hidden-the_row-Pure-0 denote.Hole.Carrier.hidden
shapes_opened = tt
