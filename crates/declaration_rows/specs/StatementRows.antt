-- Which rows of the table of refusals a statement breaks, judged from its tree, given what is known of the names and of the
-- labels of its unit: labels (F27), terminal statements of DO (F29), operands (F31, F32), targets (F33), formats (F44), callees (F22),
-- guarded definitions (F40), and statements that no text spells (F11).
-- ANSI X3.9-1978, sections 10 (assignments), 11 (control), 12 (transfers), 13.1 (formats) and 15.6 (CALL).
use Rattle.std.specs.Prelude.{ℕ, Bool, true, false, ◌||◌, List, [], ◌∷◌, ◌++◌, Option, Some, None, if◌then◌else◌}
use Rattle.fortran_text.specs.f_tree.declared.names.Basic.{Basic}
use Rattle.fortran_text.specs.f_tree.declared.names.Basic.TheVariants.{Integer, Logical, Character, Untyped}
use Rattle.fortran_text.specs.f_tree.declared.refusals.Kind.{Kind}
use Rattle.fortran_text.specs.f_tree.declared.refusals.Kind.TheVariants.{SyntaxError, ConflictingAttributes, LabelMissingOrTwice, BadDoNest, OperandTypes, NumberOfSubscripts, NotAssignable, BadStatementFunction, BadFormat}
use Rattle.fortran_text.specs.f_tree.declared.expressions.Expr.{Expr}
use Rattle.fortran_text.specs.f_tree.declared.statements.Body.{Body}
use Rattle.fortran_text.specs.f_tree.declared.statements.Body.TheOpen as body
use Rattle.fortran_text.specs.f_tree.declared.statements.ListItem.{ListItem}
use Rattle.fortran_text.specs.f_tree.declared.statements.ListItem.TheOpen as item
use Rattle.fortran_text.specs.f_tree.declared.statements.LoopControl.{LoopControl}
use Rattle.fortran_text.specs.f_tree.declared.statements.Control.{Control}
use Rattle.fortran_text.specs.f_tree.declared.statements.ControlValue.{ControlValue}
use Rattle.fortran_text.specs.f_tree.declared.statements.ControlValue.TheVariants as value
use Rattle.fortran_text.specs.f_tree.declared.statements.ControlWord.{ControlWord}
use Rattle.fortran_text.specs.f_tree.declared.statements.ControlWord.TheVariants as word
use Rattle.fortran_text.specs.f_tree.declared.statements.Direction.{Direction}
use Rattle.fortran_text.specs.f_tree.declared.statements.Direction.TheVariants as way
use Rattle.fortran_text.specs.f_tree.Folds.{fold_item, fold_body}
use Rattle.fortran_text.specs.f_tree.Values.{Bytes}
use Rattle.fortran_text.specs.f_tree.Association.{same_basic}
use Rattle.fortran_text.specs.f_tree.Uses.{heading_of}
use Rattle.fortran_text.specs.f_tree.Attributes.{has_function}
use Rattle.fortran_text.specs.f_tree.Lines.{is_statement_function}
use Rattle.fortran_text.specs.f_tree.WellTyped.{is_callee}
use Rattle.declaration_rows.specs.Judgement.{What, AValue, APlace, AnArray, AFunctionName, AnExit, NoOperand, Judged, Known, wants_one, unless, wants, name_judged, judge}

-- what is known where a statement stands
pub record Site : Type 0 where
  pub known : Known
  -- may a branch go to a statement with this label (11)
  pub branches : ℕ → Bool
  -- has a FORMAT statement this label (13.1)
  pub formats : ℕ → Bool
  -- ends this label, or an END DO where none is written, a DO that stands here (11.10)
  pub ends_loop : Option ℕ → Bool

-- LABELS
unfoldable pub branch : Site → ℕ → List Kind
branch site label = unless (site.branches label) LabelMissingOrTwice

unfoldable pub all_branches : Site → List ℕ → List Kind
all_branches site [] = []
all_branches site (label ∷ labels) = branch site label ++ all_branches site labels

-- TARGETS. A whole array is none (F32), and neither is what is no variable, element or substring (F33)
unfoldable pub settable : What → List Kind
settable APlace = []
settable (AnArray sized) = NumberOfSubscripts ∷ []
settable NoOperand = []
settable _ = NotAssignable ∷ []

-- the type of what has one
unfoldable pub typed_as : What → Basic → Basic → List Kind
typed_as AValue own basic = unless (same_basic own basic) OperandTypes
typed_as APlace own basic = unless (same_basic own basic) OperandTypes
typed_as (AnArray sized) own basic = unless (same_basic own basic) OperandTypes
typed_as _ own basic = []

unfoldable pub target_rows : Basic → Judged → List Kind
target_rows basic j = j.faults ++ (settable j.what ++ typed_as j.what j.basic basic)

unfoldable pub value_rows : Basic → Judged → List Kind
value_rows basic j = j.faults ++ wants basic j

unfoldable pub assigned_rows : Judged → Judged → List Kind
assigned_rows target j = target.faults ++ (settable target.what ++ (j.faults ++ (wants_one j.what ++ typed_as target.what j.basic target.basic)))

-- DO, of a statement and of a list: an integer variable, and integers (11.10)
unfoldable pub judged_name : Site → Bytes → Judged
judged_name site x = name_judged site.known x (site.known.attribute x)

unfoldable pub step_rows : Site → Option Expr → List Kind
step_rows site None = []
step_rows site (Some e) = value_rows Integer (judge site.known e)

unfoldable pub loop_rows : Site → LoopControl → List Kind
loop_rows site c =
    target_rows Integer (judged_name site c.variable) ++
    (value_rows Integer (judge site.known c.first) ++ (value_rows Integer (judge site.known c.limit) ++ step_rows site c.step))

-- LISTS (12.8.2). An array without subscripts is all its elements, if its size is known (F32)
unfoldable pub is_typed : Basic → Bool
is_typed Untyped = false
is_typed _ = true

unfoldable pub read_one : What → List Kind
read_one APlace = []
read_one (AnArray sized) = unless sized NumberOfSubscripts
read_one NoOperand = []
read_one _ = NotAssignable ∷ []

unfoldable pub written_one : What → Basic → List Kind
written_one AValue basic = unless (is_typed basic) OperandTypes
written_one APlace basic = []
written_one (AnArray sized) basic = unless sized NumberOfSubscripts
written_one _ basic = OperandTypes ∷ []

unfoldable pub item_rows : Direction → Judged → List Kind
item_rows way.Read j = j.faults ++ read_one j.what
item_rows way.Write j = j.faults ++ written_one j.what j.basic

unfoldable pub joined_rows : List (List Kind) → List Kind
joined_rows [] = []
joined_rows (rows ∷ more) = rows ++ joined_rows more

unfoldable pub layer_listed : Site → Direction → item.ListItem-F (List Kind) → List Kind
layer_listed site way (item.Item e) = item_rows way (judge site.known e)
layer_listed site way (item.Loop rows control) = joined_rows rows ++ loop_rows site control

unfoldable pub listed_rows : Site → Direction → List ListItem → List Kind
listed_rows site way [] = []
listed_rows site way (i ∷ is) = fold_item (layer_listed site way) i ++ listed_rows site way is

-- CONTROL WORDS (12.8.1, 12.10). A text: one value, or an array whose size is known (F32)
unfoldable pub text_one : What → List Kind
text_one AValue = []
text_one APlace = []
text_one (AnArray sized) = unless sized NumberOfSubscripts
text_one _ = OperandTypes ∷ []

-- a text of type CHARACTER; the row says which of another type
unfoldable pub text_rows : Kind → Judged → List Kind
text_rows kind j = j.faults ++ (text_one j.what ++ unless (same_basic j.basic Character) kind)

-- an internal file is a place of type CHARACTER, a unit is else a number
unfoldable pub file_or_number : What → Basic → List Kind
file_or_number APlace Character = []
file_or_number (AnArray sized) Character = unless sized NumberOfSubscripts
file_or_number w basic = wants_one w ++ unless (same_basic basic Integer) OperandTypes

-- auxiliary statements speak of no internal file
unfoldable pub unit_rows : Bool → Judged → List Kind
unit_rows true j = j.faults ++ file_or_number j.what j.basic
unit_rows false j = value_rows Integer j

unfoldable pub control_rows : Site → Bool → ControlWord → ControlValue → List Kind
control_rows site files word.Unit value.Star = []
control_rows site files word.Unit (value.Value e) = unit_rows files (judge site.known e)
control_rows site files word.Format value.Star = []
control_rows site files word.Format (value.Label l) = unless (site.formats l) LabelMissingOrTwice
control_rows site files word.Format (value.Value e) = text_rows BadFormat (judge site.known e)
control_rows site files word.Status (value.Value e) = target_rows Integer (judge site.known e)
control_rows site files word.OnError (value.Label l) = branch site l
control_rows site files word.OnEnd (value.Label l) = branch site l
control_rows site files word.File (value.Value e) = text_rows OperandTypes (judge site.known e)
control_rows site files word.FileStatus (value.Value e) = value_rows Character (judge site.known e)
control_rows site files word.Access (value.Value e) = value_rows Character (judge site.known e)
control_rows site files word.Form (value.Value e) = value_rows Character (judge site.known e)
control_rows site files word.Blank (value.Value e) = value_rows Character (judge site.known e)
control_rows site files _ _ = SyntaxError ∷ []

unfoldable pub controls_rows : Site → Bool → List Control → List Kind
controls_rows site files [] = []
controls_rows site files (c ∷ cs) = control_rows site files c.word c.value ++ controls_rows site files cs

unfoldable pub is_unit_word : ControlWord → Bool
is_unit_word word.Unit = true
is_unit_word _ = false

unfoldable pub is_format_word : ControlWord → Bool
is_format_word word.Format = true
is_format_word _ = false

unfoldable pub any_word : (ControlWord → Bool) → List Control → Bool
any_word test [] = false
any_word test (c ∷ cs) = test c.word || any_word test cs

-- CALL: labels of statements, and what a function may have (15.9)
unfoldable pub call_passed : Site → What → List Kind
call_passed site AFunctionName = OperandTypes ∷ []
call_passed site (AnExit label) = branch site label
call_passed site _ = []

unfoldable pub arguments_rows : Site → List Expr → List Kind
arguments_rows site [] = []
arguments_rows site (e ∷ es) = ((judge site.known e).faults ++ call_passed site (judge site.known e).what) ++ arguments_rows site es

-- STATEMENTS. The rows that a statement breaks, and those that it breaks besides as the statement of a logical IF
pub record Broken : Type 0 where
  pub rows : List Kind
  pub guarded : List Kind

unfoldable pub breaks : List Kind → Broken
breaks rows = record { rows = rows; guarded = [] }

-- what is no statement of a logical IF (11.5)
unfoldable pub breaks_alone : List Kind → Broken
breaks_alone rows = record { rows = rows; guarded = SyntaxError ∷ [] }

-- the definition of a statement function is judged with the names
unfoldable pub assign_broken : Site → Expr → Expr → Broken
assign_broken site target e =
    if is_statement_function site.known.attribute (heading_of target).applied then record { rows = []; guarded = BadStatementFunction ∷ [] }
    else breaks (assigned_rows (judge site.known target) (judge site.known e))

unfoldable pub return_rows : Site → Option Expr → List Kind
return_rows site None = []
return_rows site (Some e) = value_rows Integer (judge site.known e)

-- INTRINSIC of what is no intrinsic function (8.8, 15.10)
unfoldable pub intrinsic_rows : List Bytes → List Kind
intrinsic_rows [] = []
intrinsic_rows (x ∷ xs) = unless (has_function x) ConflictingAttributes ++ intrinsic_rows xs

unfoldable pub layer_broken : Site → body.Body-F Broken → Broken
layer_broken site (body.Assign target e) = assign_broken site target e
layer_broken site (body.AssignLabel label x) =
    breaks (target_rows Integer (judged_name site x) ++ unless (site.branches label || site.formats label) LabelMissingOrTwice)
layer_broken site (body.Intrinsic xs) = breaks_alone (intrinsic_rows xs)
layer_broken site (body.Goto label) = breaks (branch site label)
layer_broken site (body.GotoList labels e) = breaks (value_rows Integer (judge site.known e) ++ all_branches site labels)
layer_broken site (body.GotoName x labels) = breaks (target_rows Integer (judged_name site x) ++ all_branches site labels)
layer_broken site (body.IfSign e below at above) =
    breaks (value_rows Integer (judge site.known e) ++ (branch site below ++ (branch site at ++ branch site above)))
layer_broken site (body.IfOne e b) = breaks_alone (value_rows Logical (judge site.known e) ++ (b.rows ++ b.guarded))
layer_broken site (body.IfThen e) = breaks_alone (value_rows Logical (judge site.known e))
layer_broken site (body.ElseIf e) = breaks_alone (value_rows Logical (judge site.known e))
layer_broken site (body.Do label control) = breaks_alone (loop_rows site control ++ unless (site.ends_loop label) BadDoNest)
layer_broken site (body.DoWhile label e) = breaks_alone (value_rows Logical (judge site.known e) ++ unless (site.ends_loop label) BadDoNest)
layer_broken site body.Continue = breaks []
layer_broken site (body.Call x es) =
    breaks (unless (is_callee (site.known.attribute x).class) ConflictingAttributes ++ arguments_rows site es)
layer_broken site (body.Return e) = breaks (return_rows site e)
layer_broken site (body.Stop text) = breaks []
layer_broken site (body.Transfer way controls items) =
    breaks (controls_rows site true controls ++ (unless (any_word is_unit_word controls) SyntaxError ++
    (unless (any_word is_format_word controls) SyntaxError ++ listed_rows site way items)))
layer_broken site (body.Auxiliary which controls) =
    breaks (controls_rows site false controls ++ unless (any_word is_unit_word controls) SyntaxError)
layer_broken site _ = breaks_alone []

unfoldable pub broken : Site → Body → Broken
broken site b = fold_body (layer_broken site) b

unfoldable pub statement_rows_opened : Unit {0}
unfolding branch all_branches settable typed_as target_rows value_rows assigned_rows judged_name step_rows loop_rows is_typed read_one written_one item_rows joined_rows layer_listed listed_rows text_one text_rows file_or_number unit_rows control_rows controls_rows is_unit_word is_format_word any_word call_passed arguments_rows breaks breaks_alone assign_broken return_rows intrinsic_rows layer_broken broken
statement_rows_opened = tt
