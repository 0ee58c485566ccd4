-- How a statement is judged, with the least row in place of all rows: the same steps as over the lists of rows.
-- ANSI X3.9-1978, sections 10 (assignments), 11 (control), 12 (transfers), 13.1 (formats) and 15.6 (CALL).
use Rattle.std.specs.Prelude.{ℕ, Bool, true, false, ◌||◌, List, [], ◌∷◌, map, Option, Some, None, is_some, if◌then◌else◌}
use Rattle.f_tree.specs.declared.names.Basic.{Basic}
use Rattle.f_tree.specs.declared.names.Basic.TheVariants.{Integer, Logical, Character}
use Rattle.f_tree.specs.declared.names.Class.TheVariants as class
use Rattle.f_tree.specs.declared.refusals.Kind.{Kind}
use Rattle.f_tree.specs.declared.refusals.Kind.TheVariants.{SyntaxError, ConflictingAttributes, LabelMissingOrTwice, BadDoNest, OperandTypes, NumberOfSubscripts, NotAssignable, BadStatementFunction, BadFormat}
use Rattle.f_tree.specs.declared.expressions.Expr.{Expr}
use Rattle.f_tree.specs.declared.statements.Body.{Body}
use Rattle.f_tree.specs.declared.statements.Body.TheOpen as body
use Rattle.f_tree.specs.declared.statements.ListItem.{ListItem}
use Rattle.f_tree.specs.declared.statements.ListItem.TheOpen as item
use Rattle.f_tree.specs.declared.statements.LoopControl.{LoopControl}
use Rattle.f_tree.specs.declared.statements.Control.{Control}
use Rattle.f_tree.specs.declared.statements.ControlValue.{ControlValue}
use Rattle.f_tree.specs.declared.statements.ControlValue.TheVariants as value
use Rattle.f_tree.specs.declared.statements.ControlWord.{ControlWord}
use Rattle.f_tree.specs.declared.statements.ControlWord.TheVariants as word
use Rattle.f_tree.specs.declared.statements.Direction.{Direction}
use Rattle.f_tree.specs.declared.statements.Direction.TheVariants as way
use Rattle.f_tree.specs.Folds.{fold_item, fold_body}
use Rattle.f_tree.specs.Values.{Bytes}
use Rattle.f_tree.specs.Association.{same_basic}
use Rattle.f_tree.specs.Uses.{heading_of}
use Rattle.f_tree.specs.WellTyped.{is_callee}
use Rattle.declaration_rows.specs.StatementRows.{is_typed, is_unit_word, is_format_word, any_word}
use Rattle.refusal_order.specs.Earliest.{least as lesser}
use Rattle.kind_order.specs.Unless.{unless_least}
use Rattle.expression_judge.specs.declared.operand.Operand.{Operand}
use Rattle.expression_judge.specs.declared.operand.Operand.TheVariants as is
use Rattle.expression_judge.specs.declared.operand.Found.{Found}
use Rattle.expression_judge.specs.SeenNames.{fact_in}
use Rattle.expression_judge.specs.Intrinsics.{intrinsic_named}
use Rattle.expression_judge.specs.FoundSteps.{one_wanted, with_wanted, name_judged_by, judged_by}
use Rattle.statement_judge.specs.declared.site.Site.{Site}
use Rattle.statement_judge.specs.declared.site.Broken.{Broken}
use Rattle.statement_judge.specs.StatementSites.{may_branch, is_format}

-- LABELS
unfoldable pub branch_found : Site → ℕ → Option Kind
branch_found site label = unless_least (may_branch site label) LabelMissingOrTwice

-- the rows of a list, behind those that are found already
unfoldable pub branches_onward : Site → Option Kind → List ℕ → Option Kind
branches_onward site fault [] = fault
branches_onward site fault (label ∷ labels) = branches_onward site (lesser fault (branch_found site label)) labels

-- TARGETS
unfoldable pub settable_found : Operand → Option Kind
settable_found is.Place = None
settable_found (is.Array sized) = Some NumberOfSubscripts
settable_found is.Nothing = None
settable_found _ = Some NotAssignable

unfoldable pub typed_found : Operand → Basic → Basic → Option Kind
typed_found is.Value own basic = unless_least (same_basic own basic) OperandTypes
typed_found is.Place own basic = unless_least (same_basic own basic) OperandTypes
typed_found (is.Array sized) own basic = unless_least (same_basic own basic) OperandTypes
typed_found _ own basic = None

unfoldable pub target_found : Basic → Found → Option Kind
target_found basic f = lesser f.fault (lesser (settable_found f.what) (typed_found f.what f.basic basic))

unfoldable pub assigned_found : Found → Found → Option Kind
assigned_found target f =
    lesser target.fault (lesser (settable_found target.what) (lesser f.fault (lesser (one_wanted f.what) (typed_found target.what f.basic target.basic))))

-- DO, of a statement and of a list
unfoldable pub integer_by : Site → Expr → Option Kind
integer_by site e = with_wanted Integer (judged_by site.names.now e)

unfoldable pub condition_by : Site → Expr → Option Kind
condition_by site e = with_wanted Logical (judged_by site.names.now e)

unfoldable pub optional_by : Site → Option Expr → Option Kind
optional_by site None = None
optional_by site (Some e) = integer_by site e

unfoldable pub variable_by : Site → Bytes → Option Kind
variable_by site x = target_found Integer (name_judged_by site.names.now x)

unfoldable pub loop_by : Site → LoopControl → Option Kind
loop_by site c = lesser (variable_by site c.variable) (lesser (integer_by site c.first) (lesser (integer_by site c.limit) (optional_by site c.step)))

-- LISTS
unfoldable pub read_found : Operand → Option Kind
read_found is.Place = None
read_found (is.Array sized) = unless_least sized NumberOfSubscripts
read_found is.Nothing = None
read_found _ = Some NotAssignable

unfoldable pub written_found : Operand → Basic → Option Kind
written_found is.Value basic = unless_least (is_typed basic) OperandTypes
written_found is.Place basic = None
written_found (is.Array sized) basic = unless_least sized NumberOfSubscripts
written_found _ basic = Some OperandTypes

unfoldable pub item_found : Direction → Found → Option Kind
item_found way.Read f = lesser f.fault (read_found f.what)
item_found way.Write f = lesser f.fault (written_found f.what f.basic)

unfoldable pub joined_onward : Option Kind → List (Option Kind) → Option Kind
joined_onward fault [] = fault
joined_onward fault (next ∷ more) = joined_onward (lesser fault next) more

unfoldable pub layer_item : Site → Direction → item.ListItem-F (Option Kind) → Option Kind
layer_item site way (item.Item e) = item_found way (judged_by site.names.now e)
layer_item site way (item.Loop faults control) = lesser (joined_onward None faults) (loop_by site control)

unfoldable pub item_by : Site → Direction → ListItem → Option Kind
item_by site way i = fold_item (layer_item site way) i

unfoldable pub listed_by : Site → Direction → List ListItem → Option Kind
listed_by site way is = joined_onward None (map (item_by site way) is)

-- CONTROL WORDS
unfoldable pub text_one_found : Operand → Option Kind
text_one_found is.Value = None
text_one_found is.Place = None
text_one_found (is.Array sized) = unless_least sized NumberOfSubscripts
text_one_found _ = Some OperandTypes

unfoldable pub text_found : Kind → Found → Option Kind
text_found kind f = lesser f.fault (lesser (text_one_found f.what) (unless_least (same_basic f.basic Character) kind))

unfoldable pub is_text_type : Basic → Bool
is_text_type Character = true
is_text_type _ = false

unfoldable pub number_found : Operand → Basic → Option Kind
number_found what basic = lesser (one_wanted what) (unless_least (same_basic basic Integer) OperandTypes)

unfoldable pub file_found : Operand → Option Kind
file_found is.Place = None
file_found (is.Array sized) = unless_least sized NumberOfSubscripts
file_found what = number_found what Character

unfoldable pub file_or_number_found : Operand → Basic → Option Kind
file_or_number_found what basic = if is_text_type basic then file_found what else number_found what basic

unfoldable pub unit_found : Bool → Found → Option Kind
unit_found files f = if files then lesser f.fault (file_or_number_found f.what f.basic) else with_wanted Integer f

unfoldable pub text_by : Site → Expr → Option Kind
text_by site e = with_wanted Character (judged_by site.names.now e)

-- a control word that has an expression, a label, or `*`
unfoldable pub expression_by : Site → Bool → ControlWord → Expr → Option Kind
expression_by site files word.Unit e = unit_found files (judged_by site.names.now e)
expression_by site files word.Format e = text_found BadFormat (judged_by site.names.now e)
expression_by site files word.Status e = target_found Integer (judged_by site.names.now e)
expression_by site files word.OnError e = Some SyntaxError
expression_by site files word.OnEnd e = Some SyntaxError
expression_by site files word.File e = text_found OperandTypes (judged_by site.names.now e)
expression_by site files word.FileStatus e = text_by site e
expression_by site files word.Access e = text_by site e
expression_by site files word.Form e = text_by site e
expression_by site files word.Blank e = text_by site e

unfoldable pub label_by : Site → ControlWord → ℕ → Option Kind
label_by site word.Format label = unless_least (is_format site label) LabelMissingOrTwice
label_by site word.OnError label = branch_found site label
label_by site word.OnEnd label = branch_found site label
label_by site _ label = Some SyntaxError

unfoldable pub star_by : ControlWord → Option Kind
star_by word.Unit = None
star_by word.Format = None
star_by _ = Some SyntaxError

unfoldable pub control_by : Site → Bool → ControlWord → ControlValue → Option Kind
control_by site files w value.Star = star_by w
control_by site files w (value.Label label) = label_by site w label
control_by site files w (value.Value e) = expression_by site files w e

unfoldable pub controls_onward : Site → Bool → Option Kind → List Control → Option Kind
controls_onward site files fault [] = fault
controls_onward site files fault (c ∷ cs) = controls_onward site files (lesser fault (control_by site files c.word c.value)) cs

unfoldable pub controls_by : Site → Bool → List Control → Option Kind
controls_by site files cs = controls_onward site files None cs

-- CALL
unfoldable pub call_passed_found : Site → Operand → Option Kind
call_passed_found site is.FunctionName = Some OperandTypes
call_passed_found site (is.Exit label) = branch_found site label
call_passed_found site _ = None

unfoldable pub argument_found : Site → Found → Option Kind
argument_found site f = lesser f.fault (call_passed_found site f.what)

unfoldable pub arguments_onward : Site → Option Kind → List Expr → Option Kind
arguments_onward site fault [] = fault
arguments_onward site fault (e ∷ es) = arguments_onward site (lesser fault (argument_found site (judged_by site.names.now e))) es

-- INTRINSIC
unfoldable pub intrinsics_onward : Option Kind → List Bytes → Option Kind
intrinsics_onward fault [] = fault
intrinsics_onward fault (x ∷ xs) = intrinsics_onward (lesser fault (unless_least (is_some (intrinsic_named x)) ConflictingAttributes)) xs

-- STATEMENTS
unfoldable pub breaks_least : Option Kind → Broken
breaks_least rows = record { rows = rows; guarded = None }

unfoldable pub breaks_alone_least : Option Kind → Broken
breaks_alone_least rows = record { rows = rows; guarded = Some SyntaxError }

unfoldable pub defines_by : Site → Option Bytes → Bool
defines_by site None = false
defines_by site (Some x) = elim (fact_in site.names.now x).class [ class.StatementFunction ↦ true | _ ↦ false ]

unfoldable pub assign_by : Site → Expr → Expr → Broken
assign_by site target e =
    if defines_by site (heading_of target).applied then record { rows = None; guarded = Some BadStatementFunction }
    else breaks_least (assigned_found (judged_by site.names.now target) (judged_by site.names.now e))

unfoldable pub assign_label_by : Site → ℕ → Bytes → Option Kind
assign_label_by site label x = lesser (variable_by site x) (unless_least (may_branch site label || is_format site label) LabelMissingOrTwice)

unfoldable pub goto_list_by : Site → List ℕ → Expr → Option Kind
goto_list_by site labels e = lesser (integer_by site e) (branches_onward site None labels)

unfoldable pub goto_name_by : Site → Bytes → List ℕ → Option Kind
goto_name_by site x labels = lesser (variable_by site x) (branches_onward site None labels)

unfoldable pub if_sign_by : Site → Expr → ℕ → ℕ → ℕ → Option Kind
if_sign_by site e below at above =
    lesser (integer_by site e) (lesser (branch_found site below) (lesser (branch_found site at) (branch_found site above)))

unfoldable pub if_one_by : Site → Expr → Broken → Option Kind
if_one_by site e b = lesser (condition_by site e) (lesser b.rows b.guarded)

unfoldable pub ends_by : Site → Option Kind
ends_by site = unless_least site.ends_loop BadDoNest

unfoldable pub call_by : Site → Bytes → List Expr → Option Kind
call_by site x es =
    lesser (unless_least (is_callee (fact_in site.names.now x).class) ConflictingAttributes) (arguments_onward site None es)

unfoldable pub transfer_by : Site → Direction → List Control → List ListItem → Option Kind
transfer_by site way controls items =
    lesser (controls_by site true controls) (lesser (unless_least (any_word is_unit_word controls) SyntaxError)
    (lesser (unless_least (any_word is_format_word controls) SyntaxError) (listed_by site way items)))

unfoldable pub auxiliary_by : Site → List Control → Option Kind
auxiliary_by site controls = lesser (controls_by site false controls) (unless_least (any_word is_unit_word controls) SyntaxError)

unfoldable pub layer_broken_by : Site → body.Body-F Broken → Broken
layer_broken_by site (body.Assign target e) = assign_by site target e
layer_broken_by site (body.AssignLabel label x) = breaks_least (assign_label_by site label x)
layer_broken_by site (body.Intrinsic xs) = breaks_alone_least (intrinsics_onward None xs)
layer_broken_by site (body.Goto label) = breaks_least (branch_found site label)
layer_broken_by site (body.GotoList labels e) = breaks_least (goto_list_by site labels e)
layer_broken_by site (body.GotoName x labels) = breaks_least (goto_name_by site x labels)
layer_broken_by site (body.IfSign e below at above) = breaks_least (if_sign_by site e below at above)
layer_broken_by site (body.IfOne e b) = breaks_alone_least (if_one_by site e b)
layer_broken_by site (body.IfThen e) = breaks_alone_least (condition_by site e)
layer_broken_by site (body.ElseIf e) = breaks_alone_least (condition_by site e)
layer_broken_by site (body.Do label control) = breaks_alone_least (lesser (loop_by site control) (ends_by site))
layer_broken_by site (body.DoWhile label e) = breaks_alone_least (lesser (condition_by site e) (ends_by site))
layer_broken_by site body.Continue = breaks_least None
layer_broken_by site (body.Call x es) = breaks_least (call_by site x es)
layer_broken_by site (body.Return e) = breaks_least (optional_by site e)
layer_broken_by site (body.Stop text) = breaks_least None
layer_broken_by site (body.Transfer way controls items) = breaks_least (transfer_by site way controls items)
layer_broken_by site (body.Auxiliary which controls) = breaks_least (auxiliary_by site controls)
layer_broken_by site _ = breaks_alone_least None

unfoldable pub broken_by : Site → Body → Broken
broken_by site b = fold_body (layer_broken_by site) b
