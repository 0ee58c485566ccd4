-- What is found of a statement is what it breaks, with the least of the rows: step by step, and of the whole statement.
use Rattle.std.specs.Prelude.{◌≡◌, ℕ, Bool, true, false, ◌||◌, List, [], ◌∷◌, ◌++◌, map, Option, Some, None, is_some, option_map, if◌then◌else◌}
use Rattle.std.proofs.Common.{refl, sym, ap, ◌∙◌, append_assoc}
use Rattle.f_tree.specs.declared.names.Basic.{Basic}
use Rattle.f_tree.specs.declared.names.Basic.TheVariants.{Integer, Logical, Character, Untyped}
use Rattle.f_tree.specs.declared.names.Class.{Class}
use Rattle.f_tree.specs.declared.names.Class.TheVariants as class
use Rattle.f_tree.specs.declared.refusals.Kind.{Kind}
use Rattle.f_tree.specs.declared.refusals.Kind.TheVariants.{SyntaxError, ConflictingAttributes, LabelMissingOrTwice, BadDoNest, OperandTypes, NumberOfSubscripts, NotAssignable, BadStatementFunction, BadFormat}
use Rattle.f_tree.specs.declared.expressions.Expr.{Expr}
use Rattle.f_tree.specs.declared.statements.Body.{Body, Header, Declare, Dimension, Common, Equivalence, Implicit, ImplicitNone, Parameter, External, Intrinsic, Save, Init, Format, Entry, Assign, AssignLabel, Goto, GotoList, GotoName, IfSign, IfOne', IfThen, ElseIf, Else, EndIf, Do, DoWhile, EndDo, Continue, Call, Return, Stop, Transfer, Auxiliary, Include, End, more_of-Body}
use Rattle.f_tree.specs.declared.statements.ListItem.{ListItem, Item, Loop', Row_of-ListItem, end_of-ListItem, more_of-ListItem}
use Rattle.f_tree.specs.declared.statements.LoopControl.{LoopControl}
use Rattle.f_tree.specs.declared.statements.Control.{Control}
use Rattle.f_tree.specs.declared.statements.ControlValue.{ControlValue}
use Rattle.f_tree.specs.declared.statements.ControlValue.TheVariants as value
use Rattle.f_tree.specs.declared.statements.ControlWord.{ControlWord}
use Rattle.f_tree.specs.declared.statements.ControlWord.TheVariants as word
use Rattle.f_tree.specs.declared.statements.Direction.{Direction}
use Rattle.f_tree.specs.declared.statements.Direction.TheVariants as way
use Rattle.f_tree.specs.Folds.{fold_item, fold_items, fold_body}
use Rattle.f_tree.specs.Values.{Bytes}
use Rattle.f_tree.specs.Terms.{Function}
use Rattle.f_tree.specs.Association.{same_basic}
use Rattle.f_tree.specs.Reading.{function_named}
use Rattle.f_tree.specs.Uses.{heading_of}
use Rattle.f_tree.specs.Attributes.{has_function}
use Rattle.f_tree.specs.Lines.{is_statement_function}
use Rattle.f_tree.specs.WellTyped.{is_callee}
use Rattle.declaration_rows.specs.Judgement.{What, AValue, APlace, AnArray, AProcedureName, AFunctionName, AnExit, NoOperand, Judged, wants_one, unless, wants, name_judged, judge}
use Rattle.declaration_rows.specs.StatementRows.{branch, all_branches, settable, typed_as, target_rows, value_rows, assigned_rows, judged_name, step_rows, loop_rows, is_typed, read_one, written_one, item_rows, joined_rows, layer_listed, listed_rows, text_one, text_rows, file_or_number, unit_rows, control_rows, controls_rows, is_unit_word, is_format_word, any_word, call_passed, arguments_rows, breaks, breaks_alone, assign_broken, return_rows, intrinsic_rows, layer_broken, broken}
use Rattle.declaration_rows.specs.StatementRows as rows
use Rattle.refusal_order.specs.Earliest.{less, least as lesser, least_of as least}
use Rattle.kind_order.specs.Unless.{unless_least}
use Rattle.kind_order.proofs.LeastLemmas.{lesser-none, none-lesser, lesser-joined, least-none, least-one, least-more, least-append, least-unless, two-least, three-least}
use Rattle.expression_judge.specs.declared.operand.Operand.{Operand}
use Rattle.expression_judge.specs.declared.operand.Operand.TheVariants as is
use Rattle.expression_judge.specs.declared.operand.Found.{Found}
use Rattle.expression_judge.specs.declared.intrinsics.Intrinsic.{Intrinsic as IntrinsicFunction}
use Rattle.expression_judge.specs.Operands.{operand_of, found}
use Rattle.expression_judge.specs.SeenNames.{fact_in, IsFact, AreSeen}
use Rattle.expression_judge.specs.Intrinsics.{intrinsic_of, intrinsic_named}
use Rattle.expression_judge.specs.FoundSteps.{one_wanted, with_wanted, name_judged_by, judged_by}
use Rattle.expression_judge.proofs.FoundLaws.{one-wanted, with-wanted, fault-found, name-found, intrinsic-named, expression-found}
use Rattle.statement_judge.specs.declared.site.Site.{Site}
use Rattle.statement_judge.specs.declared.site.Broken.{Broken}
use Rattle.statement_judge.specs.StatementSites.{may_branch, is_format, layer_loop, loop_in, IsSite, EndsLoop}
use Rattle.statement_judge.specs.StatementSteps.{branch_found, branches_onward, settable_found, typed_found, target_found, assigned_found, integer_by, condition_by, optional_by, variable_by, loop_by, read_found, written_found, item_found, joined_onward, layer_item, item_by, listed_by, text_one_found, text_found, is_text_type, number_found, file_found, file_or_number_found, unit_found, text_by, expression_by, label_by, star_by, control_by, controls_onward, controls_by, call_passed_found, argument_found, arguments_onward, intrinsics_onward, breaks_least, breaks_alone_least, defines_by, assign_by, assign_label_by, goto_list_by, goto_name_by, if_sign_by, if_one_by, ends_by, call_by, transfer_by, auxiliary_by, layer_broken_by, broken_by}

settable-found : (w : What) → least (settable w) ≡ settable_found (operand_of w)
unfolding settable settable_found operand_of least less
settable-found AValue = refl
settable-found APlace = refl
settable-found (AnArray sized) = refl
settable-found AProcedureName = refl
settable-found AFunctionName = refl
settable-found (AnExit label) = refl
settable-found NoOperand = refl

typed-found : (w : What) (own basic : Basic) → least (typed_as w own basic) ≡ typed_found (operand_of w) own basic
unfolding typed_as typed_found operand_of least less
typed-found AValue own basic = least-unless (same_basic own basic) OperandTypes
typed-found APlace own basic = least-unless (same_basic own basic) OperandTypes
typed-found (AnArray sized) own basic = least-unless (same_basic own basic) OperandTypes
typed-found AProcedureName own basic = refl
typed-found AFunctionName own basic = refl
typed-found (AnExit label) own basic = refl
typed-found NoOperand own basic = refl

target-found : (basic : Basic) (j : Judged) → least (target_rows basic j) ≡ target_found basic (found j)
unfolding target_rows target_found found
target-found basic j =
    three-least j.faults (settable j.what) (typed_as j.what j.basic basic) (least j.faults) (settable_found (operand_of j.what))
    (typed_found (operand_of j.what) j.basic basic) refl (settable-found j.what) (typed-found j.what j.basic basic)

value-found : (basic : Basic) (j : Judged) → least (value_rows basic j) ≡ with_wanted basic (found j)
unfolding value_rows
value-found basic j = with-wanted basic j

assigned-found : (target j : Judged) → least (assigned_rows target j) ≡ assigned_found (found target) (found j)
unfolding assigned_rows assigned_found found
assigned-found target j =
    three-least target.faults (settable target.what) (j.faults ++ (wants_one j.what ++ typed_as target.what j.basic target.basic))
    (least target.faults) (settable_found (operand_of target.what))
    (lesser (least j.faults) (lesser (one_wanted (operand_of j.what)) (typed_found (operand_of target.what) j.basic target.basic)))
    refl (settable-found target.what)
    (three-least j.faults (wants_one j.what) (typed_as target.what j.basic target.basic) (least j.faults) (one_wanted (operand_of j.what))
    (typed_found (operand_of target.what) j.basic target.basic) refl (one-wanted j.what) (typed-found target.what j.basic target.basic))

-- LISTS
read-found : (w : What) → least (read_one w) ≡ read_found (operand_of w)
unfolding read_one read_found operand_of least less
read-found AValue = refl
read-found APlace = refl
read-found (AnArray sized) = least-unless sized NumberOfSubscripts
read-found AProcedureName = refl
read-found AFunctionName = refl
read-found (AnExit label) = refl
read-found NoOperand = refl

written-found : (w : What) (basic : Basic) → least (written_one w basic) ≡ written_found (operand_of w) basic
unfolding written_one written_found operand_of least less
written-found AValue basic = least-unless (is_typed basic) OperandTypes
written-found APlace basic = refl
written-found (AnArray sized) basic = least-unless sized NumberOfSubscripts
written-found AProcedureName basic = refl
written-found AFunctionName basic = refl
written-found (AnExit label) basic = refl
written-found NoOperand basic = refl

item-found : (way : Direction) (j : Judged) → least (item_rows way j) ≡ item_found way (found j)
unfolding item_rows item_found found
item-found way.Read j = two-least j.faults (read_one j.what) (least j.faults) (read_found (operand_of j.what)) refl (read-found j.what)
item-found way.Write j =
    two-least j.faults (written_one j.what j.basic) (least j.faults) (written_found (operand_of j.what) j.basic) refl (written-found j.what j.basic)

joined-onward : (rows : List (List Kind)) (a : Option Kind) → joined_onward a (map least rows) ≡ lesser a (least (joined_rows rows))
unfolding joined_onward joined_rows least
joined-onward [] a = sym (lesser-none a)
joined-onward (r ∷ rs) a =
    joined-onward rs (lesser a (least r)) ∙ lesser-joined a (least r) (least (joined_rows rs)) ∙ ap (lesser a) (sym (least-append r (joined_rows rs)))

-- TEXTS AND UNITS
text-one-found : (w : What) → least (text_one w) ≡ text_one_found (operand_of w)
unfolding text_one text_one_found operand_of least less
text-one-found AValue = refl
text-one-found APlace = refl
text-one-found (AnArray sized) = least-unless sized NumberOfSubscripts
text-one-found AProcedureName = refl
text-one-found AFunctionName = refl
text-one-found (AnExit label) = refl
text-one-found NoOperand = refl

text-found : (kind : Kind) (j : Judged) → least (text_rows kind j) ≡ text_found kind (found j)
unfolding text_rows text_found found
text-found kind j =
    three-least j.faults (text_one j.what) (unless (same_basic j.basic Character) kind) (least j.faults) (text_one_found (operand_of j.what))
    (unless_least (same_basic j.basic Character) kind) refl (text-one-found j.what) (least-unless (same_basic j.basic Character) kind)

number-found : (w : What) (basic : Basic) → least (wants_one w ++ unless (same_basic basic Integer) OperandTypes) ≡ number_found (operand_of w) basic
unfolding number_found
number-found w basic =
    two-least (wants_one w) (unless (same_basic basic Integer) OperandTypes) (one_wanted (operand_of w)) (unless_least (same_basic basic Integer) OperandTypes)
    (one-wanted w) (least-unless (same_basic basic Integer) OperandTypes)

file-or-number-found : (w : What) (basic : Basic) → least (file_or_number w basic) ≡ file_or_number_found (operand_of w) basic
unfolding file_or_number file_or_number_found file_found is_text_type operand_of least
file-or-number-found AValue Integer = number-found AValue Integer
file-or-number-found APlace Integer = number-found APlace Integer
file-or-number-found (AnArray sized) Integer = number-found (AnArray sized) Integer
file-or-number-found AProcedureName Integer = number-found AProcedureName Integer
file-or-number-found AFunctionName Integer = number-found AFunctionName Integer
file-or-number-found (AnExit label) Integer = number-found (AnExit label) Integer
file-or-number-found NoOperand Integer = number-found NoOperand Integer
file-or-number-found AValue Logical = number-found AValue Logical
file-or-number-found APlace Logical = number-found APlace Logical
file-or-number-found (AnArray sized) Logical = number-found (AnArray sized) Logical
file-or-number-found AProcedureName Logical = number-found AProcedureName Logical
file-or-number-found AFunctionName Logical = number-found AFunctionName Logical
file-or-number-found (AnExit label) Logical = number-found (AnExit label) Logical
file-or-number-found NoOperand Logical = number-found NoOperand Logical
file-or-number-found AValue Untyped = number-found AValue Untyped
file-or-number-found APlace Untyped = number-found APlace Untyped
file-or-number-found (AnArray sized) Untyped = number-found (AnArray sized) Untyped
file-or-number-found AProcedureName Untyped = number-found AProcedureName Untyped
file-or-number-found AFunctionName Untyped = number-found AFunctionName Untyped
file-or-number-found (AnExit label) Untyped = number-found (AnExit label) Untyped
file-or-number-found NoOperand Untyped = number-found NoOperand Untyped
file-or-number-found AValue Character = number-found AValue Character
file-or-number-found APlace Character = refl
file-or-number-found (AnArray sized) Character = least-unless sized NumberOfSubscripts
file-or-number-found AProcedureName Character = number-found AProcedureName Character
file-or-number-found AFunctionName Character = number-found AFunctionName Character
file-or-number-found (AnExit label) Character = number-found (AnExit label) Character
file-or-number-found NoOperand Character = number-found NoOperand Character

file-of : (j : Judged) → least (file_or_number j.what j.basic) ≡ file_or_number_found (found j).what (found j).basic
unfolding found
file-of j = file-or-number-found j.what j.basic

unit-found : (files : Bool) (j : Judged) → least (unit_rows files j) ≡ unit_found files (found j)
unfolding unit_rows unit_found
unit-found true j =
    two-least j.faults (file_or_number j.what j.basic) (found j).fault (file_or_number_found (found j).what (found j).basic) (fault-found j) (file-of j)
unit-found false j = value-found Integer j

-- INTRINSIC
known-function : (o : Option Function) → (elim o [ Some f ↦ true | None ↦ false ]) ≡ is_some (option_map intrinsic_of o)
known-function None = refl
known-function (Some f) = refl

has-function : (x : Bytes) → has_function x ≡ is_some (intrinsic_named x)
unfolding has_function
has-function x = known-function (function_named x) ∙ ap is_some (intrinsic-named x)

intrinsics-onward : (xs : List Bytes) (a : Option Kind) → intrinsics_onward a xs ≡ lesser a (least (intrinsic_rows xs))
unfolding intrinsics_onward intrinsic_rows least
intrinsics-onward [] a = sym (lesser-none a)
intrinsics-onward (x ∷ xs) a =
    intrinsics-onward xs (lesser a (unless_least (is_some (intrinsic_named x)) ConflictingAttributes))
    ∙ lesser-joined a (unless_least (is_some (intrinsic_named x)) ConflictingAttributes) (least (intrinsic_rows xs))
    ∙ ap (lesser a) (
    ap (λ b. lesser (unless_least b ConflictingAttributes) (least (intrinsic_rows xs))) (sym (has-function x))
    ∙ sym (two-least (unless (has_function x) ConflictingAttributes) (intrinsic_rows xs) (unless_least (has_function x) ConflictingAttributes) (least (intrinsic_rows xs))
    (least-unless (has_function x) ConflictingAttributes) refl))

-- a statement that breaks some rows, and those that it breaks where it is guarded
broken_least : rows.Broken → Broken
broken_least b = record { rows = least b.rows; guarded = least b.guarded }

breaks-least : (rs : List Kind) (a : Option Kind) → least rs ≡ a → broken_least (breaks rs) ≡ breaks_least a
unfolding broken_least breaks breaks_least least
breaks-least rs a same = ap (λ r. record { rows = r; guarded = None }) same

breaks-alone-least : (rs : List Kind) (a : Option Kind) → least rs ≡ a → broken_least (breaks_alone rs) ≡ breaks_alone_least a
unfolding broken_least breaks_alone breaks_alone_least least less
breaks-alone-least rs a same = ap (λ r. record { rows = r; guarded = Some SyntaxError }) same

no-rows : least [] ≡ None
unfolding least
no-rows = refl

module _ (known : rows.Site) (site : Site) (at : IsSite known site) where
  judged-by : (e : Expr) → found (judge known.known e) ≡ judged_by site.names.now e
  judged-by e = expression-found known.known site.names.now at.names e

  judged-name-by : (x : Bytes) → found (judged_name known x) ≡ name_judged_by site.names.now x
  unfolding judged_name
  judged-name-by x = name-found known.known site.names.now at.names x

  branch-by : (label : ℕ) → least (branch known label) ≡ branch_found site label
  unfolding branch branch_found
  branch-by label = least-unless (known.branches label) LabelMissingOrTwice ∙ ap (λ b. unless_least b LabelMissingOrTwice) (at.branches label)

  branches-onward : (labels : List ℕ) (a : Option Kind) → branches_onward site a labels ≡ lesser a (least (all_branches known labels))
  unfolding branches_onward all_branches least
  branches-onward [] a = sym (lesser-none a)
  branches-onward (l ∷ ls) a =
      branches-onward ls (lesser a (branch_found site l)) ∙ lesser-joined a (branch_found site l) (least (all_branches known ls))
      ∙ ap (lesser a) (sym (two-least (branch known l) (all_branches known ls) (branch_found site l) (least (all_branches known ls)) (branch-by l) refl))

  branches-by : (labels : List ℕ) → least (all_branches known labels) ≡ branches_onward site None labels
  branches-by labels = sym (branches-onward labels None ∙ none-lesser (least (all_branches known labels)))

  value-by : (basic : Basic) (e : Expr) → least (value_rows basic (judge known.known e)) ≡ with_wanted basic (judged_by site.names.now e)
  value-by basic e = value-found basic (judge known.known e) ∙ ap (with_wanted basic) (judged-by e)

  integer-of : (e : Expr) → least (value_rows Integer (judge known.known e)) ≡ integer_by site e
  unfolding integer_by
  integer-of e = value-by Integer e

  condition-of : (e : Expr) → least (value_rows Logical (judge known.known e)) ≡ condition_by site e
  unfolding condition_by
  condition-of e = value-by Logical e

  text-of : (e : Expr) → least (value_rows Character (judge known.known e)) ≡ text_by site e
  unfolding text_by
  text-of e = value-by Character e

  step-of : (o : Option Expr) → least (step_rows known o) ≡ optional_by site o
  unfolding step_rows optional_by least
  step-of None = refl
  step-of (Some e) = integer-of e

  return-of : (o : Option Expr) → least (return_rows known o) ≡ optional_by site o
  unfolding return_rows optional_by least
  return-of None = refl
  return-of (Some e) = integer-of e

  variable-of : (x : Bytes) → least (target_rows Integer (judged_name known x)) ≡ variable_by site x
  unfolding variable_by
  variable-of x = target-found Integer (judged_name known x) ∙ ap (target_found Integer) (judged-name-by x)

  loop-of : (c : LoopControl) → least (loop_rows known c) ≡ loop_by site c
  unfolding loop_rows loop_by
  loop-of c =
      three-least (target_rows Integer (judged_name known c.variable)) (value_rows Integer (judge known.known c.first))
      (value_rows Integer (judge known.known c.limit) ++ step_rows known c.step)
      (variable_by site c.variable) (integer_by site c.first) (lesser (integer_by site c.limit) (optional_by site c.step))
      (variable-of c.variable) (integer-of c.first)
      (two-least (value_rows Integer (judge known.known c.limit)) (step_rows known c.step) (integer_by site c.limit) (optional_by site c.step)
      (integer-of c.limit) (step-of c.step))

  -- lists
  mutual
    unfolding fold_item fold_items layer_listed layer_item

    item-of : (way : Direction) (i : ListItem) → least (fold_item (layer_listed known way) i) ≡ fold_item (layer_item site way) i
    item-of way (Item e) = item-found way (judge known.known e) ∙ ap (item_found way) (judged-by e)
    item-of way (Loop' s row control) =
        two-least (joined_rows (fold_items (layer_listed known way) row)) (loop_rows known control)
        (joined_onward None (fold_items (layer_item site way) row)) (loop_by site control)
        (sym (joined-onward (fold_items (layer_listed known way) row) None ∙ none-lesser (least (joined_rows (fold_items (layer_listed known way) row))))
        ∙ ap (joined_onward None) (items-of way row))
        (loop-of control)

    items-of : {m : _} (way : Direction) (row : Row_of-ListItem m) → map least (fold_items (layer_listed known way) row) ≡ fold_items (layer_item site way) row
    items-of way end_of-ListItem = refl
    items-of way (more_of-ListItem i row) =
        ap (λ f. f ∷ map least (fold_items (layer_listed known way) row)) (item-of way i)
        ∙ ap (λ fs. fold_item (layer_item site way) i ∷ fs) (items-of way row)

  listed-onward : (way : Direction) (is : List ListItem) (a : Option Kind) →
      joined_onward a (map (item_by site way) is) ≡ lesser a (least (listed_rows known way is))
  unfolding joined_onward listed_rows item_by least
  listed-onward way [] a = sym (lesser-none a)
  listed-onward way (i ∷ is) a =
      listed-onward way is (lesser a (fold_item (layer_item site way) i))
      ∙ lesser-joined a (fold_item (layer_item site way) i) (least (listed_rows known way is))
      ∙ ap (lesser a) (sym (two-least (fold_item (layer_listed known way) i) (listed_rows known way is) (fold_item (layer_item site way) i) (least (listed_rows known way is))
      (item-of way i) refl))

  listed-of : (way : Direction) (is : List ListItem) → least (listed_rows known way is) ≡ listed_by site way is
  unfolding listed_by
  listed-of way is = sym (listed-onward way is None ∙ none-lesser (least (listed_rows known way is)))

  -- control words
  control-of : (files : Bool) (w : ControlWord) (v : ControlValue) → least (control_rows known files w v) ≡ control_by site files w v
  unfolding control_rows control_by star_by label_by expression_by least less
  control-of files word.Unit value.Star = refl
  control-of files word.Format value.Star = refl
  control-of files word.Status value.Star = refl
  control-of files word.OnError value.Star = refl
  control-of files word.OnEnd value.Star = refl
  control-of files word.File value.Star = refl
  control-of files word.FileStatus value.Star = refl
  control-of files word.Access value.Star = refl
  control-of files word.Form value.Star = refl
  control-of files word.Blank value.Star = refl
  control-of files word.Unit (value.Label l) = refl
  control-of files word.Format (value.Label l) = least-unless (known.formats l) LabelMissingOrTwice ∙ ap (λ b. unless_least b LabelMissingOrTwice) (at.formats l)
  control-of files word.Status (value.Label l) = refl
  control-of files word.OnError (value.Label l) = branch-by l
  control-of files word.OnEnd (value.Label l) = branch-by l
  control-of files word.File (value.Label l) = refl
  control-of files word.FileStatus (value.Label l) = refl
  control-of files word.Access (value.Label l) = refl
  control-of files word.Form (value.Label l) = refl
  control-of files word.Blank (value.Label l) = refl
  control-of files word.Unit (value.Value e) = unit-found files (judge known.known e) ∙ ap (unit_found files) (judged-by e)
  control-of files word.Format (value.Value e) = text-found BadFormat (judge known.known e) ∙ ap (text_found BadFormat) (judged-by e)
  control-of files word.Status (value.Value e) = target-found Integer (judge known.known e) ∙ ap (target_found Integer) (judged-by e)
  control-of files word.OnError (value.Value e) = refl
  control-of files word.OnEnd (value.Value e) = refl
  control-of files word.File (value.Value e) = text-found OperandTypes (judge known.known e) ∙ ap (text_found OperandTypes) (judged-by e)
  control-of files word.FileStatus (value.Value e) = text-of e
  control-of files word.Access (value.Value e) = text-of e
  control-of files word.Form (value.Value e) = text-of e
  control-of files word.Blank (value.Value e) = text-of e

  controls-onward : (files : Bool) (cs : List Control) (a : Option Kind) → controls_onward site files a cs ≡ lesser a (least (controls_rows known files cs))
  unfolding controls_onward controls_rows least
  controls-onward files [] a = sym (lesser-none a)
  controls-onward files (c ∷ cs) a =
      controls-onward files cs (lesser a (control_by site files c.word c.value))
      ∙ lesser-joined a (control_by site files c.word c.value) (least (controls_rows known files cs))
      ∙ ap (lesser a) (sym (two-least (control_rows known files c.word c.value) (controls_rows known files cs) (control_by site files c.word c.value)
      (least (controls_rows known files cs)) (control-of files c.word c.value) refl))

  controls-of : (files : Bool) (cs : List Control) → least (controls_rows known files cs) ≡ controls_by site files cs
  unfolding controls_by
  controls-of files cs = sym (controls-onward files cs None ∙ none-lesser (least (controls_rows known files cs)))

  -- CALL
  call-passed-of : (w : What) → least (call_passed known w) ≡ call_passed_found site (operand_of w)
  unfolding call_passed call_passed_found operand_of least less
  call-passed-of AValue = refl
  call-passed-of APlace = refl
  call-passed-of (AnArray sized) = refl
  call-passed-of AProcedureName = refl
  call-passed-of AFunctionName = refl
  call-passed-of (AnExit label) = branch-by label
  call-passed-of NoOperand = refl

  argument-of : (j : Judged) → least (j.faults ++ call_passed known j.what) ≡ argument_found site (found j)
  unfolding argument_found found
  argument-of j =
      two-least j.faults (call_passed known j.what) (least j.faults) (call_passed_found site (operand_of j.what)) refl (call-passed-of j.what)

  arguments-onward : (es : List Expr) (a : Option Kind) → arguments_onward site a es ≡ lesser a (least (arguments_rows known es))
  unfolding arguments_onward arguments_rows least
  arguments-onward [] a = sym (lesser-none a)
  arguments-onward (e ∷ es) a =
      arguments-onward es (lesser a (argument_found site (judged_by site.names.now e)))
      ∙ lesser-joined a (argument_found site (judged_by site.names.now e)) (least (arguments_rows known es))
      ∙ ap (lesser a) (sym (two-least ((judge known.known e).faults ++ call_passed known (judge known.known e).what) (arguments_rows known es)
      (argument_found site (judged_by site.names.now e)) (least (arguments_rows known es))
      (argument-of (judge known.known e) ∙ ap (argument_found site) (judged-by e)) refl))

  arguments-of : (es : List Expr) → least (arguments_rows known es) ≡ arguments_onward site None es
  arguments-of es = sym (arguments-onward es None ∙ none-lesser (least (arguments_rows known es)))

  callee-of : (x : Bytes) → least (unless (is_callee (known.known.attribute x).class) ConflictingAttributes) ≡ unless_least (is_callee (fact_in site.names.now x).class) ConflictingAttributes
  callee-of x =
      least-unless (is_callee (known.known.attribute x).class) ConflictingAttributes
      ∙ ap (λ c. unless_least (is_callee c) ConflictingAttributes) (sym ((at.names.facts x).class))

  -- assignments
  defines-of : (o : Option Bytes) → is_statement_function known.known.attribute o ≡ defines_by site o
  unfolding is_statement_function defines_by
  defines-of None = refl
  defines-of (Some x) = ap (λ c. elim c [ class.StatementFunction ↦ true | _ ↦ false ]) (sym ((at.names.facts x).class))

  assigned-of : (target e : Expr) → least (assigned_rows (judge known.known target) (judge known.known e))
      ≡ assigned_found (judged_by site.names.now target) (judged_by site.names.now e)
  assigned-of target e =
      assigned-found (judge known.known target) (judge known.known e)
      ∙ ap (λ f. assigned_found f (found (judge known.known e))) (judged-by target) ∙ ap (assigned_found (judged_by site.names.now target)) (judged-by e)

  definition-or-not : (b : Bool) (target e : Expr) →
      broken_least (if b then record { rows = []; guarded = BadStatementFunction ∷ [] } else breaks (assigned_rows (judge known.known target) (judge known.known e)))
      ≡ (if b then record { rows = None; guarded = Some BadStatementFunction } else breaks_least (assigned_found (judged_by site.names.now target) (judged_by site.names.now e)))
  unfolding broken_least least less
  definition-or-not true target e = refl
  definition-or-not false target e = breaks-least (assigned_rows (judge known.known target) (judge known.known e)) _ (assigned-of target e)

  assign-of : (target e : Expr) → broken_least (assign_broken known target e) ≡ assign_by site target e
  unfolding assign_broken assign_by
  assign-of target e =
      definition-or-not (is_statement_function known.known.attribute (heading_of target).applied) target e
      ∙ ap (λ b. if b then record { rows = None; guarded = Some BadStatementFunction } else breaks_least (assigned_found (judged_by site.names.now target) (judged_by site.names.now e)))
      (defines-of (heading_of target).applied)

  assign-label-of : (label : ℕ) (x : Bytes) →
      least (target_rows Integer (judged_name known x) ++ unless (known.branches label || known.formats label) LabelMissingOrTwice) ≡ assign_label_by site label x
  unfolding assign_label_by
  assign-label-of label x =
      two-least (target_rows Integer (judged_name known x)) (unless (known.branches label || known.formats label) LabelMissingOrTwice)
      (variable_by site x) (unless_least (may_branch site label || is_format site label) LabelMissingOrTwice) (variable-of x)
      (least-unless (known.branches label || known.formats label) LabelMissingOrTwice
      ∙ ap (λ b. unless_least (b || known.formats label) LabelMissingOrTwice) (at.branches label)
      ∙ ap (λ b. unless_least (may_branch site label || b) LabelMissingOrTwice) (at.formats label))

  goto-list-of : (labels : List ℕ) (e : Expr) → least (value_rows Integer (judge known.known e) ++ all_branches known labels) ≡ goto_list_by site labels e
  unfolding goto_list_by
  goto-list-of labels e = two-least (value_rows Integer (judge known.known e)) (all_branches known labels) _ _ (integer-of e) (branches-by labels)

  goto-name-of : (x : Bytes) (labels : List ℕ) → least (target_rows Integer (judged_name known x) ++ all_branches known labels) ≡ goto_name_by site x labels
  unfolding goto_name_by
  goto-name-of x labels = two-least (target_rows Integer (judged_name known x)) (all_branches known labels) _ _ (variable-of x) (branches-by labels)

  if-sign-of : (e : Expr) (below even above : ℕ) →
      least (value_rows Integer (judge known.known e) ++ (branch known below ++ (branch known even ++ branch known above))) ≡ if_sign_by site e below even above
  unfolding if_sign_by
  if-sign-of e below even above =
      three-least (value_rows Integer (judge known.known e)) (branch known below) (branch known even ++ branch known above) _ _ _ (integer-of e) (branch-by below)
      (two-least (branch known even) (branch known above) _ _ (branch-by even) (branch-by above))

  if-one-of : (e : Expr) (b : rows.Broken) (f : Broken) → broken_least b ≡ f →
      least (value_rows Logical (judge known.known e) ++ (b.rows ++ b.guarded)) ≡ if_one_by site e f
  unfolding if_one_by broken_least
  if-one-of e b f same =
      three-least (value_rows Logical (judge known.known e)) b.rows b.guarded _ _ _ (condition-of e) (ap (λ g. g.rows) same) (ap (λ g. g.guarded) same)

  call-of : (x : Bytes) (es : List Expr) →
      least (unless (is_callee (known.known.attribute x).class) ConflictingAttributes ++ arguments_rows known es) ≡ call_by site x es
  unfolding call_by
  call-of x es = two-least (unless (is_callee (known.known.attribute x).class) ConflictingAttributes) (arguments_rows known es) _ _ (callee-of x) (arguments-of es)

  transfer-of : (way : Direction) (cs : List Control) (is : List ListItem) →
      least (controls_rows known true cs ++ (unless (any_word is_unit_word cs) SyntaxError ++ (unless (any_word is_format_word cs) SyntaxError ++ listed_rows known way is)))
      ≡ transfer_by site way cs is
  unfolding transfer_by
  transfer-of way cs is =
      three-least (controls_rows known true cs) (unless (any_word is_unit_word cs) SyntaxError)
      (unless (any_word is_format_word cs) SyntaxError ++ listed_rows known way is) _ _ _ (controls-of true cs)
      (least-unless (any_word is_unit_word cs) SyntaxError)
      (two-least (unless (any_word is_format_word cs) SyntaxError) (listed_rows known way is) _ _ (least-unless (any_word is_format_word cs) SyntaxError) (listed-of way is))

  auxiliary-of : (cs : List Control) → least (controls_rows known false cs ++ unless (any_word is_unit_word cs) SyntaxError) ≡ auxiliary_by site cs
  unfolding auxiliary_by
  auxiliary-of cs =
      two-least (controls_rows known false cs) (unless (any_word is_unit_word cs) SyntaxError) _ _ (controls-of false cs) (least-unless (any_word is_unit_word cs) SyntaxError)

  ends-of : (label : Option ℕ) → known.ends_loop label ≡ site.ends_loop → least (unless (known.ends_loop label) BadDoNest) ≡ ends_by site
  unfolding ends_by
  ends-of label same = least-unless (known.ends_loop label) BadDoNest ∙ ap (λ b. unless_least b BadDoNest) same

  -- THE WHOLE STATEMENT
  statement-of : (b : Body) → EndsLoop known site (fold_body layer_loop b) →
      broken_least (fold_body (layer_broken known) b) ≡ fold_body (layer_broken_by site) b
  unfolding fold_body layer_broken layer_broken_by layer_loop
  statement-of (Assign target e) loop = assign-of target e
  statement-of (AssignLabel label x) loop = breaks-least _ _ (assign-label-of label x)
  statement-of (Intrinsic xs) loop = breaks-alone-least _ _ (sym (intrinsics-onward xs None ∙ none-lesser (least (intrinsic_rows xs))))
  statement-of (Goto label) loop = breaks-least _ _ (branch-by label)
  statement-of (GotoList labels e) loop = breaks-least _ _ (goto-list-of labels e)
  statement-of (GotoName x labels) loop = breaks-least _ _ (goto-name-of x labels)
  statement-of (IfSign e below even above) loop = breaks-least _ _ (if-sign-of e below even above)
  statement-of (IfOne' e s (more_of-Body b r)) loop = breaks-alone-least _ _ (if-one-of e (fold_body (layer_broken known) b) (fold_body (layer_broken_by site) b) (statement-of b loop))
  statement-of (IfThen e) loop = breaks-alone-least _ _ (condition-of e)
  statement-of (ElseIf e) loop = breaks-alone-least _ _ (condition-of e)
  statement-of (Do label control) loop = breaks-alone-least _ _ (two-least (loop_rows known control) (unless (known.ends_loop label) BadDoNest) _ _ (loop-of control) (ends-of label (loop.ends label refl)))
  statement-of (DoWhile label e) loop = breaks-alone-least _ _ (two-least (value_rows Logical (judge known.known e)) (unless (known.ends_loop label) BadDoNest) _ _ (condition-of e) (ends-of label (loop.ends label refl)))
  statement-of Continue loop = breaks-least _ _ no-rows
  statement-of (Call x es) loop = breaks-least _ _ (call-of x es)
  statement-of (Return e) loop = breaks-least _ _ (return-of e)
  statement-of (Stop text) loop = breaks-least _ _ no-rows
  statement-of (Transfer way cs is) loop = breaks-least _ _ (transfer-of way cs is)
  statement-of (Auxiliary which cs) loop = breaks-least _ _ (auxiliary-of cs)
  statement-of (Header kind name dummies) loop = breaks-alone-least _ _ no-rows
  statement-of (Declare type items) loop = breaks-alone-least _ _ no-rows
  statement-of (Dimension items) loop = breaks-alone-least _ _ no-rows
  statement-of (Common groups) loop = breaks-alone-least _ _ no-rows
  statement-of (Equivalence groups) loop = breaks-alone-least _ _ no-rows
  statement-of (Implicit groups) loop = breaks-alone-least _ _ no-rows
  statement-of ImplicitNone loop = breaks-alone-least _ _ no-rows
  statement-of (Parameter items) loop = breaks-alone-least _ _ no-rows
  statement-of (External xs) loop = breaks-alone-least _ _ no-rows
  statement-of (Save items) loop = breaks-alone-least _ _ no-rows
  statement-of (Init groups) loop = breaks-alone-least _ _ no-rows
  statement-of (Format text) loop = breaks-alone-least _ _ no-rows
  statement-of (Entry name dummies) loop = breaks-alone-least _ _ no-rows
  statement-of Else loop = breaks-alone-least _ _ no-rows
  statement-of EndIf loop = breaks-alone-least _ _ no-rows
  statement-of EndDo loop = breaks-alone-least _ _ no-rows
  statement-of (Include name) loop = breaks-alone-least _ _ no-rows
  statement-of End loop = breaks-alone-least _ _ no-rows

-- What is found of a statement is the least of the rows that it breaks.
pub statement-found : (known : rows.Site) (site : Site) → IsSite known site → (b : Body) → EndsLoop known site (loop_in b) →
    least (broken known b).rows ≡ (broken_by site b).rows
unfolding broken broken_by loop_in broken_least
statement-found known site at b loop = ap (λ f. f.rows) (statement-of known site at b loop)
