-- The statements of a program unit as the meaning takes them, and the unit itself.
-- ANSI X3.9-1978, sections 3.5, 10, 11, 12 and 15.
use Rattle.std.specs.List.{list_any}
use Rattle.std.specs.Prelude.{ℕ, suc, nat_eq, ℤ, pos, Bool, true, false, List, [], ◌∷◌, ◌++◌, map, bytes_eq, Option, Some, None, if◌then◌else◌, nat_abs, replicate, unwrap_or}
use Rattle.f_tree.specs.declared.names.Basic.{Basic}
use Rattle.f_tree.specs.declared.names.Basic.TheVariants.{Character}
use Rattle.f_tree.specs.declared.names.Class.TheVariants as class
use Rattle.f_tree.specs.declared.names.Options.{Options}
use Rattle.f_tree.specs.declared.expressions.Expr.{Expr}
use Rattle.f_tree.specs.declared.statements.Body.{Body}
use Rattle.f_tree.specs.declared.statements.Body.TheOpen as body
use Rattle.f_tree.specs.declared.statements.ListItem.{ListItem}
use Rattle.f_tree.specs.declared.statements.ListItem.TheOpen as item
use Rattle.f_tree.specs.declared.statements.LoopControl.{LoopControl}
use Rattle.f_tree.specs.declared.statements.ArrayDeclarator.{ArrayDeclarator}
use Rattle.f_tree.specs.declared.statements.CommonGroup.{CommonGroup}
use Rattle.f_tree.specs.declared.statements.EquivalenceGroup.{EquivalenceGroup}
use Rattle.f_tree.specs.declared.statements.DummyArgument.{DummyArgument}
use Rattle.f_tree.specs.declared.statements.DummyArgument.TheVariants as dummy
use Rattle.f_tree.specs.declared.statements.Control.{Control}
use Rattle.f_tree.specs.declared.statements.ControlValue.{ControlValue}
use Rattle.f_tree.specs.declared.statements.ControlValue.TheVariants as value
use Rattle.f_tree.specs.declared.statements.ControlWord.{ControlWord}
use Rattle.f_tree.specs.declared.statements.ControlWord.TheVariants as word
use Rattle.f_tree.specs.declared.statements.Direction as direction
use Rattle.f_tree.specs.declared.statements.Direction.TheVariants as way
use Rattle.f_tree.specs.declared.statements.AuxiliaryKind as auxiliary
use Rattle.f_tree.specs.declared.statements.AuxiliaryKind.TheVariants as act
use Rattle.f_tree.specs.declared.statements.UnitKind.TheVariants as kind
use Rattle.f_tree.specs.declared.statements.Stmt.{Stmt}
use Rattle.f_tree.specs.declared.units.Unit.{Unit as WrittenUnit}
use Rattle.f_tree.specs.Folds.{fold_item, fold_body, layer_of}
use Rattle.f_tree.specs.declared.statements.DataGroup.{DataGroup}
use Rattle.f_tree.specs.declared.statements.DataValue.{DataValue}
use Rattle.f_tree.specs.Values.{Bytes, Datum, IsInt, IsSpot, Nothing}
use Rattle.f_tree.specs.Terms.{Term, Val, At, Terms, NoMore, More, terms, refers, Bound, All, Alone}
use Rattle.f_tree.specs.Facts.{Attribute, Formal, Named, Alternate, MainProgram, SubroutineUnit, FunctionUnit, BlockDataUnit, UnitKind, EntryPoint, Direction, Input, Output, Layout, Listed, Labelled, Computed, Unformatted, Word, UnitWord, FormatWord, StatusWord, FileWord, FileStatusWord, AccessWord, FormWord, BlankWord, Controls, AuxiliaryKind, OpenUnit, CloseUnit, BackspaceUnit, EndFileUnit, RewindUnit, Job, Item, Repeated, Work, Done, Before, ToSet, ToSetText, ToSetLabel, ToGo, ToPick, ToGoAssigned, ToGoBySign, ToGuard, ToEnterArm, ToLoop, ToTestLoop, ToCall, ToReturn, ToStop, ToBegin, ToAuxiliary, ToEnd, Form, Passes, On, Mark, Plain, Opens, Arm, Closes, LoopMark, NoLoop, OpensLoop, ClosesLoop, Line, LabelledFormat, Member, Block, Tied, Tie, ProgramUnit, Facts, Image, DataPlace, DataPlaces, WholeName, OnePlace, EachOf, NoPlaces, AndPlaces}
use Rattle.f_tree.specs.Valuing.{Red, Valued, reduce, elements_of, extent_of}
use Rattle.f_tree.specs.Reading.{Read, read, name_or_none}
use Rattle.f_tree.specs.Uses.{heading_of, Use, Manner, Declared, uses_of_statements}
use Rattle.f_tree.specs.Attributes.{from_all, option_list, is_used_as, arrays_of, Described, all_described, attribute_in, no_frame, no_facts, value_if_valued}

abbrev pub Naming : Type 0
Naming = Bytes → Attribute

unfoldable pub value_of : Naming → Expr → Term
value_of names e = (read names e).value

unfoldable pub place_of : Naming → Expr → Term
place_of names e = (read names e).actual

unfoldable pub arguments_of : Naming → List Expr → List Term
arguments_of names [] = []
arguments_of names (e ∷ es) = place_of names e ∷ arguments_of names es

unfoldable pub step_of : Naming → Option Expr → Term
step_of names None = Val (IsInt (pos 1))
step_of names (Some e) = value_of names e

-- the variable of a loop, its first value, its limit and its step, in this order
unfoldable pub control_of : Naming → LoopControl → Terms
control_of names c = More (At c.variable) (More (value_of names c.first) (More (value_of names c.limit) (More (step_of names c.step) NoMore)))

-- items of a list: a whole array is all its elements; what is read is a place, and what is written by a list is a value
unfoldable pub is_array : Attribute → Bool
is_array a = elim a.dimensions [ [] ↦ false | d ∷ ds ↦ true ]

unfoldable pub array_or : Term → Naming → Option Bytes → Term
array_or t names None = t
array_or t names (Some x) = if is_array (names x) then All x else t

-- what is fetched later: a variable, an element, an array or a substring; and the value of any other expression
unfoldable pub if_placed : Read → Option Bytes → Term
if_placed r None = r.value
if_placed r (Some x) = Alone r.actual

unfoldable pub settled : Naming → Read → Term
settled names r = array_or (if_placed r r.base) names r.named

-- under a format what is written is fetched when its descriptor is come to
unfoldable pub item_of : Direction → Layout → Naming → Expr → Term
item_of Input layout names e = array_or (Alone (place_of names e)) names (read names e).named
item_of Output Listed names e = array_or (value_of names e) names (read names e).named
item_of Output layout names e = settled names (read names e)

unfoldable pub work_of : List Job → Work
work_of [] = Done
work_of (job ∷ jobs) = Before job (work_of jobs)

unfoldable pub layer_job : Direction → Layout → Naming → item.ListItem-F Job → Job
layer_job way layout names (item.Item e) = Item (item_of way layout names e)
layer_job way layout names (item.Loop jobs control) = Repeated (work_of jobs) (control_of names control)

unfoldable pub job_of : Direction → Layout → Naming → ListItem → Job
job_of way layout names i = fold_item (layer_job way layout names) i

unfoldable pub jobs_of : Direction → Layout → Naming → List ListItem → Work
jobs_of way layout names [] = Done
jobs_of way layout names (i ∷ is) = Before (job_of way layout names i) (jobs_of way layout names is)

unfoldable pub is_character : Basic → Bool
is_character Character = true
is_character _ = false

-- is it a variable, an array or a part of one, of type CHARACTER
unfoldable pub is_text : Naming → Option Bytes → Bool
is_text names None = false
is_text names (Some x) = is_character (names x).basic

-- control words: their operands in their order, the labels of ERR and END, and how the records are laid out
pub record Written : Type 0 where
  pub words : List Word
  pub operands : List Term
  pub on_error : Option ℕ
  pub on_end : Option ℕ
  pub layout : Option Layout

unfoldable pub standard_unit : Direction → ℤ
standard_unit Input = pos 5
standard_unit Output = pos 6

unfoldable pub nothing_written : Written
nothing_written = record { words = []; operands = []; on_error = None; on_end = None; layout = None }

unfoldable pub with_operand : Word → Term → Written → Written
with_operand w t more = record more { words = w ∷ more.words; operands = t ∷ more.operands }

-- a word whose operand is valued, or, for a variable, an element, an array or a substring that is written as it stands, settled
unfoldable pub control_written : Direction → Naming → ControlWord → ControlValue → Written → Written
control_written way names word.Unit value.Star more = with_operand UnitWord (Val (IsInt (standard_unit way))) more
control_written way names word.Unit (value.Label l) more = more
control_written way names word.Unit (value.Value e) more =
    with_operand UnitWord (if is_text names (read names e).base then settled names (read names e) else value_of names e) more
control_written way names word.Format value.Star more = record more { layout = Some Listed }
control_written way names word.Format (value.Label l) more = record more { layout = Some (Labelled l) }
control_written way names word.Format (value.Value e) more = record (with_operand FormatWord (settled names (read names e)) more) { layout = Some Computed }
control_written way names word.Status (value.Value e) more = with_operand StatusWord (place_of names e) more
control_written way names word.OnError (value.Label l) more = record more { on_error = Some l }
control_written way names word.OnEnd (value.Label l) more = record more { on_end = Some l }
control_written way names word.File (value.Value e) more = with_operand FileWord (settled names (read names e)) more
control_written way names word.FileStatus (value.Value e) more = with_operand FileStatusWord (value_of names e) more
control_written way names word.Access (value.Value e) more = with_operand AccessWord (value_of names e) more
control_written way names word.Form (value.Value e) more = with_operand FormWord (value_of names e) more
control_written way names word.Blank (value.Value e) more = with_operand BlankWord (value_of names e) more
control_written way names _ _ more = more

unfoldable pub controls_written : Direction → Naming → List Control → Written
controls_written way names [] = nothing_written
controls_written way names (c ∷ cs) = control_written way names c.word c.value (controls_written way names cs)

unfoldable pub controls_of : Written → Controls
controls_of w = record { words = w.words; on_error = w.on_error; on_end = w.on_end }

-- a transfer whose control words name no format is unformatted
unfoldable pub layout_written : Option Layout → Layout
layout_written None = Unformatted
layout_written (Some l) = l

unfoldable pub way_of : direction.Direction → Direction
way_of way.Read = Input
way_of way.Write = Output

unfoldable pub transfer_form : Direction → Naming → List ListItem → Written → Form
transfer_form way names items w =
    On (ToBegin way (layout_written w.layout) (controls_of w) (jobs_of way (layout_written w.layout) names items)) (terms w.operands)

unfoldable pub auxiliary_of : auxiliary.AuxiliaryKind → AuxiliaryKind
auxiliary_of act.OpenUnit = OpenUnit
auxiliary_of act.CloseUnit = CloseUnit
auxiliary_of act.Backspace = BackspaceUnit
auxiliary_of act.EndFile = EndFileUnit
auxiliary_of act.Rewind = RewindUnit

unfoldable pub auxiliary_form : AuxiliaryKind → Written → Form
auxiliary_form which w = On (ToAuxiliary which (controls_of w)) (terms w.operands)

unfoldable pub is_statement_function : Naming → Option Bytes → Bool
is_statement_function names None = false
is_statement_function names (Some x) = elim (names x).class [ class.StatementFunction ↦ true | _ ↦ false ]

-- the right side is valued, and then the target settled
unfoldable pub value_assignment : Read → Read → Form
value_assignment target e = On ToSet (More e.value (More target.actual NoMore))

-- of a text the pieces are settled, and fetched when the target is settled too; where the target has a reference they are fetched before it
unfoldable pub text_assignment : Read → Read → Form
text_assignment target e = if refers target.actual then value_assignment target e else On ToSetText (terms (e.pieces ++ target.actual ∷ []))

-- an assignment (10.1 to 10.4)
unfoldable pub assignment : Naming → Read → Read → Form
assignment names target e = if is_text names target.base then text_assignment target e else value_assignment target e

unfoldable pub assign_form : Naming → Expr → Expr → Form
assign_form names target e =
    if is_statement_function names (heading_of target).applied then Passes else assignment names (read names target) (read names e)

unfoldable pub return_form : Naming → Option Expr → Form
return_form names None = On ToReturn NoMore
return_form names (Some e) = On ToReturn (More (value_of names e) NoMore)

-- a statement, the statement of a logical IF being read; what is no executable statement takes no step
unfoldable pub layer_form : Naming → body.Body-F Form → Form
layer_form names (body.Assign target e) = assign_form names target e
layer_form names (body.AssignLabel label x) = On (ToSetLabel label) (More (At x) NoMore)
layer_form names (body.Goto label) = On (ToGo label) NoMore
layer_form names (body.GotoList labels e) = On (ToPick labels) (More (value_of names e) NoMore)
layer_form names (body.GotoName x labels) = On (ToGoAssigned labels) (More (At x) NoMore)
layer_form names (body.IfSign e below at above) = On (ToGoBySign below at above) (More (value_of names e) NoMore)
layer_form names (body.IfOne e form) = On (ToGuard form) (More (value_of names e) NoMore)
layer_form names (body.IfThen e) = On ToEnterArm (More (value_of names e) NoMore)
layer_form names (body.ElseIf e) = On ToEnterArm (More (value_of names e) NoMore)
layer_form names (body.Do label control) = On (ToLoop label) (control_of names control)
layer_form names (body.DoWhile label e) = On (ToTestLoop label) (More (value_of names e) NoMore)
layer_form names (body.Call x es) = On (ToCall x) (terms (arguments_of names es))
layer_form names (body.Return e) = return_form names e
layer_form names (body.Stop text) = On (ToStop text) NoMore
layer_form names (body.Transfer way controls items) = transfer_form (way_of way) names items (controls_written (way_of way) names controls)
layer_form names (body.Auxiliary which controls) = auxiliary_form (auxiliary_of which) (controls_written Output names controls)
layer_form names body.End = On ToEnd NoMore
layer_form names _ = Passes

unfoldable pub form_of : Naming → Body → Form
form_of names b = fold_body (layer_form names) b

unfoldable pub mark_of : Body → Mark
mark_of b = elim (layer_of b) [ body.IfThen e ↦ Opens | body.ElseIf e ↦ Arm | body.Else ↦ Arm | body.EndIf ↦ Closes | _ ↦ Plain ]

-- the labels of the terminal statements of DO statements
unfoldable pub loop_label_in : Body → List ℕ
loop_label_in b = elim (layer_of b) [ body.Do label control ↦ option_list label | body.DoWhile label e ↦ option_list label | _ ↦ [] ]

unfoldable pub opens_loop : Option ℕ → LoopMark
opens_loop None = OpensLoop
opens_loop (Some label) = NoLoop

unfoldable pub is_loop_label : List ℕ → Option ℕ → Bool
is_loop_label labels None = false
is_loop_label labels (Some label) = list_any (nat_eq label) labels

unfoldable pub loop_mark_of : List ℕ → Option ℕ → Body → LoopMark
loop_mark_of labels label b = elim (layer_of b) [
  | body.Do terminal control ↦ opens_loop terminal
  | body.DoWhile terminal e ↦ opens_loop terminal
  | body.EndDo ↦ if is_loop_label labels label then NoLoop else ClosesLoop
  | _ ↦ NoLoop
]

-- a statement, given the labels of terminal statements in its unit
unfoldable pub line_of : Naming → List ℕ → Stmt → Line
line_of names labels s = record { label = s.label; mark = mark_of s.body; loop = loop_mark_of labels s.label s.body; card = s.card; form = form_of names s.body }

-- entries (15.7): the unit's own name, and each ENTRY, which begins at the statement behind it
unfoldable pub formals_of : List DummyArgument → List Formal
formals_of [] = []
formals_of (dummy.Named x ∷ ds) = Named x ∷ formals_of ds
formals_of (dummy.AlternateReturn ∷ ds) = Alternate ∷ formals_of ds

unfoldable pub entry_in : ℕ → Body → List EntryPoint
entry_in i b = elim (layer_of b) [ body.Entry x dummies ↦ record { name = x; formals = formals_of dummies; start = suc i } ∷ [] | _ ↦ [] ]

unfoldable pub entries_from : ℕ → List Stmt → List EntryPoint
entries_from i [] = []
entries_from i (s ∷ ss) = entry_in i s.body ++ entries_from (suc i) ss

unfoldable pub format_in : Option ℕ → Body → List LabelledFormat
format_in None b = []
format_in (Some l) b = elim (layer_of b) [ body.Format text ↦ record { label = l; text = text } ∷ [] | _ ↦ [] ]

unfoldable pub formats_of : List Stmt → List LabelledFormat
formats_of [] = []
formats_of (s ∷ ss) = format_in s.label s.body ++ formats_of ss

-- storage: sizes in character units
unfoldable pub size_by : Attribute → Option ℕ → ℕ
size_by a None = 0
size_by a (Some width) = extent_of (elements_of a.bounds) width

unfoldable pub size_of : Attribute → ℕ
size_of a = size_by a a.width

unfoldable pub is_stored : Attribute → Bool
is_stored a = elim a.class [ class.Stored ↦ true | _ ↦ false ]

unfoldable pub stored_among : List Described → List Member
stored_among [] = []
stored_among (d ∷ ds) =
    if is_stored d.attribute then record { name = d.name; size = size_of d.attribute } ∷ stored_among ds else stored_among ds

unfoldable pub is_procedure : Attribute → Bool
is_procedure a = elim a.class [ class.Procedure ↦ true | _ ↦ false ]

unfoldable pub procedures_among : List Described → List Bytes
procedures_among [] = []
procedures_among (d ∷ ds) = if is_procedure d.attribute then d.name ∷ procedures_among ds else procedures_among ds

-- of these names, those that are referenced or passed, and not declared alone: EXTERNAL may name a unit that is never called, such as a
-- block data subprogram (8.7)
unfoldable pub is_reference : Manner → Bool
is_reference Declared = false
is_reference _ = true

unfoldable pub referenced_among : List Use → List Bytes → List Bytes
referenced_among uses [] = []
referenced_among uses (x ∷ xs) = if is_used_as is_reference x uses then x ∷ referenced_among uses xs else referenced_among uses xs

unfoldable pub references_of : WrittenUnit → List Described → List Bytes
references_of u ds = referenced_among (uses_of_statements (arrays_of u) u.statements) (procedures_among ds)

-- common blocks: the items of all groups of a block, in their order (8.3)
unfoldable pub member_of : Naming → ArrayDeclarator → Member
member_of names d = record { name = d.name; size = size_of (names d.name) }

unfoldable pub same_block : Option Bytes → Option Bytes → Bool
same_block None None = true
same_block (Some x) (Some y) = bytes_eq x y
same_block _ _ = false

unfoldable pub into_block : Option Bytes → List Member → List Block → List Block
into_block x members [] = record { name = x; members = members } ∷ []
into_block x members (b ∷ bs) =
    if same_block b.name x then record b { members = b.members ++ members } ∷ bs else b ∷ into_block x members bs

unfoldable pub blocks_from : Naming → List Block → List CommonGroup → List Block
blocks_from names bs [] = bs
blocks_from names bs (g ∷ gs) = blocks_from names (into_block g.block (map (member_of names) g.items) bs) gs

unfoldable pub common_in : Body → List CommonGroup
common_in b = elim (layer_of b) [ body.Common groups ↦ groups | _ ↦ [] ]

-- EQUIVALENCE: each place of a group is one with the group's first (8.2)
unfoldable pub tied_at : Option Bytes → Red Datum Term → List Tied
tied_at (Some x) (Valued (IsSpot p)) = record { name = x; before = p.first } ∷ []
tied_at x _ = []

-- how far into its name a place stands
unfoldable pub tied_of : Facts → Naming → Expr → List Tied
tied_of c names e = tied_at (read names e).base (reduce c no_frame [] [] (place_of names e))

unfoldable pub tieds_of : Facts → Naming → List Expr → List Tied
tieds_of c names [] = []
tieds_of c names (e ∷ es) = tied_of c names e ++ tieds_of c names es

unfoldable pub ties_among : List Tied → List Tie
ties_among [] = []
ties_among (one ∷ others) = map (λ other. record { one = one; other = other }) others

unfoldable pub equivalence_in : Body → List EquivalenceGroup
equivalence_in b = elim (layer_of b) [ body.Equivalence groups ↦ groups | _ ↦ [] ]

unfoldable pub ties_of : Facts → Naming → List EquivalenceGroup → List Tie
ties_of c names [] = []
ties_of c names (g ∷ gs) = ties_among (tieds_of c names g.places) ++ ties_of c names gs

-- DATA (9): a name that is bound by an implied DO, by its depth
unfoldable pub bound_within : Naming → Bytes → ℕ → Naming
bound_within names x depth y =
    if bytes_eq x y then record (names y) { class = class.StatementFunction; expansion = Some (Bound depth) } else names y

abbrev pub PlaceReader : Type 0
PlaceReader = Naming → ℕ → DataPlace

unfoldable pub all_places : List PlaceReader → Naming → ℕ → DataPlaces
all_places [] names depth = NoPlaces
all_places (f ∷ fs) names depth = AndPlaces (f names depth) (all_places fs names depth)

unfoldable pub place_by : Option Bytes → Term → DataPlace
place_by None t = OnePlace t
place_by (Some x) t = WholeName t

unfoldable pub layer_place : item.ListItem-F PlaceReader → PlaceReader
layer_place (item.Item e) names depth = place_by (read names e).named (place_of names e)
layer_place (item.Loop fs control) names depth =
    EachOf (all_places fs (bound_within names control.variable depth) (suc depth)) (value_of names control.first) (value_of names control.limit) (step_of names control.step)

unfoldable pub places_read : Naming → List ListItem → DataPlaces
places_read names [] = NoPlaces
places_read names (i ∷ is) = AndPlaces (fold_item layer_place i names 0) (places_read names is)

unfoldable pub count_of : Option Datum → ℕ
count_of (Some (IsInt z)) = nat_abs z
count_of _ = 0

unfoldable pub repeats_of : Naming → Option Expr → ℕ
repeats_of names None = 1
repeats_of names (Some e) = count_of (value_if_valued (reduce no_facts no_frame [] [] (value_of names e)))

unfoldable pub values_read : Naming → List DataValue → List Datum
values_read names [] = []
values_read names (d ∷ ds) =
    replicate (repeats_of names d.count) (unwrap_or (value_if_valued (reduce no_facts no_frame [] [] (value_of names d.value))) Nothing) ++ values_read names ds

unfoldable pub data_in : Body → List DataGroup
data_in b = elim (layer_of b) [ body.Init groups ↦ groups | _ ↦ [] ]

unfoldable pub image_of : Naming → DataGroup → Image
image_of names g = record { places = places_read names g.places; values = values_read names g.values }

unfoldable pub unit_kind : WrittenUnit → UnitKind
unit_kind u = elim u.kind [
  | kind.Main ↦ MainProgram
  | kind.Subroutine ↦ SubroutineUnit
  | kind.Function spec ↦ FunctionUnit
  | kind.BlockData ↦ BlockDataUnit
]

unfoldable pub program_of : Options → WrittenUnit → List Described → ProgramUnit
program_of options u ds = record {
  kind = unit_kind u;
  entries = record { name = name_or_none u.name; formals = formals_of u.dummies; start = 0 } ∷ entries_from 0 u.statements;
  lines = map (line_of (attribute_in ds) (from_all loop_label_in u.statements)) u.statements;
  attribute = attribute_in ds;
  formats = formats_of u.statements;
  blocks = blocks_from (attribute_in ds) [] (from_all common_in u.statements);
  ties = [];
  images = map (image_of (attribute_in ds)) (from_all data_in u.statements);
  references = references_of u ds;
  stored = stored_among ds;
  onetrip = options.onetrip;
}

-- a name as if it stood alone in a sequence
unfoldable pub apart : ProgramUnit → Facts
apart p = record { program = p; home = λ x. Some (record { sequence = 0; first = 0 }) }

unfoldable pub with_ties : WrittenUnit → ProgramUnit → ProgramUnit
with_ties u p = record p { ties = ties_of (apart p) p.attribute (from_all equivalence_in u.statements) }

-- a program unit as the meaning takes it
unfoldable pub unit_read : Options → WrittenUnit → ProgramUnit
unit_read options u = with_ties u (program_of options u (all_described u))

unfoldable pub lines_opened : Unit {0}
unfolding value_of place_of arguments_of step_of control_of is_array array_or if_placed settled item_of work_of layer_job job_of jobs_of is_character is_text standard_unit nothing_written with_operand control_written controls_written controls_of layout_written way_of transfer_form auxiliary_of auxiliary_form is_statement_function value_assignment text_assignment assignment assign_form return_form layer_form form_of mark_of loop_label_in opens_loop is_loop_label loop_mark_of line_of formals_of entry_in entries_from format_in formats_of size_by size_of is_stored stored_among is_procedure procedures_among is_reference referenced_among references_of member_of same_block into_block blocks_from common_in tied_at tied_of tieds_of ties_among equivalence_in ties_of bound_within all_places place_by layer_place places_read count_of repeats_of values_read data_in image_of unit_kind program_of apart with_ties unit_read
lines_opened = tt
