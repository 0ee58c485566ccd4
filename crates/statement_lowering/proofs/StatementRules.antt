-- What a statement does, and whether it is lowered, by its form.
use Rattle.std.specs.Prelude.{◌≡◌, ℕ, Bool, true, false, ◌&&◌, List, [], ◌∷◌, ◌++◌, Option, None, Some, if◌then◌else◌}
use Rattle.std.proofs.Common.{refl}
use Rattle.f_tree.specs.Values.{Bytes}
use Rattle.f_tree.specs.Folds.{folds_opened}
use Rattle.f_tree.specs.Terms.{terms, refers}
use Rattle.f_tree.specs.Facts.{ToSetText, Passes, On}
use Rattle.f_tree.specs.Reading.{Read, read}
use Rattle.f_tree.specs.Uses.{heading_of}
use Rattle.f_tree.specs.Lines.{Naming, is_statement_function, is_text, value_assignment, text_assignment, assignment, assign_form, return_form, transfer_form, auxiliary_form, form_of, layer_form}
use Rattle.lowering.specs.Units.{listed}
use Rattle.f_tree.specs.declared.expressions.Expr.{Expr}
use Rattle.f_tree.specs.declared.statements.Body.{Body}
use Rattle.f_tree.specs.declared.statements.Body as body
use Rattle.f_tree.specs.declared.statements.ListItem.{ListItem}
use Rattle.f_tree.specs.declared.statements.LoopControl.{LoopControl}
use Rattle.f_tree.specs.declared.statements.Control.{Control}
use Rattle.f_tree.specs.declared.statements.Direction.{Direction}
use Rattle.f_tree.specs.declared.statements.AuxiliaryKind.{AuxiliaryKind}
use Rattle.f_tree.specs.declared.statements.UnitKind.{UnitKind}
use Rattle.f_tree.specs.declared.statements.DummyArgument.{DummyArgument}
use Rattle.f_tree.specs.declared.statements.TypeSpec.{TypeSpec}
use Rattle.f_tree.specs.declared.statements.Declarator.{Declarator}
use Rattle.f_tree.specs.declared.statements.ArrayDeclarator.{ArrayDeclarator}
use Rattle.f_tree.specs.declared.statements.CommonGroup.{CommonGroup}
use Rattle.f_tree.specs.declared.statements.EquivalenceGroup.{EquivalenceGroup}
use Rattle.f_tree.specs.declared.statements.ImplicitGroup.{ImplicitGroup}
use Rattle.f_tree.specs.declared.statements.ConstantDefinition.{ConstantDefinition}
use Rattle.f_tree.specs.declared.statements.SavedItem.{SavedItem}
use Rattle.f_tree.specs.declared.statements.DataGroup.{DataGroup}
use Rattle.name_facts.specs.declared.table.NameFacts.{NameFacts}
use Rattle.expression_lowering.specs.TableNames.{is_lowered_value}
use Rattle.statement_lowering.specs.StatementForms as form
use Rattle.statement_lowering.specs.TransferForms.{transfer_forms_opened, transferring, acting_on, calling}
use Rattle.statement_lowering.specs.LoweredTransfers.{controls_lower, transfer_lowers, call_lowers}
use Rattle.statement_lowering.specs.LoweredStatements.{assignment_lowers, control_lowers, optional_lowers, layer_lowers, is_lowered_statement}

-- WHAT IT DOES
pub does-Header : (ls : List ℕ) (kind : UnitKind) (name : Option Bytes) (dummies : List DummyArgument) → form.forms_of ls (body.Header kind name dummies) ≡ form.passing
unfolding folds_opened listed form_of layer_form form.statement_forms_opened
does-Header ls kind name dummies = refl

pub does-Declare : (ls : List ℕ) (type : TypeSpec) (items : List Declarator) → form.forms_of ls (body.Declare type items) ≡ form.passing
unfolding folds_opened listed form_of layer_form form.statement_forms_opened
does-Declare ls type items = refl

pub does-Dimension : (ls : List ℕ) (items : List ArrayDeclarator) → form.forms_of ls (body.Dimension items) ≡ form.passing
unfolding folds_opened listed form_of layer_form form.statement_forms_opened
does-Dimension ls items = refl

pub does-Common : (ls : List ℕ) (groups : List CommonGroup) → form.forms_of ls (body.Common groups) ≡ form.passing
unfolding folds_opened listed form_of layer_form form.statement_forms_opened
does-Common ls groups = refl

pub does-Equivalence : (ls : List ℕ) (groups : List EquivalenceGroup) → form.forms_of ls (body.Equivalence groups) ≡ form.passing
unfolding folds_opened listed form_of layer_form form.statement_forms_opened
does-Equivalence ls groups = refl

pub does-Implicit : (ls : List ℕ) (groups : List ImplicitGroup) → form.forms_of ls (body.Implicit groups) ≡ form.passing
unfolding folds_opened listed form_of layer_form form.statement_forms_opened
does-Implicit ls groups = refl

pub does-ImplicitNone : (ls : List ℕ) → form.forms_of ls body.ImplicitNone ≡ form.passing
unfolding folds_opened listed form_of layer_form form.statement_forms_opened
does-ImplicitNone ls = refl

pub does-Parameter : (ls : List ℕ) (items : List ConstantDefinition) → form.forms_of ls (body.Parameter items) ≡ form.passing
unfolding folds_opened listed form_of layer_form form.statement_forms_opened
does-Parameter ls items = refl

pub does-External : (ls : List ℕ) (xs : List Bytes) → form.forms_of ls (body.External xs) ≡ form.passing
unfolding folds_opened listed form_of layer_form form.statement_forms_opened
does-External ls xs = refl

pub does-Intrinsic : (ls : List ℕ) (xs : List Bytes) → form.forms_of ls (body.Intrinsic xs) ≡ form.passing
unfolding folds_opened listed form_of layer_form form.statement_forms_opened
does-Intrinsic ls xs = refl

pub does-Save : (ls : List ℕ) (items : List SavedItem) → form.forms_of ls (body.Save items) ≡ form.passing
unfolding folds_opened listed form_of layer_form form.statement_forms_opened
does-Save ls items = refl

pub does-Init : (ls : List ℕ) (groups : List DataGroup) → form.forms_of ls (body.Init groups) ≡ form.passing
unfolding folds_opened listed form_of layer_form form.statement_forms_opened
does-Init ls groups = refl

pub does-Format : (ls : List ℕ) (text : Bytes) → form.forms_of ls (body.Format text) ≡ form.passing
unfolding folds_opened listed form_of layer_form form.statement_forms_opened
does-Format ls text = refl

pub does-Entry : (ls : List ℕ) (name : Bytes) (dummies : List DummyArgument) → form.forms_of ls (body.Entry name dummies) ≡ form.passing
unfolding folds_opened listed form_of layer_form form.statement_forms_opened
does-Entry ls name dummies = refl

-- an assignment is no GO TO
unlisted-set : (ls : List ℕ) (target e : Read) (b : Bool) → listed ls (if b then value_assignment target e else On ToSetText (terms (e.pieces ++ target.actual ∷ []))) ≡ (if b then value_assignment target e else On ToSetText (terms (e.pieces ++ target.actual ∷ [])))
unfolding listed value_assignment
unlisted-set ls target e true = refl
unlisted-set ls target e false = refl

unlisted-text : (ls : List ℕ) (target e : Read) (b : Bool) → listed ls (if b then text_assignment target e else value_assignment target e) ≡ (if b then text_assignment target e else value_assignment target e)
unfolding listed text_assignment value_assignment
unlisted-text ls target e true = unlisted-set ls target e (refers target.actual)
unlisted-text ls target e false = refl

unlisted-assign : (ls : List ℕ) (names : Naming) (target e : Expr) (b : Bool) → listed ls (if b then Passes else assignment names (read names target) (read names e)) ≡ (if b then Passes else assignment names (read names target) (read names e))
unfolding listed assignment
unlisted-assign ls names target e true = refl
unlisted-assign ls names target e false = unlisted-text ls (read names target) (read names e) (is_text names (read names target).base)

pub does-Assign : (ls : List ℕ) (target e : Expr) → form.forms_of ls (body.Assign target e) ≡ form.assigning target e
unfolding folds_opened form_of layer_form form.statement_forms_opened assign_form
does-Assign ls target e = λ i. λ names. unlisted-assign ls names target e (is_statement_function names (heading_of target).applied) i

pub does-AssignLabel : (ls : List ℕ) (label : ℕ) (x : Bytes) → form.forms_of ls (body.AssignLabel label x) ≡ form.assigning_label label x
unfolding folds_opened listed form_of layer_form form.statement_forms_opened
does-AssignLabel ls label x = refl

pub does-Goto : (ls : List ℕ) (label : ℕ) → form.forms_of ls (body.Goto label) ≡ form.going label
unfolding folds_opened listed form_of layer_form form.statement_forms_opened
does-Goto ls label = refl

pub does-GotoList : (ls : List ℕ) (labels : List ℕ) (e : Expr) → form.forms_of ls (body.GotoList labels e) ≡ form.picking labels e
unfolding folds_opened listed form_of layer_form form.statement_forms_opened
does-GotoList ls labels e = refl

pub does-GotoName : (ls : List ℕ) (x : Bytes) (labels : List ℕ) → form.forms_of ls (body.GotoName x labels) ≡ form.going_assigned x (form.written_or labels ls)
unfolding folds_opened listed form_of layer_form form.statement_forms_opened
does-GotoName ls x [] = refl
does-GotoName ls x (label ∷ labels) = refl

pub does-IfSign : (ls : List ℕ) (e : Expr) (below at above : ℕ) → form.forms_of ls (body.IfSign e below at above) ≡ form.going_by_sign e below at above
unfolding folds_opened listed form_of layer_form form.statement_forms_opened
does-IfSign ls e below at above = refl

pub does-IfOne : (ls : List ℕ) (e : Expr) (b : Body) → form.forms_of ls (body.IfOne e b) ≡ form.guarding e (form.forms_of ls b)
unfolding folds_opened listed form_of layer_form form.statement_forms_opened
does-IfOne ls e b = refl

pub does-IfThen : (ls : List ℕ) (e : Expr) → form.forms_of ls (body.IfThen e) ≡ form.entering e
unfolding folds_opened listed form_of layer_form form.statement_forms_opened
does-IfThen ls e = refl

pub does-ElseIf : (ls : List ℕ) (e : Expr) → form.forms_of ls (body.ElseIf e) ≡ form.entering e
unfolding folds_opened listed form_of layer_form form.statement_forms_opened
does-ElseIf ls e = refl

pub does-Else : (ls : List ℕ) → form.forms_of ls body.Else ≡ form.passing
unfolding folds_opened listed form_of layer_form form.statement_forms_opened
does-Else ls = refl

pub does-EndIf : (ls : List ℕ) → form.forms_of ls body.EndIf ≡ form.passing
unfolding folds_opened listed form_of layer_form form.statement_forms_opened
does-EndIf ls = refl

pub does-Do : (ls : List ℕ) (label : Option ℕ) (control : LoopControl) → form.forms_of ls (body.Do label control) ≡ form.looping label control
unfolding folds_opened listed form_of layer_form form.statement_forms_opened
does-Do ls label control = refl

pub does-DoWhile : (ls : List ℕ) (label : Option ℕ) (e : Expr) → form.forms_of ls (body.DoWhile label e) ≡ form.testing label e
unfolding folds_opened listed form_of layer_form form.statement_forms_opened
does-DoWhile ls label e = refl

pub does-EndDo : (ls : List ℕ) → form.forms_of ls body.EndDo ≡ form.passing
unfolding folds_opened listed form_of layer_form form.statement_forms_opened
does-EndDo ls = refl

pub does-Continue : (ls : List ℕ) → form.forms_of ls body.Continue ≡ form.passing
unfolding folds_opened listed form_of layer_form form.statement_forms_opened
does-Continue ls = refl

pub does-Return : (ls : List ℕ) (e : Option Expr) → form.forms_of ls (body.Return e) ≡ form.returning e
unfolding folds_opened listed form_of layer_form form.statement_forms_opened return_form
does-Return ls None = refl
does-Return ls (Some e) = refl

pub does-Stop : (ls : List ℕ) (text : Bytes) → form.forms_of ls (body.Stop text) ≡ form.stopping text
unfolding folds_opened listed form_of layer_form form.statement_forms_opened
does-Stop ls text = refl

pub does-Include : (ls : List ℕ) (name : Bytes) → form.forms_of ls (body.Include name) ≡ form.passing
unfolding folds_opened listed form_of layer_form form.statement_forms_opened
does-Include ls name = refl

pub does-End : (ls : List ℕ) → form.forms_of ls body.End ≡ form.ending
unfolding folds_opened listed form_of layer_form form.statement_forms_opened
does-End ls = refl

pub does-Call : (ls : List ℕ) (x : Bytes) (es : List Expr) → form.forms_of ls (body.Call x es) ≡ calling x es
unfolding folds_opened listed form_of layer_form form.statement_forms_opened transfer_forms_opened
does-Call ls x es = refl

pub does-Transfer : (ls : List ℕ) (way : Direction) (controls : List Control) (items : List ListItem) → form.forms_of ls (body.Transfer way controls items) ≡ transferring way controls items
unfolding folds_opened listed form_of layer_form form.statement_forms_opened transfer_forms_opened transfer_form
does-Transfer ls way controls items = refl

pub does-Auxiliary : (ls : List ℕ) (which : AuxiliaryKind) (controls : List Control) → form.forms_of ls (body.Auxiliary which controls) ≡ acting_on which controls
unfolding folds_opened listed form_of layer_form form.statement_forms_opened transfer_forms_opened auxiliary_form
does-Auxiliary ls which controls = refl

pub ruleset done_forms = (does-Header, does-Declare, does-Dimension, does-Common, does-Equivalence, does-Implicit, does-ImplicitNone, does-Parameter, does-External, does-Intrinsic, does-Save, does-Init, does-Format, does-Entry, does-Assign, does-AssignLabel, does-Goto, does-GotoList, does-GotoName, does-IfSign, does-IfOne, does-IfThen, does-ElseIf, does-Else, does-EndIf, does-Do, does-DoWhile, does-EndDo, does-Continue, does-Return, does-Stop, does-Include, does-End, does-Call, does-Transfer, does-Auxiliary)

-- WHETHER IT IS LOWERED
pub lowers-Header : (table : NameFacts) (kind : UnitKind) (name : Option Bytes) (dummies : List DummyArgument) → is_lowered_statement table (body.Header kind name dummies) ≡ true
unfolding folds_opened is_lowered_statement layer_lowers
lowers-Header table kind name dummies = refl

pub lowers-Declare : (table : NameFacts) (type : TypeSpec) (items : List Declarator) → is_lowered_statement table (body.Declare type items) ≡ true
unfolding folds_opened is_lowered_statement layer_lowers
lowers-Declare table type items = refl

pub lowers-Dimension : (table : NameFacts) (items : List ArrayDeclarator) → is_lowered_statement table (body.Dimension items) ≡ true
unfolding folds_opened is_lowered_statement layer_lowers
lowers-Dimension table items = refl

pub lowers-Common : (table : NameFacts) (groups : List CommonGroup) → is_lowered_statement table (body.Common groups) ≡ true
unfolding folds_opened is_lowered_statement layer_lowers
lowers-Common table groups = refl

pub lowers-Equivalence : (table : NameFacts) (groups : List EquivalenceGroup) → is_lowered_statement table (body.Equivalence groups) ≡ true
unfolding folds_opened is_lowered_statement layer_lowers
lowers-Equivalence table groups = refl

pub lowers-Implicit : (table : NameFacts) (groups : List ImplicitGroup) → is_lowered_statement table (body.Implicit groups) ≡ true
unfolding folds_opened is_lowered_statement layer_lowers
lowers-Implicit table groups = refl

pub lowers-ImplicitNone : (table : NameFacts) → is_lowered_statement table body.ImplicitNone ≡ true
unfolding folds_opened is_lowered_statement layer_lowers
lowers-ImplicitNone table = refl

pub lowers-Parameter : (table : NameFacts) (items : List ConstantDefinition) → is_lowered_statement table (body.Parameter items) ≡ true
unfolding folds_opened is_lowered_statement layer_lowers
lowers-Parameter table items = refl

pub lowers-External : (table : NameFacts) (xs : List Bytes) → is_lowered_statement table (body.External xs) ≡ true
unfolding folds_opened is_lowered_statement layer_lowers
lowers-External table xs = refl

pub lowers-Intrinsic : (table : NameFacts) (xs : List Bytes) → is_lowered_statement table (body.Intrinsic xs) ≡ true
unfolding folds_opened is_lowered_statement layer_lowers
lowers-Intrinsic table xs = refl

pub lowers-Save : (table : NameFacts) (items : List SavedItem) → is_lowered_statement table (body.Save items) ≡ true
unfolding folds_opened is_lowered_statement layer_lowers
lowers-Save table items = refl

pub lowers-Init : (table : NameFacts) (groups : List DataGroup) → is_lowered_statement table (body.Init groups) ≡ true
unfolding folds_opened is_lowered_statement layer_lowers
lowers-Init table groups = refl

pub lowers-Format : (table : NameFacts) (text : Bytes) → is_lowered_statement table (body.Format text) ≡ true
unfolding folds_opened is_lowered_statement layer_lowers
lowers-Format table text = refl

pub lowers-Entry : (table : NameFacts) (name : Bytes) (dummies : List DummyArgument) → is_lowered_statement table (body.Entry name dummies) ≡ true
unfolding folds_opened is_lowered_statement layer_lowers
lowers-Entry table name dummies = refl

pub lowers-Assign : (table : NameFacts) (target e : Expr) → is_lowered_statement table (body.Assign target e) ≡ assignment_lowers table target e
unfolding folds_opened is_lowered_statement layer_lowers
lowers-Assign table target e = refl

pub lowers-AssignLabel : (table : NameFacts) (label : ℕ) (x : Bytes) → is_lowered_statement table (body.AssignLabel label x) ≡ true
unfolding folds_opened is_lowered_statement layer_lowers
lowers-AssignLabel table label x = refl

pub lowers-Goto : (table : NameFacts) (label : ℕ) → is_lowered_statement table (body.Goto label) ≡ true
unfolding folds_opened is_lowered_statement layer_lowers
lowers-Goto table label = refl

pub lowers-GotoList : (table : NameFacts) (labels : List ℕ) (e : Expr) → is_lowered_statement table (body.GotoList labels e) ≡ is_lowered_value table e
unfolding folds_opened is_lowered_statement layer_lowers
lowers-GotoList table labels e = refl

pub lowers-GotoName : (table : NameFacts) (x : Bytes) (labels : List ℕ) → is_lowered_statement table (body.GotoName x labels) ≡ true
unfolding folds_opened is_lowered_statement layer_lowers
lowers-GotoName table x labels = refl

pub lowers-IfSign : (table : NameFacts) (e : Expr) (below at above : ℕ) → is_lowered_statement table (body.IfSign e below at above) ≡ is_lowered_value table e
unfolding folds_opened is_lowered_statement layer_lowers
lowers-IfSign table e below at above = refl

pub lowers-IfOne : (table : NameFacts) (e : Expr) (b : Body) → is_lowered_statement table (body.IfOne e b) ≡ is_lowered_statement table b && is_lowered_value table e
unfolding folds_opened is_lowered_statement layer_lowers
lowers-IfOne table e b = refl

pub lowers-IfThen : (table : NameFacts) (e : Expr) → is_lowered_statement table (body.IfThen e) ≡ is_lowered_value table e
unfolding folds_opened is_lowered_statement layer_lowers
lowers-IfThen table e = refl

pub lowers-ElseIf : (table : NameFacts) (e : Expr) → is_lowered_statement table (body.ElseIf e) ≡ is_lowered_value table e
unfolding folds_opened is_lowered_statement layer_lowers
lowers-ElseIf table e = refl

pub lowers-Else : (table : NameFacts) → is_lowered_statement table body.Else ≡ true
unfolding folds_opened is_lowered_statement layer_lowers
lowers-Else table = refl

pub lowers-EndIf : (table : NameFacts) → is_lowered_statement table body.EndIf ≡ true
unfolding folds_opened is_lowered_statement layer_lowers
lowers-EndIf table = refl

pub lowers-Do : (table : NameFacts) (label : Option ℕ) (control : LoopControl) → is_lowered_statement table (body.Do label control) ≡ control_lowers table control
unfolding folds_opened is_lowered_statement layer_lowers
lowers-Do table label control = refl

pub lowers-DoWhile : (table : NameFacts) (label : Option ℕ) (e : Expr) → is_lowered_statement table (body.DoWhile label e) ≡ is_lowered_value table e
unfolding folds_opened is_lowered_statement layer_lowers
lowers-DoWhile table label e = refl

pub lowers-EndDo : (table : NameFacts) → is_lowered_statement table body.EndDo ≡ true
unfolding folds_opened is_lowered_statement layer_lowers
lowers-EndDo table = refl

pub lowers-Continue : (table : NameFacts) → is_lowered_statement table body.Continue ≡ true
unfolding folds_opened is_lowered_statement layer_lowers
lowers-Continue table = refl

pub lowers-Call : (table : NameFacts) (x : Bytes) (es : List Expr) → is_lowered_statement table (body.Call x es) ≡ call_lowers table es
unfolding folds_opened is_lowered_statement layer_lowers
lowers-Call table x es = refl

pub lowers-Return : (table : NameFacts) (e : Option Expr) → is_lowered_statement table (body.Return e) ≡ optional_lowers table e
unfolding folds_opened is_lowered_statement layer_lowers
lowers-Return table e = refl

pub lowers-Stop : (table : NameFacts) (text : Bytes) → is_lowered_statement table (body.Stop text) ≡ true
unfolding folds_opened is_lowered_statement layer_lowers
lowers-Stop table text = refl

pub lowers-Transfer : (table : NameFacts) (way : Direction) (controls : List Control) (items : List ListItem) → is_lowered_statement table (body.Transfer way controls items) ≡ transfer_lowers table way controls items
unfolding folds_opened is_lowered_statement layer_lowers
lowers-Transfer table way controls items = refl

pub lowers-Auxiliary : (table : NameFacts) (which : AuxiliaryKind) (controls : List Control) → is_lowered_statement table (body.Auxiliary which controls) ≡ controls_lower table controls
unfolding folds_opened is_lowered_statement layer_lowers
lowers-Auxiliary table which controls = refl

pub lowers-Include : (table : NameFacts) (name : Bytes) → is_lowered_statement table (body.Include name) ≡ true
unfolding folds_opened is_lowered_statement layer_lowers
lowers-Include table name = refl

pub lowers-End : (table : NameFacts) → is_lowered_statement table body.End ≡ true
unfolding folds_opened is_lowered_statement layer_lowers
lowers-End table = refl

pub ruleset lowered_forms = (lowers-Header, lowers-Declare, lowers-Dimension, lowers-Common, lowers-Equivalence, lowers-Implicit, lowers-ImplicitNone, lowers-Parameter, lowers-External, lowers-Intrinsic, lowers-Save, lowers-Init, lowers-Format, lowers-Entry, lowers-Assign, lowers-AssignLabel, lowers-Goto, lowers-GotoList, lowers-GotoName, lowers-IfSign, lowers-IfOne, lowers-IfThen, lowers-ElseIf, lowers-Else, lowers-EndIf, lowers-Do, lowers-DoWhile, lowers-EndDo, lowers-Continue, lowers-Call, lowers-Return, lowers-Stop, lowers-Transfer, lowers-Auxiliary, lowers-Include, lowers-End)
