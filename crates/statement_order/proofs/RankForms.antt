-- The rank of each form of a statement.
use Rattle.std.specs.Prelude.{◌≡◌, ℕ, Bool, true, false, List, [], ◌∷◌, Option, Some, None}
use Rattle.std.proofs.Common.{refl, ap}
use Rattle.f_tree.specs.Values.{Bytes}
use Rattle.f_tree.specs.declared.expressions.Expr.{Expr}
use Rattle.f_tree.specs.declared.statements.Body.{Body}
use Rattle.f_tree.specs.declared.statements.Body.TheVariants as body
use Rattle.f_tree.specs.Folds.{folds_opened}
use Rattle.f_tree.specs.declared.statements.UnitKind.{UnitKind}
use Rattle.f_tree.specs.declared.statements.DummyArgument.{DummyArgument}
use Rattle.f_tree.specs.declared.statements.ImplicitGroup.{ImplicitGroup}
use Rattle.f_tree.specs.declared.statements.TypeSpec.{TypeSpec}
use Rattle.f_tree.specs.declared.statements.Declarator.{Declarator}
use Rattle.f_tree.specs.declared.statements.ArrayDeclarator.{ArrayDeclarator}
use Rattle.f_tree.specs.declared.statements.CommonGroup.{CommonGroup}
use Rattle.f_tree.specs.declared.statements.EquivalenceGroup.{EquivalenceGroup}
use Rattle.f_tree.specs.declared.statements.ConstantDefinition.{ConstantDefinition}
use Rattle.f_tree.specs.declared.statements.SavedItem.{SavedItem}
use Rattle.f_tree.specs.declared.statements.DataGroup.{DataGroup}
use Rattle.f_tree.specs.declared.statements.LoopControl.{LoopControl}
use Rattle.f_tree.specs.declared.statements.Direction.{Direction}
use Rattle.f_tree.specs.declared.statements.Control.{Control}
use Rattle.f_tree.specs.declared.statements.ListItem.{ListItem}
use Rattle.f_tree.specs.declared.statements.AuxiliaryKind.{AuxiliaryKind}
use Rattle.f_tree.specs.Uses.{Heading, heading_of, is_among, defines_function}
use Rattle.f_tree.specs.Attributes.{Definition, definition_by, definitions_in, is_not_empty}
use Rattle.std.specs.Prelude.{not, if◌then◌else◌}
use Rattle.declaration_rows.specs.OrderRows.{Anywhere, Implicit, Parameter, Specification, Initial, Executable, Heading as Headed, assigned_rank, rank_of}

some_defined : (b : Bool) (d : Definition) → is_not_empty {A = Definition} (if b then d ∷ [] else []) ≡ b
unfolding is_not_empty
some_defined true d = refl
some_defined false d = refl

by_applied : (arrays : List Bytes) (o : Option Bytes) (xs : List Bytes) (e : Expr)
    → is_not_empty {A = Definition} (if (elim o [ None ↦ false | Some x ↦ not (is_among x arrays) ]) then (elim o [ None ↦ [] | Some x ↦ record { name = x; dummies = xs; body = e } ∷ [] ]) else [])
    ≡ (elim o [ None ↦ false | Some x ↦ not (is_among x arrays) ])
unfolding is_not_empty
by_applied arrays None xs e = refl
by_applied arrays (Some x) xs e = some_defined (not (is_among x arrays)) (record { name = x; dummies = xs; body = e })

defined_by : (arrays : List Bytes) (h : Heading) (e : Expr) → is_not_empty {A = Definition} (if defines_function arrays h then definition_by h e else []) ≡ defines_function arrays h
unfolding defines_function definition_by
defined_by arrays h e = by_applied arrays h.applied h.arguments e

pub rank-Header : (arrays : List Bytes) (kind : UnitKind) (name : Option Bytes) (dummies : List DummyArgument) → rank_of arrays (body.Header kind name dummies) ≡ Headed
unfolding rank_of folds_opened
rank-Header arrays kind name dummies = refl

pub rank-Declare : (arrays : List Bytes) (spec : TypeSpec) (items : List Declarator) → rank_of arrays (body.Declare spec items) ≡ Specification
unfolding rank_of folds_opened
rank-Declare arrays spec items = refl

pub rank-Dimension : (arrays : List Bytes) (items : List ArrayDeclarator) → rank_of arrays (body.Dimension items) ≡ Specification
unfolding rank_of folds_opened
rank-Dimension arrays items = refl

pub rank-Common : (arrays : List Bytes) (groups : List CommonGroup) → rank_of arrays (body.Common groups) ≡ Specification
unfolding rank_of folds_opened
rank-Common arrays groups = refl

pub rank-Equivalence : (arrays : List Bytes) (groups : List EquivalenceGroup) → rank_of arrays (body.Equivalence groups) ≡ Specification
unfolding rank_of folds_opened
rank-Equivalence arrays groups = refl

pub rank-Implicit : (arrays : List Bytes) (groups : List ImplicitGroup) → rank_of arrays (body.Implicit groups) ≡ Implicit
unfolding rank_of folds_opened
rank-Implicit arrays groups = refl

pub rank-ImplicitNone : (arrays : List Bytes) → rank_of arrays body.ImplicitNone ≡ Implicit
unfolding rank_of folds_opened
rank-ImplicitNone arrays = refl

pub rank-Parameter : (arrays : List Bytes) (items : List ConstantDefinition) → rank_of arrays (body.Parameter items) ≡ Parameter
unfolding rank_of folds_opened
rank-Parameter arrays items = refl

pub rank-External : (arrays : List Bytes) (xs : List Bytes) → rank_of arrays (body.External xs) ≡ Specification
unfolding rank_of folds_opened
rank-External arrays xs = refl

pub rank-Intrinsic : (arrays : List Bytes) (xs : List Bytes) → rank_of arrays (body.Intrinsic xs) ≡ Specification
unfolding rank_of folds_opened
rank-Intrinsic arrays xs = refl

pub rank-Save : (arrays : List Bytes) (items : List SavedItem) → rank_of arrays (body.Save items) ≡ Specification
unfolding rank_of folds_opened
rank-Save arrays items = refl

pub rank-Init : (arrays : List Bytes) (groups : List DataGroup) → rank_of arrays (body.Init groups) ≡ Initial
unfolding rank_of folds_opened
rank-Init arrays groups = refl

pub rank-Format : (arrays : List Bytes) (text : Bytes) → rank_of arrays (body.Format text) ≡ Anywhere
unfolding rank_of folds_opened
rank-Format arrays text = refl

pub rank-Entry : (arrays : List Bytes) (name : Bytes) (dummies : List DummyArgument) → rank_of arrays (body.Entry name dummies) ≡ Anywhere
unfolding rank_of folds_opened
rank-Entry arrays name dummies = refl

pub rank-Assign : (arrays : List Bytes) (target e : Expr) → rank_of arrays (body.Assign target e) ≡ assigned_rank (defines_function arrays (heading_of target))
unfolding rank_of folds_opened definitions_in
rank-Assign arrays target e = ap assigned_rank (defined_by arrays (heading_of target) e)

pub rank-AssignLabel : (arrays : List Bytes) (label : ℕ) (x : Bytes) → rank_of arrays (body.AssignLabel label x) ≡ Executable
unfolding rank_of folds_opened
rank-AssignLabel arrays label x = refl

pub rank-Goto : (arrays : List Bytes) (label : ℕ) → rank_of arrays (body.Goto label) ≡ Executable
unfolding rank_of folds_opened
rank-Goto arrays label = refl

pub rank-GotoList : (arrays : List Bytes) (labels : List ℕ) (e : Expr) → rank_of arrays (body.GotoList labels e) ≡ Executable
unfolding rank_of folds_opened
rank-GotoList arrays labels e = refl

pub rank-GotoName : (arrays : List Bytes) (x : Bytes) (labels : List ℕ) → rank_of arrays (body.GotoName x labels) ≡ Executable
unfolding rank_of folds_opened
rank-GotoName arrays x labels = refl

pub rank-IfSign : (arrays : List Bytes) (e : Expr) (below at above : ℕ) → rank_of arrays (body.IfSign e below at above) ≡ Executable
unfolding rank_of folds_opened
rank-IfSign arrays e below at above = refl

pub rank-IfOne : (arrays : List Bytes) (e : Expr) (b : Body) → rank_of arrays (body.IfOne e b) ≡ Executable
unfolding rank_of folds_opened
rank-IfOne arrays e b = refl

pub rank-IfThen : (arrays : List Bytes) (e : Expr) → rank_of arrays (body.IfThen e) ≡ Executable
unfolding rank_of folds_opened
rank-IfThen arrays e = refl

pub rank-ElseIf : (arrays : List Bytes) (e : Expr) → rank_of arrays (body.ElseIf e) ≡ Executable
unfolding rank_of folds_opened
rank-ElseIf arrays e = refl

pub rank-Else : (arrays : List Bytes) → rank_of arrays body.Else ≡ Executable
unfolding rank_of folds_opened
rank-Else arrays = refl

pub rank-EndIf : (arrays : List Bytes) → rank_of arrays body.EndIf ≡ Executable
unfolding rank_of folds_opened
rank-EndIf arrays = refl

pub rank-Do : (arrays : List Bytes) (label : Option ℕ) (control : LoopControl) → rank_of arrays (body.Do label control) ≡ Executable
unfolding rank_of folds_opened
rank-Do arrays label control = refl

pub rank-DoWhile : (arrays : List Bytes) (label : Option ℕ) (e : Expr) → rank_of arrays (body.DoWhile label e) ≡ Executable
unfolding rank_of folds_opened
rank-DoWhile arrays label e = refl

pub rank-EndDo : (arrays : List Bytes) → rank_of arrays body.EndDo ≡ Executable
unfolding rank_of folds_opened
rank-EndDo arrays = refl

pub rank-Continue : (arrays : List Bytes) → rank_of arrays body.Continue ≡ Executable
unfolding rank_of folds_opened
rank-Continue arrays = refl

pub rank-Call : (arrays : List Bytes) (x : Bytes) (es : List Expr) → rank_of arrays (body.Call x es) ≡ Executable
unfolding rank_of folds_opened
rank-Call arrays x es = refl

pub rank-Return : (arrays : List Bytes) (e : Option Expr) → rank_of arrays (body.Return e) ≡ Executable
unfolding rank_of folds_opened
rank-Return arrays e = refl

pub rank-Stop : (arrays : List Bytes) (text : Bytes) → rank_of arrays (body.Stop text) ≡ Executable
unfolding rank_of folds_opened
rank-Stop arrays text = refl

pub rank-Transfer : (arrays : List Bytes) (way : Direction) (controls : List Control) (items : List ListItem) → rank_of arrays (body.Transfer way controls items) ≡ Executable
unfolding rank_of folds_opened
rank-Transfer arrays way controls items = refl

pub rank-Auxiliary : (arrays : List Bytes) (which : AuxiliaryKind) (controls : List Control) → rank_of arrays (body.Auxiliary which controls) ≡ Executable
unfolding rank_of folds_opened
rank-Auxiliary arrays which controls = refl

pub rank-Include : (arrays : List Bytes) (name : Bytes) → rank_of arrays (body.Include name) ≡ Anywhere
unfolding rank_of folds_opened
rank-Include arrays name = refl

pub rank-End : (arrays : List Bytes) → rank_of arrays body.End ≡ Anywhere
unfolding rank_of folds_opened
rank-End arrays = refl

pub ruleset rank_forms = (rank-Header, rank-Declare, rank-Dimension, rank-Common, rank-Equivalence, rank-Implicit, rank-ImplicitNone, rank-Parameter, rank-External, rank-Intrinsic, rank-Save, rank-Init, rank-Format, rank-Entry, rank-Assign, rank-AssignLabel, rank-Goto, rank-GotoList, rank-GotoName, rank-IfSign, rank-IfOne, rank-IfThen, rank-ElseIf, rank-Else, rank-EndIf, rank-Do, rank-DoWhile, rank-EndDo, rank-Continue, rank-Call, rank-Return, rank-Stop, rank-Transfer, rank-Auxiliary, rank-Include, rank-End)
