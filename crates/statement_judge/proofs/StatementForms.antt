-- What is judged of each form of a statement and of a list.
use Rattle.std.specs.Prelude.{◌≡◌, ℕ, ℤ, Bool, List, [], ◌∷◌, map, Option, Some, None}
use Rattle.std.proofs.Common.{refl, ap}
use Rattle.f_tree.specs.Values.{Bytes}
use Rattle.f_tree.specs.Uses.{heading_of, layer_heading, no_heading}
use Rattle.f_tree.specs.declared.expressions.BinaryOp.{BinaryOp}
use Rattle.f_tree.specs.declared.expressions.Expr.{Expr}
use Rattle.f_tree.specs.declared.expressions.Expr as tree
use Rattle.f_tree.specs.declared.statements.Body.{Body}
use Rattle.f_tree.specs.declared.statements.Body as body
use Rattle.f_tree.specs.declared.statements.ListItem.{ListItem}
use Rattle.f_tree.specs.declared.statements.ListItem as list
use Rattle.f_tree.specs.declared.statements.ListItem.TheBlock as block
use Rattle.f_tree.specs.declared.statements.LoopControl.{LoopControl}
use Rattle.f_tree.specs.declared.statements.Control.{Control}
use Rattle.f_tree.specs.declared.statements.Direction.{Direction}
use Rattle.f_tree.specs.declared.statements.AuxiliaryKind.{AuxiliaryKind}
use Rattle.f_tree.specs.declared.statements.UnitKind.{UnitKind}
use Rattle.f_tree.specs.declared.statements.DummyArgument.{DummyArgument}
use Rattle.f_tree.specs.declared.statements.TypeSpec.{TypeSpec}
use Rattle.f_tree.specs.declared.statements.Declarator.{Declarator}
use Rattle.f_tree.specs.declared.statements.ArrayDeclarator.{ArrayDeclarator}
use Rattle.f_tree.specs.declared.statements.CommonGroup.{CommonGroup}
use Rattle.f_tree.specs.declared.statements.EquivalenceGroup.{EquivalenceGroup}
use Rattle.f_tree.specs.declared.statements.ImplicitGroup.{ImplicitGroup}
use Rattle.f_tree.specs.declared.statements.ConstantDefinition.{ConstantDefinition}
use Rattle.f_tree.specs.declared.statements.SavedItem.{SavedItem}
use Rattle.f_tree.specs.declared.statements.DataGroup.{DataGroup}
use Rattle.f_tree.specs.Folds.{fold_items, folds_opened}
use Rattle.refusal_order.specs.Earliest.{least as lesser}
use Rattle.expression_judge.specs.FoundSteps.{judged_by}
use Rattle.statement_judge.specs.declared.site.Site.{Site}
use Rattle.statement_judge.specs.StatementSteps.{item_found, layer_item, item_by, listed_by, joined_onward, loop_by, branch_found, condition_by, optional_by, breaks_least, breaks_alone_least, assign_by, assign_label_by, goto_list_by, goto_name_by, if_sign_by, if_one_by, ends_by, call_by, intrinsics_onward, transfer_by, auxiliary_by, layer_broken_by, broken_by}

-- LISTS
row-listed : (site : Site) (way : Direction) (is : List ListItem) → fold_items (layer_item site way) (block.hidden-the_row-ListItem-0 is) ≡ map (item_by site way) is
unfolding folds_opened item_by
row-listed site way [] = refl
row-listed site way (i ∷ is) = ap (λ fs. item_by site way i ∷ fs) (row-listed site way is)

pub by-Item : (site : Site) (way : Direction) (e : Expr) → item_by site way (list.Item e) ≡ item_found way (judged_by site.names.now e)
unfolding folds_opened item_by layer_item
by-Item site way e = refl

pub by-Loop : (site : Site) (way : Direction) (is : List ListItem) (control : LoopControl) →
    item_by site way (list.Loop is control) ≡ lesser (listed_by site way is) (loop_by site control)
unfolding folds_opened item_by layer_item listed_by
by-Loop site way is control = ap (λ fs. lesser (joined_onward None fs) (loop_by site control)) (row-listed site way is)

pub ruleset item_forms = (by-Item, by-Loop)

-- WHAT STANDS ON THE LEFT OF AN ASSIGNMENT
pub heading-Int : (z : ℤ) → (heading_of (tree.Int z)).applied ≡ None
unfolding heading_of layer_heading no_heading folds_opened
heading-Int z = refl

pub heading-Logical : (b : Bool) → (heading_of (tree.Logical b)).applied ≡ None
unfolding heading_of layer_heading no_heading folds_opened
heading-Logical b = refl

pub heading-Text : (cs : Bytes) → (heading_of (tree.Text cs)).applied ≡ None
unfolding heading_of layer_heading no_heading folds_opened
heading-Text cs = refl

pub heading-Name : (x : Bytes) → (heading_of (tree.Name x)).applied ≡ None
unfolding heading_of layer_heading no_heading folds_opened
heading-Name x = refl

pub heading-Part : (e : Expr) (from to : Option Expr) → (heading_of (tree.Part e from to)).applied ≡ None
unfolding heading_of layer_heading no_heading folds_opened
heading-Part e from to = refl

pub heading-Minus : (e : Expr) → (heading_of (tree.Minus e)).applied ≡ None
unfolding heading_of layer_heading no_heading folds_opened
heading-Minus e = refl

pub heading-Plus : (e : Expr) → (heading_of (tree.Plus e)).applied ≡ None
unfolding heading_of layer_heading no_heading folds_opened
heading-Plus e = refl

pub heading-Not : (e : Expr) → (heading_of (tree.Not e)).applied ≡ None
unfolding heading_of layer_heading no_heading folds_opened
heading-Not e = refl

pub heading-Paren : (e : Expr) → (heading_of (tree.Paren e)).applied ≡ None
unfolding heading_of layer_heading no_heading folds_opened
heading-Paren e = refl

pub heading-Binary : (op : BinaryOp) (a b : Expr) → (heading_of (tree.Binary op a b)).applied ≡ None
unfolding heading_of layer_heading no_heading folds_opened
heading-Binary op a b = refl

pub heading-AltReturn : (label : ℕ) → (heading_of (tree.AltReturn label)).applied ≡ None
unfolding heading_of layer_heading no_heading folds_opened
heading-AltReturn label = refl

pub heading-Bind : (es : List Expr) (e : Expr) → (heading_of (tree.Bind es e)).applied ≡ None
unfolding heading_of layer_heading no_heading folds_opened
heading-Bind es e = refl

pub heading-Bound : (k : ℕ) → (heading_of (tree.Bound k)).applied ≡ None
unfolding heading_of layer_heading no_heading folds_opened
heading-Bound k = refl

pub heading-Apply : (x : Bytes) (es : List Expr) → (heading_of (tree.Apply x es)).applied ≡ Some x
unfolding heading_of layer_heading no_heading folds_opened
heading-Apply x es = refl

pub ruleset heading_forms = (heading-Int, heading-Logical, heading-Text, heading-Name, heading-Part, heading-Minus, heading-Plus, heading-Not, heading-Paren, heading-Binary, heading-AltReturn, heading-Bind, heading-Bound, heading-Apply)

-- STATEMENTS
pub broken-Assign : (site : Site) (target e : Expr) → broken_by site (body.Assign target e) ≡ assign_by site target e
unfolding folds_opened broken_by layer_broken_by
broken-Assign site target e = refl

pub broken-AssignLabel : (site : Site) (label : ℕ) (x : Bytes) → broken_by site (body.AssignLabel label x) ≡ breaks_least (assign_label_by site label x)
unfolding folds_opened broken_by layer_broken_by
broken-AssignLabel site label x = refl

pub broken-Intrinsic : (site : Site) (xs : List Bytes) → broken_by site (body.Intrinsic xs) ≡ breaks_alone_least (intrinsics_onward None xs)
unfolding folds_opened broken_by layer_broken_by
broken-Intrinsic site xs = refl

pub broken-Goto : (site : Site) (label : ℕ) → broken_by site (body.Goto label) ≡ breaks_least (branch_found site label)
unfolding folds_opened broken_by layer_broken_by
broken-Goto site label = refl

pub broken-GotoList : (site : Site) (labels : List ℕ) (e : Expr) → broken_by site (body.GotoList labels e) ≡ breaks_least (goto_list_by site labels e)
unfolding folds_opened broken_by layer_broken_by
broken-GotoList site labels e = refl

pub broken-GotoName : (site : Site) (x : Bytes) (labels : List ℕ) → broken_by site (body.GotoName x labels) ≡ breaks_least (goto_name_by site x labels)
unfolding folds_opened broken_by layer_broken_by
broken-GotoName site x labels = refl

pub broken-IfSign : (site : Site) (e : Expr) (below at above : ℕ) → broken_by site (body.IfSign e below at above) ≡ breaks_least (if_sign_by site e below at above)
unfolding folds_opened broken_by layer_broken_by
broken-IfSign site e below at above = refl

pub broken-IfOne : (site : Site) (e : Expr) (b : Body) → broken_by site (body.IfOne e b) ≡ breaks_alone_least (if_one_by site e (broken_by site b))
unfolding folds_opened broken_by layer_broken_by
broken-IfOne site e b = refl

pub broken-IfThen : (site : Site) (e : Expr) → broken_by site (body.IfThen e) ≡ breaks_alone_least (condition_by site e)
unfolding folds_opened broken_by layer_broken_by
broken-IfThen site e = refl

pub broken-ElseIf : (site : Site) (e : Expr) → broken_by site (body.ElseIf e) ≡ breaks_alone_least (condition_by site e)
unfolding folds_opened broken_by layer_broken_by
broken-ElseIf site e = refl

pub broken-Do : (site : Site) (label : Option ℕ) (control : LoopControl) → broken_by site (body.Do label control) ≡ breaks_alone_least (lesser (loop_by site control) (ends_by site))
unfolding folds_opened broken_by layer_broken_by
broken-Do site label control = refl

pub broken-DoWhile : (site : Site) (label : Option ℕ) (e : Expr) → broken_by site (body.DoWhile label e) ≡ breaks_alone_least (lesser (condition_by site e) (ends_by site))
unfolding folds_opened broken_by layer_broken_by
broken-DoWhile site label e = refl

pub broken-Continue : (site : Site) → broken_by site body.Continue ≡ breaks_least None
unfolding folds_opened broken_by layer_broken_by
broken-Continue site = refl

pub broken-Call : (site : Site) (x : Bytes) (es : List Expr) → broken_by site (body.Call x es) ≡ breaks_least (call_by site x es)
unfolding folds_opened broken_by layer_broken_by
broken-Call site x es = refl

pub broken-Return : (site : Site) (e : Option Expr) → broken_by site (body.Return e) ≡ breaks_least (optional_by site e)
unfolding folds_opened broken_by layer_broken_by
broken-Return site e = refl

pub broken-Stop : (site : Site) (text : Bytes) → broken_by site (body.Stop text) ≡ breaks_least None
unfolding folds_opened broken_by layer_broken_by
broken-Stop site text = refl

pub broken-Transfer : (site : Site) (way : Direction) (controls : List Control) (items : List ListItem) → broken_by site (body.Transfer way controls items) ≡ breaks_least (transfer_by site way controls items)
unfolding folds_opened broken_by layer_broken_by
broken-Transfer site way controls items = refl

pub broken-Auxiliary : (site : Site) (which : AuxiliaryKind) (controls : List Control) → broken_by site (body.Auxiliary which controls) ≡ breaks_least (auxiliary_by site controls)
unfolding folds_opened broken_by layer_broken_by
broken-Auxiliary site which controls = refl

pub broken-Header : (site : Site) (kind : UnitKind) (name : Option Bytes) (dummies : List DummyArgument) → broken_by site (body.Header kind name dummies) ≡ breaks_alone_least None
unfolding folds_opened broken_by layer_broken_by
broken-Header site kind name dummies = refl

pub broken-Declare : (site : Site) (type : TypeSpec) (items : List Declarator) → broken_by site (body.Declare type items) ≡ breaks_alone_least None
unfolding folds_opened broken_by layer_broken_by
broken-Declare site type items = refl

pub broken-Dimension : (site : Site) (items : List ArrayDeclarator) → broken_by site (body.Dimension items) ≡ breaks_alone_least None
unfolding folds_opened broken_by layer_broken_by
broken-Dimension site items = refl

pub broken-Common : (site : Site) (groups : List CommonGroup) → broken_by site (body.Common groups) ≡ breaks_alone_least None
unfolding folds_opened broken_by layer_broken_by
broken-Common site groups = refl

pub broken-Equivalence : (site : Site) (groups : List EquivalenceGroup) → broken_by site (body.Equivalence groups) ≡ breaks_alone_least None
unfolding folds_opened broken_by layer_broken_by
broken-Equivalence site groups = refl

pub broken-Implicit : (site : Site) (groups : List ImplicitGroup) → broken_by site (body.Implicit groups) ≡ breaks_alone_least None
unfolding folds_opened broken_by layer_broken_by
broken-Implicit site groups = refl

pub broken-ImplicitNone : (site : Site) → broken_by site body.ImplicitNone ≡ breaks_alone_least None
unfolding folds_opened broken_by layer_broken_by
broken-ImplicitNone site = refl

pub broken-Parameter : (site : Site) (items : List ConstantDefinition) → broken_by site (body.Parameter items) ≡ breaks_alone_least None
unfolding folds_opened broken_by layer_broken_by
broken-Parameter site items = refl

pub broken-External : (site : Site) (xs : List Bytes) → broken_by site (body.External xs) ≡ breaks_alone_least None
unfolding folds_opened broken_by layer_broken_by
broken-External site xs = refl

pub broken-Save : (site : Site) (items : List SavedItem) → broken_by site (body.Save items) ≡ breaks_alone_least None
unfolding folds_opened broken_by layer_broken_by
broken-Save site items = refl

pub broken-Init : (site : Site) (groups : List DataGroup) → broken_by site (body.Init groups) ≡ breaks_alone_least None
unfolding folds_opened broken_by layer_broken_by
broken-Init site groups = refl

pub broken-Format : (site : Site) (text : Bytes) → broken_by site (body.Format text) ≡ breaks_alone_least None
unfolding folds_opened broken_by layer_broken_by
broken-Format site text = refl

pub broken-Entry : (site : Site) (name : Bytes) (dummies : List DummyArgument) → broken_by site (body.Entry name dummies) ≡ breaks_alone_least None
unfolding folds_opened broken_by layer_broken_by
broken-Entry site name dummies = refl

pub broken-Else : (site : Site) → broken_by site body.Else ≡ breaks_alone_least None
unfolding folds_opened broken_by layer_broken_by
broken-Else site = refl

pub broken-EndIf : (site : Site) → broken_by site body.EndIf ≡ breaks_alone_least None
unfolding folds_opened broken_by layer_broken_by
broken-EndIf site = refl

pub broken-EndDo : (site : Site) → broken_by site body.EndDo ≡ breaks_alone_least None
unfolding folds_opened broken_by layer_broken_by
broken-EndDo site = refl

pub broken-Include : (site : Site) (name : Bytes) → broken_by site (body.Include name) ≡ breaks_alone_least None
unfolding folds_opened broken_by layer_broken_by
broken-Include site name = refl

pub broken-End : (site : Site) → broken_by site body.End ≡ breaks_alone_least None
unfolding folds_opened broken_by layer_broken_by
broken-End site = refl

pub ruleset statement_forms = (broken-Assign, broken-AssignLabel, broken-Intrinsic, broken-Goto, broken-GotoList, broken-GotoName, broken-IfSign, broken-IfOne, broken-IfThen, broken-ElseIf, broken-Do, broken-DoWhile, broken-Continue, broken-Call, broken-Return, broken-Stop, broken-Transfer, broken-Auxiliary, broken-Header, broken-Declare, broken-Dimension, broken-Common, broken-Equivalence, broken-Implicit, broken-ImplicitNone, broken-Parameter, broken-External, broken-Save, broken-Init, broken-Format, broken-Entry, broken-Else, broken-EndIf, broken-EndDo, broken-Include, broken-End)
