-- The expressions of each form of a statement and of an item.
use Rattle.std.specs.Prelude.{◌≡◌, ℕ, List, [], ◌∷◌, ◌++◌, Option}
use Rattle.std.proofs.Common.{refl, sym, ap, ◌∙◌}
use Rattle.std.proofs.lemmas.List.{append-nil}
use Rattle.f_tree.specs.Values.{Bytes}
use Rattle.f_tree.specs.declared.expressions.Expr.{Expr}
use Rattle.f_tree.specs.declared.statements.Body.{Body}
use Rattle.f_tree.specs.declared.statements.Body.TheVariants as body
use Rattle.f_tree.specs.declared.statements.UnitKind.{UnitKind}
use Rattle.f_tree.specs.declared.statements.DummyArgument.{DummyArgument}
use Rattle.f_tree.specs.declared.statements.ImplicitGroup.{ImplicitGroup}
use Rattle.f_tree.specs.declared.statements.TypeSpec.{TypeSpec}
use Rattle.f_tree.specs.declared.statements.Declarator.{Declarator}
use Rattle.f_tree.specs.declared.statements.ArrayDeclarator.{ArrayDeclarator}
use Rattle.f_tree.specs.declared.statements.CommonGroup.{CommonGroup}
use Rattle.f_tree.specs.declared.statements.EquivalenceGroup.{EquivalenceGroup}
use Rattle.f_tree.specs.declared.statements.ConstantDefinition.{ConstantDefinition}
use Rattle.f_tree.specs.declared.statements.SavedItem.{SavedItem}
use Rattle.f_tree.specs.declared.statements.DataGroup.{DataGroup}
use Rattle.f_tree.specs.declared.statements.LoopControl.{LoopControl}
use Rattle.f_tree.specs.declared.statements.Direction.{Direction}
use Rattle.f_tree.specs.declared.statements.Control.{Control}
use Rattle.f_tree.specs.declared.statements.AuxiliaryKind.{AuxiliaryKind}
use Rattle.f_tree.specs.declared.statements.ListItem.{ListItem}
use Rattle.f_tree.specs.declared.statements.ListItem.TheVariants as item
use Rattle.f_tree.specs.declared.statements.ListItem.TheBlock as block
use Rattle.f_tree.specs.Folds.{fold_item, fold_items, folds_opened}
use Rattle.f_tree.specs.Attributes.{option_list}
use Rattle.declaration_rows.specs.ReferenceRows.{expressions_of_control, joined_expressions, layer_item_expressions, expressions_of_items, expressions_of_value, expressions_of_controls, only, layer_parts, parts_of}

nothing_more : (es fs : List Expr) → fs ≡ [] → es ≡ es ++ fs
nothing_more es fs is = sym (append-nil es) ∙ ap (λ more. es ++ more) (sym is)

Header-has-none : (kind : UnitKind) (name : Option Bytes) (dummies : List DummyArgument) → (parts_of (body.Header kind name dummies)).expressions ≡ []
unfolding folds_opened parts_of layer_parts only
Header-has-none kind name dummies = refl

pub none-Header : (es : List Expr) (b : Body) (kind : UnitKind) (name : Option Bytes) (dummies : List DummyArgument) → b ≡ body.Header kind name dummies → es ≡ es ++ (parts_of b).expressions
none-Header es b kind name dummies is = nothing_more es (parts_of b).expressions (ap (λ (c : Body). (parts_of c).expressions) is ∙ Header-has-none kind name dummies)

Declare-has-none : (spec : TypeSpec) (items : List Declarator) → (parts_of (body.Declare spec items)).expressions ≡ []
unfolding folds_opened parts_of layer_parts only
Declare-has-none spec items = refl

pub none-Declare : (es : List Expr) (b : Body) (spec : TypeSpec) (items : List Declarator) → b ≡ body.Declare spec items → es ≡ es ++ (parts_of b).expressions
none-Declare es b spec items is = nothing_more es (parts_of b).expressions (ap (λ (c : Body). (parts_of c).expressions) is ∙ Declare-has-none spec items)

Dimension-has-none : (items : List ArrayDeclarator) → (parts_of (body.Dimension items)).expressions ≡ []
unfolding folds_opened parts_of layer_parts only
Dimension-has-none items = refl

pub none-Dimension : (es : List Expr) (b : Body) (items : List ArrayDeclarator) → b ≡ body.Dimension items → es ≡ es ++ (parts_of b).expressions
none-Dimension es b items is = nothing_more es (parts_of b).expressions (ap (λ (c : Body). (parts_of c).expressions) is ∙ Dimension-has-none items)

Common-has-none : (groups : List CommonGroup) → (parts_of (body.Common groups)).expressions ≡ []
unfolding folds_opened parts_of layer_parts only
Common-has-none groups = refl

pub none-Common : (es : List Expr) (b : Body) (groups : List CommonGroup) → b ≡ body.Common groups → es ≡ es ++ (parts_of b).expressions
none-Common es b groups is = nothing_more es (parts_of b).expressions (ap (λ (c : Body). (parts_of c).expressions) is ∙ Common-has-none groups)

Equivalence-has-none : (groups : List EquivalenceGroup) → (parts_of (body.Equivalence groups)).expressions ≡ []
unfolding folds_opened parts_of layer_parts only
Equivalence-has-none groups = refl

pub none-Equivalence : (es : List Expr) (b : Body) (groups : List EquivalenceGroup) → b ≡ body.Equivalence groups → es ≡ es ++ (parts_of b).expressions
none-Equivalence es b groups is = nothing_more es (parts_of b).expressions (ap (λ (c : Body). (parts_of c).expressions) is ∙ Equivalence-has-none groups)

Implicit-has-none : (groups : List ImplicitGroup) → (parts_of (body.Implicit groups)).expressions ≡ []
unfolding folds_opened parts_of layer_parts only
Implicit-has-none groups = refl

pub none-Implicit : (es : List Expr) (b : Body) (groups : List ImplicitGroup) → b ≡ body.Implicit groups → es ≡ es ++ (parts_of b).expressions
none-Implicit es b groups is = nothing_more es (parts_of b).expressions (ap (λ (c : Body). (parts_of c).expressions) is ∙ Implicit-has-none groups)

ImplicitNone-has-none : (parts_of body.ImplicitNone).expressions ≡ []
unfolding folds_opened parts_of layer_parts only
ImplicitNone-has-none = refl

pub none-ImplicitNone : (es : List Expr) (b : Body) → b ≡ body.ImplicitNone → es ≡ es ++ (parts_of b).expressions
none-ImplicitNone es b is = nothing_more es (parts_of b).expressions (ap (λ (c : Body). (parts_of c).expressions) is ∙ ImplicitNone-has-none)

Parameter-has-none : (items : List ConstantDefinition) → (parts_of (body.Parameter items)).expressions ≡ []
unfolding folds_opened parts_of layer_parts only
Parameter-has-none items = refl

pub none-Parameter : (es : List Expr) (b : Body) (items : List ConstantDefinition) → b ≡ body.Parameter items → es ≡ es ++ (parts_of b).expressions
none-Parameter es b items is = nothing_more es (parts_of b).expressions (ap (λ (c : Body). (parts_of c).expressions) is ∙ Parameter-has-none items)

External-has-none : (xs : List Bytes) → (parts_of (body.External xs)).expressions ≡ []
unfolding folds_opened parts_of layer_parts only
External-has-none xs = refl

pub none-External : (es : List Expr) (b : Body) (xs : List Bytes) → b ≡ body.External xs → es ≡ es ++ (parts_of b).expressions
none-External es b xs is = nothing_more es (parts_of b).expressions (ap (λ (c : Body). (parts_of c).expressions) is ∙ External-has-none xs)

Intrinsic-has-none : (xs : List Bytes) → (parts_of (body.Intrinsic xs)).expressions ≡ []
unfolding folds_opened parts_of layer_parts only
Intrinsic-has-none xs = refl

pub none-Intrinsic : (es : List Expr) (b : Body) (xs : List Bytes) → b ≡ body.Intrinsic xs → es ≡ es ++ (parts_of b).expressions
none-Intrinsic es b xs is = nothing_more es (parts_of b).expressions (ap (λ (c : Body). (parts_of c).expressions) is ∙ Intrinsic-has-none xs)

Save-has-none : (items : List SavedItem) → (parts_of (body.Save items)).expressions ≡ []
unfolding folds_opened parts_of layer_parts only
Save-has-none items = refl

pub none-Save : (es : List Expr) (b : Body) (items : List SavedItem) → b ≡ body.Save items → es ≡ es ++ (parts_of b).expressions
none-Save es b items is = nothing_more es (parts_of b).expressions (ap (λ (c : Body). (parts_of c).expressions) is ∙ Save-has-none items)

Init-has-none : (groups : List DataGroup) → (parts_of (body.Init groups)).expressions ≡ []
unfolding folds_opened parts_of layer_parts only
Init-has-none groups = refl

pub none-Init : (es : List Expr) (b : Body) (groups : List DataGroup) → b ≡ body.Init groups → es ≡ es ++ (parts_of b).expressions
none-Init es b groups is = nothing_more es (parts_of b).expressions (ap (λ (c : Body). (parts_of c).expressions) is ∙ Init-has-none groups)

Format-has-none : (text : Bytes) → (parts_of (body.Format text)).expressions ≡ []
unfolding folds_opened parts_of layer_parts only
Format-has-none text = refl

pub none-Format : (es : List Expr) (b : Body) (text : Bytes) → b ≡ body.Format text → es ≡ es ++ (parts_of b).expressions
none-Format es b text is = nothing_more es (parts_of b).expressions (ap (λ (c : Body). (parts_of c).expressions) is ∙ Format-has-none text)

Entry-has-none : (name : Bytes) (dummies : List DummyArgument) → (parts_of (body.Entry name dummies)).expressions ≡ []
unfolding folds_opened parts_of layer_parts only
Entry-has-none name dummies = refl

pub none-Entry : (es : List Expr) (b : Body) (name : Bytes) (dummies : List DummyArgument) → b ≡ body.Entry name dummies → es ≡ es ++ (parts_of b).expressions
none-Entry es b name dummies is = nothing_more es (parts_of b).expressions (ap (λ (c : Body). (parts_of c).expressions) is ∙ Entry-has-none name dummies)

AssignLabel-has-none : (label : ℕ) (x : Bytes) → (parts_of (body.AssignLabel label x)).expressions ≡ []
unfolding folds_opened parts_of layer_parts only
AssignLabel-has-none label x = refl

pub none-AssignLabel : (es : List Expr) (b : Body) (label : ℕ) (x : Bytes) → b ≡ body.AssignLabel label x → es ≡ es ++ (parts_of b).expressions
none-AssignLabel es b label x is = nothing_more es (parts_of b).expressions (ap (λ (c : Body). (parts_of c).expressions) is ∙ AssignLabel-has-none label x)

Goto-has-none : (label : ℕ) → (parts_of (body.Goto label)).expressions ≡ []
unfolding folds_opened parts_of layer_parts only
Goto-has-none label = refl

pub none-Goto : (es : List Expr) (b : Body) (label : ℕ) → b ≡ body.Goto label → es ≡ es ++ (parts_of b).expressions
none-Goto es b label is = nothing_more es (parts_of b).expressions (ap (λ (c : Body). (parts_of c).expressions) is ∙ Goto-has-none label)

GotoName-has-none : (x : Bytes) (labels : List ℕ) → (parts_of (body.GotoName x labels)).expressions ≡ []
unfolding folds_opened parts_of layer_parts only
GotoName-has-none x labels = refl

pub none-GotoName : (es : List Expr) (b : Body) (x : Bytes) (labels : List ℕ) → b ≡ body.GotoName x labels → es ≡ es ++ (parts_of b).expressions
none-GotoName es b x labels is = nothing_more es (parts_of b).expressions (ap (λ (c : Body). (parts_of c).expressions) is ∙ GotoName-has-none x labels)

Else-has-none : (parts_of body.Else).expressions ≡ []
unfolding folds_opened parts_of layer_parts only
Else-has-none = refl

pub none-Else : (es : List Expr) (b : Body) → b ≡ body.Else → es ≡ es ++ (parts_of b).expressions
none-Else es b is = nothing_more es (parts_of b).expressions (ap (λ (c : Body). (parts_of c).expressions) is ∙ Else-has-none)

EndIf-has-none : (parts_of body.EndIf).expressions ≡ []
unfolding folds_opened parts_of layer_parts only
EndIf-has-none = refl

pub none-EndIf : (es : List Expr) (b : Body) → b ≡ body.EndIf → es ≡ es ++ (parts_of b).expressions
none-EndIf es b is = nothing_more es (parts_of b).expressions (ap (λ (c : Body). (parts_of c).expressions) is ∙ EndIf-has-none)

EndDo-has-none : (parts_of body.EndDo).expressions ≡ []
unfolding folds_opened parts_of layer_parts only
EndDo-has-none = refl

pub none-EndDo : (es : List Expr) (b : Body) → b ≡ body.EndDo → es ≡ es ++ (parts_of b).expressions
none-EndDo es b is = nothing_more es (parts_of b).expressions (ap (λ (c : Body). (parts_of c).expressions) is ∙ EndDo-has-none)

Continue-has-none : (parts_of body.Continue).expressions ≡ []
unfolding folds_opened parts_of layer_parts only
Continue-has-none = refl

pub none-Continue : (es : List Expr) (b : Body) → b ≡ body.Continue → es ≡ es ++ (parts_of b).expressions
none-Continue es b is = nothing_more es (parts_of b).expressions (ap (λ (c : Body). (parts_of c).expressions) is ∙ Continue-has-none)

Stop-has-none : (text : Bytes) → (parts_of (body.Stop text)).expressions ≡ []
unfolding folds_opened parts_of layer_parts only
Stop-has-none text = refl

pub none-Stop : (es : List Expr) (b : Body) (text : Bytes) → b ≡ body.Stop text → es ≡ es ++ (parts_of b).expressions
none-Stop es b text is = nothing_more es (parts_of b).expressions (ap (λ (c : Body). (parts_of c).expressions) is ∙ Stop-has-none text)

Include-has-none : (name : Bytes) → (parts_of (body.Include name)).expressions ≡ []
unfolding folds_opened parts_of layer_parts only
Include-has-none name = refl

pub none-Include : (es : List Expr) (b : Body) (name : Bytes) → b ≡ body.Include name → es ≡ es ++ (parts_of b).expressions
none-Include es b name is = nothing_more es (parts_of b).expressions (ap (λ (c : Body). (parts_of c).expressions) is ∙ Include-has-none name)

End-has-none : (parts_of body.End).expressions ≡ []
unfolding folds_opened parts_of layer_parts only
End-has-none = refl

pub none-End : (es : List Expr) (b : Body) → b ≡ body.End → es ≡ es ++ (parts_of b).expressions
none-End es b is = nothing_more es (parts_of b).expressions (ap (λ (c : Body). (parts_of c).expressions) is ∙ End-has-none)

pub parts-Assign : (target e : Expr) → (parts_of (body.Assign target e)).expressions ≡ target ∷ e ∷ []
unfolding folds_opened parts_of layer_parts only
parts-Assign target e = refl

pub parts-GotoList : (labels : List ℕ) (e : Expr) → (parts_of (body.GotoList labels e)).expressions ≡ e ∷ []
unfolding folds_opened parts_of layer_parts only
parts-GotoList labels e = refl

pub parts-IfSign : (e : Expr) (below at above : ℕ) → (parts_of (body.IfSign e below at above)).expressions ≡ e ∷ []
unfolding folds_opened parts_of layer_parts only
parts-IfSign e below at above = refl

pub parts-IfThen : (e : Expr) → (parts_of (body.IfThen e)).expressions ≡ e ∷ []
unfolding folds_opened parts_of layer_parts only
parts-IfThen e = refl

pub parts-ElseIf : (e : Expr) → (parts_of (body.ElseIf e)).expressions ≡ e ∷ []
unfolding folds_opened parts_of layer_parts only
parts-ElseIf e = refl

pub parts-Do : (label : Option ℕ) (control : LoopControl) → (parts_of (body.Do label control)).expressions ≡ expressions_of_control control
unfolding folds_opened parts_of layer_parts only
parts-Do label control = refl

pub parts-DoWhile : (label : Option ℕ) (e : Expr) → (parts_of (body.DoWhile label e)).expressions ≡ e ∷ []
unfolding folds_opened parts_of layer_parts only
parts-DoWhile label e = refl

pub parts-Call : (x : Bytes) (es : List Expr) → (parts_of (body.Call x es)).expressions ≡ es
unfolding folds_opened parts_of layer_parts only
parts-Call x es = refl

pub parts-Return : (e : Option Expr) → (parts_of (body.Return e)).expressions ≡ option_list e
unfolding folds_opened parts_of layer_parts only
parts-Return e = refl

pub parts-Transfer : (way : Direction) (controls : List Control) (items : List ListItem) → (parts_of (body.Transfer way controls items)).expressions ≡ expressions_of_controls controls ++ expressions_of_items items
unfolding folds_opened parts_of layer_parts only
parts-Transfer way controls items = refl

pub parts-Auxiliary : (which : AuxiliaryKind) (controls : List Control) → (parts_of (body.Auxiliary which controls)).expressions ≡ expressions_of_controls controls
unfolding folds_opened parts_of layer_parts only
parts-Auxiliary which controls = refl

pub parts-IfOne : (e : Expr) (b : Body) → (parts_of (body.IfOne e b)).expressions ≡ e ∷ (parts_of b).expressions
unfolding folds_opened parts_of layer_parts only
parts-IfOne e b = refl

pub ruleset part_forms = (none-Header, none-Declare, none-Dimension, none-Common, none-Equivalence, none-Implicit, none-ImplicitNone, none-Parameter, none-External, none-Intrinsic, none-Save, none-Init, none-Format, none-Entry, none-AssignLabel, none-Goto, none-GotoName, none-Else, none-EndIf, none-EndDo, none-Continue, none-Stop, none-Include, none-End, parts-Assign, parts-GotoList, parts-IfSign, parts-IfThen, parts-ElseIf, parts-Do, parts-DoWhile, parts-Call, parts-Return, parts-Transfer, parts-Auxiliary, parts-IfOne)

-- ITEMS AND CONTROL WORDS
row-expressions : (is : List ListItem) → joined_expressions (fold_items layer_item_expressions (block.hidden-the_row-ListItem-0 is)) ≡ expressions_of_items is
unfolding folds_opened joined_expressions expressions_of_items Rattle.f_tree.specs.declared.statements.ListItem.TheBlock.hidden-the_row-ListItem-0
row-expressions [] = refl
row-expressions (i ∷ is) = ap (λ es. fold_item layer_item_expressions i ++ es) (row-expressions is)

pub item-Item : (e : Expr) → expressions_of_items (item.Item e ∷ []) ≡ e ∷ []
unfolding folds_opened expressions_of_items layer_item_expressions
item-Item e = refl

pub item-Loop : (is : List ListItem) (control : LoopControl) → expressions_of_items (item.Loop is control ∷ []) ≡ expressions_of_items is ++ expressions_of_control control
unfolding folds_opened expressions_of_items layer_item_expressions Rattle.f_tree.specs.declared.statements.ListItem.TheBlock.hidden-the_row-ListItem-0
item-Loop is control =
    append-nil (joined_expressions (fold_items layer_item_expressions (block.hidden-the_row-ListItem-0 is)) ++ expressions_of_control control)
    ∙ ap (λ es. es ++ expressions_of_control control) (row-expressions is)

pub items_step : (i : ListItem) (is : List ListItem) → expressions_of_items (i ∷ is) ≡ expressions_of_items (i ∷ []) ++ expressions_of_items is
unfolding expressions_of_items
items_step i is = ap (λ es. es ++ expressions_of_items is) (sym (append-nil (fold_item layer_item_expressions i)))

pub items_end : expressions_of_items [] ≡ []
unfolding expressions_of_items
items_end = refl

pub controls_step : (c : Control) (cs : List Control) → expressions_of_controls (c ∷ cs) ≡ expressions_of_value c.value ++ expressions_of_controls cs
unfolding expressions_of_controls
controls_step c cs = refl

pub controls_end : expressions_of_controls [] ≡ []
unfolding expressions_of_controls
controls_end = refl
