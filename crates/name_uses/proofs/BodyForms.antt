-- The uses of the names of each form of a statement.
use Rattle.std.specs.Prelude.{◌≡◌, ℕ, List, [], ◌++◌, Option}
use Rattle.std.proofs.Common.{refl, sym, ap, ◌∙◌}
use Rattle.std.proofs.lemmas.List.{append-nil}
use Rattle.f_tree.specs.Values.{Bytes}
use Rattle.f_tree.specs.declared.expressions.Expr.{Expr}
use Rattle.f_tree.specs.declared.statements.Body.{Body}
use Rattle.f_tree.specs.declared.statements.Body.TheVariants as body
use Rattle.f_tree.specs.declared.statements.UnitKind.{UnitKind}
use Rattle.f_tree.specs.declared.statements.DummyArgument.{DummyArgument}
use Rattle.f_tree.specs.declared.statements.ImplicitGroup.{ImplicitGroup}
use Rattle.f_tree.specs.declared.statements.TypeSpec.{TypeSpec}
use Rattle.f_tree.specs.declared.statements.Declarator.{Declarator}
use Rattle.f_tree.specs.declared.statements.ArrayDeclarator.{ArrayDeclarator}
use Rattle.f_tree.specs.declared.statements.CommonGroup.{CommonGroup}
use Rattle.f_tree.specs.declared.statements.EquivalenceGroup.{EquivalenceGroup}
use Rattle.f_tree.specs.declared.statements.ConstantDefinition.{ConstantDefinition}
use Rattle.f_tree.specs.declared.statements.SavedItem.{SavedItem}
use Rattle.f_tree.specs.declared.statements.DataGroup.{DataGroup}
use Rattle.f_tree.specs.declared.statements.LoopControl.{LoopControl}
use Rattle.f_tree.specs.declared.statements.Direction.{Direction}
use Rattle.f_tree.specs.declared.statements.Control.{Control}
use Rattle.f_tree.specs.declared.statements.ListItem.{ListItem}
use Rattle.f_tree.specs.declared.statements.AuxiliaryKind.{AuxiliaryKind}
use Rattle.f_tree.specs.Folds.{folds_opened}
use Rattle.f_tree.specs.Uses.{Use, Alone, Called, Declared, used, uses_of, all_of, if_any, heading_of, layer_uses_of_body, uses_of_assignment, uses_of_body, uses_of_control, uses_of_item, uses_of_place, uses_of_data, uses_of_type, uses_of_declarator, uses_of_array, uses_of_saved, uses_of_dummy, uses_of_value}

nothing_more : (us vs : List Use) → vs ≡ [] → us ≡ us ++ vs
nothing_more us vs is = sym (append-nil us) ∙ ap (λ ws. us ++ ws) (sym is)

Header-has-none : (arrays : List Bytes) (kind : UnitKind) (name : Option Bytes) (dummies : List DummyArgument) → uses_of_body arrays (body.Header kind name dummies) ≡ []
unfolding folds_opened uses_of_body layer_uses_of_body
Header-has-none arrays kind name dummies = refl

Implicit-has-none : (arrays : List Bytes) (groups : List ImplicitGroup) → uses_of_body arrays (body.Implicit groups) ≡ []
unfolding folds_opened uses_of_body layer_uses_of_body
Implicit-has-none arrays groups = refl

ImplicitNone-has-none : (arrays : List Bytes) → uses_of_body arrays body.ImplicitNone ≡ []
unfolding folds_opened uses_of_body layer_uses_of_body
ImplicitNone-has-none arrays = refl

Format-has-none : (arrays : List Bytes) (text : Bytes) → uses_of_body arrays (body.Format text) ≡ []
unfolding folds_opened uses_of_body layer_uses_of_body
Format-has-none arrays text = refl

Goto-has-none : (arrays : List Bytes) (label : ℕ) → uses_of_body arrays (body.Goto label) ≡ []
unfolding folds_opened uses_of_body layer_uses_of_body
Goto-has-none arrays label = refl

Else-has-none : (arrays : List Bytes) → uses_of_body arrays body.Else ≡ []
unfolding folds_opened uses_of_body layer_uses_of_body
Else-has-none arrays = refl

EndIf-has-none : (arrays : List Bytes) → uses_of_body arrays body.EndIf ≡ []
unfolding folds_opened uses_of_body layer_uses_of_body
EndIf-has-none arrays = refl

EndDo-has-none : (arrays : List Bytes) → uses_of_body arrays body.EndDo ≡ []
unfolding folds_opened uses_of_body layer_uses_of_body
EndDo-has-none arrays = refl

Continue-has-none : (arrays : List Bytes) → uses_of_body arrays body.Continue ≡ []
unfolding folds_opened uses_of_body layer_uses_of_body
Continue-has-none arrays = refl

Stop-has-none : (arrays : List Bytes) (text : Bytes) → uses_of_body arrays (body.Stop text) ≡ []
unfolding folds_opened uses_of_body layer_uses_of_body
Stop-has-none arrays text = refl

Include-has-none : (arrays : List Bytes) (name : Bytes) → uses_of_body arrays (body.Include name) ≡ []
unfolding folds_opened uses_of_body layer_uses_of_body
Include-has-none arrays name = refl

End-has-none : (arrays : List Bytes) → uses_of_body arrays body.End ≡ []
unfolding folds_opened uses_of_body layer_uses_of_body
End-has-none arrays = refl

pub none-Header : (arrays : List Bytes) (us : List Use) (b : Body) (kind : UnitKind) (name : Option Bytes) (dummies : List DummyArgument) → b ≡ body.Header kind name dummies → us ≡ us ++ uses_of_body arrays b
none-Header arrays us b kind name dummies is = nothing_more us (uses_of_body arrays b) (ap (uses_of_body arrays) is ∙ Header-has-none arrays kind name dummies)

pub none-Implicit : (arrays : List Bytes) (us : List Use) (b : Body) (groups : List ImplicitGroup) → b ≡ body.Implicit groups → us ≡ us ++ uses_of_body arrays b
none-Implicit arrays us b groups is = nothing_more us (uses_of_body arrays b) (ap (uses_of_body arrays) is ∙ Implicit-has-none arrays groups)

pub none-ImplicitNone : (arrays : List Bytes) (us : List Use) (b : Body) → b ≡ body.ImplicitNone → us ≡ us ++ uses_of_body arrays b
none-ImplicitNone arrays us b is = nothing_more us (uses_of_body arrays b) (ap (uses_of_body arrays) is ∙ ImplicitNone-has-none arrays)

pub none-Format : (arrays : List Bytes) (us : List Use) (b : Body) (text : Bytes) → b ≡ body.Format text → us ≡ us ++ uses_of_body arrays b
none-Format arrays us b text is = nothing_more us (uses_of_body arrays b) (ap (uses_of_body arrays) is ∙ Format-has-none arrays text)

pub none-Goto : (arrays : List Bytes) (us : List Use) (b : Body) (label : ℕ) → b ≡ body.Goto label → us ≡ us ++ uses_of_body arrays b
none-Goto arrays us b label is = nothing_more us (uses_of_body arrays b) (ap (uses_of_body arrays) is ∙ Goto-has-none arrays label)

pub none-Else : (arrays : List Bytes) (us : List Use) (b : Body) → b ≡ body.Else → us ≡ us ++ uses_of_body arrays b
none-Else arrays us b is = nothing_more us (uses_of_body arrays b) (ap (uses_of_body arrays) is ∙ Else-has-none arrays)

pub none-EndIf : (arrays : List Bytes) (us : List Use) (b : Body) → b ≡ body.EndIf → us ≡ us ++ uses_of_body arrays b
none-EndIf arrays us b is = nothing_more us (uses_of_body arrays b) (ap (uses_of_body arrays) is ∙ EndIf-has-none arrays)

pub none-EndDo : (arrays : List Bytes) (us : List Use) (b : Body) → b ≡ body.EndDo → us ≡ us ++ uses_of_body arrays b
none-EndDo arrays us b is = nothing_more us (uses_of_body arrays b) (ap (uses_of_body arrays) is ∙ EndDo-has-none arrays)

pub none-Continue : (arrays : List Bytes) (us : List Use) (b : Body) → b ≡ body.Continue → us ≡ us ++ uses_of_body arrays b
none-Continue arrays us b is = nothing_more us (uses_of_body arrays b) (ap (uses_of_body arrays) is ∙ Continue-has-none arrays)

pub none-Stop : (arrays : List Bytes) (us : List Use) (b : Body) (text : Bytes) → b ≡ body.Stop text → us ≡ us ++ uses_of_body arrays b
none-Stop arrays us b text is = nothing_more us (uses_of_body arrays b) (ap (uses_of_body arrays) is ∙ Stop-has-none arrays text)

pub none-Include : (arrays : List Bytes) (us : List Use) (b : Body) (name : Bytes) → b ≡ body.Include name → us ≡ us ++ uses_of_body arrays b
none-Include arrays us b name is = nothing_more us (uses_of_body arrays b) (ap (uses_of_body arrays) is ∙ Include-has-none arrays name)

pub none-End : (arrays : List Bytes) (us : List Use) (b : Body) → b ≡ body.End → us ≡ us ++ uses_of_body arrays b
none-End arrays us b is = nothing_more us (uses_of_body arrays b) (ap (uses_of_body arrays) is ∙ End-has-none arrays)

pub uses-Declare : (arrays : List Bytes) (spec : TypeSpec) (items : List Declarator) → uses_of_body arrays (body.Declare spec items) ≡ uses_of_type spec ++ all_of uses_of_declarator items
unfolding folds_opened uses_of_body layer_uses_of_body
uses-Declare arrays spec items = refl

pub uses-Dimension : (arrays : List Bytes) (items : List ArrayDeclarator) → uses_of_body arrays (body.Dimension items) ≡ all_of uses_of_array items
unfolding folds_opened uses_of_body layer_uses_of_body
uses-Dimension arrays items = refl

pub uses-Common : (arrays : List Bytes) (groups : List CommonGroup) → uses_of_body arrays (body.Common groups) ≡ all_of (λ (g : CommonGroup). all_of uses_of_array g.items) groups
unfolding folds_opened uses_of_body layer_uses_of_body
uses-Common arrays groups = refl

pub uses-Equivalence : (arrays : List Bytes) (groups : List EquivalenceGroup) → uses_of_body arrays (body.Equivalence groups) ≡ all_of (λ (g : EquivalenceGroup). all_of uses_of g.places) groups
unfolding folds_opened uses_of_body layer_uses_of_body
uses-Equivalence arrays groups = refl

pub uses-Parameter : (arrays : List Bytes) (items : List ConstantDefinition) → uses_of_body arrays (body.Parameter items) ≡ all_of (λ (d : ConstantDefinition). used d.name Declared ++ uses_of d.value) items
unfolding folds_opened uses_of_body layer_uses_of_body
uses-Parameter arrays items = refl

pub uses-External : (arrays : List Bytes) (xs : List Bytes) → uses_of_body arrays (body.External xs) ≡ all_of (λ x. used x Declared) xs
unfolding folds_opened uses_of_body layer_uses_of_body
uses-External arrays xs = refl

pub uses-Intrinsic : (arrays : List Bytes) (xs : List Bytes) → uses_of_body arrays (body.Intrinsic xs) ≡ all_of (λ x. used x Declared) xs
unfolding folds_opened uses_of_body layer_uses_of_body
uses-Intrinsic arrays xs = refl

pub uses-Save : (arrays : List Bytes) (items : List SavedItem) → uses_of_body arrays (body.Save items) ≡ all_of uses_of_saved items
unfolding folds_opened uses_of_body layer_uses_of_body
uses-Save arrays items = refl

pub uses-Init : (arrays : List Bytes) (groups : List DataGroup) → uses_of_body arrays (body.Init groups) ≡ all_of (λ (g : DataGroup). all_of uses_of_place g.places ++ all_of uses_of_data g.values) groups
unfolding folds_opened uses_of_body layer_uses_of_body
uses-Init arrays groups = refl

pub uses-Entry : (arrays : List Bytes) (name : Bytes) (dummies : List DummyArgument) → uses_of_body arrays (body.Entry name dummies) ≡ used name Declared ++ all_of uses_of_dummy dummies
unfolding folds_opened uses_of_body layer_uses_of_body
uses-Entry arrays name dummies = refl

pub uses-Assign : (arrays : List Bytes) (target e : Expr) → uses_of_body arrays (body.Assign target e) ≡ uses_of_assignment arrays (heading_of target) target e
unfolding folds_opened uses_of_body layer_uses_of_body
uses-Assign arrays target e = refl

pub uses-AssignLabel : (arrays : List Bytes) (label : ℕ) (x : Bytes) → uses_of_body arrays (body.AssignLabel label x) ≡ used x Alone
unfolding folds_opened uses_of_body layer_uses_of_body
uses-AssignLabel arrays label x = refl

pub uses-GotoList : (arrays : List Bytes) (labels : List ℕ) (e : Expr) → uses_of_body arrays (body.GotoList labels e) ≡ uses_of e
unfolding folds_opened uses_of_body layer_uses_of_body
uses-GotoList arrays labels e = refl

pub uses-GotoName : (arrays : List Bytes) (x : Bytes) (labels : List ℕ) → uses_of_body arrays (body.GotoName x labels) ≡ used x Alone
unfolding folds_opened uses_of_body layer_uses_of_body
uses-GotoName arrays x labels = refl

pub uses-IfSign : (arrays : List Bytes) (e : Expr) (below at above : ℕ) → uses_of_body arrays (body.IfSign e below at above) ≡ uses_of e
unfolding folds_opened uses_of_body layer_uses_of_body
uses-IfSign arrays e below at above = refl

pub uses-IfOne : (arrays : List Bytes) (e : Expr) (b : Body) → uses_of_body arrays (body.IfOne e b) ≡ uses_of e ++ uses_of_body arrays b
unfolding folds_opened uses_of_body layer_uses_of_body
uses-IfOne arrays e b = refl

pub uses-IfThen : (arrays : List Bytes) (e : Expr) → uses_of_body arrays (body.IfThen e) ≡ uses_of e
unfolding folds_opened uses_of_body layer_uses_of_body
uses-IfThen arrays e = refl

pub uses-ElseIf : (arrays : List Bytes) (e : Expr) → uses_of_body arrays (body.ElseIf e) ≡ uses_of e
unfolding folds_opened uses_of_body layer_uses_of_body
uses-ElseIf arrays e = refl

pub uses-Do : (arrays : List Bytes) (label : Option ℕ) (control : LoopControl) → uses_of_body arrays (body.Do label control) ≡ uses_of_control control
unfolding folds_opened uses_of_body layer_uses_of_body
uses-Do arrays label control = refl

pub uses-DoWhile : (arrays : List Bytes) (label : Option ℕ) (e : Expr) → uses_of_body arrays (body.DoWhile label e) ≡ uses_of e
unfolding folds_opened uses_of_body layer_uses_of_body
uses-DoWhile arrays label e = refl

pub uses-Call : (arrays : List Bytes) (x : Bytes) (es : List Expr) → uses_of_body arrays (body.Call x es) ≡ used x Called ++ all_of uses_of es
unfolding folds_opened uses_of_body layer_uses_of_body
uses-Call arrays x es = refl

pub uses-Return : (arrays : List Bytes) (e : Option Expr) → uses_of_body arrays (body.Return e) ≡ if_any uses_of e
unfolding folds_opened uses_of_body layer_uses_of_body
uses-Return arrays e = refl

pub uses-Transfer : (arrays : List Bytes) (way : Direction) (controls : List Control) (items : List ListItem) → uses_of_body arrays (body.Transfer way controls items) ≡ all_of (λ (c : Control). uses_of_value c.value) controls ++ all_of uses_of_item items
unfolding folds_opened uses_of_body layer_uses_of_body
uses-Transfer arrays way controls items = refl

pub uses-Auxiliary : (arrays : List Bytes) (which : AuxiliaryKind) (controls : List Control) → uses_of_body arrays (body.Auxiliary which controls) ≡ all_of (λ (c : Control). uses_of_value c.value) controls
unfolding folds_opened uses_of_body layer_uses_of_body
uses-Auxiliary arrays which controls = refl

pub ruleset body_forms = (none-Header, none-Implicit, none-ImplicitNone, none-Format, none-Goto, none-Else, none-EndIf, none-EndDo, none-Continue, none-Stop, none-Include, none-End, uses-Declare, uses-Dimension, uses-Common, uses-Equivalence, uses-Parameter, uses-External, uses-Intrinsic, uses-Save, uses-Init, uses-Entry, uses-Assign, uses-AssignLabel, uses-GotoList, uses-GotoName, uses-IfSign, uses-IfOne, uses-IfThen, uses-ElseIf, uses-Do, uses-DoWhile, uses-Call, uses-Return, uses-Transfer, uses-Auxiliary)
