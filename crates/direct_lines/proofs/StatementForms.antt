-- Statements by their forms.
use Rattle.std.proofs.Common.{◌≡◌, ℕ, suc, ◌-◌, length, slice_get, arith, Bool, true, false, not, ◌&&◌, ◌||◌, List, [], ◌∷◌, ◌++◌, map, Option, Some, None, if◌then◌else◌, refl, sym, ap, ◌∙◌}
use Rattle.std.specs.List.{list_all}
use Rattle.f_tree.specs.declared.expressions.Expr.{Expr}
use Rattle.f_tree.specs.declared.statements.Body.{Body, Header, Declare, Dimension, Common, Equivalence, Implicit, ImplicitNone, Parameter, External, Intrinsic, Save, Init, Format, Entry, Assign, AssignLabel, Goto, GotoList, GotoName, IfSign, IfOne', IfThen, ElseIf, Else, EndIf, Do, DoWhile, EndDo, Continue, Call, Return, Stop, Transfer, Auxiliary, Include, End, more_of-Body}
use Rattle.f_tree.specs.declared.statements.Body as body
use Rattle.f_tree.specs.declared.statements.Body.TheOpen as open-body
use Rattle.f_tree.specs.declared.statements.ListItem.{ListItem, Item, Loop'}
use Rattle.f_tree.specs.declared.statements.ListItem as item
use Rattle.f_tree.specs.declared.statements.LoopControl.{LoopControl}
use Rattle.f_tree.specs.declared.statements.Control.{Control}
use Rattle.f_tree.specs.declared.statements.Direction as direction
use Rattle.f_tree.specs.declared.statements.AuxiliaryKind.{AuxiliaryKind}
use Rattle.f_tree.specs.declared.statements.UnitKind.{UnitKind}
use Rattle.f_tree.specs.declared.statements.DummyArgument.{DummyArgument}
use Rattle.f_tree.specs.declared.statements.TypeSpec.{TypeSpec}
use Rattle.f_tree.specs.declared.statements.Declarator.{Declarator}
use Rattle.f_tree.specs.declared.statements.ArrayDeclarator.{ArrayDeclarator}
use Rattle.f_tree.specs.declared.statements.CommonGroup.{CommonGroup}
use Rattle.f_tree.specs.declared.statements.EquivalenceGroup.{EquivalenceGroup}
use Rattle.f_tree.specs.declared.statements.ImplicitGroup.{ImplicitGroup}
use Rattle.f_tree.specs.declared.statements.ConstantDefinition.{ConstantDefinition}
use Rattle.f_tree.specs.declared.statements.SavedItem.{SavedItem}
use Rattle.f_tree.specs.declared.statements.DataGroup.{DataGroup}
use Rattle.f_tree.specs.Values.{Bytes}
use Rattle.f_tree.specs.declared.names.Options.{Options}
use Rattle.f_tree.specs.declared.statements.Stmt.{Stmt}
use Rattle.f_tree.specs.declared.units.Unit.{Unit as WrittenUnit}
use Rattle.f_tree.specs.Attributes.{from_all, all_described, attribute_in}
use Rattle.name_facts.specs.declaration_rows.NameRows.{given_names}
use Rattle.f_tree.specs.Folds.{folds_opened, fold_item, layer_of}
use Rattle.f_tree.specs.Terms.{refers, terms}
use Rattle.f_tree.specs.Facts.{Direction, Layout, Form, Passes, On, ToSetText}
use Rattle.f_tree.specs.Reading.{read}
use Rattle.f_tree.specs.Uses.{heading_of}
use Rattle.f_tree.specs.Lines.{Naming, lines_opened, is_text, is_statement_function, value_assignment, layer_form, transfer_form, auxiliary_form, assign_form, return_form, form_of, mark_of, line_of, jobs_of, job_of, layer_job, loop_label_in, program_of, with_ties, unit_read}
use Rattle.lowering_laws.specs.Layout.{layout_opened, is_item, are_items, is_direct, begins_loop, is_direct_as, are_direct, ends_behind, has_end}
use Rattle.lowering_laws.specs.Layout as law
use Rattle.direct_lines.specs.Assignments.{is_direct_assignment}
use Rattle.direct_lines.specs.DirectStatements.{layer_single, is_expression, is_direct_line, are_direct_lines, is_end, end_last}

-- ## Items

pub item-Item : (e : Expr) → is_expression (item.Item e) ≡ true
unfolding folds_opened is_expression layer_single
item-Item e = refl

pub item-Loop : (is : List ListItem) (control : LoopControl) → is_expression (item.Loop is control) ≡ false
unfolding folds_opened is_expression layer_single
item-Loop is control = refl

pub ruleset item_forms = (item-Item, item-Loop)

item-direct : (way : Direction) (layout : Layout) (names : Naming) (i : ListItem) → is_item (job_of way layout names i) ≡ is_expression i
unfolding fold_item job_of layer_job is_item is_expression layer_single
item-direct way layout names (Item e) = refl
item-direct way layout names (Loop' s row control) = refl

items-direct : (way : Direction) (layout : Layout) (names : Naming) (is : List ListItem) → are_items (jobs_of way layout names is) ≡ list_all is_expression is
unfolding jobs_of are_items
items-direct way layout names [] = refl
items-direct way layout names (i ∷ is) =
    ap (λ b. b && are_items (jobs_of way layout names is)) (item-direct way layout names i) ∙ ap (λ b. is_expression i && b) (items-direct way layout names is)

-- ## Statements that a logical IF may guard

text-direct : (referring : Bool) (one other : Form) → is_direct one ≡ true → is_direct other ≡ false → is_direct (if referring then one else other) ≡ referring
text-direct true one other yes' no' = yes'
text-direct false one other yes' no' = no'

chosen-direct : (text referring : Bool) (one other : Form) → is_direct one ≡ true → is_direct other ≡ referring → is_direct (if text then other else one) ≡ not text || referring
chosen-direct true referring one other yes' no' = no'
chosen-direct false referring one other yes' no' = yes'

defined-direct : (defined direct : Bool) (one other : Form) → is_direct one ≡ true → is_direct other ≡ direct → is_direct (if defined then one else other) ≡ defined || direct
defined-direct true direct one other yes' no' = yes'
defined-direct false direct one other yes' no' = no'

assignment-direct : (names : Naming) (target e : Expr) → is_direct (assign_form names target e) ≡ is_direct_assignment names target
unfolding lines_opened layout_opened is_direct_assignment
assignment-direct names target e =
    defined-direct _ _ _ _ refl
    (chosen-direct (is_text names (read names target).base) (refers (read names target).actual) _ _ refl (text-direct (refers (read names target).actual) _ _ refl refl))

pub direct-Assign : (names : Naming) (target e : Expr) → is_direct (form_of names (body.Assign target e)) ≡ is_direct_assignment names target
unfolding folds_opened form_of layer_form
direct-Assign names target e = assignment-direct names target e

pub direct-IfOne : (names : Naming) (e : Expr) (b : Body) → is_direct (form_of names (body.IfOne e b)) ≡ is_direct (form_of names b)
unfolding folds_opened form_of layer_form layout_opened
direct-IfOne names e b = refl

pub direct-IfThen : (names : Naming) (e : Expr) → is_direct (form_of names (body.IfThen e)) ≡ false
unfolding folds_opened form_of layer_form layout_opened
direct-IfThen names e = refl

pub direct-ElseIf : (names : Naming) (e : Expr) → is_direct (form_of names (body.ElseIf e)) ≡ false
unfolding folds_opened form_of layer_form layout_opened
direct-ElseIf names e = refl

pub direct-Do : (names : Naming) (label : Option ℕ) (control : LoopControl) → is_direct (form_of names (body.Do label control)) ≡ false
unfolding folds_opened form_of layer_form layout_opened
direct-Do names label control = refl

pub direct-DoWhile : (names : Naming) (label : Option ℕ) (e : Expr) → is_direct (form_of names (body.DoWhile label e)) ≡ false
unfolding folds_opened form_of layer_form layout_opened
direct-DoWhile names label e = refl

pub direct-Transfer : (names : Naming) (way : direction.Direction) (controls : List Control) (is : List ListItem) →
    is_direct (form_of names (body.Transfer way controls is)) ≡ list_all is_expression is
unfolding folds_opened form_of layer_form transfer_form layout_opened
direct-Transfer names way controls is = items-direct _ _ names is

pub direct-Header : (names : Naming) (kind : UnitKind) (name : Option Bytes) (dummies : List DummyArgument) → is_direct (form_of names (body.Header kind name dummies)) ≡ true
unfolding folds_opened form_of layer_form layout_opened
direct-Header names kind name dummies = refl

pub direct-Declare : (names : Naming) (type : TypeSpec) (items : List Declarator) → is_direct (form_of names (body.Declare type items)) ≡ true
unfolding folds_opened form_of layer_form layout_opened
direct-Declare names type items = refl

pub direct-Dimension : (names : Naming) (items : List ArrayDeclarator) → is_direct (form_of names (body.Dimension items)) ≡ true
unfolding folds_opened form_of layer_form layout_opened
direct-Dimension names items = refl

pub direct-Common : (names : Naming) (groups : List CommonGroup) → is_direct (form_of names (body.Common groups)) ≡ true
unfolding folds_opened form_of layer_form layout_opened
direct-Common names groups = refl

pub direct-Equivalence : (names : Naming) (groups : List EquivalenceGroup) → is_direct (form_of names (body.Equivalence groups)) ≡ true
unfolding folds_opened form_of layer_form layout_opened
direct-Equivalence names groups = refl

pub direct-Implicit : (names : Naming) (groups : List ImplicitGroup) → is_direct (form_of names (body.Implicit groups)) ≡ true
unfolding folds_opened form_of layer_form layout_opened
direct-Implicit names groups = refl

pub direct-ImplicitNone : (names : Naming) → is_direct (form_of names body.ImplicitNone) ≡ true
unfolding folds_opened form_of layer_form layout_opened
direct-ImplicitNone names = refl

pub direct-Parameter : (names : Naming) (items : List ConstantDefinition) → is_direct (form_of names (body.Parameter items)) ≡ true
unfolding folds_opened form_of layer_form layout_opened
direct-Parameter names items = refl

pub direct-External : (names : Naming) (xs : List Bytes) → is_direct (form_of names (body.External xs)) ≡ true
unfolding folds_opened form_of layer_form layout_opened
direct-External names xs = refl

pub direct-Intrinsic : (names : Naming) (xs : List Bytes) → is_direct (form_of names (body.Intrinsic xs)) ≡ true
unfolding folds_opened form_of layer_form layout_opened
direct-Intrinsic names xs = refl

pub direct-Save : (names : Naming) (items : List SavedItem) → is_direct (form_of names (body.Save items)) ≡ true
unfolding folds_opened form_of layer_form layout_opened
direct-Save names items = refl

pub direct-Init : (names : Naming) (groups : List DataGroup) → is_direct (form_of names (body.Init groups)) ≡ true
unfolding folds_opened form_of layer_form layout_opened
direct-Init names groups = refl

pub direct-Format : (names : Naming) (text : Bytes) → is_direct (form_of names (body.Format text)) ≡ true
unfolding folds_opened form_of layer_form layout_opened
direct-Format names text = refl

pub direct-Entry : (names : Naming) (name : Bytes) (dummies : List DummyArgument) → is_direct (form_of names (body.Entry name dummies)) ≡ true
unfolding folds_opened form_of layer_form layout_opened
direct-Entry names name dummies = refl

pub direct-AssignLabel : (names : Naming) (label : ℕ) (x : Bytes) → is_direct (form_of names (body.AssignLabel label x)) ≡ true
unfolding folds_opened form_of layer_form layout_opened
direct-AssignLabel names label x = refl

pub direct-Goto : (names : Naming) (label : ℕ) → is_direct (form_of names (body.Goto label)) ≡ true
unfolding folds_opened form_of layer_form layout_opened
direct-Goto names label = refl

pub direct-GotoList : (names : Naming) (labels : List ℕ) (e : Expr) → is_direct (form_of names (body.GotoList labels e)) ≡ true
unfolding folds_opened form_of layer_form layout_opened
direct-GotoList names labels e = refl

pub direct-GotoName : (names : Naming) (x : Bytes) (labels : List ℕ) → is_direct (form_of names (body.GotoName x labels)) ≡ true
unfolding folds_opened form_of layer_form layout_opened
direct-GotoName names x labels = refl

pub direct-IfSign : (names : Naming) (e : Expr) (below at above : ℕ) → is_direct (form_of names (body.IfSign e below at above)) ≡ true
unfolding folds_opened form_of layer_form layout_opened
direct-IfSign names e below at above = refl

pub direct-Else : (names : Naming) → is_direct (form_of names body.Else) ≡ true
unfolding folds_opened form_of layer_form layout_opened
direct-Else names = refl

pub direct-EndIf : (names : Naming) → is_direct (form_of names body.EndIf) ≡ true
unfolding folds_opened form_of layer_form layout_opened
direct-EndIf names = refl

pub direct-EndDo : (names : Naming) → is_direct (form_of names body.EndDo) ≡ true
unfolding folds_opened form_of layer_form layout_opened
direct-EndDo names = refl

pub direct-Continue : (names : Naming) → is_direct (form_of names body.Continue) ≡ true
unfolding folds_opened form_of layer_form layout_opened
direct-Continue names = refl

pub direct-Call : (names : Naming) (x : Bytes) (es : List Expr) → is_direct (form_of names (body.Call x es)) ≡ true
unfolding folds_opened form_of layer_form layout_opened
direct-Call names x es = refl

pub direct-Return : (names : Naming) (e : Option Expr) → is_direct (form_of names (body.Return e)) ≡ true
unfolding folds_opened form_of layer_form return_form layout_opened
direct-Return names None = refl
direct-Return names (Some e) = refl

pub direct-Stop : (names : Naming) (text : Bytes) → is_direct (form_of names (body.Stop text)) ≡ true
unfolding folds_opened form_of layer_form layout_opened
direct-Stop names text = refl

pub direct-Auxiliary : (names : Naming) (which : AuxiliaryKind) (controls : List Control) → is_direct (form_of names (body.Auxiliary which controls)) ≡ true
unfolding folds_opened form_of layer_form auxiliary_form layout_opened
direct-Auxiliary names which controls = refl

pub direct-Include : (names : Naming) (name : Bytes) → is_direct (form_of names (body.Include name)) ≡ true
unfolding folds_opened form_of layer_form layout_opened
direct-Include names name = refl

pub direct-End : (names : Naming) → is_direct (form_of names body.End) ≡ true
unfolding folds_opened form_of layer_form layout_opened
direct-End names = refl

pub ruleset direct_forms = (direct-Header, direct-Declare, direct-Dimension, direct-Common, direct-Equivalence, direct-Implicit, direct-ImplicitNone, direct-Parameter, direct-External, direct-Intrinsic, direct-Save, direct-Init, direct-Format, direct-Entry, direct-Assign, direct-AssignLabel, direct-Goto, direct-GotoList, direct-GotoName, direct-IfSign, direct-IfOne, direct-IfThen, direct-ElseIf, direct-Else, direct-EndIf, direct-Do, direct-DoWhile, direct-EndDo, direct-Continue, direct-Call, direct-Return, direct-Stop, direct-Transfer, direct-Auxiliary, direct-Include, direct-End)

-- ## Statements by their marks

no-loop : (defined text referring : Bool) (passing one other : Form) → begins_loop passing ≡ false → begins_loop one ≡ false → begins_loop other ≡ false →
    begins_loop (if defined then passing else (if text then (if referring then one else other) else one)) ≡ false
no-loop true text referring passing one other p q r = p
no-loop false true true passing one other p q r = q
no-loop false true false passing one other p q r = r
no-loop false false referring passing one other p q r = q

assignment-begins : (names : Naming) (target e : Expr) → begins_loop (assign_form names target e) ≡ false
unfolding lines_opened layout_opened
assignment-begins names target e =
    no-loop (is_statement_function names (heading_of target).applied) (is_text names (read names target).base) (refers (read names target).actual) Passes (value_assignment (read names target) (read names e)) (On ToSetText (terms ((read names e).pieces ++ (read names target).actual ∷ [])))
    refl refl refl

either-direct : (begins direct : Bool) → begins ≡ false → begins || direct ≡ direct
either-direct true direct is = absurd (cc)
either-direct false direct is = refl

return-begins : (names : Naming) (e : Option Expr) → begins_loop (return_form names e) ≡ false
unfolding return_form layout_opened
return-begins names None = refl
return-begins names (Some e) = refl

-- a statement that begins no arm and no loop is a direct one
pub line-other : (names : Naming) (b : Body) → ((e : Expr) → b ≡ body.IfThen e → ⊥) → ((e : Expr) → b ≡ body.ElseIf e → ⊥) →
    ((label : Option ℕ) (control : LoopControl) → b ≡ body.Do label control → ⊥) → ((label : Option ℕ) (e : Expr) → b ≡ body.DoWhile label e → ⊥) →
    is_direct_line names b ≡ is_direct (form_of names b)
unfolding folds_opened is_direct_line form_of layer_form transfer_form auxiliary_form mark_of layout_opened
line-other names (IfThen e) one two three four = absurd (one e refl)
line-other names (ElseIf e) one two three four = absurd (two e refl)
line-other names (Do label control) one two three four = absurd (three label control refl)
line-other names (DoWhile label e) one two three four = absurd (four label e refl)
line-other names (Assign target e) one two three four = either-direct (begins_loop (assign_form names target e)) (is_direct (assign_form names target e)) (assignment-begins names target e)
line-other names (Return e) one two three four = either-direct (begins_loop (return_form names e)) (is_direct (return_form names e)) (return-begins names e)
line-other names (IfOne' e s (more_of-Body b r)) one two three four = refl
line-other names _ one two three four = refl

pub line-IfThen : (names : Naming) (e : Expr) → is_direct_line names (body.IfThen e) ≡ true
unfolding folds_opened is_direct_line form_of layer_form mark_of layout_opened
line-IfThen names e = refl

pub line-ElseIf : (names : Naming) (e : Expr) → is_direct_line names (body.ElseIf e) ≡ true
unfolding folds_opened is_direct_line form_of layer_form mark_of layout_opened
line-ElseIf names e = refl

pub line-Do : (names : Naming) (label : Option ℕ) (control : LoopControl) → is_direct_line names (body.Do label control) ≡ true
unfolding folds_opened is_direct_line form_of layer_form mark_of layout_opened
line-Do names label control = refl

pub line-DoWhile : (names : Naming) (label : Option ℕ) (e : Expr) → is_direct_line names (body.DoWhile label e) ≡ true
unfolding folds_opened is_direct_line form_of layer_form mark_of layout_opened
line-DoWhile names label e = refl

pub ruleset line_forms = (line-IfThen, line-ElseIf, line-Do, line-DoWhile)

-- ## END

end-chosen : (defined text referring : Bool) (passing one other : Form) → law.is_end passing ≡ false → law.is_end one ≡ false → law.is_end other ≡ false →
    law.is_end (if defined then passing else (if text then (if referring then one else other) else one)) ≡ false
end-chosen true text referring passing one other p q r = p
end-chosen false true true passing one other p q r = q
end-chosen false true false passing one other p q r = r
end-chosen false false referring passing one other p q r = q

assignment-ends : (names : Naming) (target e : Expr) → law.is_end (assign_form names target e) ≡ false
unfolding lines_opened layout_opened
assignment-ends names target e =
    end-chosen (is_statement_function names (heading_of target).applied) (is_text names (read names target).base) (refers (read names target).actual) Passes (value_assignment (read names target) (read names e)) (On ToSetText (terms ((read names e).pieces ++ (read names target).actual ∷ [])))
    refl refl refl

return-ends : (names : Naming) (e : Option Expr) → law.is_end (return_form names e) ≡ false
unfolding return_form layout_opened
return-ends names None = refl
return-ends names (Some e) = refl

end-known : (names : Naming) (s : Stmt) (b : Body) → s.body ≡ b → law.is_end (form_of names b) ≡ is_end s
unfolding folds_opened form_of layer_form transfer_form auxiliary_form is_end layout_opened
end-known names s b is = by b ∙ ap (λ c. elim (layer_of c) [ open-body.End ↦ true | _ ↦ false ]) (sym is)
  where
    by : (b : Body) → law.is_end (form_of names b) ≡ (elim (layer_of b) [ open-body.End ↦ true | _ ↦ false ])
    by (Assign target e) = assignment-ends names target e
    by (Return e) = return-ends names e
    by (IfOne' e s (more_of-Body b r)) = refl
    by _ = refl

-- ## The lines of a unit

lines-direct : (names : Naming) (labels : List ℕ) (ss : List Stmt) → are_direct (map (line_of names labels) ss) ≡ list_all (λ (s : Stmt). is_direct_line names s.body) ss
unfolding are_direct line_of is_direct_line
lines-direct names labels [] = refl
lines-direct names labels (s ∷ ss) = ap (λ b. is_direct_as (mark_of s.body) (form_of names s.body) && b) (lines-direct names labels ss)

lines-end-behind : (names : Naming) (labels : List ℕ) (s : Stmt) (ss : List Stmt) → ends_behind (form_of names s.body) (map (line_of names labels) ss) ≡ end_last (s ∷ ss)
unfolding ends_behind line_of end_last
lines-end-behind names labels s [] = end-known names s s.body refl
lines-end-behind names labels s (t ∷ ss) = lines-end-behind names labels t ss

lines-end : (names : Naming) (labels : List ℕ) (ss : List Stmt) → has_end (map (line_of names labels) ss) ≡ end_last ss
unfolding has_end line_of end_last
lines-end names labels [] = refl
lines-end names labels (s ∷ ss) = lines-end-behind names labels s ss

-- what is asked of the lines of a unit is asked of its statements
pub unit-lines : (options : Options) (u : WrittenUnit) →
    are_direct_lines (given_names u) u.statements && end_last u.statements ≡ are_direct (unit_read options u).lines && has_end (unit_read options u).lines
unfolding are_direct_lines unit_read with_ties program_of given_names
unit-lines options u =
    ap (λ b. b && end_last u.statements) (sym (lines-direct (attribute_in (all_described u)) (from_all loop_label_in u.statements) u.statements))
    ∙ ap (λ b. are_direct (map (line_of (attribute_in (all_described u)) (from_all loop_label_in u.statements)) u.statements) && b)
    (sym (lines-end (attribute_in (all_described u)) (from_all loop_label_in u.statements) u.statements))

pub end-is : (s : Stmt) → s.body ≡ body.End → is_end s ≡ true
unfolding is_end layer_of
end-is s is = ap (λ (b : Body). elim (layer_of b) [ open-body.End ↦ true | _ ↦ false ]) is

pub end-not : (s : Stmt) → (s.body ≡ body.End → ⊥) → is_end s ≡ false
unfolding is_end layer_of
end-not s other = by s.body other
  where
    by : (b : Body) → (b ≡ body.End → ⊥) → (elim (layer_of b) [ open-body.End ↦ true | _ ↦ false ]) ≡ false
    by End not' = absurd (not' refl)
    by (IfOne' e t (more_of-Body b r)) not' = refl
    by _ not' = refl

-- the last of statements
shorter : (s t : Stmt) (ss : List Stmt) (o : Option Stmt) → slice_get (s ∷ t ∷ ss) (length (s ∷ t ∷ ss) - 1) ≡ o → slice_get (t ∷ ss) (length (t ∷ ss) - 1) ≡ o
shorter s t ss o is = let e : suc (length (t ∷ ss) - 1) ≡ length (s ∷ t ∷ ss) - 1 = omega arith in ap (slice_get (s ∷ t ∷ ss)) e ∙ is

only-one : (s : Stmt) → slice_get (s ∷ []) (length (s ∷ []) - 1) ≡ Some s
only-one s = let e : length (s ∷ []) - 1 ≡ 0 = omega arith in ap (slice_get (s ∷ [])) e

pub none-last : (ss : List Stmt) → slice_get ss (length ss - 1) ≡ None → end_last ss ≡ false
unfolding end_last
none-last [] is = refl
none-last (s ∷ []) is = absurd (let one = only-one s in cc)
none-last (s ∷ t ∷ ss) is = none-last (t ∷ ss) (shorter s t ss None is)

pub one-last : (ss : List Stmt) (s : Stmt) → slice_get ss (length ss - 1) ≡ Some s → end_last ss ≡ is_end s
unfolding end_last
one-last [] s is = absurd (let none : None ≡ Some s = is in cc)
one-last (t ∷ []) s is = ap is_end (let one = only-one t in let same : t ≡ s = cc in same)
one-last (t ∷ v ∷ ss) s is = one-last (v ∷ ss) s (shorter t v ss (Some s) is)
