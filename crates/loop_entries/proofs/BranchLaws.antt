-- The branches of a statement go into no range from outside where none of its labels does.
use Rattle.std.proofs.Common.{◌≡◌, ℕ, Bool, true, false, not, ◌&&◌, List, [], ◌∷◌, ◌++◌, map, Option, Some, None, refl, sym, ap, ◌∙◌}
use Rattle.std.specs.List.{list_all, list_any}
use Rattle.std.proofs.lemmas.List.Folds.{list_all-append}
use Rattle.f_tree.specs.declared.expressions.Expr.{Expr}
use Rattle.f_tree.specs.declared.statements.Body as whole
use Rattle.f_tree.specs.declared.statements.Body.{Body, IfOne', more_of-Body}
use Rattle.f_tree.specs.declared.statements.Control.{Control}
use Rattle.f_tree.specs.declared.statements.ControlValue.{ControlValue}
use Rattle.f_tree.specs.declared.statements.ControlValue.TheVariants as value
use Rattle.f_tree.specs.declared.statements.ControlWord.{ControlWord}
use Rattle.f_tree.specs.declared.statements.ControlWord.TheVariants as word
use Rattle.f_tree.specs.declared.statements.ListItem.{ListItem}
use Rattle.f_tree.specs.Folds.{fold_body}
use Rattle.f_tree.specs.Attributes.{first_of_two}
use Rattle.f_tree.specs.Terms.{Terms, terms}
use Rattle.f_tree.specs.Facts.{Direction, Output, AuxiliaryKind, ProgramUnit}
use Rattle.f_tree.specs.Nests.{Range, is_within, enters_range}
use Rattle.f_tree.specs.Lines.{Naming, Written, nothing_written, with_operand, control_written, controls_written, controls_of, transfer_form, auxiliary_of, auxiliary_form, way_of, assign_form, return_form, arguments_of, layer_form, form_of}
use Rattle.lowering_laws.specs.Layout.{stays_outside, may_branch, label_branches, controls_branch, branches_well, head_branches}
use Rattle.lowering_laws.specs.Layer.{passes_other}
use Rattle.name_table.specs.declared.LabelTable.{LabelTable}
use Rattle.name_table.specs.Named.{labelled}
use Rattle.loop_entries.specs.declared.ranges.LoopRange.{LoopRange}
use Rattle.loop_entries.specs.LoopRanges.{range_of, AreRanges}
use Rattle.loop_entries.specs.PassedLabels.{AnyMayBe, Told, TellsNames, joined, labels_of}
use Rattle.loop_entries.specs.Branches.{label_for, label_among, option_labels, control_labels, layer_branches, branches_of, ArePlaces}
use Rattle.loop_entries.proofs.LineLemmas.{of_assign}
use Rattle.loop_entries.proofs.PassedLaws.{arguments_passed}

-- ONE BRANCH
abbrev goes_in : ℕ → ℕ → Range → Bool
goes_in from to r = is_within to r && not (is_within from r)

enters_is : (p : ProgramUnit) (rs : List LoopRange) (from to : ℕ) → AreRanges p rs → enters_range p from to ≡ list_any (λ (r : LoopRange). goes_in from to (range_of r)) rs
unfolding enters_range
enters_is p rs from to are = are.any (goes_in from to)

pub branch_some : (p : ProgramUnit) (rs : List LoopRange) (places : LabelTable ℕ) (from label : ℕ) (found : Option ℕ) (to : ℕ) (enters : Bool) → AreRanges p rs → ArePlaces p places
    → found ≡ labelled places label → found ≡ Some to → enters ≡ list_any (λ (r : LoopRange). goes_in from to (range_of r)) rs → not enters ≡ may_branch p from label
unfolding may_branch stays_outside
branch_some p rs places from label found to enters are at is there goes =
    ap not (goes ∙ sym (enters_is p rs from to are)) ∙ ap (stays_outside p from) (sym there ∙ is ∙ at.at label)

pub branch_none : (p : ProgramUnit) (places : LabelTable ℕ) (from label : ℕ) (found : Option ℕ) → ArePlaces p places → found ≡ labelled places label → found ≡ None → true ≡ may_branch p from label
unfolding may_branch stays_outside
branch_none p places from label found at is there = ap (stays_outside p from) (sym there ∙ is ∙ at.at label)

-- CONTROL WORDS
error_one : (way : Direction) (names : Naming) (w : ControlWord) (v : ControlValue) (more : Written) → (control_written way names w v more).on_error ≡ first_of_two (label_for false w v) more.on_error
unfolding control_written with_operand label_for first_of_two
error_one way names word.Unit value.Star more = refl
error_one way names word.Format value.Star more = refl
error_one way names word.Status value.Star more = refl
error_one way names word.OnError value.Star more = refl
error_one way names word.OnEnd value.Star more = refl
error_one way names word.File value.Star more = refl
error_one way names word.FileStatus value.Star more = refl
error_one way names word.Access value.Star more = refl
error_one way names word.Form value.Star more = refl
error_one way names word.Blank value.Star more = refl
error_one way names _ _ more = refl

end_one : (way : Direction) (names : Naming) (w : ControlWord) (v : ControlValue) (more : Written) → (control_written way names w v more).on_end ≡ first_of_two (label_for true w v) more.on_end
unfolding control_written with_operand label_for first_of_two
end_one way names word.Unit value.Star more = refl
end_one way names word.Format value.Star more = refl
end_one way names word.Status value.Star more = refl
end_one way names word.OnError value.Star more = refl
end_one way names word.OnEnd value.Star more = refl
end_one way names word.File value.Star more = refl
end_one way names word.FileStatus value.Star more = refl
end_one way names word.Access value.Star more = refl
end_one way names word.Form value.Star more = refl
end_one way names word.Blank value.Star more = refl
end_one way names _ _ more = refl

error_written : (way : Direction) (names : Naming) (cs : List Control) → (controls_written way names cs).on_error ≡ label_among false cs
unfolding controls_written nothing_written label_among
error_written way names [] = refl
error_written way names (c ∷ cs) = error_one way names c.word c.value (controls_written way names cs) ∙ ap (first_of_two (label_for false c.word c.value)) (error_written way names cs)

end_written : (way : Direction) (names : Naming) (cs : List Control) → (controls_written way names cs).on_end ≡ label_among true cs
unfolding controls_written nothing_written label_among
end_written way names [] = refl
end_written way names (c ∷ cs) = end_one way names c.word c.value (controls_written way names cs) ∙ ap (first_of_two (label_for true c.word c.value)) (end_written way names cs)

and_true : (b : Bool) → b ≡ (b && true)
and_true true = refl
and_true false = refl

label_well : (p : ProgramUnit) (i : ℕ) (o : Option ℕ) → label_branches p i o ≡ list_all (may_branch p i) (option_labels o)
unfolding label_branches option_labels
label_well p i None = refl
label_well p i (Some label) = and_true (may_branch p i label)

labels_well : (p : ProgramUnit) (i : ℕ) (error end : Option ℕ) → (label_branches p i error && label_branches p i end) ≡ list_all (may_branch p i) (option_labels error ++ option_labels end)
labels_well p i error end =
    ap (λ b. b && label_branches p i end) (label_well p i error) ∙ ap (λ b. list_all (may_branch p i) (option_labels error) && b) (label_well p i end)
    ∙ sym (list_all-append (may_branch p i) (option_labels error) (option_labels end))

controls_well : (p : ProgramUnit) (i : ℕ) (way : Direction) (names : Naming) (cs : List Control)
    → (label_branches p i (controls_written way names cs).on_error && label_branches p i (controls_written way names cs).on_end) ≡ list_all (may_branch p i) (control_labels cs)
unfolding control_labels
controls_well p i way names cs =
    labels_well p i (controls_written way names cs).on_error (controls_written way names cs).on_end
    ∙ ap (λ o. list_all (may_branch p i) (option_labels o ++ option_labels (controls_written way names cs).on_end)) (error_written way names cs)
    ∙ ap (λ o. list_all (may_branch p i) (option_labels (label_among false cs) ++ option_labels o)) (end_written way names cs)

transfer_well : (p : ProgramUnit) (i : ℕ) (way : Direction) (names : Naming) (items : List ListItem) (cs : List Control)
    → branches_well p i (transfer_form way names items (controls_written way names cs)) ≡ list_all (may_branch p i) (control_labels cs)
unfolding transfer_form controls_of branches_well head_branches controls_branch
transfer_well p i way names items cs = controls_well p i way names cs

auxiliary_well : (p : ProgramUnit) (i : ℕ) (which : AuxiliaryKind) (names : Naming) (cs : List Control)
    → branches_well p i (auxiliary_form which (controls_written Output names cs)) ≡ list_all (may_branch p i) (control_labels cs)
unfolding auxiliary_form controls_of branches_well head_branches controls_branch
auxiliary_well p i which names cs = controls_well p i Output names cs

-- ASSIGNMENTS branch nowhere
assign_well : (p : ProgramUnit) (i : ℕ) (names : Naming) (target e : Expr) → branches_well p i (assign_form names target e) ≡ true
unfolding branches_well head_branches
assign_well p i names target e = of_assign (λ form. branches_well p i form ≡ true) refl (λ ts. refl) (λ ts. refl) names target e

-- CALL
twice : (b : Bool) → not (not b) ≡ b
twice true = refl
twice false = refl

call_well : (p : ProgramUnit) (i : ℕ) (ts : Terms) (labels : List ℕ) → AnyMayBe ts labels → not (passes_other (may_branch p i) ts) ≡ list_all (may_branch p i) labels
call_well p i ts labels told = ap not (told.tells (may_branch p i)) ∙ twice (list_all (may_branch p i) labels)

-- STATEMENTS
three : (a b c : Bool) → (a && (b && c)) ≡ (a && (b && (c && true)))
three true true c = and_true c
three true false c = refl
three false b c = refl

pub form_well : (p : ProgramUnit) (i : ℕ) (names : Naming) (told : Told) (b : Body) → TellsNames names told → branches_well p i (form_of names b) ≡ list_all (may_branch p i) (branches_of told b)
unfolding form_of fold_body layer_form branches_of layer_branches branches_well head_branches return_form
form_well p i names told (whole.Assign target e) tells = assign_well p i names target e
form_well p i names told (whole.Goto label) tells = and_true (may_branch p i label)
form_well p i names told (whole.IfSign e below at above) tells = three (may_branch p i below) (may_branch p i at) (may_branch p i above)
form_well p i names told (IfOne' e s (more_of-Body b r)) tells = form_well p i names told b tells
form_well p i names told (whole.Call x es) tells = call_well p i (terms (arguments_of names es)) (joined (map (labels_of told) es)) (arguments_passed names told es tells.each)
form_well p i names told (whole.Return None) tells = refl
form_well p i names told (whole.Return (Some e)) tells = refl
form_well p i names told (whole.Transfer way controls items) tells = transfer_well p i (way_of way) names items controls
form_well p i names told (whole.Auxiliary which controls) tells = auxiliary_well p i (auxiliary_of which) names controls
form_well p i names told _ tells = refl
