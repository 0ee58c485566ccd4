-- The labels that statements name are those that their forms name, whatever the names are of which the table tells.
use Rattle.std.proofs.Common.{◌≡◌, ℕ, true, false, List, [], ◌∷◌, ◌++◌, map, Some, None, refl, ap, ◌∙◌}
use Rattle.f_tree.specs.declared.expressions.Expr.{Expr}
use Rattle.f_tree.specs.declared.statements.Body as whole
use Rattle.f_tree.specs.declared.statements.Body.{Body, IfOne', more_of-Body, end_of-Body}
use Rattle.f_tree.specs.declared.statements.Control.{Control}
use Rattle.f_tree.specs.declared.statements.ControlValue.{ControlValue}
use Rattle.f_tree.specs.declared.statements.ControlValue.TheVariants as value
use Rattle.f_tree.specs.declared.statements.ControlWord.{ControlWord}
use Rattle.f_tree.specs.declared.statements.ControlWord.TheVariants as word
use Rattle.f_tree.specs.declared.statements.ListItem.{ListItem}
use Rattle.f_tree.specs.declared.statements.Stmt.{Stmt}
use Rattle.f_tree.specs.Folds.{fold_body}
use Rattle.f_tree.specs.Facts.{Direction, Output, AuxiliaryKind}
use Rattle.f_tree.specs.Attributes.{from_all, first_of_two}
use Rattle.f_tree.specs.Lines.{Naming, Written, nothing_written, with_operand, control_written, controls_written, controls_of, transfer_form, auxiliary_of, auxiliary_form, way_of, assign_form, return_form, layer_form, form_of, line_of}
use Rattle.lowering.specs.Units.{label_in, named_by, named_by_head, all_named}
use Rattle.name_facts.specs.declared.table.NameFacts.{NameFacts}
use Rattle.expression_lowering.specs.TableNames.{AreFactsOf, is_lowered_value}
use Rattle.expression_lowering.proofs.CoveredForms.{and-left, and-right}
use Rattle.statement_lowering.specs.LoweredStatements.{layer_lowers, is_lowered_statement}
use Rattle.statement_lowering.proofs.CallLabels.{labels-agree}
use Rattle.statement_places.specs.NamedLabels.{label_for, label_among, control_labels, layer_labels, labels_of}
use Rattle.statement_places.specs.StatementPlaces.{statements_lower}
use Rattle.statement_places.proofs.BodyForms.{of_assign}

-- CONTROL WORDS
error_one : (way : Direction) (names : Naming) (w : ControlWord) (v : ControlValue) (more : Written) → (control_written way names w v more).on_error ≡ first_of_two (label_for false w v) more.on_error
unfolding control_written with_operand label_for first_of_two
error_one way names word.Unit value.Star more = refl
error_one way names word.Format value.Star more = refl
error_one way names word.Status value.Star more = refl
error_one way names word.OnError value.Star more = refl
error_one way names word.OnEnd value.Star more = refl
error_one way names word.File value.Star more = refl
error_one way names word.FileStatus value.Star more = refl
error_one way names word.Access value.Star more = refl
error_one way names word.Form value.Star more = refl
error_one way names word.Blank value.Star more = refl
error_one way names _ _ more = refl

end_one : (way : Direction) (names : Naming) (w : ControlWord) (v : ControlValue) (more : Written) → (control_written way names w v more).on_end ≡ first_of_two (label_for true w v) more.on_end
unfolding control_written with_operand label_for first_of_two
end_one way names word.Unit value.Star more = refl
end_one way names word.Format value.Star more = refl
end_one way names word.Status value.Star more = refl
end_one way names word.OnError value.Star more = refl
end_one way names word.OnEnd value.Star more = refl
end_one way names word.File value.Star more = refl
end_one way names word.FileStatus value.Star more = refl
end_one way names word.Access value.Star more = refl
end_one way names word.Form value.Star more = refl
end_one way names word.Blank value.Star more = refl
end_one way names _ _ more = refl

error_written : (way : Direction) (names : Naming) (cs : List Control) → (controls_written way names cs).on_error ≡ label_among false cs
unfolding controls_written nothing_written label_among
error_written way names [] = refl
error_written way names (c ∷ cs) = error_one way names c.word c.value (controls_written way names cs) ∙ ap (first_of_two (label_for false c.word c.value)) (error_written way names cs)

end_written : (way : Direction) (names : Naming) (cs : List Control) → (controls_written way names cs).on_end ≡ label_among true cs
unfolding controls_written nothing_written label_among
end_written way names [] = refl
end_written way names (c ∷ cs) = end_one way names c.word c.value (controls_written way names cs) ∙ ap (first_of_two (label_for true c.word c.value)) (end_written way names cs)

written_labels : (way : Direction) (names : Naming) (cs : List Control) → label_in (controls_written way names cs).on_error ++ label_in (controls_written way names cs).on_end ≡ control_labels cs
unfolding control_labels
written_labels way names cs =
    ap (λ o. label_in o ++ label_in (controls_written way names cs).on_end) (error_written way names cs) ∙ ap (λ o. label_in (label_among false cs) ++ label_in o) (end_written way names cs)

-- ASSIGNMENTS name none
assign_names : (names : Naming) (target e : Expr) → named_by (assign_form names target e) ≡ []
unfolding named_by named_by_head
assign_names names target e = of_assign (λ form. named_by form ≡ []) refl (λ ts. refl) (λ ts. refl) names target e

-- STATEMENTS
transfer_names : (way : Direction) (names : Naming) (items : List ListItem) (cs : List Control) → named_by (transfer_form way names items (controls_written way names cs)) ≡ control_labels cs
unfolding transfer_form controls_of named_by named_by_head
transfer_names way names items cs = written_labels way names cs

auxiliary_names : (which : AuxiliaryKind) (names : Naming) (cs : List Control) → named_by (auxiliary_form which (controls_written Output names cs)) ≡ control_labels cs
unfolding auxiliary_form controls_of named_by named_by_head
auxiliary_names which names cs = written_labels Output names cs

module _ (names : Naming) (table : NameFacts) (told : AreFactsOf names table) where
  form_names : (b : Body) → is_lowered_statement table b ≡ true → named_by (form_of names b) ≡ labels_of table b
  unfolding form_of fold_body layer_form labels_of layer_labels named_by named_by_head return_form is_lowered_statement layer_lowers
  form_names (whole.Assign target e) h = assign_names names target e
  form_names (IfOne' e s (more_of-Body b r)) h = form_names b (and-left (is_lowered_statement table b) (is_lowered_value table e) h)
  form_names (whole.Call x es) h = (labels-agree names table told es h).written
  form_names (whole.Return None) h = refl
  form_names (whole.Return (Some e)) h = refl
  form_names (whole.Transfer way controls items) h = transfer_names (way_of way) names items controls
  form_names (whole.Auxiliary which controls) h = auxiliary_names (auxiliary_of which) names controls
  form_names _ h = refl

  -- THE LINES OF STATEMENTS
  line_names : (labels : List ℕ) (s : Stmt) → is_lowered_statement table s.body ≡ true → named_by (line_of names labels s).form ≡ labels_of table s.body
  unfolding line_of
  line_names labels s h = form_names s.body h

  pub lines_names : (labels : List ℕ) (ss : List Stmt) → statements_lower table ss ≡ true → all_named (map (line_of names labels) ss) ≡ from_all (labels_of table) ss
  unfolding all_named from_all statements_lower
  lines_names labels [] h = refl
  lines_names labels (s ∷ ss) h =
      ap (λ ls. ls ++ all_named (map (line_of names labels) ss)) (line_names labels s (and-left (is_lowered_statement table s.body) (statements_lower table ss) h))
      ∙ ap (λ ls. labels_of table s.body ++ ls) (lines_names labels ss (and-right (is_lowered_statement table s.body) (statements_lower table ss) h))
