-- The text of a unit, from its steps, its marks and its labels.
use Rattle.std.proofs.Common.{◌≡◌, ℕ, nat_eq, Bool, true, List, length, map, Option, Some, None, option_map, if◌then◌else◌, refl, sym, ap, ◌∙◌}
use Rattle.std.specs.HashMap.{get_by}
use Rattle.f_tree.specs.declared.statements.Stmt.{Stmt}
use Rattle.f_tree.specs.Attributes.{from_all}
use Rattle.f_tree.specs.Facts.{Facts}
use Rattle.f_tree.specs.Lines.{Naming}
use Rattle.f_tree.specs.Places.{place_of_label}
use Rattle.f_tree.specs.Step.{assigned_in}
use Rattle.lowered_tree.specs.l_core.Steps.{Step, Text}
use Rattle.lowering.specs.Units.{start_of, text_with, calls_well, if_called_well, lowered_unit}
use Rattle.lowering.specs.Units as unit
use Rattle.lowered_tree.specs.declared.steps.Step as tree
use Rattle.lowered_tree.specs.Shapes.{steps_of}
use Rattle.lowered_text.specs.declared.text.LoweredText.{LoweredText}
use Rattle.lowered_text.specs.Texts.{marked_of}
use Rattle.name_facts.specs.declared.table.NameFacts.{NameFacts}
use Rattle.expression_lowering.specs.TableNames.{AreFactsOf}
use Rattle.statement_places.specs.open_loops.ReadLines.{IsReadAs}
use Rattle.statement_places.specs.declared.places.StatementPlace.{StatementPlace}
use Rattle.statement_places.specs.StatementPlaces.{AreStatementPlaces, AreAllPlaces}
use Rattle.unit_lowering.specs.AssignedLabels.{assigned_of}
use Rattle.unit_lowering.specs.LineSteps.{lines_steps}
use Rattle.unit_lowering.specs.LineMarks.{lines_marks}
use Rattle.unit_lowering.specs.LabelStarts.{label_start}
use Rattle.unit_lowering.specs.LoweredUnits.{IsTextOf, IsLoweredUnit, UnitsAreLoweredToTheirSteps}
use Rattle.unit_lowering.proofs.AssignedForms.{assigned_read}
use Rattle.unit_lowering.proofs.PlacedSteps.{steps_are}
use Rattle.unit_lowering.proofs.PlacedMarks.{marks_are}
use Rattle.unit_lowering.proofs.PlacedLabels.{label_is}
use Rattle.unit_lowering.proofs.FunctionReads.{calls_are_well}

-- the text of these steps
abbrev whole_text : Facts → List Step → Text
whole_text c steps = record {
  facts = c;
  steps = steps;
  begins = start_of c.program;
  position = λ label. option_map (start_of c.program) (place_of_label c.program label);
  marks = unit.lines_marks c.program 0 c.program.lines;
}

lowered_by : (c : Facts) (steps : List Step) → unit.lines_code c.program 0 c.program.lines ≡ Some steps → calls_well steps ≡ true → lowered_unit c ≡ Some (whole_text c steps)
unfolding lowered_unit text_with if_called_well
lowered_by c steps is well = ap (λ code. text_with c (if_called_well code)) is ∙ ap (λ b. text_with c (if b then Some steps else None)) well

text_of : (c : Facts) (once : Bool) (assigned : List ℕ) (names : Naming) (ss : List Stmt) (places : List StatementPlace) (t : LoweredText) → IsReadAs c.program once names ss → assigned_in c.program.lines ≡ assigned →
    AreStatementPlaces c.program places → lines_steps once assigned names ss places (length ss) ≡ Some (steps_of t.steps.items) →
    (unit.lines_code c.program 0 c.program.lines ≡ Some (steps_of t.steps.items) → calls_well (steps_of t.steps.items) ≡ true) →
    ((l : ℕ) → get_by (nat_eq l) t.labels ≡ label_start l ss places (length ss)) → map marked_of t.marks.items ≡ lines_marks once ss places (length ss) → IsTextOf c t
text_of c once assigned names ss places t told is_assigned are steps well labels marks = record {
  text = whole_text c (steps_of t.steps.items);
  lowered = let code = sym (steps_are c.program once names ss places told are assigned is_assigned) ∙ steps in lowered_by c (steps_of t.steps.items) code (well code);
  is = record {
    steps = refl;
    marks = marks ∙ marks_are c.program once names ss places told are;
    labels = λ l. labels l ∙ label_is c.program once names ss places told are l;
  };
}

unit_lowered : (table : NameFacts) (once : Bool) (assigned : List ℕ) (ss : List Stmt) (places : List StatementPlace) (t : LoweredText) → assigned ≡ from_all assigned_of ss →
    AreAllPlaces table once assigned ss places →
    ((names : Naming) → AreFactsOf names table → lines_steps once assigned names ss places (length ss) ≡ Some (steps_of t.steps.items)) →
    ((l : ℕ) → get_by (nat_eq l) t.labels ≡ label_start l ss places (length ss)) → map marked_of t.marks.items ≡ lines_marks once ss places (length ss) →
    IsLoweredUnit table once ss t
unit_lowered table once assigned ss places t gathered all steps labels marks = record {
  lowers = all.lowers;
  meant = λ c names told facts.
      let is_assigned = assigned_read c.program once names ss told ∙ sym gathered in
      text_of c once assigned names ss places t told is_assigned (all.meant c.program names told facts is_assigned) (steps names facts)
      (calls_are_well c.program once names table ss (steps_of t.steps.items) told facts all.lowers) labels marks;
}

-- the statements and the places being read as slices
pub unit_read_lowered : (table : NameFacts) (once : Bool) (assigned labels : List ℕ) (ss seen : List Stmt) (places before behind : List StatementPlace) (steps : List tree.Step) (t : LoweredText) →
    seen ≡ ss → before ≡ places → behind ≡ places → assigned ≡ labels → labels ≡ from_all assigned_of seen → AreAllPlaces table once assigned ss places →
    ((names : Naming) → AreFactsOf names table → lines_steps once assigned names seen before (length seen) ≡ Some (steps_of steps)) → t.steps.items ≡ steps →
    ((l : ℕ) → get_by (nat_eq l) t.labels ≡ label_start l seen behind (length seen)) → map marked_of t.marks.items ≡ lines_marks once seen behind (length seen) →
    IsLoweredUnit table once ss t
unit_read_lowered table once assigned gathered ss seen places before behind steps t same first later kept_labels gathers all lowered kept labels marks =
    unit_lowered table once assigned ss places t (kept_labels ∙ gathers ∙ ap (from_all assigned_of) same) all
    (λ names facts.
    ap (λ xs. lines_steps once assigned names xs places (length xs)) (sym same) ∙ ap (λ ps. lines_steps once assigned names seen ps (length seen)) (sym first) ∙ lowered names facts
    ∙ ap (λ xs. Some (steps_of xs)) (sym kept))
    (λ l. labels l ∙ ap (λ ps. label_start l seen ps (length seen)) later ∙ ap (λ xs. label_start l xs places (length xs)) same)
    (marks ∙ ap (λ ps. lines_marks once seen ps (length seen)) later ∙ ap (λ xs. lines_marks once xs places (length xs)) same)

-- LAW
whole_code : (c : Facts) (code : Option (List Step)) → ((steps : List Step) → code ≡ Some steps → calls_well steps ≡ true) → text_with c (if_called_well code) ≡ text_with c code
unfolding if_called_well
whole_code c None well = refl
whole_code c (Some steps) well = ap (λ b. text_with c (if b then Some steps else None)) (well steps refl)

pub to_their_steps : UnitsAreLoweredToTheirSteps
unfolding lowered_unit
to_their_steps table once ss c names told facts lowers =
    whole_code c (unit.lines_code c.program 0 c.program.lines) (λ steps is. calls_are_well c.program once names table ss steps told facts lowers is)
