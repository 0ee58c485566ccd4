-- The steps of a statement on a unit.
use Rattle.std.specs.Prelude.{◌≡◌, ℕ, Bool, true, List, [], ◌∷◌, ◌++◌, Option, Some, Result, Ok, Err, OnOk}
use Rattle.std.specs.declared.alloc.AllocError.{AllocError}
use Rattle.std.proofs.Common.{refl, ap, sym, subst, ◌∙◌}
use Rattle.f_tree.specs.declared.statements.Control.{Control}
use Rattle.f_tree.specs.declared.statements.AuxiliaryKind.{AuxiliaryKind}
use Rattle.f_tree.specs.declared.statements.Direction.TheVariants as way
use Rattle.f_tree.specs.Facts as fact
use Rattle.f_tree.specs.Terms.{terms}
use Rattle.f_tree.specs.Lines.{Naming, way_of, controls_of, controls_written, auxiliary_of, auxiliary_form}
use Rattle.lowered_tree.specs.l_core.Pures as core
use Rattle.lowered_tree.specs.l_core.Steps as act
use Rattle.lowering.specs.Expressions as low
use Rattle.lowering.specs.Statements.{auxiliary_code, with_operands, form_code, head_code}
use Rattle.lowered_tree.specs.declared.pures.Pure.{Pure}
use Rattle.lowered_tree.specs.declared.steps.Step.{Step}
use Rattle.lowered_tree.specs.Shapes.{pures_of, steps_of}
use Rattle.name_facts.specs.declared.table.NameFacts.{NameFacts}
use Rattle.expression_lowering.specs.TableNames.{AreFactsOf}
use Rattle.statement_lowering.specs.declared.around.Around.{Around}
use Rattle.statement_lowering.specs.StatementOutcomes.{AreAdded, IsLoweredForm}
use Rattle.statement_lowering.specs.TransferForms.{acting_on, operands_in}
use Rattle.statement_lowering.specs.LoweredTransfers.{controls_lower, AreLoweredTerms}
use Rattle.statement_lowering.proofs.Additions.{operands-closed}

code-acting : (once : Bool) (k n : ℕ) (which : AuxiliaryKind) (controls : List Control) (names : Naming) →
    form_code once k n (acting_on which controls names)
    ≡ with_operands (low.lower_all core.NoPure low.ForUse k (terms (operands_in (way_of way.Write) controls names)))
    (auxiliary_code (auxiliary_of which) (controls_of (controls_written fact.Output names controls)))
unfolding form_code head_code acting_on auxiliary_form operands_in way_of
code-acting once k n which controls names = refl

closes-acting : (which : fact.AuxiliaryKind) (controls : fact.Controls) (ps : core.Pures) → auxiliary_code which controls ps ≡ Some (act.Acts (act.Auxiliary which controls) ps 0 ∷ [])
unfolding auxiliary_code
closes-acting which controls ps = refl

acting-lowered : (table : NameFacts) (around : Around) (which : AuxiliaryKind) (controls : List Control) (before mid after : List Step) (vs : List Pure) (acting : act.Acting)
    (written : fact.Controls) → controls_lower table controls ≡ true → acting ≡ act.Auxiliary (auxiliary_of which) written →
    ((w : fact.Direction) (names : Naming) → written ≡ controls_of (controls_written w names controls)) →
    AreLoweredTerms table (operands_in (way_of way.Write) controls) low.ForUse around.free before mid vs →
    steps_of after ≡ steps_of mid ++ act.Acts acting (pures_of vs) 0 ∷ [] → IsLoweredForm table around (controls_lower table controls) (acting_on which controls) before after
acting-lowered table around which controls before mid after vs acting written lowers acts words operands appended = record {
  built = lowers;
  meant = λ names told.
      let w = controls_of (controls_written fact.Output names controls) in
      let are = operands.are names told in
      let as_written = acts ∙ ap (act.Auxiliary (auxiliary_of which)) (words fact.Output names) in
      subst (λ (c : Option (List act.Step)). AreAdded c before after) (sym (code-acting around.once around.free around.room which controls names))
      (operands-closed (low.lower_all core.NoPure low.ForUse around.free (terms (operands_in (way_of way.Write) controls names))) (auxiliary_code (auxiliary_of which) w)
      (act.Acts (act.Auxiliary (auxiliary_of which) w) (pures_of vs) 0 ∷ []) before mid after (pures_of vs) (record { steps = are.steps; values = are.values })
      (closes-acting (auxiliary_of which) w (pures_of vs)) (appended ∙ ap (λ s. steps_of mid ++ act.Acts s (pures_of vs) 0 ∷ []) as_written));
}

pub acting-done : (table : NameFacts) (around : Around) (which : AuxiliaryKind) (controls : List Control) (before mid after : List Step) (vs : List Pure) (acting : act.Acting)
    (written : fact.Controls) (r : Result (Unit {0}) AllocError) → controls_lower table controls ≡ true → acting ≡ act.Auxiliary (auxiliary_of which) written →
    ((w : fact.Direction) (names : Naming) → written ≡ controls_of (controls_written w names controls)) →
    AreLoweredTerms table (operands_in (way_of way.Write) controls) low.ForUse around.free before mid vs →
    OnOk r (steps_of after ≡ steps_of mid ++ act.Acts acting (pures_of vs) 0 ∷ []) →
    OnOk r (IsLoweredForm table around (controls_lower table controls) (acting_on which controls) before after)
acting-done table around which controls before mid after vs acting written (Err e) lowers acts words operands appended = appended
acting-done table around which controls before mid after vs acting written (Ok u) lowers acts words operands appended =
    acting-lowered table around which controls before mid after vs acting written lowers acts words operands appended
