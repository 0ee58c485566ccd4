-- Assignments, and the statement of a logical IF.
use Rattle.std.specs.Prelude.{◌≡◌, ℕ, Bool, true, false, not, ◌&&◌, ◌||◌, List, [], ◌∷◌, ◌++◌, length, Option, Some, Result, Ok, Err, if◌then◌else◌}
use Rattle.std.proofs.Common.{refl, ap, sym, subst, ◌∙◌}
use Rattle.std.proofs.lemmas.List.{length-map}
use Rattle.f_tree.specs.declared.expressions.Expr.{Expr}
use Rattle.f_tree.specs.Terms.{NoMore, More, refers, any_refers}
use Rattle.f_tree.specs.Facts.{Form, Passes}
use Rattle.f_tree.specs.Uses.{heading_of}
use Rattle.f_tree.specs.Reading.{read}
use Rattle.f_tree.specs.Lines.{Naming, is_text, is_statement_function, value_assignment, text_assignment, assignment, assign_form}
use Rattle.lowered_tree.specs.l_core.Pures as core
use Rattle.lowered_tree.specs.l_core.Steps as act
use Rattle.lowering.specs.Expressions as low
use Rattle.lowering.specs.Statements.{put_code, unless_code, form_code}
use Rattle.lowered_tree.specs.declared.steps.Step.{Step}
use Rattle.lowered_tree.specs.Shapes.{pure_of, step_of, steps_of}
use Rattle.name_facts.specs.declared.table.NameFacts.{NameFacts}
use Rattle.expression_lowering.specs.declared.purpose.Purpose.{Purpose}
use Rattle.expression_lowering.specs.declared.purpose.Purpose.TheVariants.{ForUse}
use Rattle.expression_lowering.specs.declared.purpose.Aspect.TheVariants.{Value, Actual}
use Rattle.expression_lowering.specs.declared.answers.Lowered.{Lowered}
use Rattle.expression_lowering.specs.declared.answers.LowerError.{LowerError}
use Rattle.expression_lowering.specs.declared.answers.LowerError.TheVariants.{NotLowered, NoMemory}
use Rattle.expression_lowering.specs.Purposes.{purpose_of, aspect_term}
use Rattle.expression_lowering.specs.TableNames.{AreFactsOf, is_lowered_value}
use Rattle.expression_lowering.specs.Outcomes.{IsLowered, IsLoweredFor}
use Rattle.expression_lowering.proofs.CoveredForms.{and-right}
use Rattle.statement_lowering.specs.declared.around.Around.{Around}
use Rattle.statement_lowering.specs.StatementForms as form
use Rattle.statement_lowering.specs.StatementForms.{Forms}
use Rattle.statement_lowering.specs.LoweredStatements.{is_definition, is_text_target, both_lower, assigned_lowers, assignment_lowers}
use Rattle.statement_lowering.specs.StatementOutcomes.{AreAdded, IsLoweredForm, IsOutcome, IsAppended}
use Rattle.statement_lowering.proofs.Additions.{AreOperands, operands-more, operands-closed, operand-one, pass-lowered, one-outcome}
use Rattle.statement_lowering.proofs.StatementCodes.{code-setting, code-guarding, closes-put, closes-unless}
use Rattle.statement_lowering.proofs.TargetForms.{definition-agrees, text-agrees, refers-alike}

or-false : (b : Bool) → b || false ≡ b
or-false true = refl
or-false false = refl

-- the value and the place of an assignment
pub operands-two : (table : NameFacts) (names : Naming) (q : Purpose) (k : ℕ) (target e : Expr) (before mid later : List Step) (l m : Lowered) →
    purpose_of q ≡ low.ahead low.ForUse (refers (read names target).value) → IsLowered (low.lower core.NoPure (purpose_of q) k (read names e).value) before mid l →
    IsLowered (low.lower core.NoPure low.ForUse l.free (read names target).actual) mid later m →
    AreOperands (low.lower_all core.NoPure low.ForUse k (More (read names e).value (More (read names target).actual NoMore))) before later
    (core.AndPure (pure_of l.value) (core.AndPure (pure_of m.value) core.NoPure))
unfolding low.lower_all any_refers
operands-two table names q k target e before mid later l m purpose one two =
    operands-more (low.lower core.NoPure (low.ahead low.ForUse (refers (read names target).actual || false)) k (read names e).value)
    (λ n. low.lower_all core.NoPure low.ForUse n (More (read names target).actual NoMore)) before mid later l (core.AndPure (pure_of m.value) core.NoPure)
    (subst (λ (q : low.Purpose). IsLowered (low.lower core.NoPure q k (read names e).value) before mid l)
    (purpose ∙ ap (low.ahead low.ForUse) (refers-alike names target ∙ sym (or-false (refers (read names target).actual)))) one)
    (operand-one low.ForUse l.free (read names target).actual mid later m two)

pub set-outcome : (table : NameFacts) (around : Around) (q : Purpose) (target e : Expr) (before mid later after : List Step) (l m : Lowered) (r : Result (Unit {0}) LowerError) →
    both_lower table e target ≡ true → ((names : Naming) → AreFactsOf names table → purpose_of q ≡ low.ahead low.ForUse (refers (read names target).value)) →
    IsLoweredFor table Value q around.free e before mid l → IsLoweredFor table Actual ForUse l.free target mid later m →
    IsAppended (act.Put (pure_of m.value) (pure_of l.value) ∷ []) later after r → IsOutcome table around (both_lower table e target) (form.setting target e) before after r
unfolding IsOutcome IsAppended aspect_term
set-outcome table around q target e before mid later after l m (Ok a) both purpose one two appended = record {
  built = both;
  meant = λ names told.
      subst (λ (c : Option (List act.Step)). AreAdded c before after) (sym (code-setting around.once around.free around.room target e names))
      (operands-closed (low.lower_all core.NoPure low.ForUse around.free (More (read names e).value (More (read names target).actual NoMore))) put_code
      (act.Put (pure_of m.value) (pure_of l.value) ∷ []) before later after (core.AndPure (pure_of l.value) (core.AndPure (pure_of m.value) core.NoPure))
      (operands-two table names q around.free target e before mid later l m (purpose names told) (one.meant names told) (two.meant names told))
      (closes-put (pure_of l.value) (pure_of m.value)) appended);
}
set-outcome table around q target e before mid later after l m (Err NotLowered) both purpose one two appended = absurd (appended)
set-outcome table around q target e before mid later after l m (Err NoMemory) both purpose one two appended = tt

-- a definition by its form
defined-code : (around : Around) (names : Naming) (target e : Expr) → is_statement_function names (heading_of target).applied ≡ true →
    form_code around.once around.free around.room (form.assigning target e names) ≡ Some []
unfolding form.assigning assign_form form_code
defined-code around names target e is =
    ap (λ b. form_code around.once around.free around.room (if b then Passes else assignment names (read names target) (read names e))) is

-- another assignment by its form
assigned-form : (names : Naming) (target e : Expr) → is_statement_function names (heading_of target).applied ≡ false → is_text names (read names target).base ≡ false →
    form.assigning target e names ≡ form.setting target e names
unfolding form.assigning form.setting assign_form assignment
assigned-form names target e defines text =
    ap (λ b. if b then Passes else assignment names (read names target) (read names e)) defines
    ∙ ap (λ b. if b then text_assignment (read names target) (read names e) else value_assignment (read names target) (read names e)) text

lowers-as : (table : NameFacts) (target e : Expr) → is_definition table target ≡ false → is_text_target table target ≡ false → assignment_lowers table target e ≡ both_lower table e target
unfolding assignment_lowers assigned_lowers
lowers-as table target e defines text =
    ap (λ b. b || (not (is_text_target table target) && both_lower table e target)) defines ∙ ap (λ b. not b && both_lower table e target) text

pub both-is : (table : NameFacts) (target e : Expr) → is_lowered_value table e && is_lowered_value table target ≡ both_lower table e target
unfolding both_lower
both-is table target e = refl

under-code : (table : NameFacts) (around within : Around) (lowers : Bool) (forms : Forms) (none under : List Step) →
    within.once ≡ around.once → within.free ≡ around.free → within.room ≡ 0 → none ≡ [] → IsLoweredForm table within lowers forms none under →
    (names : Naming) → AreFactsOf names table → form_code around.once around.free 0 (forms names) ≡ Some (steps_of under)
under-code table around within lowers forms none under once free room nothing inner names told =
    let added = inner.meant names told in
    ap (λ b. form_code b around.free 0 (forms names)) (sym once) ∙ ap (λ k. form_code within.once k 0 (forms names)) (sym free)
    ∙ ap (λ n. form_code within.once within.free n (forms names)) (sym room) ∙ added.is ∙ ap Some (sym (added.steps ∙ ap (λ (ss : List Step). steps_of ss ++ added.added) nothing))

-- the definition of a statement function takes no step
pub definition-lowered : (table : NameFacts) (around : Around) (target e : Expr) (before : List Step) → is_definition table target ≡ true →
    IsLoweredForm table around (assignment_lowers table target e) (form.assigning target e) before before
unfolding assignment_lowers
definition-lowered table around target e before defines =
    subst (λ (b : Bool). IsLoweredForm table around b (form.assigning target e) before before) (sym (ap (λ b. b || assigned_lowers table target e) defines))
    (pass-lowered table around (form.assigning target e) before (λ names told. defined-code around names target e (definition-agrees names table told target ∙ defines)))

-- the assignment of a text is not lowered
pub text-refused : (table : NameFacts) (target e : Expr) → is_definition table target ≡ false → is_text_target table target ≡ true → assignment_lowers table target e ≡ false
unfolding assignment_lowers assigned_lowers
text-refused table target e defines text =
    ap (λ b. b || (not (is_text_target table target) && both_lower table e target)) defines ∙ ap (λ b. not b && both_lower table e target) text

-- another is lowered as its value and its place are
pub assignment-set : (table : NameFacts) (around : Around) (target e : Expr) (before after : List Step) (r : Result (Unit {0}) LowerError) → is_definition table target ≡ false →
    is_text_target table target ≡ false → IsOutcome table around (both_lower table e target) (form.setting target e) before after r →
    IsOutcome table around (assignment_lowers table target e) (form.assigning target e) before after r
unfolding IsOutcome
assignment-set table around target e before after (Ok a) defines text h = record {
  built = lowers-as table target e defines text ∙ h.built;
  meant = λ names told.
      subst (λ (f : Form). AreAdded (form_code around.once around.free around.room f) before after)
      (sym (assigned-form names target e (definition-agrees names table told target ∙ defines)
      (text-agrees names table told target (and-right (is_lowered_value table e) (is_lowered_value table target) (both-is table target e ∙ h.built)) ∙ text))) (h.meant names told);
}
assignment-set table around target e before after (Err NotLowered) defines text h =
    subst (λ (b : Bool). (b ≡ false) × (after ≡ before)) (sym (lowers-as table target e defines text)) h
assignment-set table around target e before after (Err NoMemory) defines text h = tt

-- the logical IF, given the steps under it
pub guard-outcome : (table : NameFacts) (around within : Around) (e : Expr) (lowers : Bool) (forms : Forms) (none under before mid after : List Step) (l : Lowered) (r : Result (Unit {0}) LowerError) →
    within.once ≡ around.once → within.free ≡ around.free → within.room ≡ 0 → none ≡ [] → IsLoweredForm table within lowers forms none under →
    IsLoweredFor table Value ForUse around.free e before mid l → IsAppended (act.Unless (pure_of l.value) (length under) ∷ steps_of under) mid after r →
    IsOutcome table around (lowers && is_lowered_value table e) (form.guarding e forms) before after r
guard-outcome table around within e lowers forms none under before mid after l r once free room nothing inner is appended =
    subst (λ (b : Bool). IsOutcome table around b (form.guarding e forms) before after r) (sym (ap (λ b. b && is_lowered_value table e) inner.built))
    (one-outcome table around ForUse e (form.guarding e forms) (unless_code (length (steps_of under)) (steps_of under))
    (act.Unless (pure_of l.value) (length (steps_of under)) ∷ steps_of under) before mid after l r
    (λ names told. code-guarding around.once around.free around.room e forms (steps_of under) names (under-code table around within lowers forms none under once free room nothing inner names told))
    is (closes-unless (length (steps_of under)) (steps_of under) (pure_of l.value))
    (subst (λ (n : ℕ). IsAppended (act.Unless (pure_of l.value) n ∷ steps_of under) mid after r) (sym (length-map under step_of)) appended))
