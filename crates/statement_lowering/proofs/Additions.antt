-- The steps of a form, given those of its operands.
use Rattle.std.specs.Prelude.{◌≡◌, ℕ, Bool, true, false, ◌&&◌, List, [], ◌++◌, Option, Some, Result, Ok, Err}
use Rattle.std.proofs.Common.{refl, ap, sym, subst, ◌∙◌, append_assoc}
use Rattle.std.proofs.lemmas.List.{append-nil}
use Rattle.f_tree.specs.declared.expressions.Expr.{Expr}
use Rattle.f_tree.specs.Terms.{Term, NoMore, More, any_refers}
use Rattle.f_tree.specs.Lines.{Naming, value_of}
use Rattle.lowered_tree.specs.l_core.Pures as core
use Rattle.lowered_tree.specs.l_core.Steps as act
use Rattle.lowering.specs.Expressions as low
use Rattle.lowering.specs.Statements.{behind_operands, with_operands, form_code}
use Rattle.lowered_tree.specs.declared.steps.Step.{Step}
use Rattle.lowered_tree.specs.Shapes.{pure_of, steps_of}
use Rattle.name_facts.specs.declared.table.NameFacts.{NameFacts}
use Rattle.expression_lowering.specs.declared.purpose.Purpose.{Purpose}
use Rattle.expression_lowering.specs.declared.purpose.Aspect.{Aspect}
use Rattle.expression_lowering.specs.declared.purpose.Aspect.TheVariants.{Value}
use Rattle.expression_lowering.specs.declared.answers.Lowered.{Lowered}
use Rattle.expression_lowering.specs.declared.answers.LowerError.{LowerError}
use Rattle.expression_lowering.specs.declared.answers.LowerError.TheVariants.{NotLowered, NoMemory}
use Rattle.expression_lowering.specs.Purposes.{purpose_of, aspect_term}
use Rattle.expression_lowering.specs.TableNames.{AreFactsOf, is_lowered_value}
use Rattle.expression_lowering.specs.Outcomes as one
use Rattle.expression_lowering.specs.Outcomes.{IsLowered, IsLoweredFor}
use Rattle.statement_lowering.specs.declared.around.Around.{Around}
use Rattle.statement_lowering.specs.StatementForms.{Forms}
use Rattle.statement_lowering.specs.StatementOutcomes.{AreAdded, IsLoweredForm, IsOutcome, IsAppended}

-- operands that are lowered, with their values
pub record AreOperands (l : low.Lowered core.Pures) (before after : List Step) (ps : core.Pures) : Type 0 where
  pub steps : steps_of after ≡ steps_of before ++ l.steps
  pub values : ps ≡ l.value

pub operands-none : (k : ℕ) (before : List Step) → AreOperands (low.no_operand k) before before core.NoPure
unfolding low.no_operand low.plain
operands-none k before = record { steps = sym (append-nil (steps_of before)); values = refl }

pub operands-more : (first : low.Lowered core.Pure) (more : ℕ → low.Lowered core.Pures) (before mid after : List Step) (l : Lowered) (ps : core.Pures) →
    IsLowered first before mid l → AreOperands (more l.free) mid after ps → AreOperands (low.and_then first more) before after (core.AndPure (pure_of l.value) ps)
unfolding low.and_then
operands-more first more before mid after l ps is rest = record {
  steps =
      rest.steps ∙ ap (λ ss. ss ++ (more l.free).steps) is.steps ∙ append_assoc (steps_of before) first.steps (more l.free).steps
      ∙ ap (λ n. steps_of before ++ (first.steps ++ (more n).steps)) is.free;
  values = ap (core.AndPure (pure_of l.value)) rest.values ∙ ap (λ n. core.AndPure (pure_of l.value) (more n).value) is.free ∙ ap (λ p. core.AndPure p (more first.free).value) is.value;
}

pub operands-closed : (l : low.Lowered core.Pures) (close : core.Pures → Option (List act.Step)) (more : List act.Step) (before mid after : List Step) (ps : core.Pures) →
    AreOperands l before mid ps → close ps ≡ Some more → steps_of after ≡ steps_of mid ++ more → AreAdded (with_operands l close) before after
unfolding with_operands behind_operands
operands-closed l close more before mid after ps are closes appended = record {
  added = l.steps ++ more;
  is = ap (λ ps. behind_operands l.steps (close ps)) (sym are.values) ∙ ap (behind_operands l.steps) closes;
  steps = appended ∙ ap (λ ss. ss ++ more) are.steps ∙ append_assoc (steps_of before) l.steps more;
}

-- one operand
pub operand-one : (q : low.Purpose) (k : ℕ) (t : Term) (before after : List Step) (l : Lowered) → IsLowered (low.lower core.NoPure q k t) before after l →
    AreOperands (low.lower_all core.NoPure q k (More t NoMore)) before after (core.AndPure (pure_of l.value) core.NoPure)
unfolding low.lower_all low.ahead any_refers
operand-one q k t before after l is = operands-more (low.lower core.NoPure q k t) low.no_operand before after after l core.NoPure is (operands-none l.free after)

-- A FORM WITHOUT OPERANDS
pub plain-outcome : (table : NameFacts) (around : Around) (forms : Forms) (more : List act.Step) (before after : List Step) (r : Result (Unit {0}) LowerError) →
    ((names : Naming) → form_code around.once around.free around.room (forms names) ≡ Some more) → IsAppended more before after r → IsOutcome table around true forms before after r
unfolding IsOutcome IsAppended
plain-outcome table around forms more before after (Ok a) code appended = record { built = refl; meant = λ names told. record { added = more; is = code names; steps = appended } }
plain-outcome table around forms more before after (Err NotLowered) code appended = absurd (appended)
plain-outcome table around forms more before after (Err NoMemory) code appended = tt

pub pass-lowered : (table : NameFacts) (around : Around) (forms : Forms) (before : List Step) →
    ((names : Naming) → AreFactsOf names table → form_code around.once around.free around.room (forms names) ≡ Some []) → IsLoweredForm table around true forms before before
pass-lowered table around forms before code = record { built = refl; meant = λ names told. record { added = []; is = code names told; steps = sym (append-nil (steps_of before)) } }

-- A FORM OF ONE EXPRESSION
pub one-outcome : (table : NameFacts) (around : Around) (q : Purpose) (e : Expr) (forms : Forms) (close : core.Pures → Option (List act.Step)) (more : List act.Step)
    (before mid after : List Step) (l : Lowered) (r : Result (Unit {0}) LowerError) →
    ((names : Naming) → AreFactsOf names table → form_code around.once around.free around.room (forms names) ≡ with_operands (low.lower_all core.NoPure (purpose_of q) around.free (More (value_of names e) NoMore)) close) →
    IsLoweredFor table Value q around.free e before mid l → close (core.AndPure (pure_of l.value) core.NoPure) ≡ Some more → IsAppended more mid after r →
    IsOutcome table around (is_lowered_value table e) forms before after r
unfolding IsOutcome IsAppended aspect_term value_of
one-outcome table around q e forms close more before mid after l (Ok a) code is closes appended = record {
  built = is.built;
  meant = λ names told.
      subst (λ (c : Option (List act.Step)). AreAdded c before after) (sym (code names told))
      (operands-closed (low.lower_all core.NoPure (purpose_of q) around.free (More (value_of names e) NoMore)) close more before mid after (core.AndPure (pure_of l.value) core.NoPure)
      (operand-one (purpose_of q) around.free (value_of names e) before mid l (is.meant names told)) closes appended);
}
one-outcome table around q e forms close more before mid after l (Err NotLowered) code is closes appended = absurd (appended)
one-outcome table around q e forms close more before mid after l (Err NoMemory) code is closes appended = tt

-- its expression is not lowered
pub value-failed : (table : NameFacts) (around : Around) (forms : Forms) (a : Aspect) (q : Purpose) (k : ℕ) (e : Expr) (before after : List Step) (error : LowerError) →
    one.IsOutcome table a q k e before after (Err error) → IsOutcome table around (is_lowered_value table e) forms before after (Err error)
unfolding IsOutcome one.IsOutcome
value-failed table around forms a q k e before after NotLowered h = h
value-failed table around forms a q k e before after NoMemory h = tt

pub memory-failed : (table : NameFacts) (around : Around) (lowers : Bool) (forms : Forms) (before after : List Step) →
    IsOutcome table around lowers forms before after (Err NoMemory)
unfolding IsOutcome
memory-failed table around lowers forms before after = tt

pub as-lowered-for : (table : NameFacts) (a : Aspect) (q : Purpose) (k : ℕ) (e : Expr) (before after : List Step) (l : Lowered) →
    one.IsOutcome table a q k e before after (Ok l) → IsLoweredFor table a q k e before after l
unfolding one.IsOutcome
as-lowered-for table a q k e before after l h = h

-- a form by another that takes the same steps
pub by-form : (table : NameFacts) (around : Around) (l m : Bool) (f g : Forms) (before after : List Step) (r : Result (Unit {0}) LowerError) → m ≡ l →
    ((names : Naming) → form_code around.once around.free around.room (g names) ≡ form_code around.once around.free around.room (f names)) →
    IsOutcome table around l f before after r → IsOutcome table around m g before after r
unfolding IsOutcome
by-form table around l m f g before after (Ok a) same code h = record {
  built = same ∙ h.built;
  meant = λ names told. subst (λ (c : Option (List act.Step)). AreAdded c before after) (sym (code names)) (h.meant names told);
}
by-form table around l m f g before after (Err NotLowered) same code h = subst (λ (b : Bool). (b ≡ false) × (after ≡ before)) (sym same) h
by-form table around l m f g before after (Err NoMemory) same code h = tt

-- a form by its equation
pub by-equation : (table : NameFacts) (around : Around) (l m : Bool) (f g : Forms) (before after : List Step) (r : Result (Unit {0}) LowerError) → m ≡ l → g ≡ f →
    IsOutcome table around l f before after r → IsOutcome table around m g before after r
by-equation table around l m f g before after r same is h =
    subst (λ (b : Bool). IsOutcome table around b g before after r) (sym same) (subst (λ (f : Forms). IsOutcome table around l f before after r) (sym is) h)

-- what was found to be lowered fails for want of memory alone
pub lowered-failed : (table : NameFacts) (around : Around) (lowers : Bool) (forms : Forms) (a : Aspect) (q : Purpose) (k : ℕ) (e : Expr) (before mid now after : List Step) (error : LowerError) →
    is_lowered_value table e ≡ true → one.IsOutcome table a q k e mid now (Err error) → IsOutcome table around lowers forms before after (Err error)
unfolding IsOutcome one.IsOutcome
lowered-failed table around lowers forms a q k e before mid now after NotLowered lowered h = let refused : is_lowered_value table e ≡ false = h.0 in absurd (cc)
lowered-failed table around lowers forms a q k e before mid now after NoMemory lowered h = tt

pub as-lowered-form : (table : NameFacts) (around : Around) (lowers : Bool) (forms : Forms) (before after : List Step) (u : Unit {0}) →
    IsOutcome table around lowers forms before after (Ok u) → IsLoweredForm table around lowers forms before after
unfolding IsOutcome
as-lowered-form table around lowers forms before after u h = h

pub not-lowered : (table : NameFacts) (around : Around) (lowers : Bool) (forms : Forms) (before : List Step) → lowers ≡ false → IsOutcome table around lowers forms before before (Err NotLowered)
unfolding IsOutcome
not-lowered table around lowers forms before is = (is, refl)

pub lowered-outcome : (table : NameFacts) (around : Around) (lowers : Bool) (forms : Forms) (before after : List Step) (u : Unit {0}) →
    IsLoweredForm table around lowers forms before after → IsOutcome table around lowers forms before after (Ok u)
unfolding IsOutcome
lowered-outcome table around lowers forms before after u h = h

-- the statement of a logical IF is not lowered
pub inner-failed : (table : NameFacts) (around within : Around) (lowers more : Bool) (inner forms : Forms) (none under before : List Step) (error : LowerError) →
    IsOutcome table within lowers inner none under (Err error) → IsOutcome table around (lowers && more) forms before before (Err error)
unfolding IsOutcome
inner-failed table around within lowers more inner forms none under before NotLowered h = (ap (λ b. b && more) h.0, refl)
inner-failed table around within lowers more inner forms none under before NoMemory h = tt

-- its condition is not lowered
pub condition-failed : (table : NameFacts) (around within : Around) (lowers : Bool) (inner forms : Forms) (none under : List Step) (a : Aspect) (q : Purpose) (k : ℕ) (e : Expr)
    (before after : List Step) (error : LowerError) → IsLoweredForm table within lowers inner none under → one.IsOutcome table a q k e before after (Err error) →
    IsOutcome table around (lowers && is_lowered_value table e) forms before after (Err error)
unfolding IsOutcome one.IsOutcome
condition-failed table around within lowers inner forms none under a q k e before after NotLowered is h = (ap (λ b. b && is_lowered_value table e) is.built ∙ h.0, h.1)
condition-failed table around within lowers inner forms none under a q k e before after NoMemory is h = tt
