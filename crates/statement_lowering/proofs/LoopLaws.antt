-- The steps of a DO statement.
use Rattle.std.specs.Prelude.{◌≡◌, ℕ, pos, int_lt, Bool, true, false, ◌||◌, ◌&&◌, List, ◌∷◌, ◌++◌, Option, Some, None, Result, Ok, Err, IfOk, OnOk, if◌then◌else◌}
use Rattle.std.specs.declared.alloc.AllocError.{AllocError}
use Rattle.std.proofs.Common.{refl, ap, sym, subst, ◌∙◌}
use Rattle.std.proofs.lemmas.List.{append-nil}
use Rattle.f_tree.specs.declared.expressions.Expr.{Expr}
use Rattle.f_tree.specs.declared.statements.LoopControl.{LoopControl}
use Rattle.f_tree.specs.Values.{Bytes, Datum, IsInt, IsLog, IsText, IsSpot, IsProc, IsLabel, Nothing}
use Rattle.f_tree.specs.Terms.{IsLessOrEqual, IsGreaterOrEqual, Term, At, NoMore, More, refers, any_refers}
use Rattle.f_tree.specs.Reading.{read}
use Rattle.f_tree.specs.Lines.{Naming, value_of, step_of, control_of}
use Rattle.lowered_tree.specs.l_core.Pures as core
use Rattle.lowered_tree.specs.l_core.Steps as act
use Rattle.lowering.specs.Expressions as low
use Rattle.lowering.specs.Expressions.{expressions_opened}
use Rattle.lowering.specs.Statements.{loop_operands, loop_code, loop_test, test_by, with_operands, form_code, head_code}
use Rattle.lowered_tree.specs.declared.pures.Pure.{Pure}
use Rattle.lowered_tree.specs.declared.steps.Step.{Step}
use Rattle.lowered_tree.specs.Shapes.{pure_of, steps_of}
use Rattle.name_facts.specs.declared.table.NameFacts.{NameFacts}
use Rattle.expression_lowering.specs.declared.purpose.Purpose.{Purpose}
use Rattle.expression_lowering.specs.declared.purpose.Purpose.TheVariants.{ForLater}
use Rattle.expression_lowering.specs.declared.purpose.Aspect.TheVariants.{Value}
use Rattle.expression_lowering.specs.declared.answers.Lowered.{Lowered}
use Rattle.expression_lowering.specs.Purposes.{purpose_of, aspect_term}
use Rattle.expression_lowering.specs.TableNames.{AreFactsOf, is_lowered_value}
use Rattle.expression_lowering.specs.Outcomes.{IsLowered, IsLoweredFor}
use Rattle.statement_lowering.specs.declared.around.Around.{Around}
use Rattle.statement_lowering.specs.StatementForms as form
use Rattle.statement_lowering.specs.LoweredStatements.{optional_lowers, control_lowers}
use Rattle.expression_lowering.proofs.CoveredForms.{and-left, and-right}
use Rattle.statement_lowering.specs.LoopTests.{sign_of, sign_if, test_along, test_either, test_known}
use Rattle.statement_lowering.specs.StatementOutcomes.{AreAdded, IsLoweredForm, IsLoweredStep}
use Rattle.statement_lowering.proofs.Additions.{AreOperands, operands-more, operands-closed, operand-one}

along-test : (x limit : core.Pure) (b : Bool) →
    (if b then core.Operated IsGreaterOrEqual (core.Load x) limit else core.Operated IsLessOrEqual (core.Load x) limit) ≡ test_along b x limit
unfolding test_along
along-test x limit true = refl
along-test x limit false = refl

constant-test : (x limit : core.Pure) (d : Datum) → test_by x limit (core.Constant d) ≡ test_known (sign_of d) x limit (core.Constant d)
unfolding test_by test_known test_either sign_of
constant-test x limit (IsInt z) = along-test x limit (int_lt z (pos 0))
constant-test x limit (IsLog b) = refl
constant-test x limit (IsText cs) = refl
constant-test x limit (IsSpot s) = refl
constant-test x limit (IsProc x') = refl
constant-test x limit (IsLabel l) = refl
constant-test x limit Nothing = refl

-- the test of a loop by the sign of its step, where that is known
pub test-known : (x limit by : core.Pure) → test_by x limit by ≡ test_known (sign_if by) x limit by
unfolding test_by test_known test_along test_either sign_if
test-known x limit (core.Constant d) = constant-test x limit d
test-known x limit (core.Temporary k) = refl
test-known x limit (core.Load p) = refl
test-known x limit (core.Name y) = refl
test-known x limit (core.AllOf y) = refl
test-known x limit (core.ElementOf y ps) = refl
test-known x limit (core.FirstOf p) = refl
test-known x limit (core.Substring y p a b) = refl
test-known x limit (core.Concatenated ps) = refl
test-known x limit (core.Prefixed op p) = refl
test-known x limit (core.Operated op p q) = refl
test-known x limit (core.Applied f ps) = refl
test-known x limit (core.Chosen p a b) = refl

pub test-done : (r : Result Pure AllocError) (x limit by : core.Pure) (down : Bool) → sign_if by ≡ Some down → IfOk r (λ p. pure_of p ≡ test_along down x limit) →
    IfOk r (λ p. pure_of p ≡ test_by x limit by)
unfolding test_known
test-done (Err e) x limit by down is h = h
test-done (Ok p) x limit by down is h = h ∙ sym (test-known x limit by ∙ ap (λ (o : Option Bool). test_known o x limit by) is)

pub test-open : (r : Result Pure AllocError) (x limit by : core.Pure) → sign_if by ≡ None → IfOk r (λ p. pure_of p ≡ test_either x limit by) → IfOk r (λ p. pure_of p ≡ test_by x limit by)
unfolding test_known
test-open (Err e) x limit by is h = h
test-open (Ok p) x limit by is h = h ∙ sym (test-known x limit by ∙ ap (λ (o : Option Bool). test_known o x limit by) is)

ahead-later : (b : Bool) → low.ahead low.ForLater b ≡ low.ForLater
unfolding low.ahead
ahead-later true = refl
ahead-later false = refl

or-false : (b : Bool) → b || false ≡ b
or-false true = refl
or-false false = refl

-- the limit and the step
bounds-operands : (k : ℕ) (limit step : Term) (before mid after : List Step) (l m : Lowered) → IsLowered (low.lower core.NoPure low.ForLater k limit) before mid l →
    IsLowered (low.lower core.NoPure low.ForLater l.free step) mid after m →
    AreOperands (low.lower_all core.NoPure low.ForLater k (More limit (More step NoMore))) before after (core.AndPure (pure_of l.value) (core.AndPure (pure_of m.value) core.NoPure))
unfolding low.lower_all
bounds-operands k limit step before mid after l m one two =
    operands-more (low.lower core.NoPure (low.ahead low.ForLater (any_refers (More step NoMore))) k limit) (λ n. low.lower_all core.NoPure low.ForLater n (More step NoMore))
    before mid after l (core.AndPure (pure_of m.value) core.NoPure)
    (subst (λ (q : low.Purpose). IsLowered (low.lower core.NoPure q k limit) before mid l) (sym (ahead-later (any_refers (More step NoMore)))) one)
    (operand-one low.ForLater l.free step mid after m two)

-- the variable before them
named-operands : (x : Bytes) (k : ℕ) (more : ℕ → low.Lowered core.Pures) (before after : List Step) (ps : core.Pures) → AreOperands (more k) before after ps →
    AreOperands (low.and_then (low.lower core.NoPure low.ForLater k (At x)) more) before after (core.AndPure (core.Name x) ps)
unfolding low.and_then low.lower low.plain
named-operands x k more before after ps h = record { steps = h.steps; values = ap (core.AndPure (core.Name x)) h.values }

control-operands : (q : low.Purpose) (k : ℕ) (x : Bytes) (first limit step : Term) (before one two after : List Step) (f l m : Lowered) →
    q ≡ low.ahead low.ForUse (refers limit || refers step) → IsLowered (low.lower core.NoPure q k first) before one f →
    IsLowered (low.lower core.NoPure low.ForLater f.free limit) one two l → IsLowered (low.lower core.NoPure low.ForLater l.free step) two after m →
    AreOperands (loop_operands k (More (At x) (More first (More limit (More step NoMore))))) before after
    (core.AndPure (core.Name x) (core.AndPure (pure_of f.value) (core.AndPure (pure_of l.value) (core.AndPure (pure_of m.value) core.NoPure))))
unfolding loop_operands any_refers
control-operands q k x first limit step before one two after f l m purpose is_first is_limit is_step =
    named-operands x k
    (λ n. low.and_then (low.lower core.NoPure (low.ahead low.ForUse (refers limit || (refers step || false))) n first) (λ n'. low.lower_all core.NoPure low.ForLater n' (More limit (More step NoMore))))
    before after (core.AndPure (pure_of f.value) (core.AndPure (pure_of l.value) (core.AndPure (pure_of m.value) core.NoPure)))
    (operands-more (low.lower core.NoPure (low.ahead low.ForUse (refers limit || (refers step || false))) k first) (λ n'. low.lower_all core.NoPure low.ForLater n' (More limit (More step NoMore)))
    before one after f (core.AndPure (pure_of l.value) (core.AndPure (pure_of m.value) core.NoPure))
    (subst (λ (q : low.Purpose). IsLowered (low.lower core.NoPure q k first) before one f)
    (purpose ∙ ap (λ b. low.ahead low.ForUse (refers limit || b)) (sym (or-false (refers step)))) is_first)
    (bounds-operands f.free limit step one two after l m is_limit is_step))

code-looping : (once : Bool) (k n : ℕ) (label : Option ℕ) (control : LoopControl) (names : Naming) →
    form_code once k n (form.looping label control names)
    ≡ with_operands (loop_operands k (More (At control.variable) (More (value_of names control.first) (More (value_of names control.limit) (More (step_of names control.step) NoMore))))) (loop_code once n)
unfolding form_code head_code form.looping control_of
code-looping once k n label control names = refl

-- the label of the terminal statement does not matter
pub code-label : (once : Bool) (k n : ℕ) (label : Option ℕ) (control : LoopControl) (names : Naming) →
    form_code once k n (form.looping label control names) ≡ form_code once k n (form.looping None control names)
code-label once k n label control names = code-looping once k n label control names ∙ sym (code-looping once k n None control names)

closes-loop : (once : Bool) (n : ℕ) (x first limit by : core.Pure) →
    loop_code once n (core.AndPure x (core.AndPure first (core.AndPure limit (core.AndPure by core.NoPure)))) ≡ Some (act.Put x first ∷ loop_test once (test_by x limit by) n)
unfolding loop_code
closes-loop once n x first limit by = refl

pub control-lowered : (table : NameFacts) (around : Around) (q : Purpose) (control : LoopControl) (lowers : Bool) (before one two three after : List Step) (f l m : Lowered) → lowers ≡ true →
    ((names : Naming) → AreFactsOf names table → purpose_of q ≡ low.ahead low.ForUse (refers (read names control.limit).value || refers (step_of names control.step))) →
    IsLoweredFor table Value q around.free control.first before one f → IsLoweredFor table Value ForLater f.free control.limit one two l →
    IsLoweredStep table l.free control.step two three m →
    steps_of after ≡ steps_of three ++ act.Put (core.Name control.variable) (pure_of f.value) ∷ loop_test around.once (test_by (core.Name control.variable) (pure_of l.value) (pure_of m.value)) around.room →
    IsLoweredForm table around lowers (form.looping None control) before after
unfolding aspect_term value_of
control-lowered table around q control lowers before one two three after f l m yes_lowered purpose is_first is_limit is_step appended = record {
  built = yes_lowered;
  meant = λ names told.
      subst (λ (c : Option (List act.Step)). AreAdded c before after) (sym (code-looping around.once around.free around.room None control names))
      (operands-closed (loop_operands around.free (More (At control.variable) (More (value_of names control.first) (More (value_of names control.limit) (More (step_of names control.step) NoMore)))))
      (loop_code around.once around.room)
      (act.Put (core.Name control.variable) (pure_of f.value) ∷ loop_test around.once (test_by (core.Name control.variable) (pure_of l.value) (pure_of m.value)) around.room)
      before three after
      (core.AndPure (core.Name control.variable) (core.AndPure (pure_of f.value) (core.AndPure (pure_of l.value) (core.AndPure (pure_of m.value) core.NoPure))))
      (control-operands (purpose_of q) around.free control.variable (value_of names control.first) (value_of names control.limit) (step_of names control.step) before one two three f l m
      (purpose names told) (is_first.meant names told) (is_limit.meant names told) (is_step.meant names told))
      (closes-loop around.once around.room (core.Name control.variable) (pure_of f.value) (pure_of l.value) (pure_of m.value)) appended);
}

pub control-done : (table : NameFacts) (around : Around) (q : Purpose) (control : LoopControl) (lowers : Bool) (before one two three after : List Step) (f l m : Lowered)
    (x : Bytes) (r : Result (Unit {0}) AllocError) → lowers ≡ true →
    ((names : Naming) → AreFactsOf names table → purpose_of q ≡ low.ahead low.ForUse (refers (read names control.limit).value || refers (step_of names control.step))) →
    IsLoweredFor table Value q around.free control.first before one f → IsLoweredFor table Value ForLater f.free control.limit one two l →
    IsLoweredStep table l.free control.step two three m → x ≡ control.variable →
    OnOk r (steps_of after ≡ steps_of three ++ act.Put (core.Name x) (pure_of f.value) ∷ loop_test around.once (test_by (core.Name x) (pure_of l.value) (pure_of m.value)) around.room) →
    OnOk r (IsLoweredForm table around lowers (form.looping None control) before after)
control-done table around q control lowers before one two three after f l m x (Err e) built purpose is_first is_limit is_step same appended = appended
control-done table around q control lowers before one two three after f l m x (Ok u) built purpose is_first is_limit is_step same appended =
    control-lowered table around q control lowers before one two three after f l m built purpose is_first is_limit is_step
    (subst (λ (x : Bytes). steps_of after ≡ steps_of three ++ act.Put (core.Name x) (pure_of f.value) ∷ loop_test around.once (test_by (core.Name x) (pure_of l.value) (pure_of m.value)) around.room) same appended)

-- THE STEP OF A LOOP
one-lowered : (names : Naming) (k : ℕ) (before : List Step) (l : Lowered) → pure_of l.value ≡ core.Constant (IsInt (pos 1)) → l.free ≡ k →
    IsLowered (low.lower core.NoPure low.ForLater k (step_of names None)) before before l
unfolding step_of low.lower low.plain
one-lowered names k before l value free = record { steps = sym (append-nil (steps_of before)); value = value; free = free }

pub step-none : (table : NameFacts) (k : ℕ) (o : Option Expr) (before : List Step) (l : Lowered) → o ≡ None → pure_of l.value ≡ core.Constant (IsInt (pos 1)) → l.free ≡ k →
    IsLoweredStep table k o before before l
unfolding optional_lowers
step-none table k o before l is value free = record {
  built = ap (optional_lowers table) is;
  meant = λ names told. subst (λ (o : Option Expr). IsLowered (low.lower core.NoPure low.ForLater k (step_of names o)) before before l) (sym is) (one-lowered names k before l value free);
}

some-lowered : (table : NameFacts) (k : ℕ) (e : Expr) (before after : List Step) (l : Lowered) → IsLoweredFor table Value ForLater k e before after l → IsLoweredStep table k (Some e) before after l
unfolding optional_lowers step_of value_of aspect_term
some-lowered table k e before after l h = record { built = h.built; meant = h.meant }

pub step-some : (table : NameFacts) (k : ℕ) (o : Option Expr) (e : Expr) (before after : List Step) (r : Result Lowered AllocError) → o ≡ Some e →
    IfOk r (IsLoweredFor table Value ForLater k e before after) → IfOk r (IsLoweredStep table k o before after)
step-some table k o e before after (Err x) is h = h
step-some table k o e before after (Ok l) is h = subst (λ (o : Option Expr). IsLoweredStep table k o before after l) (sym is) (some-lowered table k e before after l h)

pub step-covered : (table : NameFacts) (o : Option Expr) (e : Expr) → o ≡ Some e → optional_lowers table o ≡ true → is_lowered_value table e ≡ true
unfolding optional_lowers
step-covered table o e is h = ap (optional_lowers table) (sym is) ∙ h

pub refers-none : (names : Naming) (o : Option Expr) → o ≡ None → false ≡ refers (step_of names o)
unfolding step_of refers
refers-none names o is = ap (λ (o : Option Expr). refers (step_of names o)) (sym is)

pub refers-some : (names : Naming) (o : Option Expr) (e : Expr) (b : Bool) → o ≡ Some e → b ≡ refers (read names e).value → b ≡ refers (step_of names o)
unfolding step_of value_of
refers-some names o e b is h = h ∙ ap (λ (o : Option Expr). refers (step_of names o)) (sym is)

pub limit-covered : (table : NameFacts) (control : LoopControl) → control_lowers table control ≡ true → is_lowered_value table control.limit ≡ true
unfolding control_lowers
limit-covered table control h =
    and-left (is_lowered_value table control.limit) (optional_lowers table control.step)
    (and-right (is_lowered_value table control.first) (is_lowered_value table control.limit && optional_lowers table control.step) h)

pub step-of-covered : (table : NameFacts) (control : LoopControl) → control_lowers table control ≡ true → optional_lowers table control.step ≡ true
unfolding control_lowers
step-of-covered table control h =
    and-right (is_lowered_value table control.limit) (optional_lowers table control.step)
    (and-right (is_lowered_value table control.first) (is_lowered_value table control.limit && optional_lowers table control.step) h)
