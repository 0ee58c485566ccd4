-- The limit and the step of a loop, behind its DO statement.
use Rattle.std.specs.Prelude.{◌≡◌, ℕ, Bool, true, false, ◌||◌, List, [], ◌∷◌, ◌++◌, Result, Ok, Err, OnOk}
use Rattle.std.specs.declared.alloc.AllocError.{AllocError}
use Rattle.std.proofs.Common.{refl, ap, sym, subst, ◌∙◌}
use Rattle.f_tree.specs.declared.statements.LoopControl.{LoopControl}
use Rattle.f_tree.specs.Values.{Bytes}
use Rattle.f_tree.specs.Terms.{Add, Term, At, NoMore, More, refers, any_refers}
use Rattle.f_tree.specs.Reading.{read}
use Rattle.f_tree.specs.Lines.{Naming, value_of, step_of, control_of}
use Rattle.lowered_tree.specs.l_core.Pures as core
use Rattle.lowered_tree.specs.l_core.Steps as act
use Rattle.lowering.specs.Expressions as low
use Rattle.lowering.specs.Statements.{loop_operands, test_by, back_by, turn_code}
use Rattle.lowered_tree.specs.declared.steps.Step.{Step}
use Rattle.lowered_tree.specs.Shapes.{pure_of, steps_of}
use Rattle.name_facts.specs.declared.table.NameFacts.{NameFacts}
use Rattle.expression_lowering.specs.declared.purpose.Purpose.{Purpose}
use Rattle.expression_lowering.specs.declared.purpose.Purpose.TheVariants.{ForLater}
use Rattle.expression_lowering.specs.declared.purpose.Aspect.TheVariants.{Value}
use Rattle.expression_lowering.specs.declared.answers.Lowered.{Lowered}
use Rattle.expression_lowering.specs.Purposes.{purpose_of, aspect_term}
use Rattle.expression_lowering.specs.TableNames.{AreFactsOf}
use Rattle.expression_lowering.specs.Outcomes.{IsLowered, IsLoweredFor}
use Rattle.statement_lowering.specs.LoweredStatements.{control_lowers}
use Rattle.statement_lowering.specs.StatementOutcomes.{IsLoweredStep}
use Rattle.statement_lowering.specs.LoopTurns.{IsLoweredTurn}

-- the values of operands, and the first temporary that is free behind them
pub record AreHad (l : low.Lowered core.Pures) (ps : core.Pures) (n : ℕ) : Type 0 where
  pub values : l.value ≡ ps
  pub free : l.free ≡ n

had-none : (k : ℕ) → AreHad (low.no_operand k) core.NoPure k
unfolding low.no_operand low.plain
had-none k = record { values = refl; free = refl }

had-more : (first : low.Lowered core.Pure) (more : ℕ → low.Lowered core.Pures) (before after : List Step) (l : Lowered) (ps : core.Pures) (n : ℕ) →
    IsLowered first before after l → AreHad (more l.free) ps n → AreHad (low.and_then first more) (core.AndPure (pure_of l.value) ps) n
unfolding low.and_then
had-more first more before after l ps n is rest = record {
  values =
      ap (λ k. core.AndPure first.value (more k).value) (sym is.free) ∙ ap (core.AndPure first.value) rest.values ∙ ap (λ p. core.AndPure p ps) (sym is.value);
  free = ap (λ k. (more k).free) (sym is.free) ∙ rest.free;
}

had-one : (q : low.Purpose) (k : ℕ) (t : Term) (before after : List Step) (l : Lowered) → IsLowered (low.lower core.NoPure q k t) before after l →
    AreHad (low.lower_all core.NoPure q k (More t NoMore)) (core.AndPure (pure_of l.value) core.NoPure) l.free
unfolding low.lower_all low.ahead any_refers
had-one q k t before after l is = had-more (low.lower core.NoPure q k t) low.no_operand before after l core.NoPure l.free is (had-none l.free)

ahead-later : (b : Bool) → low.ahead low.ForLater b ≡ low.ForLater
unfolding low.ahead
ahead-later true = refl
ahead-later false = refl

or-false : (b : Bool) → b || false ≡ b
or-false true = refl
or-false false = refl

had-bounds : (k : ℕ) (limit step : Term) (before mid after : List Step) (l m : Lowered) → IsLowered (low.lower core.NoPure low.ForLater k limit) before mid l →
    IsLowered (low.lower core.NoPure low.ForLater l.free step) mid after m →
    AreHad (low.lower_all core.NoPure low.ForLater k (More limit (More step NoMore))) (core.AndPure (pure_of l.value) (core.AndPure (pure_of m.value) core.NoPure)) m.free
unfolding low.lower_all
had-bounds k limit step before mid after l m one two =
    had-more (low.lower core.NoPure (low.ahead low.ForLater (any_refers (More step NoMore))) k limit) (λ n. low.lower_all core.NoPure low.ForLater n (More step NoMore))
    before mid l (core.AndPure (pure_of m.value) core.NoPure) m.free
    (subst (λ (q : low.Purpose). IsLowered (low.lower core.NoPure q k limit) before mid l) (sym (ahead-later (any_refers (More step NoMore)))) one)
    (had-one low.ForLater l.free step mid after m two)

had-named : (x : Bytes) (k n : ℕ) (more : ℕ → low.Lowered core.Pures) (ps : core.Pures) → AreHad (more k) ps n →
    AreHad (low.and_then (low.lower core.NoPure low.ForLater k (At x)) more) (core.AndPure (core.Name x) ps) n
unfolding low.and_then low.lower low.plain
had-named x k n more ps h = record { values = ap (core.AndPure (core.Name x)) h.values; free = h.free }

had-control : (q : low.Purpose) (k : ℕ) (x : Bytes) (first limit step : Term) (before one two after : List Step) (f l m : Lowered) →
    q ≡ low.ahead low.ForUse (refers limit || refers step) → IsLowered (low.lower core.NoPure q k first) before one f →
    IsLowered (low.lower core.NoPure low.ForLater f.free limit) one two l → IsLowered (low.lower core.NoPure low.ForLater l.free step) two after m →
    AreHad (loop_operands k (More (At x) (More first (More limit (More step NoMore)))))
    (core.AndPure (core.Name x) (core.AndPure (pure_of f.value) (core.AndPure (pure_of l.value) (core.AndPure (pure_of m.value) core.NoPure)))) m.free
unfolding loop_operands any_refers
had-control q k x first limit step before one two after f l m purpose is_first is_limit is_step =
    had-named x k m.free
    (λ n. low.and_then (low.lower core.NoPure (low.ahead low.ForUse (refers limit || (refers step || false))) n first) (λ n'. low.lower_all core.NoPure low.ForLater n' (More limit (More step NoMore))))
    (core.AndPure (pure_of f.value) (core.AndPure (pure_of l.value) (core.AndPure (pure_of m.value) core.NoPure)))
    (had-more (low.lower core.NoPure (low.ahead low.ForUse (refers limit || (refers step || false))) k first) (λ n'. low.lower_all core.NoPure low.ForLater n' (More limit (More step NoMore)))
    before one f (core.AndPure (pure_of l.value) (core.AndPure (pure_of m.value) core.NoPure)) m.free
    (subst (λ (q : low.Purpose). IsLowered (low.lower core.NoPure q k first) before one f)
    (purpose ∙ ap (λ b. low.ahead low.ForUse (refers limit || b)) (sym (or-false (refers step)))) is_first)
    (had-bounds f.free limit step one two after l m is_limit is_step))

-- the limit and the step of a loop, whatever the names are of which the table tells
pub bounds-had : (table : NameFacts) (q : Purpose) (k : ℕ) (control : LoopControl) (before one two three : List Step) (f l m : Lowered) →
    ((names : Naming) → AreFactsOf names table → purpose_of q ≡ low.ahead low.ForUse (refers (read names control.limit).value || refers (step_of names control.step))) →
    IsLoweredFor table Value q k control.first before one f → IsLoweredFor table Value ForLater f.free control.limit one two l →
    IsLoweredStep table l.free control.step two three m → (names : Naming) → AreFactsOf names table →
    AreHad (loop_operands k (control_of names control))
    (core.AndPure (core.Name control.variable) (core.AndPure (pure_of f.value) (core.AndPure (pure_of l.value) (core.AndPure (pure_of m.value) core.NoPure)))) m.free
unfolding aspect_term value_of control_of
bounds-had table q k control before one two three f l m purpose is_first is_limit is_step names told =
    had-control (purpose_of q) k control.variable (value_of names control.first) (value_of names control.limit) (step_of names control.step) before one two three f l m
    (purpose names told) (is_first.meant names told) (is_limit.meant names told) (is_step.meant names told)

-- THE STEPS OF A TURN
closes-turn : (once : Bool) (n : ℕ) (x first limit by : core.Pure) →
    turn_code once n (core.AndPure x (core.AndPure first (core.AndPure limit (core.AndPure by core.NoPure))))
    ≡ act.Put x (core.Operated Add (core.Load x) by) ∷ back_by once (test_by x limit by) n ∷ []
unfolding turn_code
closes-turn once n x first limit by = refl

turn-lowered : (table : NameFacts) (once : Bool) (k n : ℕ) (control : LoopControl) (before after : List Step) (limit by : core.Pure) → control_lowers table control ≡ true →
    ((names : Naming) → AreFactsOf names table → (first : core.Pure)
    × ((loop_operands k (control_of names control)).value ≡ core.AndPure (core.Name control.variable) (core.AndPure first (core.AndPure limit (core.AndPure by core.NoPure))))) →
    steps_of after ≡ steps_of before ++ act.Put (core.Name control.variable) (core.Operated Add (core.Load (core.Name control.variable)) by)
    ∷ back_by once (test_by (core.Name control.variable) limit by) n ∷ [] →
    IsLoweredTurn table once k n control before after
turn-lowered table once k n control before after limit by lowers values appended = record {
  built = lowers;
  meant = λ names told.
      let had = values names told in
      appended ∙ ap (λ ss. steps_of before ++ ss) (sym (ap (turn_code once n) had.1 ∙ closes-turn once n (core.Name control.variable) had.0 limit by));
}

pub turn-done : (table : NameFacts) (once : Bool) (k n : ℕ) (control : LoopControl) (before after : List Step) (limit by : core.Pure) (x : Bytes) (r : Result (Unit {0}) AllocError) →
    control_lowers table control ≡ true →
    ((names : Naming) → AreFactsOf names table → (first : core.Pure)
    × ((loop_operands k (control_of names control)).value ≡ core.AndPure (core.Name control.variable) (core.AndPure first (core.AndPure limit (core.AndPure by core.NoPure))))) →
    x ≡ control.variable →
    OnOk r (steps_of after ≡ steps_of before ++ act.Put (core.Name x) (core.Operated Add (core.Load (core.Name x)) by) ∷ back_by once (test_by (core.Name x) limit by) n ∷ []) →
    OnOk r (IsLoweredTurn table once k n control before after)
turn-done table once k n control before after limit by x (Err e) lowers values same appended = appended
turn-done table once k n control before after limit by x (Ok u) lowers values same appended =
    turn-lowered table once k n control before after limit by lowers values
    (subst (λ (x : Bytes). steps_of after ≡ steps_of before ++ act.Put (core.Name x) (core.Operated Add (core.Load (core.Name x)) by)
    ∷ back_by once (test_by (core.Name x) limit by) n ∷ []) same appended)
