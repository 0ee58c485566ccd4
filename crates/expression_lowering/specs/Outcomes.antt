-- What the code answers where an expression is lowered: the steps that stand behind those before, the value, and the first temporary that is
-- free then.
use Rattle.std.specs.Prelude.{◌≡◌, ℕ, suc, true, false, List, [], ◌∷◌, ◌++◌, length, Result, Ok, Err}
use Rattle.f_tree.specs.declared.expressions.Expr.{Expr}
use Rattle.f_tree.specs.Facts.{Attribute}
use Rattle.f_tree.specs.Values.{Bytes}
use Rattle.f_tree.specs.Reading.{read}
use Rattle.f_tree.specs.Terms.{Operator, Power}
use Rattle.lowered_tree.specs.l_core.Pures as core
use Rattle.lowered_tree.specs.l_core.Steps as act
use Rattle.lowering.specs.Expressions as low
use Rattle.lowered_tree.specs.declared.steps.Step.{Step}
use Rattle.lowered_tree.specs.Shapes.{operator_of, pure_of, pures_of, steps_of}
use Rattle.name_facts.specs.declared.table.NameFacts.{NameFacts}
use Rattle.expression_lowering.specs.declared.purpose.Purpose.{Purpose}
use Rattle.expression_lowering.specs.declared.purpose.Aspect.{Aspect}
use Rattle.expression_lowering.specs.declared.operators.Plan.{Plan}
use Rattle.expression_lowering.specs.declared.operators.Plan.TheVariants as plan
use Rattle.expression_lowering.specs.declared.answers.Lowered.{Lowered}
use Rattle.expression_lowering.specs.declared.answers.Operands.{Operands}
use Rattle.expression_lowering.specs.declared.answers.LowerError.{LowerError}
use Rattle.expression_lowering.specs.declared.answers.LowerError.TheVariants.{NotLowered, NoMemory}
use Rattle.expression_lowering.specs.Purposes.{purpose_of, aspect_term}
use Rattle.expression_lowering.specs.TableNames.{AreFactsOf, is_lowered_value}

-- a value with the steps before it
pub record IsLowered (is : low.Lowered core.Pure) (before after : List Step) (l : Lowered) : Type 0 where
  pub steps : steps_of after ≡ steps_of before ++ is.steps
  pub value : pure_of l.value ≡ is.value
  pub free : l.free ≡ is.free

-- values with the steps before them
pub record AreLowered (are : low.Lowered core.Pures) (before after : List Step) (l : Operands) : Type 0 where
  pub steps : steps_of after ≡ steps_of before ++ are.steps
  pub values : pures_of l.values ≡ are.value
  pub free : l.free ≡ are.free

-- a value that takes no step
pub record IsPlain (p : core.Pure) (k : ℕ) (l : Lowered) : Type 0 where
  pub value : pure_of l.value ≡ p
  pub free : l.free ≡ k

-- a value that is kept where it is for more than use, in the first temporary that its operands could take
pub record IsKept (purpose : low.Purpose) (k n : ℕ) (p : core.Pure) (before after : List Step) (l : Lowered) : Type 0 where
  pub steps : steps_of after ≡ steps_of before ++ low.kept_steps purpose k p
  pub value : pure_of l.value ≡ low.kept_value purpose k p
  pub free : l.free ≡ low.kept_free purpose k n

-- the right operand of .AND. or .OR. behind the left one, and passed where that one decides
pub record IsGuarded (op : Operator) (k : ℕ) (left : core.Pure) (behind : List act.Step) (right : core.Pure) (before after : List Step) (l : Lowered) : Type 0 where
  pub steps : steps_of after ≡ steps_of before ++ act.Keep k left ∷ act.Unless (low.wanted_where op k) (suc (length behind)) ∷ (behind ++ act.Keep k right ∷ [])
  pub value : pure_of l.value ≡ core.Temporary k
  pub free : l.free ≡ suc k

-- a form behind its operands
pub record IsClosed (shape : low.Shape) (purpose : low.Purpose) (k n : ℕ) (ps : core.Pures) (before after : List Step) (l : Lowered) : Type 0 where
  pub steps : steps_of after ≡ steps_of before ++ low.closing shape purpose k ps
  pub value : pure_of l.value ≡ low.closed_value shape purpose k ps
  pub free : l.free ≡ low.closed_free shape purpose k n

-- the right operand's steps, and the form over both operands behind them
pub record IsBehind (shape : low.Shape) (purpose : low.Purpose) (k n : ℕ) (left : core.Pure) (behind : List act.Step) (right : core.Pure) (before after : List Step) (l : Lowered) : Type 0 where
  pub steps : steps_of after ≡ steps_of before ++ (behind ++ low.closing shape purpose k (core.AndPure left (core.AndPure right core.NoPure)))
  pub value : pure_of l.value ≡ low.closed_value shape purpose k (core.AndPure left (core.AndPure right core.NoPure))
  pub free : l.free ≡ low.closed_free shape purpose k n

-- two operands joined as they are planned
unfoldable pub IsJoined : Plan → low.Purpose → ℕ → ℕ → core.Pure → List act.Step → core.Pure → List Step → List Step → Lowered → Type 0
IsJoined (plan.Guarded op) purpose k n left behind right before after l = IsGuarded (operator_of op) k left behind right before after l
IsJoined (plan.Between op) purpose k n left behind right before after l = IsBehind (low.AsBetween (operator_of op)) purpose k n left behind right before after l
IsJoined plan.Power purpose k n left behind right before after l = IsBehind (low.AsFunction Power) purpose k n left behind right before after l

-- the expression is lowered, whatever the names are of which the table tells
pub record IsLoweredFor (table : NameFacts) (a : Aspect) (purpose : Purpose) (k : ℕ) (e : Expr) (before after : List Step) (l : Lowered) : Type 0 where
  pub built : is_lowered_value table e ≡ true
  pub meant : (names : Bytes → Attribute) → AreFactsOf names table →
      IsLowered (low.lower core.NoPure (purpose_of purpose) k (aspect_term a (read names e))) before after l

-- what is answered: the lowered expression, or that its form is not lowered, with no step more; else memory has run out
unfoldable pub IsOutcome : NameFacts → Aspect → Purpose → ℕ → Expr → List Step → List Step → Result Lowered LowerError → Type 0
IsOutcome table a purpose k e before after (Ok l) = IsLoweredFor table a purpose k e before after l
IsOutcome table a purpose k e before after (Err NotLowered) = (is_lowered_value table e ≡ false) × (after ≡ before)
IsOutcome table a purpose k e before after (Err NoMemory) = Unit {0}
