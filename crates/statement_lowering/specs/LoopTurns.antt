-- What the code answers where the turn of a DO loop is lowered: what stands behind its terminal statement, and the temporaries that it keeps.
-- ANSI X3.9-1978, section 11.10.
use Rattle.std.specs.Prelude.{◌≡◌, ℕ, Bool, true, false, List, ◌++◌, Result, Ok, Err}
use Rattle.f_tree.specs.declared.statements.LoopControl.{LoopControl}
use Rattle.f_tree.specs.Lines.{Naming, control_of}
use Rattle.lowering.specs.Statements.{loop_operands, turn_code}
use Rattle.lowered_tree.specs.declared.steps.Step.{Step}
use Rattle.lowered_tree.specs.Shapes.{steps_of}
use Rattle.name_facts.specs.declared.table.NameFacts.{NameFacts}
use Rattle.expression_lowering.specs.declared.answers.LowerError.{LowerError}
use Rattle.expression_lowering.specs.declared.answers.LowerError.TheVariants.{NotLowered, NoMemory}
use Rattle.expression_lowering.specs.TableNames.{AreFactsOf}
use Rattle.statement_lowering.specs.LoweredStatements.{control_lowers}

-- the steps behind the terminal statement stand behind those before, whatever the names are of which the table tells
pub record IsLoweredTurn (table : NameFacts) (once : Bool) (k n : ℕ) (control : LoopControl) (before after : List Step) : Type 0 where
  pub built : control_lowers table control ≡ true
  pub meant : (names : Naming) → AreFactsOf names table → steps_of after ≡ steps_of before ++ turn_code once n (loop_operands k (control_of names control)).value

-- what is answered: those steps, or that the control is not lowered, with no step more; else memory has run out
unfoldable pub IsTurnOutcome : NameFacts → Bool → ℕ → ℕ → LoopControl → List Step → List Step → Result (Unit {0}) LowerError → Type 0
IsTurnOutcome table once k n control before after (Ok a) = IsLoweredTurn table once k n control before after
IsTurnOutcome table once k n control before after (Err NotLowered) = (control_lowers table control ≡ false) × (after ≡ before)
IsTurnOutcome table once k n control before after (Err NoMemory) = Unit {0}

-- the first temporary that is free in the range of a loop
pub record IsFreeInside (table : NameFacts) (k : ℕ) (control : LoopControl) (free : ℕ) : Type 0 where
  pub built : control_lowers table control ≡ true
  pub meant : (names : Naming) → AreFactsOf names table → free ≡ (loop_operands k (control_of names control)).free

-- what is answered: that temporary, or that the control is not lowered; else memory has run out
unfoldable pub IsFreeOutcome : NameFacts → ℕ → LoopControl → Result ℕ LowerError → Type 0
IsFreeOutcome table k control (Ok free) = IsFreeInside table k control free
IsFreeOutcome table k control (Err NotLowered) = control_lowers table control ≡ false
IsFreeOutcome table k control (Err NoMemory) = Unit {0}
