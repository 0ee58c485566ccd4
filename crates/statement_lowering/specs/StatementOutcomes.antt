-- What the code answers where a statement is lowered: its steps stand behind those before. ANSI X3.9-1978, sections 10 to 12 and 15.
use Rattle.std.specs.Prelude.{◌≡◌, ℕ, Bool, true, false, List, ◌++◌, Option, Some, Result, Ok, Err}
use Rattle.f_tree.specs.declared.expressions.Expr.{Expr}
use Rattle.f_tree.specs.Lines.{Naming, step_of}
use Rattle.lowered_tree.specs.l_core.Pures as core
use Rattle.lowered_tree.specs.l_core.Steps as act
use Rattle.lowering.specs.Expressions as low
use Rattle.lowering.specs.Statements.{form_code}
use Rattle.lowered_tree.specs.declared.steps.Step.{Step}
use Rattle.lowered_tree.specs.Shapes.{steps_of}
use Rattle.name_facts.specs.declared.table.NameFacts.{NameFacts}
use Rattle.expression_lowering.specs.declared.answers.Lowered.{Lowered}
use Rattle.expression_lowering.specs.declared.answers.LowerError.{LowerError}
use Rattle.expression_lowering.specs.declared.answers.LowerError.TheVariants.{NotLowered, NoMemory}
use Rattle.expression_lowering.specs.TableNames.{AreFactsOf}
use Rattle.expression_lowering.specs.Outcomes.{IsLowered}
use Rattle.statement_lowering.specs.declared.around.Around.{Around}
use Rattle.statement_lowering.specs.StatementForms.{Forms}
use Rattle.statement_lowering.specs.LoweredStatements.{optional_lowers}

-- what stands around the statement of a logical IF
unfoldable pub within : Around → Around
within around = record around { room = 0 }

-- the steps of a form stand behind those before
pub record AreAdded (code : Option (List act.Step)) (before after : List Step) : Type 0 where
  pub added : List act.Step
  pub is : code ≡ Some added
  pub steps : steps_of after ≡ steps_of before ++ added

-- a form is lowered, whatever the names are of which the table tells
pub record IsLoweredForm (table : NameFacts) (around : Around) (lowers : Bool) (forms : Forms) (before after : List Step) : Type 0 where
  pub built : lowers ≡ true
  pub meant : (names : Naming) → AreFactsOf names table → AreAdded (form_code around.once around.free around.room (forms names)) before after

-- what is answered: the steps of the form, or that it is not lowered, with no step more; else memory has run out
unfoldable pub IsOutcome : NameFacts → Around → Bool → Forms → List Step → List Step → Result (Unit {0}) LowerError → Type 0
IsOutcome table around lowers forms before after (Ok a) = IsLoweredForm table around lowers forms before after
IsOutcome table around lowers forms before after (Err NotLowered) = (lowers ≡ false) × (after ≡ before)
IsOutcome table around lowers forms before after (Err NoMemory) = Unit {0}

-- steps are appended, or memory has run out
unfoldable pub IsAppended : List act.Step → List Step → List Step → Result (Unit {0}) LowerError → Type 0
IsAppended more before after (Ok a) = steps_of after ≡ steps_of before ++ more
IsAppended more before after (Err NotLowered) = ⊥
IsAppended more before after (Err NoMemory) = Unit {0}

-- the step of a loop is lowered, which is 1 where none is written
pub record IsLoweredStep (table : NameFacts) (k : ℕ) (step : Option Expr) (before after : List Step) (l : Lowered) : Type 0 where
  pub built : optional_lowers table step ≡ true
  pub meant : (names : Naming) → AreFactsOf names table → IsLowered (low.lower core.NoPure low.ForLater k (step_of names step)) before after l
