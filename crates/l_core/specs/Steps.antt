-- The steps of a lowered program unit, and the unit itself. Branches to statement labels go by the label; all other ways go forward or
-- back by a number of steps, so that code may be moved. ANSI X3.9-1978, sections 10, 11, 12 and 15.
use Rattle.std.specs.Prelude.{ℕ, List, Option}
use Rattle.f_tree.specs.Values.{Bytes}
use Rattle.f_tree.specs.Terms.{Function, Callee}
use Rattle.f_tree.specs.Facts.{Direction, Layout, Controls, AuxiliaryKind, Facts}
use Rattle.l_core.specs.Pures.{Pure, Pures}

-- what is done with a transfer, or with a unit (12)
pub data Acting : Type 0 where
  Starts : Direction → Layout → Controls → Acting
  -- one item of the list
  Takes : Acting
  Finishes : Acting
  Auxiliary : AuxiliaryKind → Controls → Acting

pub data Step : Type 0 where
  -- a temporary gets a value
  Keep : ℕ → Pure → Step
  -- the place, and the value that it gets (10.1, 10.2)
  Put : Pure → Pure → Step
  -- the place, and the pieces of the text that it gets (10.4)
  PutText : Pure → Pures → Step
  -- the place, and the label that it gets (10.3)
  PutLabel : Pure → ℕ → Step
  -- a temporary gets the value of a function that is called from the library
  Compute : ℕ → Function → Pures → Step
  -- goes on, or passes so many steps where the condition does not hold
  Unless : Pure → ℕ → Step
  -- passes so many steps
  Skip : ℕ → Step
  -- goes so many steps back
  Again : ℕ → Step
  -- goes so many steps back where the condition holds
  AgainIf : Pure → ℕ → Step
  -- to a label (11.1)
  Jump : ℕ → Step
  -- to the step behind that the number picks, of so many that each go to a label, or past them all (11.2)
  Select : Pure → ℕ → Step
  -- to the step behind that goes to the label which the place holds, of those to which it may go, each with such a step (11.3)
  JumpBy : Pure → List ℕ → Step
  Pass : Step
  -- a temporary gets the answer of a function that is called, or the number of the alternate return of a subroutine (15.2, 15.5, 15.8)
  CallFor : ℕ → Callee → Pures → Step
  -- a subroutine is called to which no label is passed; a temporary gets nothing (15.6)
  CallSub : ℕ → Bytes → Pures → Step
  -- behind the call of a subroutine to which labels are passed: to the step behind that the number in the temporary picks, of so many that each go to
  -- a label, or past them all (15.6.2.3, 15.8.3)
  Branch : ℕ → ℕ → Step
  -- such a step: to the label of an alternate return
  Way : ℕ → Step
  -- answers the caller (15.8)
  Back : Step
  -- answers the caller by the number of an alternate return
  BackBy : Pure → Step
  -- ends the run (11.12)
  Halt : Bytes → Step
  -- an act of a transfer, or of OPEN and its kin, with its operands; where the statement is done then, so many steps are passed
  Acts : Acting → Pures → ℕ → Step

-- How the steps of loops and blocks belong together, for the text that is made of them. A mark is no step: it stands before one.
pub data Mark : Type 0 where
  -- the card of the statement whose steps begin
  Card : ℕ → Mark
  -- a labelled statement
  Label : ℕ → Mark
  -- a loop begins whose variable is defined, tested, and defined again behind the turn
  OpensLoop : Mark
  -- the same, tested behind each turn alone
  OpensLoopOnce : Mark
  ClosesLoop : Mark
  -- a loop begins by its test, to which the end goes back
  OpensWhile : Mark
  ClosesWhile : Mark
  -- the steps of an arm, which a condition passes, begin and end; between them the next arm begins
  OpensArm : Mark
  NextArm : Mark
  ClosesArm : Mark

pub record Marked : Type 0 where
  pub at : ℕ
  pub mark : Mark

-- A lowered unit: what is known of its unit, its steps, where each statement begins, and where each label that a branch names stands.
pub record Text : Type 0 where
  pub facts : Facts
  pub steps : List Step
  pub begins : ℕ → ℕ
  pub position : ℕ → Option ℕ
  pub marks : List Marked
