-- When a text is the lowered text of some statements, whatever the unit is of which the table tells. ANSI X3.9-1978, sections 3.5 and 15.
use Rattle.std.specs.Prelude.{◌≡◌, Bool, true, List, Some}
use Rattle.f_tree.specs.declared.statements.Stmt.{Stmt}
use Rattle.f_tree.specs.Facts.{Facts}
use Rattle.f_tree.specs.Lines.{Naming}
use Rattle.lowered_tree.specs.l_core.Steps.{Text}
use Rattle.lowering.specs.Units.{lines_code, text_with, lowered_unit}
use Rattle.lowered_text.specs.declared.text.LoweredText.{LoweredText}
use Rattle.lowered_text.specs.Texts.{IsText}
use Rattle.name_facts.specs.declared.table.NameFacts.{NameFacts}
use Rattle.expression_lowering.specs.TableNames.{AreFactsOf}
use Rattle.statement_places.specs.open_loops.ReadLines.{IsReadAs}
use Rattle.statement_places.specs.StatementPlaces.{statements_lower}

-- the unit is lowered, and this is its text
pub record IsTextOf (c : Facts) (t : LoweredText) : Type 0 where
  pub text : Text
  pub lowered : lowered_unit c ≡ Some text
  pub is : IsText t text

pub record IsLoweredUnit (table : NameFacts) (once : Bool) (ss : List Stmt) (t : LoweredText) : Type 0 where
  pub lowers : statements_lower table ss ≡ true
  pub meant : (c : Facts) (names : Naming) → IsReadAs c.program once names ss → AreFactsOf names table → IsTextOf c t

-- LAW
-- a unit whose statements are lowered is lowered to their steps: by CALL alone a subroutine is called, and behind a CALL to which labels are passed a branch
-- stands
abbrev pub UnitsAreLoweredToTheirSteps : Type 0
UnitsAreLoweredToTheirSteps =
    (table : NameFacts) (once : Bool) (ss : List Stmt) (c : Facts) (names : Naming) → IsReadAs c.program once names ss → AreFactsOf names table → statements_lower table ss ≡ true →
    lowered_unit c ≡ text_with c (lines_code c.program 0 c.program.lines)
