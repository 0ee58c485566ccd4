-- The loops that the text of a lowered unit marks are those of its DO statements, and the labels to which its steps branch are those that its statements name.
-- ANSI X3.9-1978, sections 10.3, 11.1 to 11.4 and 11.10; MIL-STD-1753 for DO WHILE.
use Rattle.std.specs.Prelude.{◌≡◌, ℕ, suc, ◌+◌, Bool, true, false, ◌&&◌, List, [], ◌∷◌, length, Some, None, slice_get}
use Rattle.lowering.specs.l_core.f_tree.Facts.{Mark, Plain, Opens, Arm, Closes, Line, Facts}
use Rattle.lowering.specs.l_core.f_tree.Nests.{each_ends}
use Rattle.lowering.specs.l_core.f_tree.Setting.{IsIn}
use Rattle.lowering.specs.l_core.Pures.{Pure}
use Rattle.lowering.specs.l_core.Steps.{Step, Put, Unless, AgainIf, Text}
use Rattle.lowering.specs.Units.{all_named, is_counted, lowered_unit}
use Rattle.main_translation.specs.Outlined.{labels_in, whiles_in, label_at, loop_at}
use Rattle.c_loops.specs.KeptLayouts.{loops_from}
use Rattle.loop_marks.specs.DoStatements.{dos_among, whiles_among}

-- ## DO statements

unfoldable pub is_plain_mark : Mark → Bool
is_plain_mark Plain = true
is_plain_mark Opens = false
is_plain_mark Arm = false
is_plain_mark Closes = false

-- no DO statement begins an arm of a block
unfoldable pub plain_if : Bool → Mark → Bool
plain_if true mark = is_plain_mark mark
plain_if false mark = true

unfoldable pub dos_are_plain : List Line → Bool
dos_are_plain [] = true
dos_are_plain (line ∷ lines) = plain_if (is_counted (Some line)) line.mark && dos_are_plain lines

-- a variable gets a value, and a test stands behind, which passes the turn and two steps more
pub record SetsAndTests (steps : List Step) (n size : ℕ) : Type 0 where
  pub place : Pure
  pub value : Pure
  pub test : Pure
  pub sets : slice_get steps n ≡ Some (Put place value)
  pub tests : slice_get steps (suc n) ≡ Some (Unless test (suc (suc size)))

-- a variable gets a value, and behind the turn stands a test that goes back to the first step of it, with no label before the test
pub record SetsAndTestsBehind (u : Text) (n size : ℕ) : Type 0 where
  pub place : Pure
  pub value : Pure
  pub test : Pure
  pub sets : slice_get u.steps n ≡ Some (Put place value)
  pub tests : slice_get u.steps (suc n + size) ≡ Some (AgainIf test size)
  pub unlabelled : label_at u (suc n + size) ≡ None

-- ## The whole

pub record LoopsAreMarked (u : Text) : Type 0 where
  -- a loop begins for each DO statement
  pub number : loops_from (loop_at u) 0 (length u.steps) ≡ dos_among u.facts.program.lines
  -- with its test before each turn, or behind each where the ranges of loops are run at least once
  pub before : u.facts.program.onetrip ≡ false → (n size : ℕ) → loop_at u n ≡ Some size → SetsAndTests u.steps n size
  pub behind : u.facts.program.onetrip ≡ true → (n size : ℕ) → loop_at u n ≡ Some size → SetsAndTestsBehind u n size
  -- a place is marked for each DO WHILE
  pub whiles : length (whiles_in u.marks) ≡ whiles_among u.facts.program.lines

-- LAW
-- of a unit whose DO statements begin no arm, each with its terminal statement behind it
abbrev pub EachTextMarksItsLoops : Type 0
EachTextMarksItsLoops = (c : Facts) (u : Text) → dos_are_plain c.program.lines ≡ true → each_ends c.program 0 c.program.lines ≡ true → lowered_unit c ≡ Some u → LoopsAreMarked u

-- its steps branch to no labels but those that its statements name
abbrev pub EachBranchIsNamed : Type 0
EachBranchIsNamed = (c : Facts) (u : Text) → lowered_unit c ≡ Some u → (label : ℕ) → IsIn label (labels_in u.steps) → IsIn label (all_named c.program.lines)

unfoldable pub marked_loops_opened : Unit {0}
unfolding is_plain_mark plain_if dos_are_plain
marked_loops_opened = tt
