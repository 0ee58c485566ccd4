-- What the texts of STOP statements have as they are read and lowered, and that the text of a lowered unit, behind what is kept before its first statement, needs
-- few temporaries, constants and strings for the nodes of its statements. ANSI X3.9-1978, sections 5.5.1, 6, 10 to 12 and 15; C89, 3.1.4.
use Rattle.std.specs.Prelude.{◌≡◌, ℕ, suc, ◌+◌, ◌*◌, ◌≤◌, List, [], ◌∷◌, length, Some}
use Rattle.lowered_sizes.specs.l_core.f_tree.Facts.{ToGuard, ToStop, Head, Form, Passes, On, Line, Facts}
use Rattle.lowered_sizes.specs.l_core.Steps.{Step, Halt, Text}
use Rattle.lowered_sizes.specs.lowering.Units.{lowered_unit}
use Rattle.lowered_sizes.specs.ReadNodes.{lines_nodes}
use Rattle.unit_translation.specs.behind_bounds.BehindBounds.{behind}
use Rattle.unit_translation.specs.UnitContents.{values_from, temporaries_kept}

-- the length of the text of a STOP statement, which a logical IF may have (11.12)
unfoldable mutual
  pub form_text : Form → ℕ
  form_text Passes = 0
  form_text (On head operands) = head_text head

  pub head_text : Head → ℕ
  head_text (ToGuard form) = form_text form
  head_text (ToStop text) = length text
  head_text head = 0

unfoldable pub lines_text : List Line → ℕ
lines_text [] = 0
lines_text (line ∷ lines) = form_text line.form + lines_text lines

-- the bytes of the string that a step passes, with its zero byte
unfoldable pub string_bytes : Step → ℕ
string_bytes (Halt text) = suc (length text)
string_bytes st = 0

unfoldable pub strings_bytes : List Step → ℕ
strings_bytes [] = 0
strings_bytes (st ∷ later) = string_bytes st + strings_bytes later

-- what a lowered text needs
pub record NeedsFew (lines : List Line) (u : Text) : Type 0 where
  pub temporaries : temporaries_kept u.steps ≤ 2 * lines_nodes lines
  pub constants : length (values_from u 0 u.steps) ≤ 3 * lines_nodes lines
  pub strings : strings_bytes u.steps ≤ lines_nodes lines + lines_text lines

-- LAW
-- behind however much is kept before it
abbrev pub EachTextNeedsFewObjects : Type 0
EachTextNeedsFewObjects = (c : Facts) (u : Text) → lowered_unit c ≡ Some u → (first : ℕ) → NeedsFew c.program.lines (behind first u)

unfoldable pub few_objects_opened : Unit {0}
unfolding form_text head_text lines_text string_bytes strings_bytes
few_objects_opened = tt
