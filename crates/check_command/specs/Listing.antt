-- The listing of the calls that disagree: one line for each on Output.
use Rattle.std.specs.Prelude.{◌≡◌, ℕ, List, [], ◌∷◌, ◌++◌, map, Result, Ok, Err}
use Rattle.f2c_outside.specs.declared.shelves.Place.{Place}
use Rattle.f2c_outside.specs.declared.shelves.Place.TheVariants.{Input, Output, Fault, File as FileNamed}
use Rattle.f2c_outside.specs.Shelf.{ShelfState}
use Rattle.call_shapes.specs.declared.findings.Finding.{Finding}
use Rattle.call_lines.specs.FindingLines.{finding_lines}
use Rattle.shelf_texts.specs.ShelfLoops.{IsKept, IsWritten, IsUnwritten}
use Rattle.check_command.specs.declared.checked.Checked.{Checked}
use Rattle.check_command.specs.declared.checked.Checked.TheVariants.{Agreeing, Disagreeing}
use Rattle.check_command.specs.declared.failing.CheckFail.{CheckFail}
use Rattle.check_command.specs.declared.failing.CheckFail.TheVariants as fail

-- the names of the files of a source in their order: those of its places, of which a stream has none, and then those that these include
abbrev pub name_shown : Place → List ℕ
name_shown (FileNamed name) = name
name_shown Input = []
name_shown Output = []
name_shown Fault = []

unfoldable pub file_names : List Place → List (List ℕ) → List (List ℕ)
file_names froms included = map name_shown froms ++ included

-- whether a call disagrees
unfoldable pub answer_of : List Finding → Checked
answer_of [] = Agreeing
answer_of (finding ∷ findings) = Disagreeing

-- lines went behind what Output held, and findings are answered, or not, and why; want of memory changed nothing
abbrev pub ArePut : List Finding → List ℕ → ShelfState → ShelfState → Result Checked CheckFail → Type 0
ArePut findings lines b a (Ok checked) = (checked ≡ answer_of findings) × IsWritten Output lines b a
ArePut findings lines b a (Err (fail.Unwritten place)) = (place ≡ Output) × IsUnwritten Output lines b a
ArePut findings lines b a (Err fail.NoMemory) = IsKept b a
ArePut findings lines b a (Err (fail.NotThere name)) = ⊥
ArePut findings lines b a (Err (fail.Unread place)) = ⊥
ArePut findings lines b a (Err (fail.Refused refusal name)) = ⊥
ArePut findings lines b a (Err (fail.NotPrototype name line)) = ⊥

-- the same of the lines of these findings
abbrev pub AreListed : List (List ℕ) → List Finding → ShelfState → ShelfState → Result Checked CheckFail → Type 0
AreListed names findings b a result = ArePut findings (finding_lines names findings) b a result
