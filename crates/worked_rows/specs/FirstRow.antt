-- The first worked row: `I=2`, `PRINT *,I+3`, `END` and its C file, as the two runs that are compared.
use Rattle.std.specs.Prelude.{ℕ, ◌*◌, ◌≤◌, List, [], ◌∷◌}
use Rattle.faithful_rows.specs.f_tree.Facts.{ProgramUnit}
use Rattle.faithful_rows.specs.f_tree.Setting.{Setting}
use Rattle.faithful_rows.specs.f_tree.Meaning.{units_of, ftn}
use Rattle.faithful_rows.specs.f_tree.Runs.{no_options, setting_apart}
use Rattle.fortran_rows.specs.WorkedSources.{sum_printed}
use Rattle.c_text.specs.c_tree.declared.file.CFile.{CFile}
use Rattle.c_text.specs.c_tree.Meaning.{meaning, step_factor}
use Rattle.c_text_rows.specs.c_rows.RowTexts.{output_unit}
use Rattle.c_text_rows.specs.TextRows.{first_tree}
use Rattle.faithful_rows.specs.faithful.SameState.{Same}

abbrev pub units : List ProgramUnit
units = units_of no_options sum_printed

abbrev pub setting : Setting
setting = setting_apart units

abbrev pub texts : List CFile
texts = first_tree ∷ []

-- after n statement steps and m flat steps, n at the least and the step factor times n at the most, the two runs are in one state
pub record AreAlike (n m : ℕ) : Type 0 where
  pub least : n ≤ m
  pub most : m ≤ step_factor texts * n
  pub same : Same units setting texts (ftn setting units output_unit n) (meaning texts output_unit m)
