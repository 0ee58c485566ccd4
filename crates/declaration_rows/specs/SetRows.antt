-- Which rows a set of files breaks, and that a set that breaks none is well formed, whatever its setting.
-- ANSI X3.9-1978, sections 2.4 and 3.5.
use Rattle.std.specs.Prelude.{List, [], ◌∷◌, ◌++◌}
use Rattle.fortran_text.specs.f_tree.declared.names.Options.{Options}
use Rattle.fortran_text.specs.f_tree.declared.refusals.Refusal.{Refusal}
use Rattle.fortran_text.specs.f_tree.declared.units.Unit.{Unit as WrittenUnit}
use Rattle.fortran_text.specs.f_tree.declared.units.File.{File}
use Rattle.fortran_text.specs.f_tree.declared.units.FileSet.{FileSet}
use Rattle.fortran_text.specs.f_tree.Setting.{Setting, IsSetting, IsIn}
use Rattle.fortran_text.specs.f_tree.Meaning.{units_of}
use Rattle.fortran_text.specs.f_tree.WellFormed.{AreWellFormed}
use Rattle.fortran_text.specs.f_tree.Lines.{unit_read}
use Rattle.declaration_rows.specs.UnitRows.{unit_rows}
use Rattle.declaration_rows.specs.UndeclaredRows.{undeclared_rows_opened, unit_undeclared_rows}
use Rattle.declaration_rows.specs.OrderRows.{order_rows_opened, unit_order_rows}
use Rattle.declaration_rows.specs.BlockRows.{block_rows_opened, unit_block_rows}
use Rattle.declaration_rows.specs.FormatRows.{format_rows_opened, unit_format_rows}
use Rattle.declaration_rows.specs.ExpansionRows.{expansion_rows_opened, unit_expansion_rows}
use Rattle.declaration_rows.specs.GivenRows.{given_rows_opened, unit_given_rows}
use Rattle.declaration_rows.specs.LengthRows.{length_rows_opened, unit_length_rows}
use Rattle.declaration_rows.specs.ReferenceRows.{reference_rows_opened, unit_reference_rows}

-- of a unit: those without which it is well formed, and those that the standard asks for besides
unfoldable pub all_unit_rows : Options → WrittenUnit → List Refusal
all_unit_rows options u =
    unit_rows options u ++
    (unit_undeclared_rows options u ++
    (unit_order_rows u ++ (unit_block_rows u (unit_read options u) ++ (unit_format_rows u ++ (unit_reference_rows u ++ (unit_length_rows u ++ (unit_expansion_rows u ++ unit_given_rows u)))))))

unfoldable pub units_rows : Options → List WrittenUnit → List Refusal
units_rows options [] = []
units_rows options (u ∷ us) = all_unit_rows options u ++ units_rows options us

unfoldable pub files_rows : Options → List File → List Refusal
files_rows options [] = []
files_rows options (f ∷ fs) = units_rows options f.units ++ files_rows options fs

-- the rows that a set breaks, each with its file and its card
unfoldable pub set_faults : Options → FileSet → List Refusal
set_faults options set = files_rows options set.files

-- whether a row holds of a set is computed
abbrev pub Faults : Options → FileSet → Refusal → Type 0
Faults options set r = IsIn r (set_faults options set)

-- A set of which no row holds is well formed in each of its settings.
abbrev pub EachFaultlessSetIsWellFormed : Type 0
EachFaultlessSetIsWellFormed = (options : Options) (set : FileSet) (g : Setting) → IsSetting (units_of options set) g →
    ((r : Refusal) → Faults options set r → ⊥) → AreWellFormed g (units_of options set)

unfoldable pub set_rows_opened : Unit {0}
unfolding all_unit_rows units_rows files_rows set_faults undeclared_rows_opened order_rows_opened block_rows_opened format_rows_opened reference_rows_opened length_rows_opened expansion_rows_opened given_rows_opened
set_rows_opened = tt
