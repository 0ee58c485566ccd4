-- That what is printed of each C file of units that call each other spells it; its strings are the texts of STOP statements, which are of bytes.
-- ANSI X3.9-1978, section 11.12; C89, 3.1.4 and 3.7.
use Rattle.std.specs.Prelude.{◌≡◌, true, List}
use Rattle.c_spelling.specs.c_tree.CText.{CText}
use Rattle.c_spelling.specs.c_text.Printed.{printed}
use Rattle.c_spelling.specs.Spelled.{file_of_bytes}
use Rattle.unit_programs.specs.unit_sites.UnitSites.{UnitsOfFile, file_for}
use Rattle.unit_programs.specs.TranslatedUnits.{Rendering, IsTranslatedSet}
use Rattle.unit_file_texts.specs.WellFormedUnits.{AreSpellable, AreOfOneFile}

-- LAWS
-- the strings of each file of translated units are of bytes
abbrev pub UnitFilesAreOfBytes : Type 0
UnitFilesAreOfBytes = (fs : List UnitsOfFile) (rs : List Rendering) → IsTranslatedSet fs rs → (f : UnitsOfFile) (part : List Rendering) → AreOfOneFile rs f part → file_of_bytes (file_for f) ≡ true

-- and its printed text spells it
abbrev pub UnitFilesAreSpelled : Type 0
UnitFilesAreSpelled = (fs : List UnitsOfFile) (rs : List Rendering) → IsTranslatedSet fs rs → (f : UnitsOfFile) (part : List Rendering) → AreOfOneFile rs f part → AreSpellable f.constants part →
    CText (printed (file_for f)) (file_for f)
