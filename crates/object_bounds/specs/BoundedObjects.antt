-- That the bytes of the objects of the C files of FORTRAN files are bounded by the storage and the trees of their units. ANSI X3.9-1978, sections 3.5, 11.12, 15.4
-- and 17.1; C89, 3.1.2.4 and 3.1.2.5.
use Rattle.std.specs.Prelude.{◌≡◌, ◌+◌, ◌*◌, ◌≤◌, List, Some}
use Rattle.step_bounds.specs.translated_files.f_tree.declared.names.Options.{Options}
use Rattle.step_bounds.specs.translated_files.f_tree.declared.units.File.{File}
use Rattle.step_bounds.specs.translated_files.c_tree.declared.file.CFile.{CFile}
use Rattle.step_bounds.specs.translated_files.c_tree.Linking.{program, bytes_of_objects}
use Rattle.step_bounds.specs.translated_files.TranslatedFiles.{files_of}
use Rattle.object_bytes.specs.ObjectBytes.{stored_bytes, all_nodes, all_stops}

-- the C files of some FORTRAN files, if they have them
abbrev pub HaveFewBytes : Options → List File → Type 0
HaveFewBytes options files = (cs : List CFile) → files_of options files ≡ Some cs → bytes_of_objects (program cs).objects ≤ stored_bytes options files + 1000 * all_nodes files + all_stops files

-- LAW
abbrev pub EachTranslationHasFewBytes : Type 0
EachTranslationHasFewBytes = (options : Options) (files : List File) → HaveFewBytes options files
