-- That the step factor of the C files of FORTRAN files is bounded by the trees of their units. ANSI X3.9-1978, sections 2.4, 3.5 and 15.4; C89, 3.6.
use Rattle.std.specs.Prelude.{◌≡◌, ◌*◌, ◌≤◌, List, Some}
use Rattle.translated_files.specs.f_tree.declared.names.Options.{Options}
use Rattle.translated_files.specs.f_tree.declared.units.File.{File}
use Rattle.translated_files.specs.c_tree.declared.file.CFile.{CFile}
use Rattle.translated_files.specs.c_tree.Meaning.{step_factor}
use Rattle.translated_files.specs.TranslatedFiles.{files_of}
use Rattle.read_sizes.specs.tree_nodes.TreeNodes.{greatest_nodes}

-- the C files of some FORTRAN files, if they have them
abbrev pub AreBounded : Options → List File → Type 0
AreBounded options files = (cs : List CFile) → files_of options files ≡ Some cs → step_factor cs ≤ 1000 * greatest_nodes files * greatest_nodes files

-- LAW
abbrev pub EachTranslationIsBounded : Type 0
EachTranslationIsBounded = (options : Options) (files : List File) → AreBounded options files
