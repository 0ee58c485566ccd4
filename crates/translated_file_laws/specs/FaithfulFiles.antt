-- That the translations of the FORTRAN files of a set of which all forms are translated are faithful to them. ANSI X3.9-1978, sections 2.4, 3.5, 14 and 15.
use Rattle.std.specs.Prelude.{◌≡◌, ℕ, ◌<◌, List, [], map, length, Option, Some, option_map}
use Rattle.translated_files.specs.f_tree.declared.names.Options.{Options}
use Rattle.translated_files.specs.f_tree.declared.units.File.{File}
use Rattle.translated_files.specs.c_tree.declared.file.CFile.{CFile}
use Rattle.named_unit_laws.specs.c_text.Printed.{printed}
use Rattle.translated_files.specs.faithful.Faithful.{Faithful}
use Rattle.translated_files.specs.faithful.Signatures.{EachHasSignatures}
pub use Rattle.plain_unit_files.specs.PlainUnitFiles.{IsFaultless}
use Rattle.translated_files.specs.TranslatedFiles.{files_of, files_not_translated}

-- the texts of the C files of some FORTRAN files, one for each, in their order
unfoldable pub translations_of : Options → List File → Option (List (List ℕ))
translations_of options trees = option_map (map printed) (files_of options trees)

-- LAWS
-- files whose forms are all translated have C files
pub record HaveFiles (options : Options) (trees : List File) : Type 0 where
  pub files : List CFile
  pub are : files_of options trees ≡ Some files

abbrev pub EachTranslatedSetHasFiles : Type 0
EachTranslatedSetHasFiles = (options : Options) (trees : List File) → files_not_translated options trees ≡ [] → HaveFiles options trees

-- and their texts are faithful to the files, where these break no row of declarations and no name stands for two things
abbrev pub EachTranslationIsFaithful : Type 0
EachTranslationIsFaithful = (options : Options) (trees : List File) (texts : List (List ℕ)) → IsFaultless options trees → 0 < length trees → translations_of options trees ≡ Some texts → Faithful options trees texts

-- and their C files have exactly the functions and the external objects of the files
abbrev pub EachTranslationHasSignatures : Type 0
EachTranslationHasSignatures = (options : Options) (trees : List File) (files : List CFile) → IsFaultless options trees → 0 < length trees → files_of options trees ≡ Some files → EachHasSignatures options trees files
