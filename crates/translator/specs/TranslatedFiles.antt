-- What the translator answers for the files of a set: their C files, or the first of the rows F99.
use Rattle.std.specs.Prelude.{◌≡◌, List, Some, Result, Ok, Err}
use Rattle.f_tree.specs.declared.names.Options.{Options}
use Rattle.f_tree.specs.declared.refusals.Fail.{Fail}
use Rattle.f_tree.specs.declared.refusals.Fail.TheVariants as fail
use Rattle.f_tree.specs.declared.units.File.{File}
use Rattle.c_tree.specs.declared.file.CFile.{CFile}
use Rattle.declaration_rows.specs.Verdicts.{first_of}
use Rattle.translated_files.specs.TranslatedFiles.{files_of, files_not_translated}

-- want of memory says nothing
abbrev pub AreTranslations : Options → List File → Result (List CFile) Fail → Type 0
AreTranslations options trees (Ok files) = files_of options trees ≡ Some files
AreTranslations options trees (Err (fail.Refused r)) = first_of (files_not_translated options trees) ≡ Some r
AreTranslations options trees (Err fail.NoMemory) = Unit {0}
