-- What the translator of a source answers: the C files of the trees with which it is accepted, or its first refusal.
use Rattle.std.specs.Prelude.{◌≡◌, ℕ, List, Some, None, Result, Ok, Err}
use Rattle.f_tree.specs.declared.names.Options.{Options}
use Rattle.f_tree.specs.declared.refusals.Fail.{Fail}
use Rattle.f_tree.specs.declared.refusals.Fail.TheVariants as fail
use Rattle.f_tree.specs.declared.refusals.Refusal.{Refusal}
use Rattle.f_tree.specs.declared.units.File.{File}
use Rattle.f_tree.specs.declared.units.FileSet.{FileSet}
use Rattle.c_tree.specs.declared.file.CFile.{CFile}
use Rattle.set_judge.specs.declaration_rows.GlobalRows.{all_units, units_global_rows}
use Rattle.set_judge.specs.declaration_rows.Verdicts.{first_of}
use Rattle.source_reader.specs.translated_files.TranslatedFiles.{files_of, files_not_translated}
use Rattle.source_reader.specs.source_acceptance.SourceFiles.{Source}
use Rattle.source_reader.specs.source_verdict.SourceRows.{IsAccepted}
use Rattle.source_reader.specs.source_verdict.Fronts.{IsFirstOfAll}
use Rattle.source_reader.specs.SourceReading.{entries}
use Rattle.source_reader.specs.Sources.{source_of}

-- the source is accepted, and these are the C files of the trees that it spells
pub record AreFilesOfSource (options : Options) (source : Source) (made : List CFile) : Type 0 where
  pub set : FileSet
  pub accepted : IsAccepted options source set
  pub files : files_of options set.files ≡ Some made

-- the C files, or the first refusal, whatever further files the source includes; want of memory says nothing
abbrev pub IsSourceTranslated : Options → List (List ℕ) → List (List ℕ) → List (List ℕ) → Result (List CFile) Fail → Type 0
IsSourceTranslated options files names included (Ok made) = AreFilesOfSource options (source_of files names included) made
IsSourceTranslated options files names included (Err (fail.Refused r)) = IsFirstOfAll options files (entries names included) r
IsSourceTranslated options files names included (Err fail.NoMemory) = Unit {0}

-- the C files of some trees, whose units share no name and no second main program
pub record AreFilesOfSet (options : Options) (trees : List File) (made : List CFile) : Type 0 where
  pub formed : first_of (files_not_translated options trees) ≡ None
  pub apart : first_of (units_global_rows (all_units trees)) ≡ None
  pub files : files_of options trees ≡ Some made

-- the first of the rows F99 of some trees, or else of the rows F51 and F52
pub data IsFirstRow (options : Options) (trees : List File) (r : Refusal) : Type 0 where
  of_forms : first_of (files_not_translated options trees) ≡ Some r → IsFirstRow options trees r
  of_names : first_of (files_not_translated options trees) ≡ None → first_of (units_global_rows (all_units trees)) ≡ Some r → IsFirstRow options trees r

-- the C files of some trees, or the first of these rows; want of memory says nothing
abbrev pub IsSetTranslated : Options → List File → Result (List CFile) Fail → Type 0
IsSetTranslated options trees (Ok made) = AreFilesOfSet options trees made
IsSetTranslated options trees (Err (fail.Refused r)) = IsFirstRow options trees r
IsSetTranslated options trees (Err fail.NoMemory) = Unit {0}

-- the C files of some trees, or the first of their rows F99; want of memory says nothing
abbrev pub AreTranslated : Options → List File → Result (List CFile) Fail → Type 0
AreTranslated options trees (Ok made) = (first_of (files_not_translated options trees) ≡ None) × (files_of options trees ≡ Some made)
AreTranslated options trees (Err (fail.Refused r)) = first_of (files_not_translated options trees) ≡ Some r
AreTranslated options trees (Err fail.NoMemory) = Unit {0}
