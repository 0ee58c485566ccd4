-- That the translations of the files of a set that is accepted are faithful to it. ANSI X3.9-1978, sections 2.4, 3.5 and 14.
use Rattle.std.specs.Prelude.{◌≡◌, ℕ, ◌<◌, List, length, Some}
use Rattle.source_verdict.specs.f_tree.declared.names.Options.{Options}
use Rattle.source_verdict.specs.f_tree.declared.units.FileSet.{FileSet}
use Rattle.source_verdict.specs.source_acceptance.SourceFiles.{Source}
use Rattle.source_verdict.specs.SourceRows.{IsAccepted}
use Rattle.source_verdict.specs.faithful.Faithful.{Faithful}
use Rattle.source_verdict.specs.faithful.Signatures.{EachHasSignatures}
use Rattle.source_verdict.specs.translated_files.c_tree.declared.file.CFile.{CFile}
unfoldable pub use Rattle.translated_file_laws.specs.FaithfulFiles.{translations_of}
use Rattle.source_verdict.specs.translated_files.TranslatedFiles.{files_of}

-- LAW
-- the texts of the C files of a set that is accepted, one for each of its files in their order, are faithful to it
abbrev pub EachAcceptedSetIsFaithful : Type 0
EachAcceptedSetIsFaithful = (options : Options) (source : Source) (set : FileSet) (texts : List (List ℕ)) → IsAccepted options source set → 0 < length set.files →
    translations_of options set.files ≡ Some texts → Faithful options set.files texts

-- and the C files have exactly the functions and the external objects of its files
abbrev pub EachAcceptedSetHasSignatures : Type 0
EachAcceptedSetHasSignatures = (options : Options) (source : Source) (set : FileSet) (files : List CFile) → IsAccepted options source set → 0 < length set.files →
    files_of options set.files ≡ Some files → EachHasSignatures options set.files files
