-- What the translator answers, from the set whose declarations are judged, and the C files.
use Rattle.std.specs.Prelude.{ℕ, List, Result, Ok, Err}
use Rattle.f_tree.specs.declared.names.Options.{Options}
use Rattle.f_tree.specs.declared.refusals.Fail.{Fail}
use Rattle.f_tree.specs.declared.refusals.Fail.TheVariants as fail
use Rattle.f_tree.specs.declared.refusals.Refusal.{Refusal}
use Rattle.f_tree.specs.declared.units.FileSet.{FileSet}
use Rattle.c_tree.specs.declared.file.CFile.{CFile}
use Rattle.source_reader.specs.source_acceptance.SourceFiles.{Source}
use Rattle.source_reader.specs.source_verdict.SourceRows.{Translation, IsFirstRefusal}
use Rattle.source_reader.proofs.source_verdict.EarlyPhases.{forms_refused, sharing_refused, set_accepted}
use Rattle.source_reader.specs.Sources.{source_of}
use Rattle.source_judge.specs.JudgedSource.{IsDeclaredSet, IsSourceDeclared}
use Rattle.source_judge.proofs.SourceAnswers.{clear_of, refused_for}
use Rattle.source_translator.specs.TranslatedSource.{IsFirstRow, of_forms, of_names, IsSetTranslated, IsSourceTranslated}

pub not_declared : (options : Options) (files names included : List (List ℕ)) (why : Fail) → IsSourceDeclared options files names included (Err why) →
    IsSourceTranslated options files names included (Err why)
not_declared options files names included (fail.Refused r) is = is Translation
not_declared options files names included fail.NoMemory is = tt

-- the answer for the set, where its declarations are judged
refused_by_row : (options : Options) (source : Source) (set : FileSet) (r : Refusal) → IsDeclaredSet options source set → IsFirstRow options set.files r →
    IsFirstRefusal options source r
refused_by_row options source set r is (of_forms row) = forms_refused options source set r (clear_of options source set is.read) is.declared row
refused_by_row options source set r is (of_names formed row) =
    sharing_refused Translation options source set r (clear_of options source set is.read) is.declared (λ judged. formed) row

pub set_translated : (options : Options) (files names included : List (List ℕ)) (set : FileSet) (answer : Result (List CFile) Fail) →
    IsDeclaredSet options (source_of files names included) set → IsSetTranslated options set.files answer →
    IsSourceTranslated options files names included answer
set_translated options files names included set (Ok made) is translated =
    let source : Source = source_of files names included in
    record {
      set = set;
      accepted =
          set_accepted Translation options source set (clear_of options source set is.read) is.declared (λ judged. translated.formed) translated.apart;
      files = translated.files;
    }
set_translated options files names included set (Err (fail.Refused r)) is row =
    refused_for Translation options files names included set r is.read (refused_by_row options (source_of files names included) set r is row)
set_translated options files names included set (Err fail.NoMemory) is nothing = tt
