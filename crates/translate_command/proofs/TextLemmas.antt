-- The texts of the files of an accepted source are its texts.
use Rattle.std.specs.Prelude.{◌≡◌, ℕ, suc, ◌<◌, Bool, List, [], ◌∷◌, length, map, Some, option_map}
use Rattle.std.proofs.Common.{refl, sym, ap, ◌∙◌, arith}
use Rattle.f_tree.specs.declared.names.Options.{Options}
use Rattle.f_tree.specs.declared.units.File.{File}
use Rattle.f_tree.specs.declared.units.FileSet.{FileSet}
use Rattle.f_tree.specs.declared.units.Part.{Part}
use Rattle.c_tree.specs.declared.file.CFile.{CFile}
use Rattle.c_text.specs.Printed.{printed}
use Rattle.source_files.specs.faithful.Faithful as faithful
use Rattle.source_files.specs.faithful.Faithful.{SpellAll}
use Rattle.source_files.specs.faithful.Signatures as signed
use Rattle.source_files.specs.faithful.Signatures.{EachHasSignatures}
use Rattle.source_files.specs.translated_files.TranslatedFiles.{files_of}
use Rattle.kept_loops.specs.KeptFunctions.{EachTranslationKeepsLoops}
use Rattle.step_bounds.specs.BoundedSteps.{EachTranslationIsBounded}
use Rattle.object_bounds.specs.BoundedObjects.{EachTranslationHasFewBytes}
use Rattle.translated_sets.specs.FaithfulSets.{translations_of, EachAcceptedSetIsFaithful, EachAcceptedSetHasSignatures}
use Rattle.source_files.specs.source_acceptance.SourceFiles as sources
use Rattle.source_files.specs.source_acceptance.SourceFiles.{Source, SpellFiles, files_with_parts, SpellsSource}
use Rattle.source_files.specs.source_verdict.SourceRows.{IsAccepted}
use Rattle.source_translator.specs.TranslatedSource.{AreFilesOfSource}
use Rattle.source_files.specs.source_reader.Sources.{source_of}
use Rattle.prototype_outputs.specs.Outputs.{EachOutputIsOfItsFile, EachListIsOfItsFile}
use Rattle.translate_command.specs.declared.texts.Made.{Made}
use Rattle.translate_command.specs.TranslatedTexts.{AreTextsOf, AreOutputsOf}
use Rattle.translate_command.specs.SourceTexts.{AreMadeOf, AreMadeFor}

-- EACH FILE spells one tree
spelled_length : (file : ℕ) (files : List (List ℕ)) (trees : List File) → SpellFiles file files trees → length trees ≡ length files
spelled_length file _ _ (sources.no_files _) = refl
spelled_length file _ _ (sources.one_file _ bytes more tree trees spells rest) = ap suc (spelled_length (suc file) more trees rest)

with_parts_length : (parts : List Part) (trees : List File) → length (files_with_parts parts trees) ≡ length trees
unfolding files_with_parts
with_parts_length parts [] = refl
with_parts_length parts (tree ∷ trees) = ap suc (with_parts_length parts trees)

as_many : (source : Source) (set : FileSet) → SpellsSource source set → length set.files ≡ length source.files
as_many source set spelled =
    ap length spelled.set_is ∙ (with_parts_length spelled.parts spelled.trees ∙ spelled_length 0 source.files spelled.trees spelled.files_spell)

-- THE TEXTS
texts_of : EachAcceptedSetIsFaithful → EachTranslationKeepsLoops → EachTranslationIsBounded → EachTranslationHasFewBytes → (options : Options) (source : Source) (set : FileSet) (made : List CFile) (texts : List (List ℕ)) → 0 < length source.files →
    IsAccepted options source set → files_of options set.files ≡ Some made → texts ≡ map printed made → AreTextsOf options source texts
unfolding translations_of
texts_of law kept bounded few options source set made texts some accepted are is =
    let translations : translations_of options set.files ≡ Some texts = ap (λ found. option_map (map printed) found) are ∙ ap Some (sym is) in
    let count = as_many source set accepted.spelled in
    record {
      set = set;
      accepted = accepted;
      translations = translations;
      faithful = law options source set texts accepted (omega (arith, some, count)) translations;
      loops = kept options set.files;
      bounded = bounded options set.files;
      small = few options set.files;
    }

-- as many texts as files
as_many_spelled : (texts : List (List ℕ)) (files : List CFile) → SpellAll texts files → length texts ≡ length files
as_many_spelled _ _ faithful.none = refl
as_many_spelled _ _ (faithful.more bytes file texts files spells rest) = ap suc (as_many_spelled texts files rest)

as_many_signed : (options : Options) (trees : List File) (files : List CFile) → EachHasSignatures options trees files → length files ≡ length trees
as_many_signed options _ _ signed.none = refl
as_many_signed options _ _ (signed.more tree file trees files has rest) = ap suc (as_many_signed options trees files rest)

pub as_many_texts : (options : Options) (source : Source) (texts : List (List ℕ)) → AreTextsOf options source texts → length texts ≡ length source.files
as_many_texts options source texts made =
    as_many_spelled texts made.faithful.c_trees made.faithful.written ∙ as_many_signed options made.set.files made.faithful.c_trees made.faithful.signatures ∙ as_many source made.set made.accepted.spelled

-- WHAT IS MADE of the C trees of a source is what is made for it
made_of_source : EachAcceptedSetIsFaithful → EachTranslationKeepsLoops → EachTranslationIsBounded → EachTranslationHasFewBytes → EachAcceptedSetHasSignatures → EachOutputIsOfItsFile → EachListIsOfItsFile → (options : Options) (prototypes : Bool) (source : Source)
    (set : FileSet) (trees : List CFile) (made : Made) → 0 < length source.files → IsAccepted options source set → files_of options set.files ≡ Some trees →
    AreMadeOf prototypes trees made → AreOutputsOf options prototypes source (map printed trees) made.outputs made.lists
unfolding texts_of
made_of_source faithful_sets kept bounded few signed_sets outputs_law lists_law options prototypes source set trees made some accepted are is =
    let count = as_many source set accepted.spelled in
    let has = signed_sets options source set trees accepted (omega (arith, some, count)) are in
    record {
      made = texts_of faithful_sets kept bounded few options source set trees (map printed trees) some accepted are refl;
      outputs_are = is.outputs ∙ outputs_law prototypes options set.files trees has;
      lists_are = is.lists ∙ lists_law options set.files trees has;
    }

pub made_for : EachAcceptedSetIsFaithful → EachTranslationKeepsLoops → EachTranslationIsBounded → EachTranslationHasFewBytes → EachAcceptedSetHasSignatures → EachOutputIsOfItsFile → EachListIsOfItsFile → (options : Options) (prototypes : Bool)
    (files names included : List (List ℕ)) (trees : List CFile) (made : Made) → 0 < length files → AreFilesOfSource options (source_of files names included) trees →
    AreMadeOf prototypes trees made → AreMadeFor options prototypes files names included made
made_for faithful_sets kept bounded few signed_sets outputs_law lists_law options prototypes files names included trees made some of is = record {
  texts = map printed trees;
  are = made_of_source faithful_sets kept bounded few signed_sets outputs_law lists_law options prototypes (source_of files names included) of.set trees made some of.accepted of.files is;
}
