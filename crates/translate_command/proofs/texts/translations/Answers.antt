use Rattle.std.proofs.Common.{subst}
use Rattle.source_files.specs.source_reader.Sources.{source_of}
use Rattle.source_translator.specs.TranslatedSource.{AreFilesOfSource}
use Rattle.translate_command.specs.SourceTexts.{AreMadeOf}
use Rattle.translate_command.proofs.TextLemmas.{made_for}
use Rattle.translate_command.proofs.texts.translations.Goals as goal

pub returns-clause-done : goal.returns-clause-done
returns-clause-done c = λ files named some.
    let included = c.args.read.now.included in
    let names = c.args.read.now.named.names in
    made_for c.accepted_sets_are_faithful.ensures c.translations_keep_loops.ensures c.translations_are_bounded.ensures c.translations_have_few_bytes.ensures c.accepted_sets_have_signatures.ensures c.outputs_are_of_their_files.ensures.outputs c.outputs_are_of_their_files.ensures.lists
    c.args.options.now c.args.prototypes files names included c.in_ok-files.files c.in-Ok.made some
    (subst (λ bytes. AreFilesOfSource c.args.options.now (source_of files names bytes) c.in_ok-files.files) c.as_slice.ensures (c.in_ok-files.ensures files named))
    (subst (λ trees. AreMadeOf c.args.prototypes trees c.in-Ok.made) c.as_slice-2.ensures c.in-Ok.ensures)
