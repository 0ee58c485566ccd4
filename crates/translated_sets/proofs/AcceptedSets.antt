-- Of a set that is accepted no row holds, so the texts of its files are faithful.
use Rattle.source_verdict.specs.SourceRows.{Declarations, of_declarations, Sharing, of_sharing}
use Rattle.translated_file_laws.specs.FaithfulFiles.{EachTranslationIsFaithful, EachTranslationHasSignatures}
use Rattle.translated_sets.specs.FaithfulSets.{EachAcceptedSetIsFaithful, EachAcceptedSetHasSignatures}

pub faithful_sets : EachTranslationIsFaithful → EachAcceptedSetIsFaithful
faithful_sets law options source set texts accepted some translations =
    law options set.files texts
    (record {
      declared = λ r fault. accepted.sound Declarations r (of_declarations set r accepted.spelled fault);
      named = λ r among. accepted.sound Sharing r (of_sharing set r accepted.spelled among);
    })
    some translations

pub signed_sets : EachTranslationHasSignatures → EachAcceptedSetHasSignatures
signed_sets law options source set files accepted some made =
    law options set.files files
    (record {
      declared = λ r fault. accepted.sound Declarations r (of_declarations set r accepted.spelled fault);
      named = λ r among. accepted.sound Sharing r (of_sharing set r accepted.spelled among);
    })
    some made
