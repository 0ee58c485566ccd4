use Rattle.std.proofs.Common.{subst}
use Rattle.source_translator.specs.TranslatedSource.{IsSetTranslated}
use Rattle.source_translator.proofs.SourceAnswers.{not_declared, set_translated}
use Rattle.source_translator.proofs.source.translate_source.Goals as goal

pub returns-in-Err : goal.returns-in-Err
returns-in-Err c = λ files named. not_declared c.args.options.now files c.args.named.now.names c.args.included.now c.in-Err.fail (c.in-Err.ensures files named)

pub returns-in-Ok : goal.returns-in-Ok
returns-in-Ok c = λ files named.
    set_translated c.args.options.now files c.args.named.now.names c.args.included.now c.in-Ok.set c.translate_set.result (c.in-Ok.ensures files named)
    (subst (λ fs. IsSetTranslated c.args.options.now fs c.translate_set.result) c.as_slice.ensures c.translate_set.ensures)
