use Rattle.std.proofs.Common.{Err, subst}
use Rattle.translator.specs.LoweredFiles.{AreTranslatedUnits}
use Rattle.translator.proofs.WholeLemmas.{set_refused, set_translated}
use Rattle.translator.proofs.files.translate_files.Goals as goal

pub returns-in-Ok : goal.returns-in-Ok
returns-in-Ok c =
    set_translated c.args.options c.args.files.now c.without_units-refusal.result c.without_units-refusal.ensures c.in-Ok.made c.unless_refused.result c.in-Ok.ensures c.unless_refused.ensures.kept
    c.unless_refused.ensures.refused

pub returns-in-Err-Refused : goal.returns-in-Err-Refused
returns-in-Err-Refused c =
    set_refused c.args.options c.args.files.now c.without_units-refusal.result c.without_units-refusal.ensures c.earlier.result c.in-Err-Refused.row
    (subst (λ e. AreTranslatedUnits c.args.options c.args.files.now (Err e)) c.in-Err-Refused.field-0-is c.in-Err-Refused.ensures) c.earlier.ensures
