use Rattle.std.proofs.Common.{◌∙◌, subst, sym}
use Rattle.prototype_outputs.specs.Forms.{IsFirstBad}
use Rattle.prototype_outputs.proofs.FrontLemmas.{any_default}
use Rattle.prototype_outputs.proofs.FormLemmas.{none_yet, one_more, bad_at, refused_as}
use Rattle.prototype_outputs.proofs.forms.check_forms.Goals as goal

pub loop-number-init : goal.loop-number-init
loop-number-init c = none_yet c.args.texts.now

pub returns-in-Err-NotPrototype-clause-err : goal.returns-in-Err-NotPrototype-clause-err
returns-in-Err-NotPrototype-clause-err c =
    subst (IsFirstBad c.args.texts.now c.loop-number.number) (sym c.in-Err-NotPrototype.line-is)
    (bad_at c.args.texts.now c.loop-number.number c.in-Err-NotPrototype.line c.as_slice.result.now c.loop-number-test.true
    (c.as_slice.ensures ∙ (c.index-texts-number.is ∙ any_default c.args.texts.now c.loop-number.number _ c.as_slice.result.now c.loop-number-test.true)) c.loop-number.invariant
    (refused_as c.as_slice.result.now c.in-Err-NotPrototype.field-0 c.in-Err-NotPrototype.line c.in-Err-NotPrototype.field-0-is c.in-Err-NotPrototype.ensures.refused))

pub loop-number-preserved : goal.loop-number-preserved
loop-number-preserved c =
    one_more c.args.texts.now c.loop-number.number c.as_slice.result.now c.in-Ok.field-0 c.loop-number-test.true
    (c.as_slice.ensures ∙ (c.index-texts-number.is ∙ any_default c.args.texts.now c.loop-number.number _ c.as_slice.result.now c.loop-number-test.true)) c.loop-number.invariant
    c.in-Ok.ensures.read
