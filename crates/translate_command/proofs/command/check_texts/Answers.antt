use Rattle.std.proofs.Common.{◌∙◌, arith}
use Rattle.source_files.proofs.ListLemmas.{any_default}
use Rattle.translate_command.proofs.FormLemmas.{file_at, bad_place, bad_within, bad_as}
use Rattle.translate_command.proofs.command.check_texts.Goals as goal

pub not_prototype-requires : goal.not_prototype-requires
not_prototype-requires c =
    let within = bad_within c.args.texts.now c.in-Err-NotPrototype.number c.in-Err-NotPrototype.line (bad_as c.args.texts.now c.in-Err-NotPrototype.field-0 c.in-Err-NotPrototype.number c.in-Err-NotPrototype.line c.in-Err-NotPrototype.field-0-is c.in-Err-NotPrototype.ensures.err) in
    let counts = c.requires.counts in
    file_at c.args.forms.now c.in-Err-NotPrototype.number c.index-forms-number.result c.requires.files (omega (arith, within, counts))
    (c.index-forms-number.is ∙ any_default c.args.forms.now c.in-Err-NotPrototype.number _ c.index-forms-number.result (omega (arith, within, counts)))

pub returns-in-Err-NotPrototype-clause-err : goal.returns-in-Err-NotPrototype-clause-err
returns-in-Err-NotPrototype-clause-err c =
    let within = bad_within c.args.texts.now c.in-Err-NotPrototype.number c.in-Err-NotPrototype.line (bad_as c.args.texts.now c.in-Err-NotPrototype.field-0 c.in-Err-NotPrototype.number c.in-Err-NotPrototype.line c.in-Err-NotPrototype.field-0-is c.in-Err-NotPrototype.ensures.err) in
    let counts = c.requires.counts in
    bad_place c.args.forms.now c.args.texts.now c.in-Err-NotPrototype.number c.in-Err-NotPrototype.line c.index-forms-number.result c.not_prototype.result (omega (arith, within, counts))
    (c.index-forms-number.is ∙ any_default c.args.forms.now c.in-Err-NotPrototype.number _ c.index-forms-number.result (omega (arith, within, counts)))
    (bad_as c.args.texts.now c.in-Err-NotPrototype.field-0 c.in-Err-NotPrototype.number c.in-Err-NotPrototype.line c.in-Err-NotPrototype.field-0-is c.in-Err-NotPrototype.ensures.err)
    c.not_prototype.ensures
