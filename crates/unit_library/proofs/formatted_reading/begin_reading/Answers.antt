use Rattle.std.proofs.Common.{ap, ◌∙◌, rules, w32, to_z, of_z}
use Rattle.std.specs.Prelude.{Ok}
use Rattle.std.proofs.Math.Facts.{to_z-of_z}
use mir.Val.{SFits}
use Rattle.unit_library.proofs.ArgumentLaws.{one-given}
use Rattle.unit_library.proofs.ReadingLaws.{begun-inside, start-begins, start-answers, start-cut}
use Rattle.unit_library.proofs.formatted_reading.begin_reading.Goals as goal

pub invariant_of-held : goal.invariant_of-held
invariant_of-held g c = record {
  stands = ∣ begun-inside c.args.run.now c.argument-pointer.result _ _ c.s_rsfe.new.format c.in-Ok-Begins.input c.s_rsfe.result (c.in-Ok-Begins.is ∙ ap Ok c.in-Ok-Begins.field-0-is) c.s_rsfe.ensures ∣₁;
}

pub returns-in-Ok-Begins : goal.returns-in-Ok-Begins
returns-in-Ok-Begins g c =
    start-begins _ c.args.run.now c.argument-pointer.result _ _ c.in-Ok-Begins.input c.s_rsfe.new.format _ c.args.transfer.now c.s_rsfe.result
    (one-given c.args.values.now c.argument-pointer.result c.argument-pointer.ensures) c.requires (c.in-Ok-Begins.is ∙ ap Ok c.in-Ok-Begins.field-0-is) c.s_rsfe.ensures

pub returns-in-Ok-Answers : goal.returns-in-Ok-Answers
returns-in-Ok-Answers g c =
    let fits : SFits w32 c.in-Ok-Answers.number = search rules in
    start-answers _ c.args.run.now c.argument-pointer.result _ _ c.s_rsfe.new.format c.in-Ok-Answers.number (to_z w32 (of_z w32 c.in-Ok-Answers.number)) c.args.transfer.now c.s_rsfe.result
    (one-given c.args.values.now c.argument-pointer.result c.argument-pointer.ensures) c.requires (to_z-of_z fits) (c.in-Ok-Answers.is ∙ ap Ok c.in-Ok-Answers.field-0-is) c.s_rsfe.ensures

pub returns-in-Err : goal.returns-in-Err
returns-in-Err g c =
    start-cut _ c.args.run.now c.argument-pointer.result _ _ c.s_rsfe.new.format c.in-Err.end c.args.transfer.now c.cut.result
    (one-given c.args.values.now c.argument-pointer.result c.argument-pointer.ensures) c.requires c.cut.ensures c.in-Err.ensures
