use Rattle.internal_formatted.specs.Storing.{held}
use Rattle.internal_formatted.proofs.CloseLaws.{closing-starts, closing-goes_on, closing-smaller, closing-stops, closing-ends}
use Rattle.internal_formatted.proofs.endings.close.Goals as goal

pub edits-init : goal.edits-init
edits-init c = closing-starts c.args.format.now c.args.walk.now c.args.sheet.now (held c.args.file.now c.args.run.now) c.requires

pub returns-in-Err : goal.returns-in-Err
returns-in-Err c =
    let found = c.in-Acts.ensures c.args.format.now in
    closing-stops c.args.format.now c.args.walk.now c.edits.walk c.next-edit.new.self c.args.sheet.now c.edits.sheet c.act.new.sheet (held c.args.file.now c.args.run.now)
    (held c.edits.file c.edits.run) (held c.act.new.file c.act.new.run) c.next-edit.result c.in-Err.stop c.next-edit.ensures.given found (c.in-Err.ensures found.0 found.1) c.edits.invariant

pub edits-smaller : goal.edits-smaller
edits-smaller c =
    closing-smaller c.args.format.now c.args.walk.now c.edits.walk c.next-edit.new.self c.args.sheet.now c.edits.sheet (held c.args.file.now c.args.run.now) (held c.edits.file c.edits.run)
    c.next-edit.result c.next-edit.ensures.given (c.in-Acts.ensures c.args.format.now) c.edits.invariant

pub edits-preserved : goal.edits-preserved
edits-preserved c =
    let found = c.in-Acts.ensures c.args.format.now in
    closing-goes_on c.args.format.now c.args.walk.now c.edits.walk c.next-edit.new.self c.args.sheet.now c.edits.sheet c.act.new.sheet (held c.args.file.now c.args.run.now)
    (held c.edits.file c.edits.run) (held c.act.new.file c.act.new.run) c.next-edit.result c.next-edit.ensures.stands c.next-edit.ensures.given found
    (c.in_default-act.ensures found.0 found.1) c.edits.invariant

pub returns-in_default : goal.returns-in_default
returns-in_default c =
    closing-ends c.args.format.now c.args.walk.now c.edits.walk c.next-edit.new.self c.args.sheet.now c.edits.sheet (held c.args.file.now c.args.run.now) (held c.edits.file c.edits.run)
    c.next-edit.result c.turn_of.result c.in_default.not-Acts c.next-edit.ensures.given c.turn_of.ensures c.edits.invariant
