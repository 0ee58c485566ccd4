use Rattle.internal_formatted.specs.Storing.{held}
use Rattle.internal_formatted.proofs.ReachLaws.{going-starts, going-goes_on, going-smaller, going-stops, going-takes, going-ends}
use Rattle.internal_formatted.proofs.items.next_field.Goals as goal

pub edits-init : goal.edits-init
edits-init c = going-starts c.args.format.now c.args.walk.now c.args.sheet.now (held c.args.file.now c.args.run.now) c.requires

pub returns-in-Takes : goal.returns-in-Takes
returns-in-Takes c =
    going-takes c.args.format.now c.args.walk.now c.edits.walk c.next-edit.new.self c.args.sheet.now c.edits.sheet (held c.args.file.now c.args.run.now) (held c.edits.file c.edits.run)
    c.next-edit.result c.in-Takes.field c.next-edit.ensures.stands c.next-edit.ensures.given (c.in-Takes.ensures c.args.format.now) c.edits.invariant

pub returns-in-Err : goal.returns-in-Err
returns-in-Err c =
    let found = c.in-Acts.ensures c.args.format.now in
    going-stops c.args.format.now c.args.walk.now c.edits.walk c.next-edit.new.self c.args.sheet.now c.edits.sheet c.act.new.sheet (held c.args.file.now c.args.run.now)
    (held c.edits.file c.edits.run) (held c.act.new.file c.act.new.run) c.next-edit.result c.in-Err.stop c.next-edit.ensures.stands c.next-edit.ensures.given found
    (c.in-Err.ensures found.0 found.1) c.edits.invariant

pub edits-smaller : goal.edits-smaller
edits-smaller c =
    going-smaller c.args.format.now c.args.walk.now c.edits.walk c.next-edit.new.self c.args.sheet.now c.edits.sheet (held c.args.file.now c.args.run.now) (held c.edits.file c.edits.run)
    c.next-edit.result c.next-edit.ensures.given (c.in-Acts.ensures c.args.format.now) c.edits.invariant

pub edits-preserved : goal.edits-preserved
edits-preserved c =
    let found = c.in-Acts.ensures c.args.format.now in
    going-goes_on c.args.format.now c.args.walk.now c.edits.walk c.next-edit.new.self c.args.sheet.now c.edits.sheet c.act.new.sheet (held c.args.file.now c.args.run.now)
    (held c.edits.file c.edits.run) (held c.act.new.file c.act.new.run) c.next-edit.result c.next-edit.ensures.stands c.next-edit.ensures.given found
    (c.in_default.ensures found.0 found.1) c.edits.invariant

pub returns-in-Ends : goal.returns-in-Ends
returns-in-Ends c =
    going-ends c.args.format.now c.args.walk.now c.edits.walk c.next-edit.new.self c.args.sheet.now c.edits.sheet (held c.args.file.now c.args.run.now) (held c.edits.file c.edits.run)
    c.next-edit.result c.next-edit.ensures.stands c.next-edit.ensures.given (c.in-Ends.ensures c.args.format.now) c.edits.invariant
