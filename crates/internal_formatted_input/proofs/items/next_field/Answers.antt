use Rattle.internal_output.specs.Files.{file_of}
use Rattle.internal_formatted_input.proofs.ReachLaws.{going-starts, going-goes_on, going-smaller, going-stops, going-takes, going-ends}
use Rattle.internal_formatted_input.proofs.items.next_field.Goals as goal

pub edits-init : goal.edits-init
edits-init c = going-starts c.args.run.now c.args.format.now c.args.walk.now (file_of c.args.file.now) c.args.record.now c.requires

pub returns-in-Takes : goal.returns-in-Takes
returns-in-Takes c =
    going-takes c.args.run.now c.args.format.now c.args.walk.now c.edits.walk c.next-edit.new.self (file_of c.args.file.now) (file_of c.edits.file) c.args.record.now c.edits.record
    c.next-edit.result c.in-Takes.field c.next-edit.ensures.stands c.next-edit.ensures.given (c.in-Takes.ensures c.args.format.now) c.edits.invariant

pub returns-in-Err : goal.returns-in-Err
returns-in-Err c =
    let found = c.in-Acts.ensures c.args.format.now in
    going-stops c.args.run.now c.args.format.now c.args.walk.now c.edits.walk c.next-edit.new.self (file_of c.args.file.now) (file_of c.edits.file) (file_of c.act.new.file)
    c.args.record.now c.edits.record c.act.new.record c.next-edit.result c.in-Err.stop c.next-edit.ensures.stands c.next-edit.ensures.given found
    (c.in-Err.ensures c.args.format.now found.0 found.1) c.edits.invariant

pub edits-smaller : goal.edits-smaller
edits-smaller c =
    going-smaller c.args.run.now c.args.format.now c.args.walk.now c.edits.walk c.next-edit.new.self (file_of c.args.file.now) (file_of c.edits.file) c.args.record.now c.edits.record
    c.next-edit.result c.next-edit.ensures.given (c.in-Acts.ensures c.args.format.now) c.edits.invariant

pub edits-preserved : goal.edits-preserved
edits-preserved c =
    let found = c.in-Acts.ensures c.args.format.now in
    going-goes_on c.args.run.now c.args.format.now c.args.walk.now c.edits.walk c.next-edit.new.self (file_of c.args.file.now) (file_of c.edits.file) (file_of c.act.new.file)
    c.args.record.now c.edits.record c.act.new.record c.next-edit.result c.next-edit.ensures.stands c.next-edit.ensures.given found
    (c.in_default.ensures c.args.format.now found.0 found.1) c.edits.invariant

pub returns-in-Ends : goal.returns-in-Ends
returns-in-Ends c =
    going-ends c.args.run.now c.args.format.now c.args.walk.now c.edits.walk c.next-edit.new.self (file_of c.args.file.now) (file_of c.edits.file) c.args.record.now c.edits.record
    c.next-edit.result c.next-edit.ensures.stands c.next-edit.ensures.given (c.in-Ends.ensures c.args.format.now) c.edits.invariant
