use Rattle.std.proofs.Common.{rules, w32, to_z, of_z}
use Rattle.std.proofs.Math.Facts.{to_z-of_z}
use mir.Val.{SFits}
use Rattle.formatted_input.proofs.ReachLaws.{going-starts, going-goes_on, going-smaller, going-stops, going-takes, going-ends, reaches-at}
use Rattle.formatted_input.proofs.items.next_field.Goals as goal

pub edits-init : goal.edits-init
edits-init g c = going-starts c.args.format.now c.args.walk.now (to_z w32 (of_z w32 c.args.unit)) c.args.record.now _ c.requires

pub returns-in-Takes : goal.returns-in-Takes
returns-in-Takes g c =
    let unit : SFits w32 c.args.unit = search rules in
    reaches-at c.args.format.now c.args.walk.now c.next-edit.new.self (to_z w32 (of_z w32 c.args.unit)) c.args.unit _ _ _ _ _ (to_z-of_z unit)
    (going-takes c.args.format.now c.args.walk.now c.edits.walk c.next-edit.new.self (to_z w32 (of_z w32 c.args.unit)) c.args.record.now c.edits.record _ _ c.next-edit.result c.in-Takes.field
    c.next-edit.ensures.stands c.next-edit.ensures.given (c.in-Takes.ensures c.args.format.now) c.edits.invariant)

pub returns-in-Err : goal.returns-in-Err
returns-in-Err g c =
    let unit : SFits w32 c.args.unit = search rules in
    let found = c.in-Acts.ensures c.args.format.now in
    reaches-at c.args.format.now c.args.walk.now c.next-edit.new.self (to_z w32 (of_z w32 c.args.unit)) c.args.unit _ _ _ _ _ (to_z-of_z unit)
    (going-stops c.args.format.now c.args.walk.now c.edits.walk c.next-edit.new.self (to_z w32 (of_z w32 c.args.unit)) c.args.record.now c.edits.record
    c.act.new.record _ _ _ c.next-edit.result c.in-Err.stop c.next-edit.ensures.stands c.next-edit.ensures.given found (c.in-Err.ensures found.0 found.1) c.edits.invariant)

pub edits-smaller : goal.edits-smaller
edits-smaller g c =
    going-smaller c.args.format.now c.args.walk.now c.edits.walk c.next-edit.new.self (to_z w32 (of_z w32 c.args.unit)) c.args.record.now c.edits.record _ _ c.next-edit.result
    c.next-edit.ensures.given (c.in-Acts.ensures c.args.format.now) c.edits.invariant

pub edits-preserved : goal.edits-preserved
edits-preserved g c =
    let found = c.in-Acts.ensures c.args.format.now in
    going-goes_on c.args.format.now c.args.walk.now c.edits.walk c.next-edit.new.self (to_z w32 (of_z w32 c.args.unit)) c.args.record.now c.edits.record
    c.act.new.record _ _ _ c.next-edit.result c.next-edit.ensures.stands c.next-edit.ensures.given found (c.in_default.ensures found.0 found.1) c.edits.invariant

pub returns-in-Ends : goal.returns-in-Ends
returns-in-Ends g c =
    let unit : SFits w32 c.args.unit = search rules in
    reaches-at c.args.format.now c.args.walk.now c.next-edit.new.self (to_z w32 (of_z w32 c.args.unit)) c.args.unit _ _ _ _ _ (to_z-of_z unit)
    (going-ends c.args.format.now c.args.walk.now c.edits.walk c.next-edit.new.self (to_z w32 (of_z w32 c.args.unit)) c.args.record.now c.edits.record _ _ c.next-edit.result
    c.next-edit.ensures.stands c.next-edit.ensures.given (c.in-Ends.ensures c.args.format.now) c.edits.invariant)
