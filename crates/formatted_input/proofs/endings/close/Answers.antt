use Rattle.std.proofs.Common.{rules, w32, to_z, of_z}
use Rattle.std.proofs.Math.Facts.{to_z-of_z}
use mir.Val.{SFits}
use Rattle.formatted_input.proofs.CloseLaws.{closing-starts, closing-goes_on, closing-smaller, closing-stops, closing-ends, closes-at}
use Rattle.formatted_input.proofs.endings.close.Goals as goal

pub edits-init : goal.edits-init
edits-init g c = closing-starts c.args.format.now c.args.walk.now (to_z w32 (of_z w32 c.args.unit)) c.args.record.now _ c.requires

pub returns-in-Err : goal.returns-in-Err
returns-in-Err g c =
    let unit : SFits w32 c.args.unit = search rules in
    let found = c.in-Acts.ensures c.args.format.now in
    closes-at c.args.format.now c.args.walk.now (to_z w32 (of_z w32 c.args.unit)) c.args.unit _ _ _ _ _ (to_z-of_z unit)
    (closing-stops c.args.format.now c.args.walk.now c.edits.walk c.next-edit.new.self (to_z w32 (of_z w32 c.args.unit)) c.args.record.now c.edits.record
    c.act.new.record _ _ _ c.next-edit.result c.in-Err.stop c.next-edit.ensures.given found (c.in-Err.ensures found.0 found.1) c.edits.invariant)

pub edits-smaller : goal.edits-smaller
edits-smaller g c =
    closing-smaller c.args.format.now c.args.walk.now c.edits.walk c.next-edit.new.self (to_z w32 (of_z w32 c.args.unit)) c.args.record.now c.edits.record _ _ c.next-edit.result
    c.next-edit.ensures.given (c.in-Acts.ensures c.args.format.now) c.edits.invariant

pub edits-preserved : goal.edits-preserved
edits-preserved g c =
    let found = c.in-Acts.ensures c.args.format.now in
    closing-goes_on c.args.format.now c.args.walk.now c.edits.walk c.next-edit.new.self (to_z w32 (of_z w32 c.args.unit)) c.args.record.now c.edits.record
    c.act.new.record _ _ _ c.next-edit.result c.next-edit.ensures.stands c.next-edit.ensures.given found (c.in_default-act.ensures found.0 found.1) c.edits.invariant

pub returns-in_default : goal.returns-in_default
returns-in_default g c =
    let unit : SFits w32 c.args.unit = search rules in
    closes-at c.args.format.now c.args.walk.now (to_z w32 (of_z w32 c.args.unit)) c.args.unit _ _ _ _ _ (to_z-of_z unit)
    (closing-ends c.args.format.now c.args.walk.now c.edits.walk c.next-edit.new.self (to_z w32 (of_z w32 c.args.unit)) c.args.record.now c.edits.record _ _ c.next-edit.result c.turn_of.result
    c.in_default.not-Acts c.next-edit.ensures.given c.turn_of.ensures c.edits.invariant)
