use Rattle.std.proofs.Common.{rules, w32, to_z, of_z}
use Rattle.std.proofs.Math.Facts.{to_z-of_z}
use mir.Val.{SFits}
use Rattle.formatted_input.proofs.ActLaws.{next-goes, next-ends, next-fails}
use Rattle.formatted_input.proofs.acts.next_record.Goals as goal

pub returns-in-Record : goal.returns-in-Record
returns-in-Record g c =
    let unit : SFits w32 c.args.unit = search rules in
    next-goes c.args.unit (to_z w32 (of_z w32 c.args.unit)) c.fetch.new.line c.in-Record.used c.args.record.now c.next_record.new.self _ _ (to_z-of_z unit) c.in-Record.ensures c.next_record.ensures

pub returns-in-Nothing : goal.returns-in-Nothing
returns-in-Nothing g c =
    let unit : SFits w32 c.args.unit = search rules in
    let number : SFits w32 c.in-Nothing.number = search rules in
    next-ends c.args.unit (to_z w32 (of_z w32 c.args.unit)) c.in-Nothing.number (to_z w32 (of_z w32 c.in-Nothing.number)) c.fetch.new.line c.args.record.now c.args.record.now _ _
    (to_z-of_z unit) (to_z-of_z number) c.in-Nothing.ensures

pub returns-in-Failed : goal.returns-in-Failed
returns-in-Failed g c =
    let unit : SFits w32 c.args.unit = search rules in
    next-fails c.args.unit (to_z w32 (of_z w32 c.args.unit)) c.fetch.new.line c.args.record.now c.args.record.now _ _ (to_z-of_z unit) c.in-Failed.ensures
