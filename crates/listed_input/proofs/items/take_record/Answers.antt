use Rattle.std.proofs.Common.{rules, w32, to_z, of_z}
use Rattle.std.proofs.Math.Facts.{to_z-of_z}
use mir.Val.{SFits}
use Rattle.listed_input.proofs.StepLaws.{record-at}
use Rattle.listed_input.proofs.items.take_record.Goals as goal

pub returns-in-Ok : goal.returns-in-Ok
returns-in-Ok g c =
    let unit : SFits w32 c.args.unit = search rules in
    record-at c.args.unit (to_z w32 (of_z w32 c.args.unit)) c.args.done c.args.reading.now c.next_record.new.reading _ _ (to_z-of_z unit) c.in-Ok.ensures
