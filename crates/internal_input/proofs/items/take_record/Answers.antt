use Rattle.std.proofs.Common.{rules, ◌∙◌, ap, w32, to_z, of_z}
use Rattle.std.specs.Prelude.{Err}
use Rattle.std.proofs.Math.Facts.{to_z-of_z}
use mir.Val.{SFits}
use Rattle.internal_input.proofs.ItemSteps.{none-further, faulty-record}
use Rattle.internal_input.proofs.items.take_record.Goals as goal

pub returns-in-Err-Number-clause-steps : goal.returns-in-Err-Number-clause-steps
returns-in-Err-Number-clause-steps c =
    let number : SFits w32 c.in-Err-Number.number = search rules in
    none-further c.args.item c.args.done c.args.buffer.now c.args.reading.now c.read_next.new.reading c.args.run.now c.stop.new.run _ _ c.in-Err-Number.number
    (to_z w32 (of_z w32 c.in-Err-Number.number)) c.read_next.result c.stop.result (c.in-Err-Number.is ∙ ap Err c.in-Err-Number.field-0-is) (to_z-of_z number) c.read_next.ensures
    c.stop.ensures.steps

pub returns-in-Err-Fault-clause-steps : goal.returns-in-Err-Fault-clause-steps
returns-in-Err-Fault-clause-steps c =
    faulty-record c.args.item c.args.done c.args.buffer.now c.args.reading.now c.read_next.new.reading c.args.run.now c.args.run.now _ _ c.in-Err-Fault.fault c.read_next.result
    (c.in-Err-Fault.is ∙ ap Err c.in-Err-Fault.field-0-is) c.read_next.ensures
