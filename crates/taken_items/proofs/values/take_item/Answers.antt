use Rattle.formatted_records.specs.Sheets.{descriptor_of}
use Rattle.taken_items.proofs.ValueLaws.{sized-by, item-given, item-faulty, item-halts}
use Rattle.taken_items.proofs.values.take_item.Goals as goal

pub give-requires : goal.give-requires
give-requires c = sized-by c.args.size c.want_under.result c.in-Ok.taken c.want_under.ensures.sized c.in-Ok.ensures.fits

pub returns-in-Ok-give-clause-takes : goal.returns-in-Ok-give-clause-takes
returns-in-Ok-give-clause-takes c =
    item-given (descriptor_of c.args.field) c.args.pointer c.args.size c.want_under.result c.args.record.now c.take.new.self c.in-Ok.taken c.args.run.now c.give.new.run
    c.want_under.ensures.wants c.in-Ok.ensures.takes c.in-Ok-give.ensures.gives

pub returns-in-Err-give-clause-takes : goal.returns-in-Err-give-clause-takes
returns-in-Err-give-clause-takes c =
    item-faulty (descriptor_of c.args.field) c.args.pointer c.args.size c.want_under.result c.args.record.now c.take.new.self c.in-Ok.taken c.args.run.now c.give.new.run c.in-Err-give.fault
    c.want_under.ensures.wants c.in-Ok.ensures.takes c.in-Err-give.ensures.gives

pub returns-in-Err-clause-takes : goal.returns-in-Err-clause-takes
returns-in-Err-clause-takes c =
    item-halts (descriptor_of c.args.field) c.args.pointer c.args.size c.want_under.result c.args.record.now c.take.new.self c.args.run.now c.in-Err.halt
    c.want_under.ensures.wants c.in-Err.ensures.takes
