use Rattle.internal_formatted_input.proofs.StartLaws.{start-under, list-faulty, format-faulty}
use Rattle.internal_formatted_input.proofs.calls.s_rsfi.Goals as goal

pub returns-in-Ok-internal_format : goal.returns-in-Ok-internal_format
returns-in-Ok-internal_format c =
    start-under c.args.run.now c.args.pointer c.in-Ok-internal_format.given c.in-Ok.control c.start_under.new.format c.start_under.result c.in-Ok.ensures c.in-Ok-internal_format.ensures
    c.start_under.ensures

pub returns-in-Err-internal_format : goal.returns-in-Err-internal_format
returns-in-Err-internal_format c =
    format-faulty c.args.run.now c.args.pointer c.args.format.now c.in-Ok.control c.in-Err-internal_format.fault c.in-Ok.ensures c.in-Err-internal_format.ensures

pub returns-in-Err : goal.returns-in-Err
returns-in-Err c = list-faulty c.args.run.now c.args.pointer c.args.format.now c.in-Err.fault c.in-Err.ensures
