use Rattle.std.proofs.Common.{refl, rules, w32, to_z, of_z, Ok, Err}
use Rattle.std.proofs.Math.Facts.{to_z-of_z}
use mir.Val.{SFits}
use Rattle.internal_output.proofs.CallLaws.{end-answered, same-refused}
use Rattle.internal_output.proofs.calls.e_wsli.Goals as goal

pub returns-in-Ok : goal.returns-in-Ok
returns-in-Ok c =
    end-answered c.args.output c.write_record.new.file c.used-used.result c.args.run.now c.write_record.new.run (Ok c.in-Ok.field-0) _ refl c.used-used.ensures c.in-Ok.ensures

pub returns-in-Err : goal.returns-in-Err
returns-in-Err c =
    let on_error : SFits w32 c.args.output.on_error = search rules in
    let on_end : SFits w32 c.args.output.on_end = search rules in
    end-answered c.args.output c.write_record.new.file c.used-used.result c.args.run.now c.write_record.new.run (Err c.in-Err.refusal) c.refused.result
    (same-refused c.in-Err.refusal c.args.output.on_error (to_z w32 (of_z w32 c.args.output.on_error)) c.args.output.on_end (to_z w32 (of_z w32 c.args.output.on_end)) c.refused.result c.refused.ensures
    (to_z-of_z on_error) (to_z-of_z on_end))
    c.used-used.ensures c.in-Err.ensures
