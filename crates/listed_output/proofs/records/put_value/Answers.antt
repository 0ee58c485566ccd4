use Rattle.std.proofs.Common.{rules, w32, to_z, of_z}
use Rattle.std.proofs.Math.Facts.{to_z-of_z}
use mir.Val.{SFits}
use Rattle.listed_output.proofs.PutLaws.{putting-starts, putting-goes_on, putting-refused, putting-placed, value-at}
use Rattle.listed_output.proofs.records.put_value.Goals as goal

pub loop-used-init : goal.loop-used-init
loop-used-init g c = putting-starts _ _ c.args.making.now.writer c.args.making.now.line _ c.args.making.now.whole c.args.making.now.blank

pub loop-used-preserved : goal.loop-used-preserved
loop-used-preserved g c =
    putting-goes_on _ _ c.args.making.now.writer c.args.making.now.line c.loop-used.writer c.loop-used.line c.put.new.self c.put.new.line c.in-Full.used _ _ _
    c.loop-used.invariant c.in-Full.ensures.puts c.in-Full.ensures.blank c.in-Full.ensures.listed c.in_default-write_record.ensures

pub returns-in-Err : goal.returns-in-Err
returns-in-Err g c =
    let unit : SFits w32 c.args.unit = search rules in
    value-at (to_z w32 (of_z w32 c.args.unit)) c.args.unit _ _ _ _ _ _ _ _ (to_z-of_z unit)
    (putting-refused (to_z w32 (of_z w32 c.args.unit)) _ c.args.making.now.writer c.args.making.now.line c.loop-used.writer c.loop-used.line c.put.new.self c.put.new.line c.in-Full.used
    c.args.making.now.writer c.args.making.now.line _ _ _ c.in-Err.refusal c.loop-used.invariant c.in-Full.ensures.listed c.in-Err.ensures)

pub returns : goal.returns
returns g c =
    let unit : SFits w32 c.args.unit = search rules in
    value-at (to_z w32 (of_z w32 c.args.unit)) c.args.unit _ _ _ _ _ _ _ _ (to_z-of_z unit)
    (putting-placed (to_z w32 (of_z w32 c.args.unit)) _ c.args.making.now.writer c.args.making.now.line c.loop-used.writer c.loop-used.line c.put.new.self c.put.new.line _ _
    c.loop-used.invariant c.in_default.ensures.puts c.in_default.ensures.listed)
