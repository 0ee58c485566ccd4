use Rattle.internal_output.proofs.PutLaws.{putting-starts, putting-goes_on, putting-refused, putting-placed}
use Rattle.internal_output.proofs.puts.put_value.Goals as goal

pub loop-used-init : goal.loop-used-init
loop-used-init c = putting-starts _ c.args.making.now.writer c.args.making.now.line _ _ c.args.making.now.whole c.args.making.now.blank

pub loop-used-preserved : goal.loop-used-preserved
loop-used-preserved c =
    putting-goes_on _ c.args.making.now.writer c.args.making.now.line c.loop-used.writer c.loop-used.line c.put.new.self c.put.new.line c.in-Full.used _ _ _ _ _ _
    c.loop-used.invariant c.in-Full.ensures.puts c.in-Full.ensures.blank c.in-Full.ensures.listed c.in_default-write_record.ensures

pub returns-in-Err : goal.returns-in-Err
returns-in-Err c =
    putting-refused _ c.args.making.now.writer c.args.making.now.line c.loop-used.writer c.loop-used.line c.put.new.self c.put.new.line c.in-Full.used
    c.args.making.now.writer c.args.making.now.line _ _ _ _ _ _ c.in-Err.refusal c.loop-used.invariant c.in-Full.ensures.listed c.in-Err.ensures

pub returns : goal.returns
returns c =
    putting-placed _ c.args.making.now.writer c.args.making.now.line c.loop-used.writer c.loop-used.line c.put.new.self c.put.new.line _ _ _ _
    c.loop-used.invariant c.in_default.ensures.puts c.in_default.ensures.listed
