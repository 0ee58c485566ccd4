use Rattle.std.proofs.Common.{refl, arith}
use Rattle.internal_output.proofs.FileLaws.{blanks, blanks-start, blanks-go_on, blanks-faulty, blanks-done}
use Rattle.internal_output.proofs.files.put_blanks.Goals as goal

pub loop-left-init : goal.loop-left-init
loop-left-init c = blanks-start c.args.object c.args.at c.args.count c.args.run.now

pub loop-left-preserved : goal.loop-left-preserved
loop-left-preserved c =
    blanks-go_on c.args.object c.args.at c.loop-left.place c.further-place.result c.args.count c.loop-left.left c.min-size.result (blanks c.min-size.result) c.args.run.now c.loop-left.run c.put_few_blanks.new.run
    (omega (arith, c.min-size.ensures)) refl c.loop-left.invariant c.in_default.ensures c.further-place.ensures

pub returns-in-Err : goal.returns-in-Err
returns-in-Err c offset is =
    blanks-faulty c.args.object c.args.at c.loop-left.place c.args.count c.loop-left.left c.min-size.result (blanks c.min-size.result) c.args.run.now c.loop-left.run c.put_few_blanks.new.run c.in-Err.fault offset
    (omega (arith, c.min-size.ensures)) refl c.loop-left.invariant c.in-Err.ensures is

pub returns : goal.returns
returns c offset is = blanks-done c.args.object c.args.at c.loop-left.place c.args.count c.loop-left.left c.args.run.now c.loop-left.run offset (omega (arith, c.loop-left-test.false)) c.loop-left.invariant is
