use Rattle.std.proofs.Common.{arith, refl}
use Rattle.listed_input.proofs.StoreLaws.{padding-goes_on, padding-ends, pad-refused, forms-then}
use Rattle.listed_input.proofs.texts.pad.Goals as goal

pub loop-filled-preserved : goal.loop-filled-preserved
loop-filled-preserved c = (
  omega (arith, c.in-Ok.ensures.grows, c.loop-filled.invariant.0),
  forms-then c.args.run.now c.loop-filled.run c.put_piece.new.run c.loop-filled.invariant.1 c.put_piece.ensures.forms,
  λ objects text written.
      padding-goes_on objects c.args.pointer c.args.size text _ c.loop-filled.run c.put_piece.new.run c.loop-filled.filled c.in-Ok.behind refl c.in-Ok.ensures.puts
      (c.loop-filled.invariant.2 objects text written),
)

pub returns-in-Err-clause-pads : goal.returns-in-Err-clause-pads
returns-in-Err-clause-pads c =
    pad-refused c.args.pointer c.args.size c.args.done c.loop-filled.filled _ c.args.run.now c.loop-filled.run c.put_piece.new.run c.in-Err.end refl c.in-Err.ensures.puts
    c.loop-filled.invariant.2

pub returns-clause-pads : goal.returns-clause-pads
returns-clause-pads c objects text written =
    padding-ends objects c.args.pointer c.args.size text c.loop-filled.run c.loop-filled.filled c.loop-filled-test.false (c.loop-filled.invariant.2 objects text written)
