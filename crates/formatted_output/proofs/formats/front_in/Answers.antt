use Rattle.std.specs.Prelude.{slice_get}
use Rattle.formatted_output.proofs.FrontLaws.{along-none, along-more}
use Rattle.formatted_output.proofs.formats.front_in.Goals as goal

pub loop-size-init : goal.loop-size-init
loop-size-init c = along-none (slice_get c.args.run.now c.args.object) c.args.offset

pub loop-size-preserved : goal.loop-size-preserved
loop-size-preserved c =
    along-more (slice_get c.args.run.now c.args.object) c.args.offset c.loop-size.size c.in_default.field-0.now c.in_default.ensures c.loop-size.invariant
