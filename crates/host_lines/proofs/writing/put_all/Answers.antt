use Rattle.std.proofs.lemmas.List.{take_rest}
use Rattle.host_lines.proofs.LineLaws.{put-more}
use Rattle.host_lines.proofs.writing.put_all.Goals as goal

pub loop-preserved : goal.loop-preserved
loop-preserved g c =
    put-more _ _ _ c.args.bytes.now _ c.loop.done c.in_ok-done.field-0 c.loop.invariant.0 (take_rest c.args.bytes.now c.loop.done)
    c.in_ok-done.ensures.fits c.loop.invariant.1 c.in_ok-done.ensures.ok
