use Rattle.std.proofs.Common.{◌<◌, ◌^◌, length, arith}
use Rattle.runnable_programs.proofs.DataLaws.{data-frames}
use Rattle.runnable_programs.proofs.frames.frames_stand.Goals as goal

pub returns : goal.returns
returns c =
    let count = c.len-count.ensures in
    let below = c.len-count.type_inv in
    let few : length c.args.program.now.objects < 2 ^ 64 = omega (arith, count, below) in
    data-frames c.args._files.now c.args.program.now c.requires few
