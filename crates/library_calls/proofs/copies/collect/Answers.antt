use Rattle.std.proofs.Common.{◌+◌, ◌-◌, ◌<◌, ◌^◌, length, arith, rules}
use Rattle.std.proofs.lemmas.Grind.{common_steps}
use Rattle.library_calls.proofs.PieceLemmas.{collecting-none, collecting-more, collecting-fault, collected, shifts-address, shifts-length}
use Rattle.library_calls.proofs.copies.collect.Goals as goal

pub loop-init : goal.loop-init
loop-init c = collecting-none c.args.run.now c.args.addresses c.args.lengths c.args.count (c.args.count - 0) c.args.buffer.now (omega arith)

pub append_piece-used-requires : goal.append_piece-used-requires
append_piece-used-requires c = c.loop.invariant.held.within

pub shifted-address-requires : goal.shifted-address-requires
shifted-address-requires c =
    let small : length c.args.buffer.now < 2 ^ 64 = search rules in
    shifts-address c.args.run.now (length c.args.buffer.now) c.loop.address c.loop.length c.in-Ok.text.now c.requires small c.in-Ok.ensures

pub shifted-length-requires : goal.shifted-length-requires
shifted-length-requires c =
    let small : length c.args.buffer.now < 2 ^ 64 = grind (arith, common_steps) in
    shifts-length c.args.run.now (length c.args.buffer.now) c.loop.address c.loop.length c.in-Ok.text.now c.requires small c.in-Ok.ensures

pub loop-preserved : goal.loop-preserved
loop-preserved c =
    collecting-more c.args.run.now c.args.addresses c.args.lengths c.args.count c.loop.address c.loop.length c.shifted-address.result c.shifted-length.result (c.args.count - c.loop.counter) (c.args.count - (c.loop.counter + 1))
    c.loop.buffer c.append_piece-used.new.buffer c.in-Ok.text.now c.loop.used c.append_piece-used.result (omega arith) c.shifted-address.ensures c.shifted-length.ensures c.loop.invariant c.in-Ok.ensures
    c.append_piece-used.ensures.gathered (omega (arith, c.append_piece-used.ensures.within, c.append_piece-used.auto.buffer))

pub returns-in-Err : goal.returns-in-Err
returns-in-Err c =
    collecting-fault c.args.run.now c.args.addresses c.args.lengths c.args.count c.loop.address c.loop.length (c.args.count - c.loop.counter) (c.args.count - (c.loop.counter + 1)) c.loop.buffer c.loop.used c.in-Err.fault
    (omega arith) c.loop.invariant c.in-Err.ensures

pub returns : goal.returns
returns c =
    collected c.args.run.now c.args.addresses c.args.lengths c.args.count c.loop.address c.loop.length (c.args.count - c.loop.counter) c.loop.buffer c.loop.used (omega arith) c.loop.invariant
