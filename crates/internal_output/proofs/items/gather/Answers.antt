use Rattle.std.proofs.Common.{◌≡◌, ◌+◌, ◌≤◌, ℕ, length, sym, subst, arith}
use Rattle.library_calls.specs.Room.{HasRoom}
use Rattle.listed_output.specs.Kinds.{kind_shown}
use Rattle.listed_output.proofs.ItemLaws.{item-there}
use Rattle.internal_output.specs.Items.{value_in}
use Rattle.internal_output.proofs.ItemLaws.{gathering-starts, gathering-room, gathering-goes_on, gathering-faulty, gathering-done}
use Rattle.internal_output.proofs.items.gather.Goals as goal

pub loop-init : goal.loop-init
loop-init c = gathering-starts (kind_shown c.args.list.kind) c.args.run.now c.args.list.size c.args.first c.args.list.count c.args.buffer.now

pub put_behind-requires : goal.put_behind-requires
put_behind-requires c =
    let large : HasRoom (length c.loop.buffer) c.args.run.now = subst (λ (n : ℕ). HasRoom n c.args.run.now) (sym c.loop.auto.buffer) c.requires in
    let room : c.loop.used + c.args.list.size ≤ length c.loop.buffer =
    gathering-room (kind_shown c.args.list.kind) c.args.run.now c.args.list.size c.args.first c.args.list.count c.loop.counter c.loop.pointer c.loop.used c.loop.buffer c.in-Ok.bytes.now large
    c.args.list.has c.in-Ok.ensures.value c.loop.invariant in
    let long : length c.in-Ok.bytes.now ≡ c.args.list.size = c.in-Ok.ensures.size in omega arith

pub behind-pointer-requires : goal.behind-pointer-requires
behind-pointer-requires c =
    item-there (kind_shown c.args.list.kind) c.args.run.now c.loop.pointer c.args.list.size (value_in (kind_shown c.args.list.kind) c.in-Ok.bytes.now) c.args.list.has c.in-Ok.ensures.value

pub loop-preserved : goal.loop-preserved
loop-preserved c =
    let large : HasRoom (length c.loop.buffer) c.args.run.now = subst (λ (n : ℕ). HasRoom n c.args.run.now) (sym c.loop.auto.buffer) c.requires in
    gathering-goes_on (kind_shown c.args.list.kind) c.args.run.now c.args.list.size c.args.first c.args.list.count c.loop.counter c.loop.pointer c.behind-pointer.result c.loop.used c.loop.buffer
    c.put_behind.new.buffer c.in-Ok.bytes.now large c.args.list.has c.loop-test.true c.put_behind.auto.buffer c.in-Ok.ensures.size c.behind-pointer.ensures c.in-Ok.ensures.value c.put_behind.ensures
    c.loop.invariant

pub returns-in-Err : goal.returns-in-Err
returns-in-Err c =
    gathering-faulty (kind_shown c.args.list.kind) c.args.run.now c.args.list.size c.args.first c.args.list.count c.loop.counter c.loop.pointer c.loop.used c.loop.buffer c.in-Err.fault
    c.loop-test.true c.in-Err.ensures.value c.loop.invariant

pub returns : goal.returns
returns c =
    let all : c.loop.counter ≡ c.args.list.count = omega (arith, c.loop-test.false, c.loop.auto.counter-end) in
    gathering-done c.args.list c.args.run.now c.args.first c.loop.counter c.loop.pointer c.loop.used c.loop.buffer all c.loop.invariant
