use Rattle.std.proofs.Common.{◌+◌, ◌-◌, [], ◌∷◌, ◌++◌, arith}
use Rattle.edit_rules.specs.Writer.{value_of}
use Rattle.listed_output.specs.Kinds.{kind_shown}
use Rattle.listed_output.proofs.ItemLaws.{reading-starts, reading-goes_on, reading-faulty, reading-done, item-there}
use Rattle.listed_output.proofs.items.all_there.Goals as goal

pub loop-init : goal.loop-init
loop-init c = ([], reading-starts (kind_shown c.args.list.kind) c.args.run.now c.args.list.size c.args.first c.args.list.count (c.args.list.count - 0) (omega arith))

pub behind-pointer-requires : goal.behind-pointer-requires
behind-pointer-requires c =
    item-there (kind_shown c.args.list.kind) c.args.run.now c.loop.pointer c.args.list.size (value_of c.in-Ok.field-0) c.args.list.has c.in-Ok.ensures

pub loop-preserved : goal.loop-preserved
loop-preserved c = (
  c.loop.invariant.0 ++ value_of c.in-Ok.field-0 ∷ [],
  reading-goes_on (kind_shown c.args.list.kind) c.args.run.now c.args.list.size c.args.first c.args.list.count c.loop.pointer c.behind-pointer.result
      (c.args.list.count - c.loop.counter) (c.args.list.count - (c.loop.counter + 1)) c.loop.invariant.0 (value_of c.in-Ok.field-0) (omega arith)
      c.behind-pointer.ensures c.in-Ok.ensures c.loop.invariant.1,
)

pub returns-in-Err : goal.returns-in-Err
returns-in-Err c =
    reading-faulty (kind_shown c.args.list.kind) c.args.run.now c.args.list.size c.args.first c.args.list.count c.loop.pointer (c.args.list.count - c.loop.counter)
    (c.args.list.count - (c.loop.counter + 1)) c.loop.invariant.0 c.in-Err.fault (omega arith) c.in-Err.ensures c.loop.invariant.1

pub returns : goal.returns
returns c = (
  c.loop.invariant.0,
  reading-done (kind_shown c.args.list.kind) c.args.run.now c.args.list.size c.args.first c.args.list.count c.loop.pointer (c.args.list.count - c.loop.counter)
      c.loop.invariant.0 (omega arith) c.loop.invariant.1,
)
