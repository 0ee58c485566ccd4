use Rattle.std.proofs.Common.{◌-◌, refl, drop, arith}
use Rattle.statement_builder.proofs.Building.{passed_one, passed_all}
use Rattle.statement_builder.proofs.parts.pass.Goals as goal

pub loop-left-preserved : goal.loop-left-preserved
loop-left-preserved c =
    passed_one (drop c.args.count c.args.items.now.items) c.loop-left.items.items c.pop_front.new.self.items c.loop-left.left (c.loop-left.left - 1) c.loop-left-test.true refl c.pop_front.ensures.rest c.loop-left.invariant

pub returns : goal.returns
returns c = passed_all (drop c.args.count c.args.items.now.items) c.loop-left.items.items c.loop-left.left (omega arith) c.loop-left.invariant
