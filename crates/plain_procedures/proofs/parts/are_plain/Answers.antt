use Rattle.std.proofs.Common.{arith}
use Rattle.plain_procedures.specs.ToldNames.{plain_in}
use Rattle.plain_procedures.proofs.ToldLaws.{all-fails, all-goes-on, all-ends}
use Rattle.plain_procedures.proofs.parts.are_plain.Goals as goal

pub returns-then-not-is_plain_in : goal.returns-then-not-is_plain_in
returns-then-not-is_plain_in c =
    all-fails (plain_in c.args.unit.now c.args.table.now c.args.function) c.args.names.now c.loop-name.name-index _ c.is_plain_in.result c.loop-name-test.true c.is_plain_in.ensures
    c.if-not-is_plain_in.true c.loop-name.invariant

pub loop-name-preserved : goal.loop-name-preserved
loop-name-preserved c =
    all-goes-on (plain_in c.args.unit.now c.args.table.now c.args.function) c.args.names.now c.loop-name.name-index _ c.is_plain_in.result c.loop-name-test.true c.is_plain_in.ensures
    c.if-not-is_plain_in.false c.loop-name.invariant

pub returns : goal.returns
returns c =
    all-ends (plain_in c.args.unit.now c.args.table.now c.args.function) c.args.names.now c.loop-name.name-index (omega (arith, c.loop-name-test.false)) c.loop-name.invariant
