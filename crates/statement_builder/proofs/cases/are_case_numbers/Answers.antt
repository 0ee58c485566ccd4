use Rattle.std.proofs.Common.{refl}
use Rattle.statement_builder.proofs.BuiltCases.{counted_more, counted_not, counted_all}
use Rattle.statement_builder.proofs.cases.are_case_numbers.Goals as goal

pub returns-then-not-is_its_own : goal.returns-then-not-is_its_own
returns-then-not-is_its_own c = counted_not c.args.cases.now c.loop-passed.passed _ c.loop-passed.invariant c.loop-passed-test.true c.if-not-is_its_own.ensures

pub loop-passed-preserved : goal.loop-passed-preserved
loop-passed-preserved c = counted_more c.args.cases.now c.loop-passed.passed _ _ c.loop-passed.invariant c.loop-passed-test.true c.if-not-is_its_own.ensures refl

pub returns : goal.returns
returns c = counted_all c.args.cases.now c.loop-passed.passed c.loop-passed.invariant c.loop-passed-test.false
