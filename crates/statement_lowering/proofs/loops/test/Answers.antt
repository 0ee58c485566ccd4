use Rattle.std.proofs.Common.{sym}
use Rattle.lowered_tree.specs.l_core.Pures as core
use Rattle.lowered_tree.specs.Shapes.{pure_of}
use Rattle.statement_lowering.proofs.LoopLaws.{test-done, test-open}
use Rattle.statement_lowering.proofs.loops.test.Goals as goal

pub returns-in-Some : goal.returns-in-Some
returns-in-Some c =
    test-done c.test_along.result (core.Name c.args.name.now) (pure_of c.args.limit) (pure_of c.args.by) c.in-Some.is_down (sym c.in-Some.ensures) c.test_along.ensures

pub returns-in-None : goal.returns-in-None
returns-in-None c =
    test-open c.test_either.result (core.Name c.args.name.now) (pure_of c.args.limit) (pure_of c.args.by) (sym c.in-None.ensures) c.test_either.ensures
