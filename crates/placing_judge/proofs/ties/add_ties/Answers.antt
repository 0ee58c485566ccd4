use Rattle.std.proofs.Common.{map, arith}
use Rattle.found_rows.proofs.Walks.{each_more, each_end}
use Rattle.unit_equations.specs.BlocksTold.{equation_in}
use Rattle.placing_judge.specs.declared.ties.StatementTies.{StatementTies}
use Rattle.placing_judge.specs.Walked.{ties_in}
use Rattle.placing_judge.proofs.FrontLaws.{ties_step, ties_none, ties_put}
use Rattle.placing_judge.proofs.ties.add_ties.Goals as goal

pub loop-statement-preserved : goal.loop-statement-preserved
loop-statement-preserved c =
    each_more ties_in (λ (t : StatementTies). map equation_in t.equations.items) ties_step c.args.ties.now c.loop-statement.statement-index c.statement-item.result _ _ _ _
    c.loop-statement-test.true c.statement-item.is c.loop-statement.invariant
    (ties_put c.loop-statement.equations.items _ c.as_slice.result.now _ c.in_ok-extend_from_slice.ensures.items c.as_slice.ensures.value)

pub returns : goal.returns
returns c =
    each_end ties_in (λ (t : StatementTies). map equation_in t.equations.items) ties_none c.args.ties.now c.loop-statement.statement-index _ _ (omega arith)
    c.loop-statement.invariant
